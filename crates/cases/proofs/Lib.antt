mod Gates
