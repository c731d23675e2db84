mod Bits
mod Fronts
mod Moves
mod Seated
mod Trials
