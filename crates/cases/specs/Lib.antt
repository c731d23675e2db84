pub mod Foreign
pub mod Gates
