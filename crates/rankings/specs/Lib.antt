pub mod Holders
pub mod Laws
pub mod Ranks
pub mod Scores
pub mod RanksLemmas
pub mod Scored
