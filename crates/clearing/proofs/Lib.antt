pub mod Greedy
pub mod Running
pub mod Sorting
