pub mod Greedy
