pub mod Build
pub mod Script
pub mod Starred
pub mod Long
pub mod Facts
pub mod Greedy
