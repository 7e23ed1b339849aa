pub mod Explained
pub mod TimeLimits
pub mod Runs
pub mod RunCases
