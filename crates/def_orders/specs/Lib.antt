-- Orders of runs.
pub mod Orders
pub mod Selections
pub mod Laws
pub mod Examples
