-- The answers that are found whatever the width.
pub mod Found
pub mod Sides
