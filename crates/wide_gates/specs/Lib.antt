-- Gates: events right before or right after which a predicate surely holds.
pub mod Spots
pub mod Highs
pub mod Ranges
pub mod Tables
pub mod Boxes
pub mod Greatest
pub mod Levels
pub mod Excluded
pub mod Flags
pub mod Sure
pub mod Least
pub mod Ends
pub mod Seen
