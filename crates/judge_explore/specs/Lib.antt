pub mod Sources
pub mod EventLines
pub mod Known
pub mod Explored
pub mod Forms
pub mod FileViews
