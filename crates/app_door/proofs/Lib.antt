pub mod Admissions
pub mod TokenLines
