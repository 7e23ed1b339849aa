pub mod Escapes
pub mod Svg
