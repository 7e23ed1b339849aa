-- Lemmas on gates.
mod Pushes
mod Beside
mod Sharing
mod Widths
mod Products
mod Counting
mod Surely
mod LeastGate
mod EndCounts
mod SeenCuts
mod WaysBack
mod TriedCuts
