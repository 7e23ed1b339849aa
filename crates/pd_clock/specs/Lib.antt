pub mod Histories
pub mod Computations
pub mod States
pub mod StateViews
pub mod Orders
pub mod Pasts
pub mod Senders
