pub mod Acts
pub mod Layout
pub mod Memory
pub mod Queues
pub mod View
