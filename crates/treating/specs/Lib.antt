pub mod Treat
