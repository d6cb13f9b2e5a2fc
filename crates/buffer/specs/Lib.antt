pub mod Buffer
pub mod Decimal
pub mod Taken
