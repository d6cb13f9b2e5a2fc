pub mod KindTests
pub mod RowCells
pub mod Widths
