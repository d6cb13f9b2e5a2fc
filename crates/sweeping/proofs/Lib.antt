pub mod Alternating
pub mod Ended
pub mod Going
pub mod LoadedRows
pub mod RowLeft
pub mod Writing
