pub mod ListCells
