pub mod BadTurn
