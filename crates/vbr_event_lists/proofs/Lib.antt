mod RowLists
mod WorkedRows
mod StandingRows
mod ValuedRows
pub mod Lemmas
