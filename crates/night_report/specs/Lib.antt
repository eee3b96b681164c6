pub mod Cells
pub mod Particulars
pub mod Order
pub mod Report
pub mod Room
pub mod CsvCells
pub mod CsvRows
pub mod Matches
