pub mod ComesAgain
pub mod HashTables
