pub mod SheetSteps
