pub mod SheetCallsFit
