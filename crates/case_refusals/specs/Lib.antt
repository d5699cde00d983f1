-- The order of refusals: of books and sheets, of the calls on lines, with an index.
pub mod OrderCases
pub mod LineOrderCases
pub mod IndexOrderCases
