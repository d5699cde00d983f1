-- Evaluation; clauses; propagation is exact.
pub mod Evaluation
pub mod Clauses
pub mod Exact
pub mod ExactReports
-- The values of trees, what each family of rules does to them, and what one literal more does to members.
pub mod Values
pub mod Families
pub mod Members
-- Tables of failed literals, and the values of trees that numbers spell under them.
pub mod FailedLiterals
pub mod NumberTrees
pub mod TreeValues
