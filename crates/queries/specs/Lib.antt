-- The entry queries. To believe: Queries, Answers.
pub mod Queries
pub mod Answers
pub mod Listed
