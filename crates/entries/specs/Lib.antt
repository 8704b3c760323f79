pub mod EntriesFrom
pub mod Reading
pub mod StackAhead
pub mod StackEntry
pub mod Laying
pub mod Rest
