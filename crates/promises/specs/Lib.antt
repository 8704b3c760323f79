-- What is promised, sentence by sentence: FirstDemand, SecondDemand, ThirdDemand, a file for each demand; Scripts; and what later requests ask:
-- WildcardLosses (A12), MergeLaws (A7), VerdictReasons (A6), MergeWork (A10), ContextsMade (A3). A statement names definitions of believed files alone; what
-- stands after its `=` cites the theorem of the layer that proves it. Words is for those citations.
pub mod Words
pub mod FirstDemand
pub mod SecondDemand
pub mod ThirdDemand
pub mod Scripts
pub mod WildcardLosses
pub mod MergeLaws
pub mod MergeWork
pub mod ContextsMade
pub mod VerdictReasons
