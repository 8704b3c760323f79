-- The merge cache: its words and what code leaves there (Cache, Recalled), the chains (Chain, Search), what is written (Keeping), and frames.
pub mod Cache
pub mod Recalled
pub mod Keys
pub mod Chain
pub mod Search
pub mod Frames
pub mod Keeping
