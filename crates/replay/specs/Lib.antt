-- What the contracts of this program cite.
pub mod Sample
