-- What the contracts of this program cite. To believe: Traced.
pub mod Traced
