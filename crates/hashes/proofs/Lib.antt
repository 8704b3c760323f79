-- Laws of records that the functions' proofs cite.
mod Laying
