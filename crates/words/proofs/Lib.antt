-- The arithmetic behind the code, apart from any one function: bits of words.
mod Bits
