-- Runs of accepted calls in one store. To believe: Runs. The theorem: `one_number` of OneNumber, demand 3's last sentence.
-- Beside it the laws of MergeLaws, which merges are regrouped by.
pub mod Runs
