-- Document 01's examples: `example`, `P1-to-P12`, and what later requests print. Nothing here has to be believed.
pub mod Examples
