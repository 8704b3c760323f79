-- Two outcomes that satisfy the contract of `lay_end` for the same words and buffer are equal. Nothing here has to be believed.
use Rattle.std.specs.Prelude.{◌≡◌, List, ℕ}
use Rattle.std.proofs.Common.{sym, ◌∙◌}
use Rattle.lines.specs.Laid.{Wrote}
use Rattle.lines.specs.Lines.{end_line}

pub end_determined : (w o : List ℕ) (n m : ℕ) (u v : List ℕ) → Wrote o 0 (end_line w) n u → Wrote o 0 (end_line w) m v → (n ≡ m) × (u ≡ v)
end_determined w o n m u v p q = (p.after ∙ sym q.after, p.bytes ∙ sym q.bytes)
