-- Words cut back to an older store: its counts, and zeros above its records and its pool entries. Nothing here has to be believed.
use Rattle.std.specs.Prelude.{List, ℕ, ◌+◌, ◌*◌}
use Rattle.words.specs.Lent.{cleared_range}
use Rattle.layout.specs.Encode.{put_counts}

-- the words with c records and i pool entries left
unfoldable pub cut : List ℕ → ℕ → ℕ → List ℕ
cut w c i = put_counts (cleared_range (cleared_range (cleared_range w (2 + 3 * c) 1538) (1538 + i) 3586) (3586 + i) 5634) c i
