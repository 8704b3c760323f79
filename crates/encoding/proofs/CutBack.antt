-- Words that hold a store, cut back to an older one, hold that. Nothing here has to be believed.
use Rattle.std.specs.Prelude.{◌≡◌, List, [], ◌∷◌, ◌++◌, ℕ, ◌<◌, ◌≤◌, length}
use Rattle.std.proofs.Common.{subst, arith}
use Rattle.arena.specs.Store.{Store}
use Rattle.arena.proofs.Placed.{Grew}
use Rattle.arena.specs.Room.{pool}
use Rattle.arena.proofs.RoomLaws.{room_grew}
use Rattle.layout.specs.Layout.{store_words}
use Rattle.layout.specs.Encode.{words_of}
use Rattle.layout.specs.Ceilings.{Fits}
use Rattle.encoding.specs.Good.{GoodStore}
use Rattle.encoding.specs.Held.{Records, Held, records_agree, held_unique}
use Rattle.encoding.specs.Written.{words_held}
use Rattle.encoding.specs.Cut.{cut}
use Rattle.encoding.proofs.CutPlaces.{cut_agree, cut_count, cut_no_parents, cut_no_records, cut_no_states, cut_used, length_cut}

-- ---- words that hold a store, cut back to an older one, hold that

older_records : (w : List ℕ) (k s : Store) → Records w (k ++ s) → Records w s
older_records w [] s r = r
older_records w (n ∷ k) s r = older_records w k s r.1

pub cut_held : (w : List ℕ) (s u : Store) → Held w u → Fits u → Grew s u → Held (cut w (length s) (pool s)) s
cut_held w s u v fits g =
    let room = room_grew s u g in
    let c : length s ≤ 512 = omega arith in
    let i : pool s ≤ 2048 = omega arith in
    let l : length w ≡ store_words = v.long in
    record {
      long = length_cut w (length s) (pool s) l c i;
      counts = cut_count w (length s) (pool s) l c i;
      uses = cut_used w (length s) (pool s) l c i;
      records = records_agree w (cut w (length s) (pool s)) (length s) (pool s) s (omega arith) (omega arith) (cut_agree w (length s) (pool s) l c i)
          (older_records w g.0 s (subst (Records w) g.1 v.records));
      no_records = cut_no_records w (length s) (pool s) l c i;
      no_parents = cut_no_parents w (length s) (pool s) l c i;
      no_states = cut_no_states w (length s) (pool s) l c i;
    }

-- The words of a store, cut back to an older one, are the older one's.
pub cut_back : (s u : Store) → GoodStore u → 0 < length s → Grew s u → cut (words_of u) (length s) (pool s) ≡ words_of s
cut_back s u v h g =
    let room = room_grew s u g in
    let fits : Fits u = v.fits in
    held_unique _ _ s (cut_held (words_of u) s u (words_held u fits) fits g) (words_held s (omega arith, omega arith))
