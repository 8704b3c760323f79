-- The stop states of a script: "replaces the list; on `R 10` the old one stays"; every other record keeps it. Nothing here has to be believed.
use Rattle.std.specs.Prelude.{◌≡◌, List, ℕ, ◌-◌, ◌<◌, ◌≤◌, length}
use Rattle.std.proofs.Math.Path.{refl}
use Rattle.std.proofs.Math.Seq.{take-append_seam}
use Rattle.std.proofs.Common.{lt-ltb, le-ltb}
use Rattle.layout.specs.Layout.{blank}
use Rattle.store.specs.Checks.{unless}
use Rattle.figures.specs.VerdictsCalls.{most_stops}
use Rattle.format.specs.Format.{Record, singleton, merge, new_set, add, stops, verdict, show, close, why}
use Rattle.lines.specs.Lines.{stops_line, refusal_line}
use Rattle.replies.specs.Replies.{Lent, stop_words, held_stops, stops_call, call_of}

-- the words hold the states as given, in their order and with every repeated one
pub stops_held : (xs : List ℕ) → held_stops (stop_words xs) ≡ xs
unfolding held_stops
stops_held xs = take-append_seam xs (blank (most_stops - length xs))

module _ (l : Lent) where
  pub stops_given : (xs : List ℕ) → length xs ≤ most_stops
      → ((call_of l (stops xs)).reply ≡ stops_line (length xs)) × (held_stops (call_of l (stops xs)).words.stops ≡ xs)
  unfolding call_of stops_call unless
  stops_given xs h = rw (le-ltb most_stops (length xs) h, unless) (refl, stops_held xs)

  pub stops_refused : (xs : List ℕ) → most_stops < length xs → ((call_of l (stops xs)).reply ≡ refusal_line 10) × ((call_of l (stops xs)).words.stops ≡ l.stops)
  unfolding call_of stops_call unless
  stops_refused xs h = rw (lt-ltb most_stops (length xs) h, unless) (refl, refl)

  -- a record that gives no stop states
  abbrev GivesNone : Record → Type 0
  GivesNone (singleton p r) = Unit {0}
  GivesNone (merge a b m) = Unit {0}
  GivesNone (new_set m) = Unit {0}
  GivesNone (add x) = Unit {0}
  GivesNone (stops xs) = ⊥
  GivesNone verdict = Unit {0}
  GivesNone (show c) = Unit {0}
  GivesNone close = Unit {0}
  GivesNone why = Unit {0}

  pub stops_kept : (r : Record) → GivesNone r → (call_of l r).words.stops ≡ l.stops
  unfolding call_of
  stops_kept (singleton p r) k = refl
  stops_kept (merge a b m) k = refl
  stops_kept (new_set m) k = refl
  stops_kept (add x) k = refl
  stops_kept (stops xs) k = absurd k
  stops_kept verdict k = refl
  stops_kept (show c) k = refl
  stops_kept close k = refl
  stops_kept why k = refl
