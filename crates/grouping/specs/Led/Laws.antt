-- One config more: its chain, its first one, and the next of the last one before it. Nothing here has to be believed.
use Rattle.std.specs.Prelude.{◌≡◌, ◌≢◌, List, [], ◌∷◌, ℕ, suc, ◌<◌, ◌≤◌, ◌+◌, get_or, set}
use Rattle.std.proofs.Common.{sym, ◌∙◌, add-one, length-set, get_or-set_same, get_or-set_other}
use Rattle.std.proofs.Math.Path.{ap}
use native.Mathlib.Omega.{arith}
use Rattle.std.proofs.Math.ListN.{length, length-append}
use Rattle.words.specs.Numbers.{two}
use Rattle.encoding.specs.Store.{at, nowhere}
use Rattle.encoding.specs.Layout.{scratch_words}
use Rattle.groups.specs.Layout.{most_configs, config_at}
use Rattle.groups.specs.Words.{configs_in}
use Rattle.groups.specs.Listed.{at_any, none_any}
use Rattle.groups.specs.Chains.{last, last_none, Chained, linked, linked_length, linked_other, chain_empty, chain_add}
use Rattle.setcheck.specs.Keys.{key_heads, key_links}
use Rattle.groups.specs.Groups.{firsts}
use Rattle.groups.proofs.Last.{firsts_new, firsts_old}
use Rattle.grouping.specs.Alike.{alike_of, alike_at, alike_kind}
use Rattle.grouping.specs.Leads.{Kin, FirstAlike, Next, lead_new, next_new, before, alike, lead_old, next_last, next_other, next_own}
use Rattle.grouping.specs.Led.{leaders_at, members_at, Lent, bucket_at, Led}
use Rattle.grouping.specs.declared.inner.traits.Alike.{Alike}

pub kin : (v : List ℕ) (k : Alike) → Kin (alike_at v k)
kin v k = let K = alike_kind k in record {
  self = λ i. K.self (config_at v i);
  swap = λ i j. K.swap (config_at v i) (config_at v j);
  next = λ i j l. K.next (config_at v i) (config_at v j) (config_at v l);
}

-- none yet, the heads being 0
pub led_none : (v : List ℕ) (k : Alike) (z : List ℕ) → Lent v z → ((b : ℕ) → b < 256 → get_or z (key_heads + b) 0 ≡ 0) → Led v k 0 z
led_none v k z w e = record {
  words = w;
  chains = chain_empty (bucket_at v k) key_heads key_links z e;
  leads = λ i h. absurd (omega arith);
  nexts = λ i h. absurd (omega arith);
}

module _ (v : List ℕ) (k : Alike) (n : ℕ) (z : List ℕ) (x : Led v k n z) (h : n < most_configs) (b : ℕ) (e : b ≡ bucket_at v k n) (small : b < 256) where
  -- the scratch with n in its chain
  abbrev y : List ℕ
  y = linked key_heads key_links z n b

  room : key_links + n < length z
  room = omega (arith, x.words.lent)

  y_length : length y ≡ scratch_words
  y_length = linked_length key_heads key_links n b z (omega arith) room small ∙ x.words.lent

  -- what stands after the chains stays
  y_after : (j : ℕ) → leaders_at ≤ j → get_or y j 0 ≡ get_or z j 0
  y_after j l = linked_other key_heads key_links n b z (omega arith) room small j (omega arith) (omega arith)

  -- any scratch that has the chains, the first ones and the next ones
  led_step : (u : List ℕ) → length u ≡ scratch_words → ((j : ℕ) → j < leaders_at → get_or u j 0 ≡ get_or y j 0)
      → ((i : ℕ) → i < suc n → FirstAlike (alike_at v k) i (get_or u (leaders_at + i) 0)) → ((i : ℕ) → i < suc n → Next (alike_at v k) (suc n) i (get_or u (members_at + i) 0))
      → Led v k (suc n) u
  led_step u l same f g =
      let c : Chained (bucket_at v k) key_heads key_links (suc n) y = chain_add key_heads key_links n b z (omega arith) room small (bucket_at v k) (sym e) x.chains in
      record {
        words = record { sized = x.words.sized; few = x.words.few; lent = l };
        chains = record { heads = λ a s. same (key_heads + a) (omega arith) ∙ c.heads a s; links = λ i s. same (key_links + i) (omega arith) ∙ c.links i s };
        leads = f;
        nexts = g;
      }

  -- ---- none before n is alike

  abbrev new_words : List ℕ
  new_words = set (set y (members_at + n) 0) (leaders_at + n) n

  module _ (none : last (λ j. alike_at v k j n) n ≡ nowhere) where
    new_other : (j : ℕ) → j ≢ members_at + n → j ≢ leaders_at + n → get_or new_words j 0 ≡ get_or y j 0
    new_other j p q = rw (get_or-set_other, get_or-set_other)

    pub led_new : Led v k (suc n) new_words
    led_new =
        led_step new_words (simp length-set (omega (arith, y_length))) (λ j l. new_other j (omega arith) (omega arith))
        (λ i l. two i n
        (λ q. rw (q, get_or-set_same (set y (members_at + n) 0) (leaders_at + n) n 0 (simp length-set (omega (arith, y_length)))) (lead_new (alike_at v k) (kin v k) n none))
        (λ q. rw (new_other (leaders_at + i) (omega arith) (omega arith), y_after (leaders_at + i) (omega arith)) (x.leads i (omega arith))))
        (λ i l. two i n
        (λ q. rw (q, get_or-set_other (set y (members_at + n) 0) (leaders_at + n) (members_at + n) n 0 (omega arith), get_or-set_same y (members_at + n) 0 0 (omega (arith, y_length)))
        (next_own (alike_at v k) (kin v k) n))
        (λ q. rw (new_other (members_at + i) (omega arith) (omega arith), y_after (members_at + i) (omega arith))
        (next_new (alike_at v k) (kin v k) n none i (get_or z (members_at + i) 0) (omega arith) (x.nexts i (omega arith)))))

  -- ---- the last before n that is alike is m

  module _ (m : ℕ) (found : last (λ j. alike_at v k j n) n ≡ at m) where
    abbrev marked : List ℕ
    marked = set y (members_at + n) 0

    abbrev old_words : List ℕ
    old_words = set (set marked (leaders_at + n) (get_or marked (leaders_at + m) 0)) (members_at + m) (n + 1)

    less : m < n
    less = before (alike_at v k) (kin v k) n m found

    old_other : (j : ℕ) → j ≢ members_at + n → j ≢ leaders_at + n → j ≢ members_at + m → get_or old_words j 0 ≡ get_or y j 0
    old_other j p q r = rw (get_or-set_other, get_or-set_other, get_or-set_other)

    leader : get_or old_words (leaders_at + n) 0 ≡ get_or z (leaders_at + m) 0
    leader =
        get_or-set_other (set marked (leaders_at + n) (get_or marked (leaders_at + m) 0)) (members_at + m) (leaders_at + n) (n + 1) 0 (omega (arith, less))
        ∙ get_or-set_same marked (leaders_at + n) (get_or marked (leaders_at + m) 0) 0 (simp length-set (omega (arith, y_length, less)))
        ∙ get_or-set_other y (members_at + n) (leaders_at + m) 0 0 (omega (arith, less))
        ∙ y_after (leaders_at + m) (omega (arith, less))

    last_member : get_or old_words (members_at + m) 0 ≡ suc n
    last_member =
        get_or-set_same (set marked (leaders_at + n) (get_or marked (leaders_at + m) 0)) (members_at + m) (n + 1) 0 (simp length-set (omega (arith, y_length, less))) ∙ add-one n

    own_member : get_or old_words (members_at + n) 0 ≡ 0
    own_member =
        get_or-set_other (set marked (leaders_at + n) (get_or marked (leaders_at + m) 0)) (members_at + m) (members_at + n) (n + 1) 0 (omega (arith, less))
        ∙ get_or-set_other marked (leaders_at + n) (members_at + n) (get_or marked (leaders_at + m) 0) 0 (omega (arith, less))
        ∙ get_or-set_same y (members_at + n) 0 0 (omega (arith, y_length, less))

    pub led_old : Led v k (suc n) old_words
    led_old =
        led_step old_words (simp length-set (omega (arith, y_length, less))) (λ j l. old_other j (omega (arith, less)) (omega (arith, less)) (omega (arith, less)))
        (λ i l. two i n
        (λ q. rw (q, leader) (lead_old (alike_at v k) (kin v k) n m found (get_or z (leaders_at + m) 0) (x.leads m less)))
        (λ q. rw (old_other (leaders_at + i) (omega (arith, less)) (omega (arith, less)) (omega (arith, less)), y_after (leaders_at + i) (omega (arith, less))) (x.leads i (omega (arith, less)))))
        (λ i l. two i n
        (λ q. rw (q, own_member) (next_own (alike_at v k) (kin v k) n))
        (λ q. two i m
        (λ r. rw (r, last_member) (next_last (alike_at v k) (kin v k) n m found))
        (λ r. rw (old_other (members_at + i) (omega (arith, less)) (omega (arith, less)) (omega (arith, less)), y_after (members_at + i) (omega (arith, less)))
        (next_other (alike_at v k) (kin v k) n m found i (get_or z (members_at + i) 0) (omega (arith, less)) r (x.nexts i (omega (arith, less)))))))

-- ---- how many first ones more

module _ (v : List ℕ) (k : Alike) (n : ℕ) where
  abbrev count_at : ℕ → ℕ
  count_at i = length (firsts (alike_of k) (configs_in v i))

  pub count_new : last (λ j. alike_at v k j n) n ≡ nowhere → count_at (suc n) ≡ count_at n + 1
  unfolding configs_in
  count_new e =
      let c = config_at v n in
      ap length (firsts_new (alike_of k) c (configs_in v n) (none_any (λ d. alike_of k d c) v n (last_none (λ j. alike_at v k j n) n e)))
      ∙ length-append (firsts (alike_of k) (configs_in v n)) (c ∷ [])

  pub count_old : (m : ℕ) → last (λ j. alike_at v k j n) n ≡ at m → count_at (suc n) ≡ count_at n + 0
  unfolding configs_in
  count_old m e =
      let c = config_at v n in
      let t = alike_at v k in
      let same : count_at (suc n) ≡ count_at n =
      ap length (firsts_old (alike_of k) c (configs_in v n) (at_any (λ d. alike_of k d c) v n m (before t (kin v k) n m e) (alike t (kin v k) n m e))) in
      omega arith
