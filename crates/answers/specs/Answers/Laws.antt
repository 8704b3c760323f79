-- The struct of a refusal. Nothing here has to be believed.
use Rattle.std.specs.Prelude.{◌≡◌, ℕ, Ok, Err}
use Rattle.words.specs.Refusals.{number}
use Rattle.words.specs.declared.refusals.Refusal.{Refusal}
use Rattle.store.specs.Calls.{refused}
use Rattle.answers.specs.declared.structs.Answer.{Answer}
use Rattle.answers.specs.declared.structs.EntryAnswer.{EntryAnswer}
use Rattle.deciding.specs.Answers.{Answer as Alt, none, only}
use Rattle.deciding.specs.OneAlt.{one_alt}
use Rattle.verdicts.specs.Calls.{refused as notSaid, says, alternative}
use Rattle.figures.specs.Replies.{told}
use Rattle.figures.specs.declared.answers.Figures.{Figures}
use Rattle.answers.specs.declared.figuring.FiguresAnswer.{FiguresAnswer}
use Rattle.answers.specs.FiguresAnswers.{figures_answer_of}
use Rattle.answers.specs.VerdictAnswers.{alt_answer_of, verdict_answer_of}
use Rattle.answers.specs.Answers.{entry_of, answer_of}

same_answers : (n m v u : ℕ) → n ≡ m → v ≡ u → ◌≡◌ {A = Answer} (record { refusal = n; value = v }) (record { refusal = m; value = u })
same_answers n m v u e g = rw (e, g)

same_entries : (n m f g v u : ℕ) → n ≡ m → f ≡ g → v ≡ u
    → ◌≡◌ {A = EntryAnswer} (record { refusal = n; found = f; value = v }) (record { refusal = m; found = g; value = u })
same_entries n m f g v u e h i = rw (e, h, i)

-- a refusal's struct
module _ (f : Refusal) where
  pub refused_answer : (a : Answer) → a.refusal ≡ number f → a.value ≡ 0 → a ≡ answer_of (refused (number f))
  unfolding entry_of
  refused_answer a n v = same_answers a.refusal (number f) a.value 0 n v

  pub refused_entry : (a : EntryAnswer) → a.refusal ≡ number f → a.found ≡ 0 → a.value ≡ 0 → a ≡ entry_of (refused (number f))
  unfolding entry_of
  refused_entry a n e v = same_entries a.refusal (number f) a.found 0 a.value 0 n e v

-- the same of a call on a set's subsets
module _ (f : Refusal) where
  pub refused_verdict_answer : (a : Answer) → a.refusal ≡ number f → a.value ≡ 0 → a ≡ verdict_answer_of (notSaid (number f))
  unfolding alt_answer_of
  refused_verdict_answer a n v = same_answers a.refusal (number f) a.value 0 n v

  pub refused_alt_answer : (a : EntryAnswer) → a.refusal ≡ number f → a.found ≡ 0 → a.value ≡ 0 → a ≡ alt_answer_of (notSaid (number f))
  unfolding alt_answer_of
  refused_alt_answer a n e v = same_entries a.refusal (number f) a.found 0 a.value 0 n e v

-- an alternative, or none
pub one_answers : (x : Alt) (f v : ℕ) → f ≡ (alt_answer_of (alternative x)).found → v ≡ (alt_answer_of (alternative x)).value
    → ◌≡◌ {A = EntryAnswer} (record { refusal = 0; found = f; value = v }) (alt_answer_of (alternative x))
unfolding alt_answer_of
one_answers none f v d e = rw (d, e)
one_answers (only x) f v d e = rw (d, e)

-- all figures
pub told_figures : (f : Figures) (a b c d e : ℕ) → a ≡ (alt_answer_of (alternative (one_alt f.unique))).found → b ≡ (alt_answer_of (alternative (one_alt f.unique))).value
    → c ≡ (alt_answer_of (alternative (one_alt f.viable))).found → d ≡ (alt_answer_of (alternative (one_alt f.viable))).value → e ≡ (alt_answer_of (says f.verdict)).value
    → ◌≡◌ {A = FiguresAnswer} (record { refusal = 0; subsets = f.subsets; has_unique = a; unique = b; has_viable = c; viable = d; verdict = e }) (figures_answer_of (told (Ok f)))
unfolding alt_answer_of
told_figures f a b c d e p q r s t = rw (p, q, r, s, t)

pub refused_figures : (f : Refusal) (n : ℕ) → n ≡ number f
    → ◌≡◌ {A = FiguresAnswer} (record { refusal = n; subsets = 0; has_unique = 0; unique = 0; has_viable = 0; viable = 0; verdict = 0 }) (figures_answer_of (told (Err f)))
unfolding alt_answer_of
refused_figures f n e = rw e
