-- What the copies and stores of a state do to bytes.
use Prim.Native.Nat.{ℕ, ◌+◌, ◌≤◌}
use native.Mathlib.Omega.{arith}
use mathlib.Core.Path.{◌≡◌, refl, sym, ap, ap₂, ◌∙◌}
use mathlib.Core.List.{List, [], ◌∷◌, ◌++◌}
use mathlib.Core.Bool.{Bool, true, false, cond}
use lib.Dec.{eqb}
use lib.ListN.{length, take, drop, replicate}
use lib.Seq.{paste, take_at, drop-append-add, drop-drop}
use mir.Val.{bool_byte}
use Rattle.words.specs.Words.{word_bytes, word_at, put_word, zeros}
use Rattle.words.proofs.Images.{length_bytes}
use Rattle.states.specs.declared.State.{State}
use Rattle.capi.specs.State.{marks_of, store, marks_read, load_events, load}

-- ---- Loading

pub state_path : (a b : State) → a.kept ≡ b.kept → a.selected ≡ b.selected → a.«open» ≡ b.«open» → a.events ≡ b.events → a ≡ b
state_path a b p q r t = λ i. record { kept = p i; selected = q i; «open» = r i; events = t i }

pub events_loaded : (l b : List ℕ) → b ≡ take 192 (drop 8 l) → b ++ drop 192 (replicate 200 0) ≡ load_events l
unfolding load_events zeros
events_loaded l b e = rw e

module _ (l : List ℕ) where
  pub kept_read : marks_read l ≡ true → word_at l 0 ≡ (load l).kept
  unfolding load
  kept_read e = rw e

  pub kept_not_read : marks_read l ≡ false → 25 ≡ (load l).kept
  unfolding load
  kept_not_read e = rw e

  pub loaded : (s : State) → s.kept ≡ (load l).kept → s.selected ≡ word_at l 1 → s.«open» ≡ eqb (word_at l 2) 1 → s.events ≡ load_events l → s ≡ load l
  unfolding load
  loaded s p q r t = state_path s (load l) p q r t

-- ---- Storing

pub open_word : (b : Bool) → bool_byte b ≡ cond b 1 0
open_word true = refl
open_word false = refl

-- four words
pub put_four : (l : List ℕ) (a b c d : ℕ) → 8 ≤ length l
    → put_word (put_word (put_word (put_word l 0 a) 1 b) 2 c) 3 d ≡ word_bytes (a ∷ b ∷ c ∷ d ∷ []) ++ drop 8 l
unfolding put_word word_bytes
put_four [] a b c d h = absurd (omega arith)
put_four (x0 ∷ []) a b c d h = absurd (omega arith)
put_four (x0 ∷ x1 ∷ []) a b c d h = absurd (omega arith)
put_four (x0 ∷ x1 ∷ x2 ∷ []) a b c d h = absurd (omega arith)
put_four (x0 ∷ x1 ∷ x2 ∷ x3 ∷ []) a b c d h = absurd (omega arith)
put_four (x0 ∷ x1 ∷ x2 ∷ x3 ∷ x4 ∷ []) a b c d h = absurd (omega arith)
put_four (x0 ∷ x1 ∷ x2 ∷ x3 ∷ x4 ∷ x5 ∷ []) a b c d h = absurd (omega arith)
put_four (x0 ∷ x1 ∷ x2 ∷ x3 ∷ x4 ∷ x5 ∷ x6 ∷ []) a b c d h = absurd (omega arith)
put_four (x0 ∷ x1 ∷ x2 ∷ x3 ∷ x4 ∷ x5 ∷ x6 ∷ x7 ∷ xs) a b c d h = refl

pub length_marks : (ws : List ℕ) → length ws ≡ 4 → length (word_bytes ws) ≡ 8
length_marks ws e = omega (arith, length_bytes ws)

-- what stands past the marks
drop_marks : (ws rest : List ℕ) (n : ℕ) → length ws ≡ 4 → drop (8 + n) (word_bytes ws ++ rest) ≡ drop n rest
drop_marks ws rest n e =
    ap (λ (k : ℕ). drop (k + n) (word_bytes ws ++ rest)) (sym (length_marks ws e)) ∙ drop-append-add (word_bytes ws) rest n

stored_over : (s : State) (l : List ℕ) → paste (word_bytes (marks_of s) ++ drop 8 l) 8 s.events 192 ≡ store s ++ drop 200 l
unfolding store
stored_over s l =
    ap₂ (λ (a b : List ℕ). a ++ take 192 s.events ++ b)
    (take_at (word_bytes (marks_of s)) (drop 8 l) 8 (length_marks (marks_of s) refl))
    (drop_marks (marks_of s) (drop 8 l) 192 refl ∙ drop-drop 192 8 l)

pub state_stored : (s : State) (l marked out : List ℕ) → marked ≡ word_bytes (marks_of s) ++ drop 8 l → out ≡ paste marked 8 s.events 192
    → out ≡ store s ++ drop 200 l
state_stored s l marked out e f = f ∙ ap (λ (m : List ℕ). paste m 8 s.events 192) e ∙ stored_over s l
