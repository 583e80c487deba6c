-- The forms that an event has, in the order of their numbers, are the texts of its names.
use Prim.Native.Nat.{ℕ}
use mathlib.Core.Path.{◌≡◌, refl, ◌∙◌}
use mathlib.Core.Bool.{Bool, true, false, cond}
use mathlib.Core.List.{List, [], ◌∷◌, ◌++◌, append-nil}
use Rattle.words.specs.Runs.{run}
use Rattle.model.specs.Lists.{bytes, those}
use Rattle.model.specs.Canonical.{each, form_texts, names_texts}
use Rattle.model.specs.declared.events.KeptEvent.{KeptEvent}
use Rattle.name_text.specs.Forms.{keysym_at, form_tilde, has_form, form_word, form_text}

-- two forms of one name, and what follows them
two : (w : ℕ → List ℕ) (is : ℕ → Bool) (i j : ℕ) (text : List ℕ) (js : List ℕ) (rest : List (List ℕ)) → w i ≡ text → w j ≡ bytes "~" ++ text
    → each w (those is js) ≡ rest → each w (those is (i ∷ j ∷ js)) ≡ form_texts (is i) (is j) text ++ rest
two w is i j text js rest p q r = go (is i) (is j)
  where
    go : (a b : Bool) → each w (cond a (i ∷ cond b (j ∷ those is js) (those is js)) (cond b (j ∷ those is js) (those is js))) ≡ form_texts a b text ++ rest
    go true true = rw (p, q, r)
    go true false = rw (p, r)
    go false true = rw (q, r)
    go false false = r

-- n numbers from s on
abbrev from : ℕ → ℕ → List ℕ
from s n = run (λ j. j) s n

pub names_written_lem : (e : KeptEvent) → each (form_text e) (those (has_form e) (from 0 16)) ≡ names_texts e
unfolding run names_texts has_form form_text form_word form_tilde keysym_at
names_written_lem e =
    two (form_text e) (has_form e) 0 1 _ (from 2 14) _ refl refl
    (two (form_text e) (has_form e) 2 3 _ (from 4 12) _ refl refl
    (two (form_text e) (has_form e) 4 5 _ (from 6 10) _ refl refl
    (two (form_text e) (has_form e) 6 7 _ (from 8 8) _ refl refl
    (two (form_text e) (has_form e) 8 9 _ (from 10 6) _ refl refl
    (two (form_text e) (has_form e) 10 11 _ (from 12 4) _ refl refl
    (two (form_text e) (has_form e) 12 13 _ (from 14 2) _ refl refl
    (two (form_text e) (has_form e) 14 15 _ [] [] refl refl refl ∙ append-nil _)))))))
