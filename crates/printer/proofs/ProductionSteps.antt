-- Productions written one after another.
use Prim.Native.Nat.{ℕ, ◌+◌}
use native.Mathlib.Nat.{zero-add}
use mathlib.Core.Path.{◌≡◌, refl, sym, ap, ◌∙◌}
use mathlib.Core.List.{List, [], ◌∷◌, ◌++◌, append_assoc, append-nil}
use Rattle.words.specs.Runs.{run}
use Rattle.words.proofs.RunLaws.{run_more}
use Rattle.model.specs.Canonical.{production_text, productions_text}
use Rattle.model.specs.Tables.{Production}

module _ (first second : List ℕ) where
  productions_more : (ps : List Production) (p : Production) → productions_text first second (ps ++ (p ∷ [])) ≡ productions_text first second ps ++ production_text first second p
  unfolding productions_text
  productions_more [] p = append-nil (production_text first second p)
  productions_more (q ∷ ps) p =
      ap (λ (t : List ℕ). production_text first second q ++ t) (productions_more ps p)
      ∙ sym (append_assoc (production_text first second q) (productions_text first second ps) (production_text first second p))

  pub productions_none : (f : ℕ → Production) → [] ≡ productions_text first second (run f 0 0)
  unfolding productions_text run
  productions_none f = refl

  pub productions_step : (f : ℕ → Production) (k : ℕ) → productions_text first second (run f 0 k) ++ production_text first second (f k) ≡ productions_text first second (run f 0 (k + 1))
  productions_step f k =
      ap (λ (i : ℕ). productions_text first second (run f 0 k) ++ production_text first second (f i)) (sym (zero-add k))
      ∙ sym (productions_more (run f 0 k) (f (0 + k)))
      ∙ ap (productions_text first second) (sym (run_more f 0 k))
