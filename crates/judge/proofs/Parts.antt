-- The number and the event of `judged_parts`, from the answers of the functions that each make a check.
use Prim.Native.Nat.{ℕ}
use mathlib.Core.Path.{◌≡◌, sym, ap, ◌∙◌}
use mathlib.Core.Bool.{Bool, true, false, cond, not, ◌&&◌, ◌||◌}
use borrow.Author.Tests.{eq-eqb, ne_eqb}
use Rattle.model.specs.Numbers.{event_order}
use Rattle.model.specs.Codes.{takes_modifiers}
use Rattle.model.specs.Modifiers.{no_state_meets}
use Rattle.model.specs.declared.events.KeptEvent.{KeptEvent}
use Rattle.model.specs.declared.names.EventType.{EventType}
use Rattle.model.specs.declared.answers.Judged.{Judged}
use Rattle.list_masks.specs.declared.lists.ListSummary.{ListSummary}
use Rattle.judge.specs.declared.events.CountSummary.{CountSummary}
use Rattle.judge.specs.declared.events.DetailSummary.{DetailSummary}
use Rattle.list_masks.specs.Summary.{set_of, clear_of, clause_of}
use Rattle.judge.specs.Judged.{colon_misplaced, event_of_parts, kept_parts, parts_number, judged_parts}

module _ (s : ListSummary) (ty : EventType) (c : CountSummary) (d : DetailSummary) where
  module _ (set clear : ℕ) (clause : Bool)
      (p : set ≡ set_of s.set ty.added) (q : clear ≡ clear_of s) (r : clause ≡ clause_of ty.added set) where
    clause_kept : clause ≡ clause_of ty.added (set_of s.set ty.added)
    clause_kept = r ∙ ap (clause_of ty.added) p

    pub parts_number_lem : (takes colon impossible : Bool) → takes ≡ takes_modifiers ty.code → colon ≡ colon_misplaced s ty
        → impossible ≡ no_state_meets set clear clause
        → event_order (s.unknown || d.unknown) (s.too_large || c.bad || d.too_large) (c.unbuilt || d.unbuilt)
        (s.written && not takes) colon impossible
        ≡ parts_number s ty c d
    unfolding parts_number
    parts_number_lem takes colon impossible t k e =
        let f : impossible
        ≡ no_state_meets (set_of s.set ty.added) (clear_of s) (clause_of ty.added (set_of s.set ty.added)) =
        e ∙ (λ i. no_state_meets (p i) (q i) (clause_kept i)) in
        λ i.
        event_order (s.unknown || d.unknown) (s.too_large || c.bad || d.too_large) (c.unbuilt || d.unbuilt)
        (s.written && not (t i)) (k i) (f i)

    parts_kept : event_of_parts s ty c d set clear clause ≡ kept_parts s ty c d
    unfolding kept_parts
    parts_kept = λ i. event_of_parts s ty c d (p i) (q i) (clause_kept i)

    pub keeps : (n : ℕ) (k : KeptEvent) → n ≡ parts_number s ty c d → n ≡ 0 → s.over ≡ false
        → k ≡ event_of_parts s ty c d set clear clause → Judged.Keep k ≡ judged_parts s ty c d
    unfolding judged_parts
    keeps n k e z o f =
        let a = eq-eqb (parts_number s ty c d) 0 (sym e ∙ z) in
        ap Judged.Keep (f ∙ parts_kept)
        ∙ sym
        (λ i. cond (a i) (cond (o i) Judged.Crowded (Judged.Keep (kept_parts s ty c d))) (Judged.Refuse (parts_number s ty c d)))

  pub crowds : (n : ℕ) → n ≡ parts_number s ty c d → n ≡ 0 → s.over ≡ true → Judged.Crowded ≡ judged_parts s ty c d
  unfolding judged_parts
  crowds n e z o = rw (eq-eqb (parts_number s ty c d) 0 (sym e ∙ z), o)

  pub refuses : (n : ℕ) → n ≡ parts_number s ty c d → (n ≡ 0 → ⊥) → Judged.Refuse n ≡ judged_parts s ty c d
  unfolding judged_parts
  refuses n e z = rw (ne_eqb (parts_number s ty c d) 0 (λ f. z (e ∙ f))) (ap Judged.Refuse e)
