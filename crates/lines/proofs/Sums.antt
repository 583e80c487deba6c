-- The totals of one production more, and what they say of the limits.
use Prim.Native.Nat.{ℕ, ◌+◌, ◌-◌, ◌≤◌}
use native.Mathlib.Omega.{arith}
use mathlib.Core.Path.{◌≡◌, refl, sym, ap, ◌∙◌}
use mathlib.Core.Bool.{Bool, true, false, ◌||◌, true≢false}
use mathlib.Core.List.{List, [], ◌∷◌, ◌++◌}
use lib.Dec.{ltb}
use lib.ListN.{length, length-append}
use borrow.Author.Tests.{lt-ltb, le-ltb, ltb-true, ltb-false}
use Rattle.model.specs.Lists.{any, in_all}
use Rattle.model.specs.Limits.{production_limit, event_limit, call_limit, parameter_limit}
use Rattle.model.specs.Tables.{Production}
use Rattle.model.specs.Counts.{elements_of, elements_at, expanded, sequence}
use Rattle.model.specs.Compiling.{production_passes, totals_pass, passes_limit}
use Rattle.model.specs.declared.events.KeptEvent.{KeptEvent}
use Rattle.list_masks.proofs.Listed.{any_last}
use Rattle.counts.proofs.Elements.{element_count_lem, count_at_least}
use Rattle.lines.specs.declared.totals.Totals.{Totals}
use Rattle.lines.specs.Totals.{parameters_in, totals_of, held_line, with_line, TotalsIn}
use Rattle.lines.specs.Line.{all_pass}

-- ---- Lists

module _ {A : Type 0} where
  pub sum_more : (measure : A → ℕ) (xs : List A) (x : A) → in_all measure (xs ++ (x ∷ [])) ≡ in_all measure xs + measure x
  sum_more measure [] x = omega arith
  sum_more measure (y ∷ xs) x = omega (arith, sum_more measure xs x)

  length_more : (xs : List A) (x : A) → length (xs ++ (x ∷ [])) ≡ length xs + 1
  length_more xs x = length-append xs (x ∷ [])

-- ---- Totals

pub totals_more : (ps : List Production) (p : Production) (right : ℕ)
    → totals_of (ps ++ (p ∷ [])) ≡ with_line (totals_of ps) (held_line right p)
unfolding totals_of with_line held_line
totals_more ps p right = λ i.
    record {
      productions = length_more ps p i;
      events = sum_more (λ (q : Production). length q.events) ps p i;
      elements = sum_more (λ (q : Production). length (sequence q)) ps p i;
      calls = sum_more (λ (q : Production). length q.calls) ps p i;
      parameters = sum_more parameters_in ps p i;
    }

-- ---- Limits

pub totals_pass_lem : (ps : List Production) → totals_pass ps ≡ all_pass (totals_of ps)
unfolding totals_pass all_pass totals_of
totals_pass_lem ps = refl

pub either_left : (a b : Bool) → a || b ≡ false → a ≡ false
either_left true b e = e
either_left false b e = refl

pub either_right : (a b : Bool) → a || b ≡ false → b ≡ false
either_right true b e = absurd (true≢false e)
either_right false b e = e

-- one production more passes a limit by itself or in all
pub passes_more : (ps : List Production) (p : Production) (right : ℕ) → passes_limit ps ≡ false
    → passes_limit (ps ++ (p ∷ [])) ≡ production_passes p || all_pass (with_line (totals_of ps) (held_line right p))
unfolding passes_limit
passes_more ps p right h =
    let none : any production_passes ps ≡ false = either_left (any production_passes ps) (totals_pass ps) h in
    let each : any production_passes (ps ++ (p ∷ [])) ≡ production_passes p =
    any_last production_passes ps p ∙ ap (λ (b : Bool). b || production_passes p) none in
    let all : totals_pass (ps ++ (p ∷ [])) ≡ all_pass (with_line (totals_of ps) (held_line right p)) =
    totals_pass_lem (ps ++ (p ∷ [])) ∙ ap all_pass (totals_more ps p right) in
    λ i. each i || all i

-- ---- Ranges

-- an event stands for at least one element
elements_least : (es : List KeptEvent) → length es ≤ length (expanded es)
unfolding expanded elements_of
elements_least [] = omega arith
elements_least (e ∷ es) =
    omega
    (arith, elements_least es, length-append (elements_at e.count e) (expanded es), element_count_lem e.count e, count_at_least e.code e.count)

sum_least : (ps : List Production)
    → in_all (λ (p : Production). length p.events) ps ≤ in_all (λ (p : Production). length (sequence p)) ps
unfolding sequence
sum_least [] = omega arith
sum_least (p ∷ ps) = omega (arith, sum_least ps, elements_least p.events)

all_in : (t : Totals) → t.events ≤ t.elements → all_pass t ≡ false → TotalsIn t
unfolding all_pass
all_in t least h =
    let a = either_left (ltb production_limit t.productions || ltb event_limit t.elements || ltb call_limit t.calls) (ltb parameter_limit t.parameters) h in
    let b = either_left (ltb production_limit t.productions || ltb event_limit t.elements) (ltb call_limit t.calls) a in
    let events : t.elements ≤ event_limit =
    ltb-false event_limit t.elements (either_right (ltb production_limit t.productions) (ltb event_limit t.elements) b) in
    record {
      productions =
          ltb-false production_limit t.productions (either_left (ltb production_limit t.productions) (ltb event_limit t.elements) b);
      events = omega arith;
      elements = events;
      calls =
          ltb-false call_limit t.calls
          (either_right (ltb production_limit t.productions || ltb event_limit t.elements) (ltb call_limit t.calls) a);
      parameters =
          ltb-false parameter_limit t.parameters
          (either_right
          (ltb production_limit t.productions || ltb event_limit t.elements || ltb call_limit t.calls)
          (ltb parameter_limit t.parameters)
          h);
    }

-- the totals of productions that pass no limit
pub totals_in : (ps : List Production) → passes_limit ps ≡ false → TotalsIn (totals_of ps)
unfolding passes_limit totals_of
totals_in ps h =
    all_in (totals_of ps) (sum_least ps)
    (sym (totals_pass_lem ps) ∙ either_right (any production_passes ps) (totals_pass ps) h)

-- ---- One limit

pub exceeds_is : (limit before more : ℕ) → before ≤ limit → ltb (limit - before) more ≡ ltb limit (before + more)
exceeds_is limit before more h = go (ltb limit (before + more)) refl
  where
    go : (b : Bool) → ltb limit (before + more) ≡ b → ltb (limit - before) more ≡ b
    go true q = let k = ltb-true limit (before + more) q in lt-ltb (limit - before) more (omega arith)
    go false q = let k = ltb-false limit (before + more) q in le-ltb (limit - before) more (omega arith)
