-- The productions of a merge, as what is kept of one table and then of the other.
use Prim.Native.Nat.{ℕ}
use mathlib.Core.Path.{◌≡◌, refl, sym, ap, ◌∙◌}
use mathlib.Core.Bool.{Bool, true, false, cond, not, ◌||◌}
use mathlib.Core.List.{List, [], ◌∷◌, ◌++◌, map}
use borrow.Author.Tests.{not-true}
use Rattle.words.specs.Runs.{run}
use Rattle.words.proofs.Bools.{and_left, and_right}
use Rattle.model.specs.Lists.{all, those}
use Rattle.model.specs.Tables.{Call, Production, Table}
use Rattle.model.specs.Merging.{same_events, is_among, without, merged_productions, merged_table}
use Rattle.model.specs.declared.events.Directive.{Directive}
use Rattle.tables.specs.Reading.{production_total, directive_in, decode}
use Rattle.tables.specs.Fitting.{call_in_range, fitting}
use Rattle.tables.specs.Whole.{whole}
use Rattle.tables.proofs.Facts.{fit_facts, CallFacts, call_facts}
use Rattle.tables.proofs.MergedFits.{flat_all}
use Rattle.tally.specs.Kept.{first_of, rest_of, kept_from, marked_call, from_text}
use Rattle.tally.proofs.WholeFacts as facts
use Rattle.tally.proofs.Tallies.{all_productions}

-- ---- Without none: all

those_all : (ps : List Production) → those (λ p. not (is_among [] p)) ps ≡ ps
unfolding is_among
those_all [] = refl
those_all (p ∷ ps) = ap (λ (r : List Production). p ∷ r) (those_all ps)

-- ---- Marks play no part in equality

among_marked : (b : Bool) (qs : List Production) (p : Production) → is_among (map (from_text b) qs) p ≡ is_among qs p
unfolding is_among
among_marked b [] p = refl
among_marked b (q ∷ qs) p = ap (λ (r : Bool). same_events p.events q.events || r) (among_marked b qs p)

without_others : (b : Bool) (qs ps : List Production) → without (map (from_text b) qs) ps ≡ without qs ps
unfolding without
without_others b qs [] = refl
without_others b qs (p ∷ ps) = rw (among_marked b qs p, without_others b qs ps)

cond_map : (b k : Bool) (p : Production) (ps : List Production) → cond k (from_text b p ∷ map (from_text b) ps) (map (from_text b) ps) ≡ map (from_text b) (cond k (p ∷ ps) ps)
cond_map b true p ps = refl
cond_map b false p ps = refl

own_events : (b : Bool) (qs : List Production) (p : Production) → is_among qs (from_text b p) ≡ is_among qs p
unfolding is_among
own_events b qs p = refl

without_marked : (b : Bool) (qs ps : List Production) → without qs (map (from_text b) ps) ≡ map (from_text b) (without qs ps)
unfolding without
without_marked b qs [] = refl
without_marked b qs (p ∷ ps) =
    rw (own_events b qs p, without_marked b qs ps) (cond_map b (not (is_among qs p)) p (those (λ q. not (is_among qs q)) ps))

-- ---- The calls of a table that is not merged are marked as the first text's

unmarked_calls : (t : Table) (cs : List Call) → t.merged ≡ false → all (call_in_range t) cs ≡ true → map (marked_call false) cs ≡ cs
unmarked_calls t [] m e = refl
unmarked_calls t (c ∷ cs) m e =
    let f : CallFacts t c = call_facts t c (and_left (call_in_range t c) (all (call_in_range t) cs) e) in
    let s : c.second ≡ false = not-true c.second (rw m at f.mark) in
    let r = unmarked_calls t cs m (and_right (call_in_range t c) (all (call_in_range t) cs) e) in
    rw r (ap (λ (b : Bool). marked_call b c ∷ cs) (sym s))

unmarked_from : (t : Table) (ps : List Production) → t.merged ≡ false → all (λ (p : Production). all (call_in_range t) p.calls) ps ≡ true
    → map (from_text false) ps ≡ ps
unmarked_from t [] m e = refl
unmarked_from t (p ∷ ps) m e =
    let c = unmarked_calls t p.calls m (and_left (all (call_in_range t) p.calls) (all (λ (q : Production). all (call_in_range t) q.calls) ps) e) in
    let r = unmarked_from t ps m (and_right (all (call_in_range t) p.calls) (all (λ (q : Production). all (call_in_range t) q.calls) ps) e) in
    rw (c, r)

pub unmarked : (t : Table) → fitting t ≡ true → t.merged ≡ false → map (from_text false) t.productions ≡ t.productions
unmarked t f m =
    unmarked_from t t.productions m (flat_all (call_in_range t) (λ (p : Production). p.calls) t.productions (fit_facts t f).calls)

-- ---- What is kept, by lists

module _ (l other : List ℕ) where
  pub kept_none : kept_from l 0 other 0 ≡ (decode l).productions
  unfolding kept_from first_of run without
  kept_none = those_all (rest_of l 0) ∙ all_productions l

  pub kept_all_lem : kept_from l 0 other (production_total other) ≡ without (decode other).productions (decode l).productions
  unfolding kept_from first_of decode
  kept_all_lem = ap (without (run _ 0 (production_total other))) (all_productions l)

-- ---- The merge

-- what is copied, with its marks
unfoldable pub pieces_by : Directive → (old new : List ℕ) → List Production
pieces_by Directive.Replace old new = map (from_text true) (kept_from new 0 old 0)
pieces_by Directive.Override old new =
    map (from_text true) (kept_from new 0 old 0) ++ map (from_text false) (kept_from old 0 new (production_total new))
pieces_by Directive.Augment old new =
    map (from_text false) (kept_from old 0 new 0) ++ map (from_text true) (kept_from new 0 old (production_total old))

module _ (old new : List ℕ) (wo : whole old ≡ true) (mo : (decode old).merged ≡ false) where
  abbrev os : List Production
  os = (decode old).productions

  abbrev ns : List Production
  ns = (decode new).productions

  old_unmarked : map (from_text false) (decode old).productions ≡ (decode old).productions
  old_unmarked = unmarked (decode old) (facts.fits old wo) mo

  by_directive : (d : Directive) → merged_productions d (decode old).productions (map (from_text true) (decode new).productions) ≡ pieces_by d old new
  unfolding merged_productions pieces_by
  by_directive Directive.Replace = sym (ap (map (from_text true)) (kept_none new old))
  by_directive Directive.Override =
      ap (λ (r : List Production). map (from_text true) ns ++ r) (without_others true ns os)
      ∙ sym (rw (kept_none new old, kept_all_lem old new, ← without_marked false ns os, old_unmarked))
  by_directive Directive.Augment =
      ap (λ (r : List Production). os ++ r) (without_marked true os ns)
      ∙ sym (rw (kept_none old new, kept_all_lem new old, old_unmarked))

  directive_there : (decode new).directive ≡ directive_in new
  unfolding decode
  directive_there = refl

  pub pieces : (merged_table (decode old) (decode new)).productions ≡ pieces_by (directive_in new) old new
  unfolding merged_table
  pieces =
      ap (λ (d : Directive). merged_productions d (decode old).productions (map (from_text true) (decode new).productions)) directive_there
      ∙ by_directive (directive_in new)
