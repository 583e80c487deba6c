-- The tally of a merge is that of its productions, and passes a limit exactly where they do.
use Prim.Native.Nat.{ℕ}
use native.Mathlib.Omega.{arith}
use native.Mathlib.Nat.{zero-add}
use mathlib.Core.Path.{◌≡◌, sym, ap, ◌∙◌}
use mathlib.Core.Bool.{Bool, true, false, not, ◌||◌}
use mathlib.Core.List.{List, map}
use lib.Dec.{leb}
use lib.ListN.{length, length-map}
use borrow.Author.Tests.{not-true}
use Rattle.model.specs.Lists.{all, any, in_all}
use Rattle.model.specs.Counts.{sequence}
use Rattle.model.specs.Compiling.{production_passes, totals_pass, passes_limit}
use Rattle.model.specs.Tables.{Call, Production}
use Rattle.model.specs.Merging.{from_second, mark_second, merged_table, merge_passes_limit}
use Rattle.model.specs.declared.events.Directive.{Directive}
use Rattle.tables.specs.Layout.{all_calls, all_parameters}
use Rattle.tables.specs.Reading.{production_total, directive_in, decode}
use Rattle.tables.specs.Whole.{whole}
use Rattle.tables.proofs.Lists.{all_none, all_weaker, length_flat, in_all_flat}
use Rattle.tables.proofs.Facts.{LimitFacts, limit_facts, ProductionFacts, production_facts, facts_production, events_in_all_lem}
use Rattle.tables.proofs.MergedFits.{all_merged, all_map}
use Rattle.tally.specs.Kept.{kept_from, from_text}
use Rattle.tally.specs.Counting.{no_tally, tally_all, tally_by, tally_merged, tally_passes, TallyRoom}
use Rattle.tally.specs.declared.count.Tally.{Tally}
use Rattle.tally.proofs.WholeFacts as facts
use Rattle.tally.proofs.Tallies.{TallySums, tally_sums, tally_append, tally_marked}
use Rattle.merger.proofs.Pieces.{pieces_by, pieces}

-- ---- The tally of what is copied

tally_pieces : (d : Directive) (old new : List ℕ) → tally_by d old new ≡ tally_all no_tally (pieces_by d old new)
unfolding tally_by pieces_by
tally_pieces Directive.Replace old new = sym (tally_marked true no_tally (kept_from new 0 old 0))
tally_pieces Directive.Override old new =
    sym
    (tally_append no_tally (map (from_text true) (kept_from new 0 old 0)) (map (from_text false) (kept_from old 0 new (production_total new)))
    ∙ tally_marked false (tally_all no_tally (map (from_text true) (kept_from new 0 old 0))) (kept_from old 0 new (production_total new))
    ∙ ap (λ (t : Tally). tally_all t (kept_from old 0 new (production_total new))) (tally_marked true no_tally (kept_from new 0 old 0)))
tally_pieces Directive.Augment old new =
    sym
    (tally_append no_tally (map (from_text false) (kept_from old 0 new 0)) (map (from_text true) (kept_from new 0 old (production_total old)))
    ∙ tally_marked true (tally_all no_tally (map (from_text false) (kept_from old 0 new 0))) (kept_from new 0 old (production_total old))
    ∙ ap (λ (t : Tally). tally_all t (kept_from new 0 old (production_total old))) (tally_marked false no_tally (kept_from old 0 new 0)))

-- ---- Limits

all_parameters_lem : (ps : List Production) → length (all_parameters (all_calls ps)) ≡ in_all (λ (p : Production). in_all (λ (c : Call). length c.parameters) p.calls) ps
all_parameters_lem ps = length_flat (λ (c : Call). c.parameters) (all_calls ps) ∙ in_all_flat (λ (c : Call). length c.parameters) (λ (p : Production). p.calls) ps

totals_pass_lem : (ps : List Production) → tally_passes (tally_all no_tally ps) ≡ totals_pass ps
unfolding tally_passes totals_pass
totals_pass_lem ps =
    let s : TallySums no_tally ps = tally_sums no_tally ps in
    let a : (tally_all no_tally ps).productions ≡ length ps = s.productions ∙ zero-add (length ps) in
    let b : (tally_all no_tally ps).expanded ≡ in_all (λ (p : Production). length (sequence p)) ps = s.expanded ∙ zero-add _ in
    let c : (tally_all no_tally ps).calls ≡ in_all (λ (p : Production). length p.calls) ps = s.calls ∙ zero-add _ ∙ length_flat (λ (p : Production). p.calls) ps in
    let d : (tally_all no_tally ps).parameters ≡ in_all (λ (p : Production). in_all (λ (c : Call). length c.parameters) p.calls) ps = s.parameters ∙ zero-add _ ∙ all_parameters_lem ps in
    rw (a, b, c, d)

or_right : (a b : Bool) → a ≡ false → (a || b) ≡ b
or_right a b e = rw e

limit_by : (ps : List Production) → all (λ (p : Production). not (production_passes p)) ps ≡ true → passes_limit ps ≡ tally_passes (tally_all no_tally ps)
unfolding passes_limit
limit_by ps e = or_right (any production_passes ps) (totals_pass ps) (all_none production_passes ps e) ∙ sym (totals_pass_lem ps)

-- marks play no part in a production's own limits
few_marked : (cs : List Call) → all (λ (c : Call). leb (length c.parameters) 8) cs ≡ true → all (λ (c : Call). leb (length c.parameters) 8) (map mark_second cs) ≡ true
few_marked cs e = all_map (λ (c : Call). leb (length c.parameters) 8) mark_second cs e

marked_within : (p : Production) → not (production_passes p) ≡ true → not (production_passes (from_second p)) ≡ true
unfolding sequence
marked_within p e =
    let f : ProductionFacts p = production_facts p (not-true (production_passes p) e) in
    rw (facts_production (from_second p)
    (record {
      size = f.size;
      calls = omega (arith, length-map p.calls mark_second, f.calls);
      parameters = few_marked p.calls f.parameters;
    }))

module _ (old new : List ℕ) (wo : whole old ≡ true) (wn : whole new ≡ true) (mo : (decode old).merged ≡ false) where
  abbrev merge : List Production
  merge = (merged_table (decode old) (decode new)).productions

  each_within : all (λ (p : Production). not (production_passes p)) (merged_table (decode old) (decode new)).productions ≡ true
  unfolding merged_table
  each_within =
      all_merged (λ (p : Production). not (production_passes p)) (decode new).directive (decode old).productions (map from_second (decode new).productions)
      (facts.limits old wo).each
      (all_map (λ (p : Production). not (production_passes p)) from_second (decode new).productions
      (all_weaker (λ (p : Production). not (production_passes p)) (λ (p : Production). not (production_passes (from_second p))) (decode new).productions marked_within (facts.limits new wn).each))

  pub tally_merged_lem : tally_merged old new ≡ tally_all no_tally (merged_table (decode old) (decode new)).productions
  unfolding tally_merged
  tally_merged_lem = tally_pieces (directive_in new) old new ∙ ap (tally_all no_tally) (sym (pieces old new wo mo))

  -- number 11
  pub merge_passes : merge_passes_limit (decode old) (decode new) ≡ tally_passes (tally_merged old new)
  unfolding merge_passes_limit
  merge_passes = limit_by merge each_within ∙ ap tally_passes (sym tally_merged_lem)

  -- a merge that passes no limit has room
  pub merge_room : merge_passes_limit (decode old) (decode new) ≡ false → TallyRoom (tally_merged old new)
  unfolding merge_passes_limit
  merge_room e =
      let k : LimitFacts merge = limit_facts merge e in
      let s : TallySums no_tally merge = tally_sums no_tally merge in
      rw tally_merged_lem
      (record {
        productions = omega (arith, s.productions, k.productions);
        events = omega (arith, s.events, events_in_all_lem merge k);
        expanded = omega (arith, s.expanded, k.events);
        calls = omega (arith, s.calls, length_flat (λ (p : Production). p.calls) merge, k.calls);
        parameters = omega (arith, s.parameters, all_parameters_lem merge, k.parameters);
      })
