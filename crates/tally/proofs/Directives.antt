-- What a merge keeps, for each directive of the new table: how many there are, that there is room for them, and the bytes.
use Prim.Native.Nat.{ℕ, ◌≤◌}
use native.Mathlib.Omega.{arith}
use mathlib.Core.Path.{◌≡◌, refl}
use mathlib.Core.Bool.{Bool, true, false}
use mathlib.Core.List.{List, [], ◌∷◌, ◌++◌}
use Rattle.model.specs.Tables.{Production}
use Rattle.model.specs.declared.events.Directive.{Directive}
use Rattle.tables.specs.Reading.{production_total, directive_in}
use Rattle.tables.specs.Whole.{whole}
use Rattle.tally.specs.Kept.{each_marked, kept_from, kept_by}
use Rattle.tally.specs.Counting.{no_tally, tally_one, tally_all, tally_by, tally_merged, put_kept, TallyBelow}
use Rattle.tally.specs.declared.count.Tally.{Tally}
use Rattle.tally.proofs.Tallies.{kept_below, all_fewer}

-- ---- No count is large

below_more : (a b : ℕ) (t : Tally) → a ≤ b → TallyBelow a t → TallyBelow b t
below_more a b t h r =
    record {
      productions = omega (arith, r.productions);
      events = omega (arith, r.events);
      expanded = omega (arith, r.expanded);
      calls = omega (arith, r.calls);
      parameters = omega (arith, r.parameters);
    }

none_below : TallyBelow 0 no_tally
none_below = record { productions = omega arith; events = omega arith; expanded = omega arith; calls = omega arith; parameters = omega arith }

pub merged_below : (old new : List ℕ) → whole old ≡ true → whole new ≡ true → TallyBelow 10000 (tally_merged old new)
unfolding tally_merged tally_by
merged_below old new w v = by (directive_in new)
  where
    first : (l other : List ℕ) → whole l ≡ true → TallyBelow 256 (tally_all no_tally (kept_from l 0 other 0))
    first l other u = kept_below l u other 0 0 no_tally none_below

    both : (l m : List ℕ) → whole l ≡ true → whole m ≡ true
        → TallyBelow 10000 (tally_all (tally_all no_tally (kept_from l 0 m 0)) (kept_from m 0 l (production_total l)))
    both l m u x = below_more 512 10000 _ (omega arith) (kept_below m x l (production_total l) 256 (tally_all no_tally (kept_from l 0 m 0)) (first l m u))

    by : (d : Directive) → TallyBelow 10000 (tally_by d old new)
    by Directive.Replace = below_more 256 10000 _ (omega arith) (first new old v)
    by Directive.Override = both new old v w
    by Directive.Augment = both old new w v

-- ---- By the directive

module _ (old new : List ℕ) (Fits : Tally → Type 0) (fewer : (t : Tally) (p : Production) → Fits (tally_one t p) → Fits t) (fits : Fits (tally_merged old new)) where
  pub replace_fits : directive_in new ≡ Directive.Replace → Fits (tally_all no_tally (kept_from new 0 old 0))
  unfolding tally_merged tally_by
  replace_fits e = rw e at fits

  pub override_fits : directive_in new ≡ Directive.Override
      → Fits (tally_all (tally_all no_tally (kept_from new 0 old 0)) (kept_from old 0 new (production_total new)))
  unfolding tally_merged tally_by
  override_fits e = rw e at fits

  pub augment_fits : directive_in new ≡ Directive.Augment
      → Fits (tally_all (tally_all no_tally (kept_from old 0 new 0)) (kept_from new 0 old (production_total old)))
  unfolding tally_merged tally_by
  augment_fits e = rw e at fits

  pub first_fits : (t : Tally) (ps : List Production) → Fits (tally_all t ps) → Fits t
  first_fits t ps f = all_fewer Fits fewer t ps f

module _ (put : Bool → List ℕ → Tally → Production → List ℕ) where
  put_more : (s : Bool) (l : List ℕ) (t : Tally) (ps : List Production) (ks : List (Bool × Production))
      → put_kept put l t (each_marked s ps ++ ks) ≡ put_kept put (put_kept put l t (each_marked s ps)) (tally_all t ps) ks
  unfolding put_kept tally_all
  put_more s l t [] ks = refl
  put_more s l t (p ∷ ps) ks = put_more s (put s l t p) (tally_one t p) ps ks

  module _ (old new out : List ℕ) where
    pub replace_kept : directive_in new ≡ Directive.Replace
        → (tally_merged old new ≡ tally_all no_tally (kept_from new 0 old 0))
        × (put_kept put out no_tally (kept_by (directive_in new) old new) ≡ put_kept put out no_tally (each_marked true (kept_from new 0 old 0)))
    unfolding tally_merged tally_by kept_by
    replace_kept e = (rw e, rw e)

    pub override_kept : directive_in new ≡ Directive.Override
        → (tally_merged old new ≡ tally_all (tally_all no_tally (kept_from new 0 old 0)) (kept_from old 0 new (production_total new)))
        × (put_kept put out no_tally (kept_by (directive_in new) old new)
        ≡ put_kept put (put_kept put out no_tally (each_marked true (kept_from new 0 old 0))) (tally_all no_tally (kept_from new 0 old 0)) (each_marked false (kept_from old 0 new (production_total new))))
    unfolding tally_merged tally_by kept_by
    override_kept e = (rw e, rw e (put_more true out no_tally (kept_from new 0 old 0) _))

    pub augment_kept : directive_in new ≡ Directive.Augment
        → (tally_merged old new ≡ tally_all (tally_all no_tally (kept_from old 0 new 0)) (kept_from new 0 old (production_total old)))
        × (put_kept put out no_tally (kept_by (directive_in new) old new)
        ≡ put_kept put (put_kept put out no_tally (each_marked false (kept_from old 0 new 0))) (tally_all no_tally (kept_from old 0 new 0)) (each_marked true (kept_from new 0 old (production_total old))))
    unfolding tally_merged tally_by kept_by
    augment_kept e = (rw e, rw e (put_more false out no_tally (kept_from old 0 new 0) _))
