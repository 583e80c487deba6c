-- One production further in the walk over the productions that are kept of a table: what is left comes to the whole.
use Prim.Native.Nat.{ℕ, ◌+◌, ◌≤◌, ◌<◌}
use mathlib.Core.Path.{◌≡◌}
use mathlib.Core.Bool.{Bool, true, false}
use mathlib.Core.List.{List}
use Rattle.model.specs.Tables.{Production}
use Rattle.model.specs.Merging.{is_among}
use Rattle.tables.specs.Reading.{production_total, production_entry}
use Rattle.tally.specs.Kept.{first_of, each_marked, kept_from}
use Rattle.tally.specs.Counting.{tally_one, tally_all, put_kept}
use Rattle.tally.specs.declared.count.Tally.{Tally}
use Rattle.tally.proofs.Steps.{kept_next, kept_done}
use Rattle.tally.proofs.Tallies.{all_fewer}

module _ (l : List ℕ) (p : ℕ) (other : List ℕ) (n : ℕ) where
  module _ (h : p < production_total l) where
    -- there is room for one that is kept, where there is for all
    pub room_next : (Fits : Tally → Type 0) → ((t : Tally) (q : Production) → Fits (tally_one t q) → Fits t) → is_among (first_of other n) (production_entry l p) ≡ false
        → (t : Tally) → Fits (tally_all t (kept_from l p other n)) → Fits (tally_one t (production_entry l p))
    unfolding tally_all
    room_next Fits fewer e t f =
        all_fewer Fits fewer (tally_one t (production_entry l p)) (kept_from l (p + 1) other n) (rw (kept_next l p other n h, e) at f)

    module _ (put : Bool → List ℕ → Tally → Production → List ℕ) (s : Bool) (out : List ℕ) (t : Tally) where
      pub taken : (o : List ℕ) (u : Tally) → is_among (first_of other n) (production_entry l p) ≡ false
          → u ≡ tally_one t (production_entry l p) → o ≡ put s out t (production_entry l p)
          → (tally_all t (kept_from l p other n) ≡ tally_all u (kept_from l (p + 1) other n))
          × (put_kept put out t (each_marked s (kept_from l p other n)) ≡ put_kept put o u (each_marked s (kept_from l (p + 1) other n)))
      unfolding tally_all put_kept
      taken o u e a b = (rw (kept_next l p other n h, e, a), rw (kept_next l p other n h, e, a, b))

      pub passed : is_among (first_of other n) (production_entry l p) ≡ true
          → (tally_all t (kept_from l p other n) ≡ tally_all t (kept_from l (p + 1) other n))
          × (put_kept put out t (each_marked s (kept_from l p other n)) ≡ put_kept put out t (each_marked s (kept_from l (p + 1) other n)))
      passed e = (rw (kept_next l p other n h, e), rw (kept_next l p other n h, e))

  pub none_left : production_total l ≤ p → (put : Bool → List ℕ → Tally → Production → List ℕ) (s : Bool) (out : List ℕ) (t : Tally)
      → (t ≡ tally_all t (kept_from l p other n)) × (out ≡ put_kept put out t (each_marked s (kept_from l p other n)))
  unfolding tally_all put_kept
  none_left h put s out t = (rw (kept_done l p other n h), rw (kept_done l p other n h))
