-- Events of which all are kept: each of them is, and as many are kept as are written.
use Prim.Native.Nat.{ℕ, suc}
use native.Mathlib.Omega.{arith}
use mathlib.Core.Path.{◌≡◌, refl, ap, ◌∙◌}
use mathlib.Core.List.{List, [], ◌∷◌}
use lib.ListN.{length}
use Rattle.model.specs.Events.{WrittenEvent}
use Rattle.model.specs.Judging.{judged}
use Rattle.model.specs.Compiling.{EventsJudged, keep, crowded, keep_one_more, crowded_with, judged_next, judged_all}
use Rattle.model.specs.declared.events.KeptEvent.{KeptEvent}
use Rattle.model.specs.declared.answers.Judged.{Judged}

-- the first event of a list that is kept is kept
pub record KeptFirst (e : WrittenEvent) (es : List WrittenEvent) (ks : List KeptEvent) : Type 0 where
  pub first : KeptEvent
  pub others : List KeptEvent
  pub is : judged e ≡ Judged.Keep first
  pub are : judged_all es ≡ keep others
  pub all : ks ≡ first ∷ others

kept_rest : (e : WrittenEvent) (es : List WrittenEvent) (ks : List KeptEvent) (k : KeptEvent) (r : EventsJudged)
    → judged e ≡ Judged.Keep k → judged_all es ≡ r → keep_one_more k r ≡ keep ks → KeptFirst e es ks
kept_rest e es ks k (keep os) p q h = record { first = k; others = os; is = p; are = q; all = cc }
kept_rest e es ks k crowded p q h = let z : ◌≡◌ {A = ℕ} 0 1 = cc in absurd (omega arith)
kept_rest e es ks k (EventsJudged.refuse n) p q h = let z : ◌≡◌ {A = ℕ} 0 1 = cc in absurd (omega arith)

not_kept : (r : EventsJudged) (ks : List KeptEvent) → crowded_with r ≡ keep ks → ⊥
not_kept (keep os) ks h = let z : ◌≡◌ {A = ℕ} 0 1 = cc in omega arith
not_kept crowded ks h = let z : ◌≡◌ {A = ℕ} 0 1 = cc in omega arith
not_kept (EventsJudged.refuse n) ks h = let z : ◌≡◌ {A = ℕ} 0 1 = cc in omega arith

kept_judged : (e : WrittenEvent) (es : List WrittenEvent) (ks : List KeptEvent) (j : Judged) → judged e ≡ j
    → judged_next j (judged_all es) ≡ keep ks → KeptFirst e es ks
kept_judged e es ks (Judged.Keep k) p h = kept_rest e es ks k (judged_all es) p refl h
kept_judged e es ks Judged.Crowded p h = absurd (not_kept (judged_all es) ks h)
kept_judged e es ks (Judged.Refuse n) p h = let z : ◌≡◌ {A = ℕ} 0 1 = cc in absurd (omega arith)

pub kept_first : (e : WrittenEvent) (es : List WrittenEvent) (ks : List KeptEvent) → judged_all (e ∷ es) ≡ keep ks → KeptFirst e es ks
unfolding judged_all
kept_first e es ks h = kept_judged e es ks (judged e) refl h

pub none_kept : (ks : List KeptEvent) → judged_all [] ≡ keep ks → ks ≡ []
unfolding judged_all
none_kept ks h = cc

-- as many are kept as are written
pub kept_length : (es : List WrittenEvent) (ks : List KeptEvent) → judged_all es ≡ keep ks → length ks ≡ length es
kept_length [] ks h = ap length (none_kept ks h)
kept_length (e ∷ es) ks h =
    let f = kept_first e es ks h in
    ap length f.all ∙ ap suc (kept_length es f.others f.are)
