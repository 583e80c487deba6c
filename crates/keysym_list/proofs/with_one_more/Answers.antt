-- `keysym_list::with_one_more` meets its contract, slot by slot.
use Prim.Native.Nat.{ℕ, ◌+◌, ◌≤◌}
use native.Mathlib.Omega.{arith}
use mathlib.Core.Path.{ap, ◌∙◌}
use mathlib.Core.Bool.{Bool, true, false, not, ◌||◌}
use lib.Dec.{eqb, lit≤}
use Rattle.model.specs.Named.{listed_mark}
use Rattle.keysym_list.specs.declared.Carried.{Carried}
use Rattle.keysym_list.specs.Slots.{slot_passed, with_one_more}
use Rattle.keysym_list.proofs.with_one_more.Goals as goal

mark_most : (tilde : Bool) → listed_mark tilde ≤ 0x40000000
mark_most true = lit≤ tt
mark_most false = lit≤ tt

pub overflow_add-v : goal.overflow_add-v
overflow_add-v c = omega (arith, c.listed_mark.ensures, mark_most c.args.tilde, c.requires.1)

pub returns : goal.returns
unfolding with_one_more
returns c =
    let a = c.args in
    let first =
    c.pass-first.ensures
    ∙ ap (λ (m : ℕ). slot_passed a.tilde a.k.first (a.v + m)) c.listed_mark.ensures in
    let second = c.pass-second.ensures ∙ ap (λ (p : Carried). slot_passed a.tilde a.k.second p.carried) first in
    let third = c.pass-third.ensures ∙ ap (λ (p : Carried). slot_passed a.tilde a.k.third p.carried) second in
    let fourth = c.pass-fourth.ensures ∙ ap (λ (p : Carried). slot_passed a.tilde a.k.fourth p.carried) third in
    λ i.
    record {
      keysyms = record { first = (first i).slot; second = (second i).slot; third = (third i).slot; fourth = (fourth i).slot };
      over = a.over || not (eqb (fourth i).carried 0);
    }
