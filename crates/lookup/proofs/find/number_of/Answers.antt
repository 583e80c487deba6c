-- `lookup::find::number_of` meets its contract. The loop's invariant: the bytes from i on make the number, which has no more digits
-- than they are. Assumes nothing.
use Prim.Native.Nat.{ℕ, suc, ◌+◌, ◌-◌, ◌*◌, ◌^◌, ◌≤◌, ◌<◌}
use native.Mathlib.Omega.{arith}
use native.Mathlib.Nat.{pow-suc, pow-le-pow_right}
use mathlib.Core.Path.{◌≡◌, ap, ◌∙◌}
use mathlib.Core.List.{◌∷◌}
use lib.ListN.{get_or}
use borrow.Author.Rules.{rules}
use Rattle.model.specs.Lists.{part}
use Rattle.lookup.proofs.Packing.{part_cons}
use Rattle.lookup.proofs.find.number_of.Goals as goal

pub loop-i-init : goal.loop-i-init
loop-i-init c =
    let to = c.args.to in
    let z : to - to ≡ 0 = omega arith in
    (search rules, search rules, rw z, rw z (omega arith))

-- there is room for one more digit

room : (v n : ℕ) → v < 256 ^ n → n ≤ 7 → v < 72057594037927936
room v n h k = let p : 256 ^ n ≤ 256 ^ 7 = pow-le-pow_right (omega arith) k in omega (arith, p)

pub overflow_mul-v : goal.overflow_mul-v
overflow_mul-v c =
    let l = c.loop-i in
    let a = c.args in
    omega (arith, room l.v (a.to - l.i) l.invariant.3 (omega (arith, c.requires, c.loop-i-test.true)))

pub overflow_cast-v : goal.overflow_cast-v
overflow_cast-v c = omega (arith, c.shared_slice_known-1.given (c.loop-i.i - 1))

pub overflow_add-v : goal.overflow_add-v
overflow_add-v c =
    let l = c.loop-i in
    let a = c.args in
    omega (
      arith,
      room l.v (a.to - l.i) l.invariant.3 (omega (arith, c.requires, c.loop-i-test.true)),
      c.shared_slice_known-1.given (l.i - 1),
    )

pub loop-i-preserved : goal.loop-i-preserved
loop-i-preserved c =
    let l = c.loop-i in
    let a = c.args in
    let w = a.w.now in
    let i = l.i - 1 in
    let e : i + 1 ≡ l.i = omega (arith, c.loop-i-test.true) in
    let b : get_or w i 0 < 256 = omega (arith, c.shared_slice_known-1.given i) in
    let p : part w i a.to ≡ get_or w i 0 ∷ part w l.i a.to =
    rw e at (part_cons w i a.to (omega arith) (omega (arith, c.requires)))
    in
    let n : a.to - i ≡ suc (a.to - l.i) = omega arith in
    let q : 256 ^ (a.to - i) ≡ 256 ^ (a.to - l.i) * 256 = ap (λ (m : ℕ). 256 ^ m) n ∙ pow-suc 256 (a.to - l.i) in (
      search rules,
      search rules,
      rw p (omega (arith, l.invariant.2)),
      omega (arith, q, l.invariant.3, b),
    )

pub returns : goal.returns
returns c =
    let l = c.loop-i in
    let e : l.i ≡ c.args.from = omega (arith, c.loop-i-test.false, l.invariant.0) in
    rw (← e) l.invariant.2
