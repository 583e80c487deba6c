-- `writing::bytes::put_joined` meets its contract.
use Rattle.std.proofs.Common.{ℕ, ◌+◌, ◌*◌, ◌≤◌, ◌<◌, arith}
use Rattle.std.proofs.Math.Nat.{mul-le-mul_left}
use Rattle.writing.proofs.Laws.{put_none, put_then, put_as}
use Rattle.writing.proofs.Joined.{run_joined, run_joined_none}
use Rattle.writing.proofs.bytes.put_joined.Goals as goal

-- the k-th text and its separator end before the last may
within : (at w k n i j : ℕ) → k < n → i ≤ at + (w + 1) * k → j ≤ i + 1 → j + w ≤ at + (w + 1) * n
within at w k n i j h p q =
    let m : (w + 1) * (k + 1) ≤ (w + 1) * n = mul-le-mul_left (w + 1) (omega arith) in
    omega arith

pub loop-k-init : goal.loop-k-init
loop-k-init g c t w s = (put_as (run_joined_none c.args.b t) (put_none _ _), omega arith)

pub put_separator-next-requires : goal.put_separator-next-requires
put_separator-next-requires g c =
    let r = c.requires in
    let w = c.loop-k in
    omega (arith, within c.args.at r.width w.k c.args.n w.next w.next c.loop-k-test.true (w.invariant r.text r.width r.each).1 (omega arith), r.room)

pub step-next-requires : goal.step-next-requires
step-next-requires g c =
    let r = c.requires in
    let w = c.loop-k in
    let p = c.put_separator-next in
    r.callable _ _ _ c.loop-k-test.true
    (omega (arith, within c.args.at r.width w.k c.args.n w.next p.result c.loop-k-test.true (w.invariant r.text r.width r.each).1 p.ensures.1))

pub loop-k-preserved : goal.loop-k-preserved
loop-k-preserved g c t w s =
    let i = c.loop-k.invariant t w s in
    let p = c.put_separator-next.ensures in
    let q = s.puts _ _ _ _ _ c.loop-k-test.true c.step-next.ensures in
    (put_as (run_joined c.args.b t c.loop-k.k) (put_then i.0 (put_then p.0 q.0)), omega (arith, i.1, p.1, q.1))
