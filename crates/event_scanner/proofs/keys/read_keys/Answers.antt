use Prim.Native.Nat.{◌+◌, pred}
use Rattle.model.specs.Events.{key_at, keys_from}
use Rattle.model.specs.declared.scan.KeyRead.{KeyRead}
use Rattle.event_scanner.proofs.KeyCounts.{keyed_end, keyed_more, keyed_start, keyed_from, keys_step}
use Rattle.scanner.proofs.Ranges.{KeyIn, key_in}
use Rattle.scanner.proofs.Runs.{told}
use borrow.Author.Rules.{rules}
use lib.ListN.{length}
use mathlib.Core.Path.{◌∙◌, ◌≡◌, ap, sym}
use native.Mathlib.Omega.{arith}
use Rattle.event_scanner.proofs.keys.read_keys.Goals as goal

pub loop-next-init : goal.loop-next-init
loop-next-init c = (length c.args.l.now + 1, omega arith, search rules, omega arith, keyed_start (keys_from (length c.args.l.now + 1) c.args.l.now c.args.at))

pub returns-in-Broken : goal.returns-in-Broken
returns-in-Broken c =
    let inv = c.loop-next.invariant in
    let q : key_at c.args.l.now c.loop-next.i ≡ KeyRead.Broken = sym c.key_at.ensures ∙ c.in-Broken.is in
    sym (inv.4 ∙ ap (keyed_from c.loop-next.count) (keys_step inv.0 c.args.l.now c.loop-next.i KeyRead.Broken (omega arith) q))

pub returns-in-End : goal.returns-in-End
returns-in-End c =
    let inv = c.loop-next.invariant in
    let p = c.in-End.next in
    let q : key_at c.args.l.now c.loop-next.i ≡ KeyRead.End p = sym c.key_at.ensures ∙ c.in-End.is in
    sym (inv.4 ∙ ap (keyed_from c.loop-next.count) (keys_step inv.0 c.args.l.now c.loop-next.i (KeyRead.End p) (omega arith) q) ∙ keyed_end c.loop-next.count p)

pub overflow_add-count : goal.overflow_add-count
overflow_add-count c = omega arith

pub loop-next-smaller : goal.loop-next-smaller
loop-next-smaller c =
    let b = told (KeyIn (length c.args.l.now) c.loop-next.i) c.key_at.ensures c.in-Key.is (key_in c.args.l.now c.loop-next.i) in
    omega (arith, b.0, b.1)

pub loop-next-preserved : goal.loop-next-preserved
loop-next-preserved c =
    let l = c.args.l.now in
    let i = c.loop-next.i in
    let n = c.loop-next.count in
    let inv = c.loop-next.invariant in
    let f = inv.0 in
    let mark = c.in-Key.mark in
    let byte = c.in-Key.byte in
    let p = c.in-Key.next in
    let q : key_at l i ≡ KeyRead.Key mark byte p = sym c.key_at.ensures ∙ c.in-Key.is in
    let b = told (KeyIn (length l) i) c.key_at.ensures c.in-Key.is (key_in l i) in (
      pred f,
      omega (arith, b.0),
      b.1,
      omega (arith, b.0),
      inv.4 ∙ ap (keyed_from n) (keys_step f l i (KeyRead.Key mark byte p) (omega arith) q)
          ∙ keyed_more n (record { mark = mark; byte = byte }) (keys_from (pred f) l p),
    )
