use native.Mathlib.Omega.{arith}
use mathlib.Core.Path.{refl, sym, ap, ◌∙◌}
use Rattle.line_writer.specs.Puts.{put_judged}
use Rattle.line_writer.proofs.EventWalk.{keys_start, key_told, keys_at}
use Rattle.line_writer.proofs.events.write_keys.Goals as goal

pub loop-mark-init : goal.loop-mark-init
loop-mark-init c =
    let a = c.args in
    (keys_start a.l.now a.out.now a.first a.at c.requires.0 c.requires.2, refl)

pub returns-in-Broken : goal.returns-in-Broken
returns-in-Broken c = absurd (key_told c.loop-mark.invariant.0 c.key_at.ensures c.in-Broken.is)

pub returns-in-End : goal.returns-in-End
returns-in-End c = sym (key_told c.loop-mark.invariant.0 c.key_at.ensures c.in-End.is)

pub write_judged-requires : goal.write_judged-requires
write_judged-requires c =
    let x = key_told c.loop-mark.invariant.0 c.key_at.ensures c.in-Key.is in
    (omega (arith, c.requires.1, c.loop-mark.invariant.1), x.0)

pub overflow_add-k : goal.overflow_add-k
overflow_add-k c =
    let x = key_told c.loop-mark.invariant.0 c.key_at.ensures c.in-Key.is in
    omega (arith, x.0)

pub loop-mark-smaller : goal.loop-mark-smaller
loop-mark-smaller c =
    let x = key_told c.loop-mark.invariant.0 c.key_at.ensures c.in-Key.is in
    omega (arith, x.1, x.2.inside)

pub loop-mark-preserved : goal.loop-mark-preserved
loop-mark-preserved c =
    let x = key_told c.loop-mark.invariant.0 c.key_at.ensures c.in-Key.is in (
      keys_at x.2 (c.write_judged.ensures ∙ ap (put_judged c.loop-mark.out c.loop-mark.k) c.judge_key-j.ensures),
      c.write_judged.auto.out ∙ c.loop-mark.invariant.1,
    )
