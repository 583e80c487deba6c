use native.Mathlib.Omega.{arith}
use Prim.Native.Nat.{◌+◌, ◌-◌}
use mathlib.Core.Path.{◌≡◌, ap, ◌∙◌}
use mathlib.Core.Bool.{false}
use Rattle.model.specs.declared.scan.Span.{Span}
use Rattle.tables.specs.Writing.{put_call}
use Rattle.line_writer.proofs.calls.write_name.Goals as goal

pub put_call-requires : goal.put_call-requires
put_call-requires c =
    let e : c.in_text-s.result.start ≡ c.args.base + c.args.start = ap (λ (x : Span). x.start) c.in_text-s.ensures in
    let f : c.in_text-s.result.len ≡ c.args.end - c.args.start = ap (λ (x : Span). x.len) c.in_text-s.ensures in
    ((c.requires.1, omega (arith, c.if-n-lt128.true)), (omega (arith, c.requires.0.0, c.requires.0.1), omega (arith, c.requires.0.1), omega (arith, c.requires.0.2)))

pub returns-then-n-lt128 : goal.returns-then-n-lt128
returns-then-n-lt128 c h =
    let a = c.args in
    c.put_call.ensures ∙ ap (λ (x : Span). put_call a.out.now a.n false x a.count) c.in_text-s.ensures

pub returns-else-n-lt128 : goal.returns-else-n-lt128
returns-else-n-lt128 c h = absurd (omega (arith, c.if-n-lt128.false, h))
