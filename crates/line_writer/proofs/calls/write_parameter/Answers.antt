use native.Mathlib.Omega.{arith}
use Prim.Native.Nat.{◌+◌, ◌-◌}
use mathlib.Core.Path.{◌≡◌, ap, ◌∙◌}
use Rattle.model.specs.declared.scan.Span.{Span}
use Rattle.tables.specs.Writing.{put_parameter}
use Rattle.line_writer.proofs.calls.write_parameter.Goals as goal

pub put_parameter-requires : goal.put_parameter-requires
put_parameter-requires c =
    let e : c.in_text-s.result.start ≡ c.args.base + c.args.start = ap (λ (x : Span). x.start) c.in_text-s.ensures in
    let f : c.in_text-s.result.len ≡ c.args.end - c.args.start = ap (λ (x : Span). x.len) c.in_text-s.ensures in
    ((c.requires.1, omega (arith, c.if-k-lt256.true)), (omega (arith, c.requires.0.0, c.requires.0.1), omega (arith, c.requires.0.1)))

pub returns-then-k-lt256 : goal.returns-then-k-lt256
returns-then-k-lt256 c h =
    let a = c.args in
    c.put_parameter.ensures ∙ ap (put_parameter a.out.now a.k) c.in_text-s.ensures

pub returns-else-k-lt256 : goal.returns-else-k-lt256
returns-else-k-lt256 c h = absurd (omega (arith, c.if-k-lt256.false, h))
