use native.Mathlib.Omega.{arith}
use Prim.Native.Nat.{◌+◌}
use mathlib.Core.Path.{sym, ap, ◌∙◌}
use mathlib.Core.Bool.{Bool, cond}
use borrow.Author.Tests.{le-leb, lt-leb}
use Rattle.tables.specs.Writing.{put_event}
use Rattle.line_writer.proofs.events.write_kept.Goals as goal

pub put_event-requires : goal.put_event-requires
put_event-requires c = (c.requires, omega (arith, c.if-k-lt256.true))

pub returns-then-k-lt256 : goal.returns-then-k-lt256
returns-then-k-lt256 c =
    let a = c.args in
    c.put_event.ensures
    ∙ ap (λ (b : Bool). cond b (put_event a.out.now a.k a.e) a.out.now) (sym (le-leb (a.k + 1) 256 (omega (arith, c.if-k-lt256.true))))

pub returns-else-k-lt256 : goal.returns-else-k-lt256
returns-else-k-lt256 c =
    let a = c.args in
    ap (λ (b : Bool). cond b (put_event a.out.now a.k a.e) a.out.now) (sym (lt-leb (a.k + 1) 256 (omega (arith, c.if-k-lt256.false))))
