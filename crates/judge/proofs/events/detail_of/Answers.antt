-- `judge::events::detail_of` meets its contract.
use mathlib.Core.Path.{sym, ap, ◌∙◌}
use Rattle.judge.specs.Judged.{read_summary}
use Rattle.judge.proofs.Detailed.{detail_none, detail_fixed, detail_named_lem}
use Rattle.judge.proofs.events.detail_of.Goals as goal

pub returns-then-word-eq0 : goal.returns-then-word-eq0
returns-then-word-eq0 c = sym (detail_none c.args.ty c.args.word.now c.if-word-eq0.true)

pub returns-in-Value : goal.returns-in-Value
returns-in-Value c =
    c.of_read.ensures ∙ sym
    (detail_fixed c.args.ty
    c.args.word.now _ c.if-word-eq0.false
    c.in-Value.is)

pub returns-in-Unspecified : goal.returns-in-Unspecified
returns-in-Unspecified c =
    c.of_read-in-Unspecified.ensures ∙ ap read_summary c.detail_named.ensures ∙ sym
    (detail_named_lem c.args.ty
    c.args.word.now c.if-word-eq0.false
    c.in-Unspecified.is)
