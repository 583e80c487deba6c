-- `judge::spans::list_of` meets its contract, by the kind of the list.
use Prim.Native.Nat.{ℕ}
use mathlib.Core.Path.{◌≡◌, sym, ap, ◌∙◌}
use mathlib.Core.List.{List}
use Rattle.model.specs.Events.{modifiers_at}
use Rattle.list_scanner.specs.declared.lists.ListKind.{ListKind}
use Rattle.event_scanner.specs.declared.events.ListSpans.{ListSpans}
use Rattle.event_scanner.specs.Spans.{list_in}
use Rattle.list_scanner.specs.ModifierLists.{modifiers_in, list_of_kind}
use Rattle.list_masks.specs.Summary.{summary_of}
use Rattle.judge.proofs.spans.list_of.Goals as goal

-- the list by its kind
by_kind : (l : List ℕ) (list : ListSpans) (k : ListKind) → list.kind ≡ k
    → summary_of (list_in l list)
    ≡ summary_of (list_of_kind k list.bang list.colon (modifiers_in (modifiers_at l list.start)))
by_kind l list k e =
    ap
    (λ (j : ListKind).
    summary_of (list_of_kind j list.bang list.colon (modifiers_in (modifiers_at l list.start))))
    e

pub returns-in-Listed : goal.returns-in-Listed
returns-in-Listed c =
    c.modifiers_from.ensures
    ∙ sym (by_kind c.args.l.now
    c.args.list ListKind.Listed c.in-Listed.is)

pub returns-in-NoModifier : goal.returns-in-NoModifier
returns-in-NoModifier c =
    c.alone.ensures
    ∙ sym (by_kind c.args.l.now
    c.args.list ListKind.NoModifier c.in-NoModifier.is)

pub returns-in-AnyModifier : goal.returns-in-AnyModifier
returns-in-AnyModifier c =
    c.alone-in-AnyModifier.ensures
    ∙ sym (by_kind c.args.l.now
    c.args.list ListKind.AnyModifier c.in-AnyModifier.is)
