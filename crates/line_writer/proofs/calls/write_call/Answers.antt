use native.Mathlib.Omega.{arith}
use Prim.Native.Nat.{ℕ, ◌+◌}
use mathlib.Core.Path.{◌≡◌, refl, sym, ap, ◌∙◌, subst}
use mathlib.Core.Bool.{false}
use mathlib.Core.List.{List}
use lib.ListN.{length}
use Rattle.model.specs.Calls.{span, call_at, parameters_at}
use Rattle.model.specs.declared.scan.CallRead.{CallRead}
use Rattle.call_scanner.specs.declared.right.ParametersRead.{ParametersRead}
use Rattle.model.specs.Compiling.{in_text}
use Rattle.call_scanner.specs.RightSide.{call_counted, call_spans, parameters_counted}
use Rattle.call_scanner.proofs.RightSide.{CallSpansIn, call_spans_in}
use Rattle.scanner.proofs.Ranges.{CallIn, call_in_lem}
use Rattle.scanner.proofs.Runs.{told}
use Rattle.tables.specs.Writing.{put_call}
use Rattle.line_writer.proofs.calls.write_call.Goals as goal

-- a whole call was read
read : (l : List ℕ) (at start end : ℕ) {r : CallRead} {p s : ParametersRead} → r ≡ call_at l at → r ≡ CallRead.Name start end
    → p ≡ parameters_counted (parameters_at l (end + 1)) → p ≡ s → call_spans l (call_at l at) ≡ call_counted start end s
read l at start end e f g h = ap (call_spans l) (sym e ∙ f) ∙ ap (call_counted start end) (sym g ∙ h)

pub overflow_add-end : goal.overflow_add-end
overflow_add-end c =
    let l = c.args.l.now in
    let b = told (CallIn (length l) c.args.at) c.call_at.ensures c.in-Name.is (call_in_lem l c.args.at) in
    omega (arith, b.2, c.requires.0.1)

pub write_bracket-requires : goal.write_bracket-requires
write_bracket-requires c =
    let l = c.args.l.now in
    let b = told (CallIn (length l) c.args.at) c.call_at.ensures c.in-Name.is (call_in_lem l c.args.at) in
    ((omega (arith, b.2), c.requires.0.1), c.requires.1)

pub write_name-requires : goal.write_name-requires
write_name-requires c =
    let l = c.args.l.now in
    let b = subst (CallSpansIn (length l) c.args.at) (read c.args.l.now c.args.at c.in-Name.start c.in-Name.end c.call_at.ensures c.in-Name.is c.write_bracket.ensures.0 c.in-Parameters.is) (call_spans_in l c.args.at) in
    ((omega (arith, b.1), omega (arith, b.2, b.3, c.requires.0.1), omega (arith, b.2, b.3, c.requires.0.1)), omega (arith, c.requires.1.0, c.write_bracket.auto.out))

pub returns-in-Broken : goal.returns-in-Broken
returns-in-Broken c = (ap (call_spans c.args.l.now) (sym c.in-Broken.is ∙ c.call_at.ensures), tt)

pub returns-in-End : goal.returns-in-End
returns-in-End c = (ap (call_spans c.args.l.now) (sym c.in-End.is ∙ c.call_at.ensures), refl)

pub returns-in-Broken-write_bracket : goal.returns-in-Broken-write_bracket
returns-in-Broken-write_bracket c = (
  ap (call_counted c.in-Name.start c.in-Name.end) (sym c.in-Broken-write_bracket.is ∙ c.write_bracket.ensures.0)
      ∙ ap (call_spans c.args.l.now) (sym c.in-Name.is ∙ c.call_at.ensures),
  tt,
)

pub returns-in-Parameters : goal.returns-in-Parameters
returns-in-Parameters c =
    let a = c.args in
    let start = c.in-Name.start in
    let end = c.in-Name.end in (
      sym (read c.args.l.now c.args.at c.in-Name.start c.in-Name.end c.call_at.ensures c.in-Name.is c.write_bracket.ensures.0 c.in-Parameters.is),
      λ h f.
          c.write_name.ensures h
          ∙ ap (λ (o : List ℕ). put_call o a.n false (in_text a.base (span start end)) c.in-Parameters.count) (c.write_bracket.ensures.1 f),
    )
