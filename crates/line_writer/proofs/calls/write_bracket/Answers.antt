use Prim.Native.Nat.{ℕ}
use mathlib.Core.Path.{◌≡◌, sym, ap, ◌∙◌, subst}
use mathlib.Core.List.{List, map}
use lib.ListN.{length}
use Rattle.model.specs.Calls.{Parameters, parameters_at}
use Rattle.model.specs.Compiling.{in_text}
use Rattle.call_scanner.specs.declared.right.ParametersOpen.{ParametersOpen}
use Rattle.call_scanner.specs.RightSide.{open_at, parameters_counted}
use Rattle.call_scanner.proofs.RightSide.{opened, opened_is, OpenIn, open_in}
use Rattle.line_writer.specs.Puts.{put_parameters}
use Rattle.line_writer.specs.Reads.{ParametersFit, spans_in}
use Rattle.line_writer.proofs.CallWalk.{put_no_parameter}
use Rattle.line_writer.proofs.calls.write_bracket.Goals as goal

-- the parameters that stand there, at the value that a match found
opened_told : (l : List ℕ) (at : ℕ) {r s : ParametersOpen} → r ≡ open_at l at → r ≡ s → parameters_at l at ≡ opened l s
opened_told l at p q = sym (opened_is l at) ∙ ap (opened l) (sym p ∙ q)

pub write_parameters-requires : goal.write_parameters-requires
write_parameters-requires c =
    let i = subst (OpenIn (length c.args.l.now) c.args.at) (sym c.open_parameters.ensures ∙ c.in-First.is) (open_in c.args.l.now c.args.at c.requires.0.0) in
    ((i.1, c.requires.0.1), c.requires.1)

pub returns-in-Empty : goal.returns-in-Empty
returns-in-Empty c =
    let a = c.args in
    let e = opened_told a.l.now a.at c.open_parameters.ensures c.in-Empty.is in (
      ap parameters_counted (sym e),
      λ h.
          sym (ap (λ (r : Parameters). put_parameters a.out.now a.first (map (in_text a.base) (spans_in r))) e
          ∙ put_no_parameter a.out.now a.first),
    )

pub returns-in-First : goal.returns-in-First
returns-in-First c =
    let a = c.args in
    let e = opened_told a.l.now a.at c.open_parameters.ensures c.in-First.is in
    let w = c.write_parameters.ensures in (
      w.0 ∙ ap parameters_counted (sym e),
      λ h.
          w.1 (subst (λ (r : Parameters). ParametersFit r a.first) e h)
          ∙ ap (λ (r : Parameters). put_parameters a.out.now a.first (map (in_text a.base) (spans_in r))) (sym e),
    )
