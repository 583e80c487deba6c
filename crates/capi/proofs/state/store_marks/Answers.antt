-- `capi::state::store_marks` meets its contract.
use native.Mathlib.Omega.{arith}
use mathlib.Core.Path.{ap, ap₂, ◌∙◌}
use Prim.Native.Nat.{ℕ}
use mathlib.Core.List.{List}
use mathlib.Core.Bool.{cond}
use Rattle.words.specs.Words.{put_word}
use Rattle.capi.proofs.StateBytes.{put_four, open_word}
use Rattle.capi.proofs.state.store_marks.Goals as goal

pub returns : goal.returns
returns c =
    let a = c.args in
    c.put_mark-4.ensures
    ∙ ap (λ (l : List ℕ). put_word l 3 0) (
    c.put_mark-3.ensures
    ∙ ap₂ (λ (l : List ℕ) (n : ℕ). put_word l 2 n)
    (c.put_mark-2.ensures ∙ ap (λ (l : List ℕ). put_word l 1 a.selected) c.put_mark.ensures)
    (c.from.ensures ∙ open_word a.«open»)
    )
    ∙ put_four a.out.now a.kept a.selected (cond a.«open» 1 0) 0 (omega (arith, c.requires))
