-- `keysyms::search::name_at` meets its contract. Assumes nothing.
use Prim.Native.Nat.{ℕ}
use native.Mathlib.Omega.{arith}
use mathlib.Core.Path.{◌≡◌, ap, ◌∙◌}
use mathlib.Core.List.{List}
use lib.ListN.{length, get_or}
use Rattle.keysyms.specs.Table.{name_starts}
use Rattle.keysyms.proofs.Constants.{start, bytes_total, starts_total, name_part_lem, start_end, end_within}
use Rattle.keysyms.proofs.search.name_at.Goals as goal

pub bounds-starts-place : goal.bounds-starts-place
bounds-starts-place c = omega (arith, c.requires.2, ap length c.requires.1 ∙ starts_total)

pub bounds-starts-place-2 : goal.bounds-starts-place-2
bounds-starts-place-2 c = omega (arith, c.requires.2, ap length c.requires.1 ∙ starts_total)

-- a start as it is read
read : (starts : List ℕ) → (i x : ℕ) → starts ≡ name_starts → x ≡ get_or starts i 0 → x ≡ start i
read starts i x h e = e ∙ ap (λ (l : List ℕ). get_or l i 0) h

pub slice_bounds-result-count : goal.slice_bounds-result-count
slice_bounds-result-count c =
    let a = c.args in
    omega
    (arith, read _ _ _ c.requires.1 c.wide-from.ensures, read _ _ _ c.requires.1 c.wide-to.ensures, start_end a.place c.requires.2)

pub slice_bounds-result-start : goal.slice_bounds-result-start
slice_bounds-result-start c =
    let a = c.args in
    omega
    (arith, read _ _ _ c.requires.1 c.wide-from.ensures, read _ _ _ c.requires.1 c.wide-to.ensures, start_end a.place c.requires.2)

pub slice_bounds-result-end : goal.slice_bounds-result-end
slice_bounds-result-end c =
    omega
    (arith, read _ _ _ c.requires.1 c.wide-to.ensures, end_within c.args.place c.requires.2, ap length c.requires.0 ∙ bytes_total)

pub returns : goal.returns
returns c =
    let a = c.args in
    rw (read _ _ _ c.requires.1 c.wide-from.ensures, read _ _ _ c.requires.1 c.wide-to.ensures, c.requires.0)
    (name_part_lem a.place c.requires.2)
