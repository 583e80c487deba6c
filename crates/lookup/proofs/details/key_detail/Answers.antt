-- `lookup::details::key_detail` meets its contract. Assumes nothing.
use Prim.Native.Nat.{◌-◌}
use native.Mathlib.Omega.{arith}
use mathlib.Core.Path.{◌≡◌, sym, ap, ◌∙◌}
use lib.ListN.{length, take, drop, length-drop}
use lib.Seq.{take_all}
use borrow.Author.Tests.{eq-eqb, ne_eqb}
use Rattle.model.specs.Details.{key_detail, number_in}
use Rattle.model.specs.Limits.{keysym_limit}
use Rattle.model.specs.Bytes.{is_digit}
use Rattle.numerals.proofs.Digits.{hexadecimal_length}
use Rattle.lookup.proofs.details.key_detail.Goals as goal

pub returns-then-w-eq1 : goal.returns-then-w-eq1
unfolding key_detail is_digit
returns-then-w-eq1 c = rw (eq-eqb _ _ c.if-w-eq1.true, ← c.byte_at-first.ensures)

pub slice_bounds-number_in-count : goal.slice_bounds-number_in-count
slice_bounds-number_in-count c = hexadecimal_length c.args.w.now (sym c.starts_hexadecimal.ensures ∙ c.if-starts_hexadecimal.true)

pub slice_bounds-number_in-start : goal.slice_bounds-number_in-start
slice_bounds-number_in-start c = hexadecimal_length c.args.w.now (sym c.starts_hexadecimal.ensures ∙ c.if-starts_hexadecimal.true)

pub returns-then-starts_hexadecimal : goal.returns-then-starts_hexadecimal
unfolding key_detail is_digit
returns-then-starts_hexadecimal c =
    let w = c.args.w.now in
    let e : take (length w - 2) (drop 2 w) ≡ drop 2 w =
    take_all (length w - 2) (drop 2 w) (simp length-drop (omega arith))
    in
    c.number_in.ensures
    ∙ ap (number_in 16 keysym_limit) e
    ∙ sym (rw (ne_eqb _ _ c.if-w-eq1.false, ← c.starts_hexadecimal.ensures, c.if-starts_hexadecimal.true))

pub returns-then-first-eq48 : goal.returns-then-first-eq48
unfolding key_detail is_digit
returns-then-first-eq48 c =
    rw (ne_eqb _ _ c.if-w-eq1.false, ← c.starts_hexadecimal.ensures, c.if-starts_hexadecimal.false, ← c.byte_at-first.ensures, eq-eqb _ _ c.if-first-eq48.true)
    c.number_in-then-first-eq48.ensures

pub returns-then-in_range : goal.returns-then-in_range
unfolding key_detail is_digit
returns-then-in_range c =
    rw (ne_eqb _ _ c.if-w-eq1.false, ← c.starts_hexadecimal.ensures, c.if-starts_hexadecimal.false, ← c.byte_at-first.ensures, ne_eqb _ _ c.if-first-eq48.false, ← c.in_range.ensures, c.if-in_range.true)
    c.number_in-then-in_range.ensures

pub returns : goal.returns
unfolding key_detail is_digit
returns c =
    rw (ne_eqb _ _ c.if-w-eq1.false, ← c.starts_hexadecimal.ensures, c.if-starts_hexadecimal.false, ← c.byte_at-first.ensures, ne_eqb _ _ c.if-first-eq48.false, ← c.in_range.ensures, c.if-in_range.false)
    c.keysym_named.ensures
