-- Where a word stands, from how many names stand before it. Assumes nothing.
use Prim.Native.Nat.{ℕ, ◌≤◌, ◌<◌}
use native.Mathlib.Omega.{arith}
use mathlib.Core.Path.{◌≡◌, refl, sym, ap, ◌∙◌}
use mathlib.Core.Bool.{Bool, true, false, false≢true}
use mathlib.Core.List.{List}
use lib.Dec.{eqb, ltb}
use borrow.Author.Tests.{eqb-true, eqb-false, ltb-true, ltb-false}
use Rattle.model.specs.Lists.{is_before}
use Rattle.keysyms.specs.Table.{keysym_total, keysym_name}
use Rattle.keysyms.specs.Rule.{Rank, Placed}
use Rattle.keysyms.specs.declared.search.NamePlace.{NamePlace}
use Rattle.keysyms.proofs.ByteOrder.{before_self, before_neither}
use Rattle.keysyms.proofs.Order.{name_order}

module _ (w : List ℕ) (r : ℕ) (k : Rank w r) where
  -- a name that stands before the word is another one
  not_earlier : (i : ℕ) → i < r → keysym_name i ≡ w → ⊥
  not_earlier i h e = false≢true (sym (before_self w) ∙ ap (λ (n : List ℕ). is_before n w) (sym e) ∙ k.before i h)

  pub past_all : keysym_total ≤ r → Placed w NamePlace.Nowhere
  past_all h i below e = not_earlier i (omega arith) e

  module _ (h : r < keysym_total) where
    -- the name at that place does not stand before the word, so where the word does not stand before it, the two are the same
    pub at_one : is_before w (keysym_name r) ≡ false → Placed w (NamePlace.At r)
    at_one e = (h, before_neither (keysym_name r) w (k.rest r (omega arith) h) e)

    -- and a later name is another one, since the first that is not before the word stands before it
    not_later : (i : ℕ) → r < i → i < keysym_total → keysym_name i ≡ w → ⊥
    not_later i p below e =
        false≢true (sym (k.rest r (omega arith) h) ∙ ap (λ (n : List ℕ). is_before (keysym_name r) n) (sym e) ∙ name_order r i p below)

    pub past_one : is_before w (keysym_name r) ≡ true → Placed w NamePlace.Nowhere
    past_one e i below q = go (ltb i r) refl (eqb i r) refl
      where
        go : (a : Bool) → ltb i r ≡ a → (b : Bool) → eqb i r ≡ b → ⊥
        go true p b s = not_earlier i (ltb-true i r p) q
        go false p true s =
            false≢true (sym (before_self w) ∙ ap (λ (n : List ℕ). is_before w n) (sym q ∙ ap keysym_name (eqb-true i r s)) ∙ e)
        go false p false s = not_later i (let n = eqb-false i r s in omega (arith, ltb-false i r p)) below q
