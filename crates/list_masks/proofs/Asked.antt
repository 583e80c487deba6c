-- The masks that an event keeps and its button clause, by whole masks: what src/lists.rt computes.
use Prim.Native.Nat.{ℕ, ◌-◌, ◌<◌}
use mathlib.Core.Path.{◌≡◌, refl, sym, ap, ap₂, ◌∙◌}
use mathlib.Core.Bool.{Bool, true, false, not, ◌&&◌, ◌||◌, or-false, and-true}
use lib.Dec.{leb, ltb}
use lib.Bits.{bit_and, bit_or, or_lt}
use borrow.Author.Tests.{lt-ltb, le-ltb, leb-true, leb-false}
use Rattle.model.specs.Modifiers.{bit, mask, is_shift_or_lock, adds_bit}
use Rattle.model.specs.declared.names.Added.{Added}
use Rattle.modifiers.specs.Setting.{with_bit}
use Rattle.modifiers.proofs.Masks.{same_mask, mask_bits, mask_below, mask_or, mask_and, mask_not}
use Rattle.modifiers.proofs.Meeting.{button_down}
use Rattle.list_masks.specs.declared.lists.ListSummary.{ListSummary}
use Rattle.list_masks.specs.Summary.{set_of, clear_of, clause_of, SummaryIn}

-- ---- Bits asked set

-- a type's name that adds no modifier
pub set_unchanged : (set : ℕ) (added : Added) → set < 8192 → ((k : ℕ) → adds_bit added k ≡ false) → set_of set added ≡ set
unfolding set_of
set_unchanged set added h e =
    same_mask (λ k. bit k set || adds_bit added k) (λ k. bit k set)
    (λ k _. ap (λ (b : Bool). bit k set || b) (e k) ∙ or-false (bit k set))
    ∙ mask_bits set h

pub set_added : (set k : ℕ) → set_of set (Added.Modifier k) ≡ with_bit set k
unfolding set_of with_bit
set_added set k = refl

pub set_below : (set : ℕ) (added : Added) → set_of set added < 8192
unfolding set_of
set_below set added = mask_below (λ k. bit k set || adds_bit added k)

-- ---- Bits asked clear

module _ (set clear : ℕ) (hs : set < 8192) (hc : clear < 8192) where
  -- the bits that the list does not have
  mask_unlisted : mask (λ k. not (bit k set || bit k clear)) ≡ 8191 - bit_or set clear
  mask_unlisted =
      mask_not (λ k. bit k set || bit k clear)
      ∙ ap (λ (m : ℕ). 8191 - m)
      (mask_or (λ k. bit k set) (λ k. bit k clear) ∙ ap₂ bit_or (mask_bits set hs) (mask_bits clear hc))

  pub unlisted_fits : bit_or set clear < 8192
  unlisted_fits = or_lt 13 set clear hs hc

  -- with every unlisted bit, with those that pass a test
  pub clear_others : mask (λ k. bit k clear || not (bit k set || bit k clear)) ≡ bit_or clear (8191 - bit_or set clear)
  clear_others =
      mask_or (λ k. bit k clear) (λ k. not (bit k set || bit k clear)) ∙ ap₂ bit_or (mask_bits clear hc) mask_unlisted

  pub clear_tested : (t : ℕ → Bool)
      → mask (λ k. bit k clear || (not (bit k set || bit k clear) && t k))
      ≡ bit_or clear (bit_and (8191 - bit_or set clear) (mask t))
  clear_tested t =
      mask_or (λ k. bit k clear) (λ k. not (bit k set || bit k clear) && t k)
      ∙ ap₂ bit_or (mask_bits clear hc)
      (mask_and (λ k. not (bit k set || bit k clear)) t ∙ ap (λ (m : ℕ). bit_and m (mask t)) mask_unlisted)

module _ (s : ListSummary) (h : SummaryIn s) where
  -- neither `!` nor `None`
  pub clear_listed : s.others_clear ≡ false → clear_of s ≡ s.clear
  unfolding clear_of
  clear_listed e =
      rw e
      (same_mask (λ k. bit k s.clear || false) (λ k. bit k s.clear) (λ k _. or-false (bit k s.clear))
      ∙ mask_bits s.clear h.clear)

  -- all bits but Shift and Lock
  but_two : mask (λ k. not (is_shift_or_lock k)) ≡ 8188
  unfolding mask
  but_two = refl

  pub clear_colon : s.others_clear ≡ true → s.colon ≡ true
      → clear_of s ≡ bit_or s.clear (bit_and (8191 - bit_or s.set s.clear) 8188)
  unfolding clear_of
  clear_colon e f =
      rw (e, f)
      (clear_tested s.set s.clear h.set h.clear (λ k. not (is_shift_or_lock k))
      ∙ ap (λ (m : ℕ). bit_or s.clear (bit_and (8191 - bit_or s.set s.clear) m)) but_two)

  pub clear_all : s.others_clear ≡ true → s.colon ≡ false
      → clear_of s ≡ bit_or s.clear (8191 - bit_or s.set s.clear)
  unfolding clear_of
  clear_all e f =
      rw (e, f)
      (same_mask (λ k. bit k s.clear || (not (bit k s.set || bit k s.clear) && true))
      (λ k. bit k s.clear || not (bit k s.set || bit k s.clear))
      (λ k _. ap (λ (b : Bool). bit k s.clear || b) (and-true (not (bit k s.set || bit k s.clear))))
      ∙ clear_others s.set s.clear h.set h.clear)

pub clear_below_lem : (s : ListSummary) → clear_of s < 8192
unfolding clear_of
clear_below_lem s = mask_below _

-- ---- The button clause

not_leb : (m n : ℕ) → not (leb n m) ≡ ltb m n
not_leb m n = go (leb n m) refl
  where
    go : (b : Bool) → leb n m ≡ b → not b ≡ ltb m n
    go true e = sym (le-ltb m n (leb-true n m e))
    go false e = sym (lt-ltb m n (leb-false n m e))

-- no button is asked set
pub clause_buttons : (set : ℕ) → set < 8192 → clause_of Added.AnyButton set ≡ ltb set 256
unfolding clause_of
clause_buttons set h = ap not (button_down set h) ∙ not_leb set 256
