-- The test that an event makes of a state, by whole masks: `&` and two orders in place of 13 bits.
use Prim.Native.Nat.{ℕ, ◌+◌, ◌/◌, ◌≤◌, ◌<◌}
use native.Mathlib.Omega.{arith}
use mathlib.Core.Path.{◌≡◌, refl, sym, ap, ap₂, ◌∙◌}
use mathlib.Core.Bool.{Bool, true, false, not, ◌&&◌, ◌||◌}
use lib.Dec.{eqb, leb}
use lib.Bits.{bit_and, and_le_l, and_le_r}
use borrow.Author.Tests.{eq-eqb, eqb-true, le-leb, lt-leb, leb-true, leb-false, not-false}
use Rattle.model.specs.Lists.{any, all}
use Rattle.model.specs.Modifiers.{bit, bits, button_bits, as_asked, bits_met, state_meets, no_state_meets}
use Rattle.modifiers.proofs.Digits.{bit_and_lem, bit_none, bit_past}
use Rattle.modifiers.proofs.Masks.{same_bits}
use Rattle.modifiers.proofs.Below.{every, some, every_at, every_from, none_at_lem, none_from, all_bits, any_bits, all_buttons, any_buttons, both_left, both_right, together, apart}

-- ---- Bits asked set and asked clear

asked_set : (set clear is : Bool) → as_asked set clear is ≡ true → is && set ≡ set
asked_set set clear is e = grind arith

asked_clear : (set clear is : Bool) → as_asked set clear is ≡ true → is && clear ≡ false
asked_clear set clear is e = grind arith

as_asked_lem : (set clear is : Bool) → is && set ≡ set → is && clear ≡ false → as_asked set clear is ≡ true
as_asked_lem set clear is p q = grind arith

module _ (set clear state : ℕ) (hs : set < 8192) (hc : clear < 8192) where
  asked : ℕ → Bool
  asked k = as_asked (bit k set) (bit k clear) (bit k state)

  met_set : every 13 asked ≡ true → bit_and state set ≡ set
  unfolding asked
  met_set e =
      same_bits 13 (bit_and state set) set (omega (arith, and_le_r state set)) hs
      (λ k h. bit_and_lem k state set ∙ asked_set (bit k set) (bit k clear) (bit k state) (every_at 13 asked e k h))

  met_clear : every 13 asked ≡ true → bit_and state clear ≡ 0
  unfolding asked
  met_clear e =
      same_bits 13 (bit_and state clear) 0 (omega (arith, and_le_r state clear)) (omega arith)
      (λ k h.
      bit_and_lem k state clear
      ∙ asked_clear (bit k set) (bit k clear) (bit k state) (every_at 13 asked e k h)
      ∙ sym (bit_none k))

  met_from : bit_and state set ≡ set → bit_and state clear ≡ 0 → every 13 asked ≡ true
  unfolding asked
  met_from p q =
      every_from 13 asked
      (λ k h.
      as_asked_lem (bit k set) (bit k clear) (bit k state)
      (sym (bit_and_lem k state set) ∙ ap (bit k) p)
      (sym (bit_and_lem k state clear) ∙ ap (bit k) q ∙ bit_none k))

  abbrev by_masks : Bool
  by_masks = eqb (bit_and state set) set && eqb (bit_and state clear) 0

  met_masks : every 13 asked ≡ by_masks
  met_masks =
      together (every 13 asked) by_masks
      (λ e. ap₂ ◌&&◌ (eq-eqb _ _ (met_set e)) (eq-eqb _ _ (met_clear e)))
      (λ e.
      met_from
      (eqb-true _ _ (both_left (eqb (bit_and state set) set) (eqb (bit_and state clear) 0) e))
      (eqb-true _ _ (both_right (eqb (bit_and state set) set) (eqb (bit_and state clear) 0) e)))

  pub bits_met_lem : bits_met set clear state ≡ (eqb (bit_and state set) set && eqb (bit_and state clear) 0)
  unfolding asked
  bits_met_lem = all_bits asked ∙ met_masks

-- ---- Buttons

module _ (m : ℕ) (hm : m < 8192) where
  button : ℕ → Bool
  button k = bit (8 + k) m

  button_high : (k : ℕ) → button k ≡ bit k (m / 256)
  unfolding button
  button_high k = bit_past 8 k m

  no_button : some 5 button ≡ false → m < 256
  no_button e =
      let z : m / 256 ≡ 0 =
      same_bits 5 (m / 256) 0 (omega arith) (omega arith)
      (λ k h. sym (button_high k) ∙ none_at_lem 5 button e k h ∙ sym (bit_none k)) in
      omega arith

  no_button_from : m < 256 → some 5 button ≡ false
  no_button_from h =
      let z : m / 256 ≡ 0 = omega arith in
      none_from 5 button (λ k _. button_high k ∙ ap (bit k) z ∙ bit_none k)

  -- some button is down
  pub button_down : any (λ k. bit k m) button_bits ≡ leb 256 m
  unfolding button
  button_down =
      any_buttons (λ k. bit k m)
      ∙ apart (some 5 button) (leb 256 m) (λ e. lt-leb 256 m (no_button e)) (λ e. no_button_from (leb-false 256 m e))

  all_ones : every 5 (λ k. bit k 31) ≡ true
  unfolding every
  all_ones = refl

  every_button : every 5 button ≡ true → 7936 ≤ m
  every_button e =
      let z : m / 256 ≡ 31 =
      same_bits 5 (m / 256) 31 (omega arith) (omega arith)
      (λ k h. sym (button_high k) ∙ every_at 5 button e k h ∙ sym (every_at 5 (λ j. bit j 31) all_ones k h)) in
      omega arith

  every_button_from : 7936 ≤ m → every 5 button ≡ true
  every_button_from h =
      let z : m / 256 ≡ 31 = omega arith in
      every_from 5 button (λ k l. button_high k ∙ ap (bit k) z ∙ every_at 5 (λ j. bit j 31) all_ones k l)

  -- all buttons are
  pub buttons_all : all (λ k. bit k m) button_bits ≡ leb 7936 m
  unfolding button
  buttons_all =
      all_buttons (λ k. bit k m)
      ∙ together (every 5 button) (leb 7936 m) (λ e. le-leb 7936 m (every_button e)) (λ e. every_button_from (leb-true 7936 m e))

-- ---- Bits asked both set and clear

module _ (set clear : ℕ) (hs : set < 8192) where
  both : ℕ → Bool
  both k = bit k set && bit k clear

  no_both : some 13 both ≡ false → bit_and set clear ≡ 0
  unfolding both
  no_both e =
      same_bits 13 (bit_and set clear) 0 (omega (arith, and_le_l set clear)) (omega arith)
      (λ k h. bit_and_lem k set clear ∙ none_at_lem 13 both e k h ∙ sym (bit_none k))

  no_both_from : bit_and set clear ≡ 0 → some 13 both ≡ false
  unfolding both
  no_both_from p = none_from 13 both (λ k h. sym (bit_and_lem k set clear) ∙ ap (bit k) p ∙ bit_none k)

  pub some_both : any (λ k. bit k set && bit k clear) bits ≡ not (eqb (bit_and set clear) 0)
  unfolding both
  some_both =
      any_bits both
      ∙ apart (some 13 both) (not (eqb (bit_and set clear) 0))
      (λ e. ap not (eq-eqb _ _ (no_both e)))
      (λ e. no_both_from (eqb-true _ _ (not-false _ e)))

-- ---- The two definitions

pub meets_masks : (set clear : ℕ) (clause : Bool) (state : ℕ) → set < 8192 → clear < 8192 → state < 8192
    → state_meets set clear clause state
    ≡ (eqb (bit_and state set) set && eqb (bit_and state clear) 0 && (not clause || leb 256 state))
unfolding state_meets
meets_masks set clear clause state hs hc h =
    ap₂ ◌&&◌ (bits_met_lem set clear state hs hc) (ap (λ (b : Bool). not clause || b) (button_down state h))

pub no_meets_masks : (set clear : ℕ) (clause : Bool) → set < 8192 → clear < 8192
    → no_state_meets set clear clause ≡ (not (eqb (bit_and set clear) 0) || (clause && leb 7936 clear))
unfolding no_state_meets
no_meets_masks set clear clause hs hc =
    ap₂ ◌||◌ (some_both set clear hs) (ap (λ (b : Bool). clause && b) (buttons_all clear hc))
