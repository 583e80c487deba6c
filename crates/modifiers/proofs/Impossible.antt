-- `no_state_meets` is exact. The state that has every bit that is not asked clear meets the test if any state does.
use Prim.Native.Nat.{ℕ, ◌+◌, ◌<◌}
use native.Mathlib.Omega.{arith}
use mathlib.Core.Path.{◌≡◌, sym, ap, ap₂, ◌∙◌}
use mathlib.Core.Bool.{Bool, true, false, not, ◌&&◌, ◌||◌}
use borrow.Author.Tests.{not-false}
use Rattle.model.specs.Lists.{any, all}
use Rattle.model.specs.Modifiers.{bit, bits, button_bits, mask, as_asked, bits_met, clause_met, state_meets, no_state_meets}
use Rattle.modifiers.specs.Impossible.{ImpossibleExact}
use Rattle.modifiers.proofs.Masks.{bit_mask, mask_below}
use Rattle.modifiers.proofs.Below.{every, some, every_at, none_from, every_not, some_not, all_bits, any_bits, all_buttons, any_buttons, both_left, both_right}

-- ---- A state that meets the test

-- no bit is asked both ways
asked_one : (set clear is : Bool) → as_asked set clear is ≡ true → set && clear ≡ false
asked_one set clear is e = grind arith

-- a bit asked clear is not set
clear_off : (set clear is : Bool) → as_asked set clear is ≡ true → clear ≡ true → is ≡ false
clear_off set clear is e q = grind arith

-- a kept clause wants a button, so not all are asked clear
clause_kept : (clause some all : Bool) → not clause || some ≡ true → (all ≡ true → some ≡ false) → clause && all ≡ false
clause_kept clause some all e f = grind arith

module _ (set clear : ℕ) (clause : Bool) (state : ℕ) (e : state_meets set clear clause state ≡ true) where
  asked : ℕ → Bool
  asked k = as_asked (bit k set) (bit k clear) (bit k state)

  met : every 13 asked ≡ true
  unfolding asked state_meets
  met = sym (all_bits asked) ∙ both_left (bits_met set clear state) (clause_met clause state) e

  down : not clause || some 5 (λ k. bit (8 + k) state) ≡ true
  unfolding state_meets
  down =
      ap (λ (b : Bool). not clause || b) (sym (any_buttons (λ k. bit k state)))
      ∙ both_right (bits_met set clear state) (clause_met clause state) e

  no_both : some 13 (λ k. bit k set && bit k clear) ≡ false
  unfolding asked
  no_both =
      none_from 13 (λ k. bit k set && bit k clear)
      (λ k h. asked_one (bit k set) (bit k clear) (bit k state) (every_at 13 asked met k h))

  buttons_off : every 5 (λ k. bit (8 + k) clear) ≡ true → some 5 (λ k. bit (8 + k) state) ≡ false
  unfolding asked
  buttons_off q =
      none_from 5 (λ k. bit (8 + k) state)
      (λ k h.
      let l : 8 + k < 13 = omega arith in
      clear_off (bit (8 + k) set) (bit (8 + k) clear) (bit (8 + k) state) (every_at 13 asked met (8 + k) l)
      (every_at 5 (λ j. bit (8 + j) clear) q k h))

  possible : no_state_meets set clear clause ≡ false
  unfolding no_state_meets
  possible =
      ap₂ ◌||◌ (any_bits (λ k. bit k set && bit k clear) ∙ no_both)
      (ap (λ (b : Bool). clause && b) (all_buttons (λ k. bit k clear))
      ∙ clause_kept clause (some 5 (λ k. bit (8 + k) state)) (every 5 (λ k. bit (8 + k) clear)) down buttons_off)

-- ---- The state with every bit that is not asked clear

unfoldable pub others : ℕ → ℕ
others clear = mask (λ k. not (bit k clear))

others_bit : (clear k : ℕ) → k < 13 → bit k (others clear) ≡ not (bit k clear)
unfolding others
others_bit clear k h = bit_mask (λ j. not (bit j clear)) k h

asked_others : (set clear is : Bool) → is ≡ not clear → as_asked set clear is ≡ not (set && clear)
asked_others set clear is e = grind arith

not_either : (a c b : Bool) → not a && (not c || not b) ≡ not (a || c && b)
not_either a c b = grind arith

others_meet : (set clear : ℕ) (clause : Bool) → state_meets set clear clause (others clear) ≡ not (no_state_meets set clear clause)
unfolding state_meets no_state_meets
others_meet set clear clause =
    ap₂ ◌&&◌
    (all_bits (λ k. as_asked (bit k set) (bit k clear) (bit k (others clear)))
    ∙ every_not 13 (λ k. bit k set && bit k clear) (λ k. as_asked (bit k set) (bit k clear) (bit k (others clear)))
    (λ k h. asked_others (bit k set) (bit k clear) (bit k (others clear)) (others_bit clear k h))
    ∙ ap not (sym (any_bits (λ k. bit k set && bit k clear))))
    (ap (λ (b : Bool). not clause || b)
    (any_buttons (λ k. bit k (others clear))
    ∙ some_not 5 (λ k. bit (8 + k) clear) (λ k. bit (8 + k) (others clear))
    (λ k h. let l : 8 + k < 13 = omega arith in others_bit clear (8 + k) l)
    ∙ ap not (sym (all_buttons (λ k. bit k clear)))))
    ∙ not_either (any (λ k. bit k set && bit k clear) bits) clause (all (λ k. bit k clear) button_bits)

-- ---- The theorem

not_possible : (b : Bool) (n : Bool) → n ≡ true → (b ≡ true → n ≡ false) → b ≡ false
not_possible b n p f = grind arith

pub exact : ImpossibleExact
unfolding others
exact set clear clause = (
  λ e state h. not_possible (state_meets set clear clause state) (no_state_meets set clear clause) e (possible set clear clause state),
  λ f. not-false (no_state_meets set clear clause)
      (sym (others_meet set clear clause) ∙ f (others clear) (mask_below (λ k. not (bit k clear)))),
)
