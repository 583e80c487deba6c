-- The model's test, by the numbers that a table holds of it; the settings of Shift and Lock.
use Prim.Native.Nat.{ℕ, ◌≤◌}
use native.Mathlib.Omega.{arith}
use Rattle.std.proofs.Math.Bool.{or-false}
use mathlib.Core.Logic.{inl, inr}
use Rattle.std.proofs.lemmas.Bool.{or_cases}
use Rattle.std.proofs.lemmas.Bool.Decides.{nat_tests}
use mathlib.Core.Path.{◌≡◌, refl, sym, ap, ◌∙◌}
use mathlib.Core.Bool.{Bool, true, false, ◌&&◌, ◌||◌, false≢true}
use lib.Dec.{eqb, leb}
use borrow.Author.Tests.{leb-true}
use Rattle.model.specs.Bytes.{in_range}
use Rattle.model.specs.Lists.{any}
use Rattle.model.specs.Keyboard.{is_lower, is_upper, keysym_of, settings, pair_matches, key_matches, matches_with_colon, matches_without}
use Rattle.model.specs.Modifiers.{bit}
use Rattle.model.specs.Setting.{Setting, first_keysym, second_keysym}
use Rattle.model.specs.Asked.{Test, asked}
use Rattle.model.specs.declared.events.KeptEvent.{KeptEvent}
use Rattle.keyboard.specs.Pairs.{pair_asked, lock_gives}

pub pair_matches_lem : (t : Test) (colon : Bool) (a b state detail : ℕ)
    → pair_matches t colon a b state detail ≡ pair_asked t.set t.clear colon a b state detail
unfolding pair_matches pair_asked
pair_matches_lem t colon a b state detail = refl

pub key_matches_lem : (setting : Setting) (e : KeptEvent) (keycode state detail : ℕ)
    → key_matches setting e keycode state detail
    ≡ pair_asked (asked setting e).set (asked setting e).clear e.colon
    (first_keysym setting.keyboard keycode) (second_keysym setting.keyboard keycode) state detail
unfolding key_matches
key_matches_lem setting e keycode state detail =
    pair_matches_lem (asked setting e) e.colon
    (first_keysym setting.keyboard keycode) (second_keysym setting.keyboard keycode) state detail

pub lock_cared : (a b : ℕ) (shift lock : Bool) (detail : ℕ)
    → lock_gives a b shift true lock detail ≡ eqb (keysym_of a b shift lock) detail
unfolding lock_gives
lock_cared a b shift lock detail = or-false (eqb (keysym_of a b shift lock) detail)

pub lock_either : (a b : ℕ) (shift lock : Bool) (detail : ℕ)
    → lock_gives a b shift false lock detail
    ≡ (eqb (keysym_of a b shift false) detail || eqb (keysym_of a b shift true) detail)
unfolding lock_gives
lock_either a b shift lock detail =
    ap (λ (t : Bool). eqb (keysym_of a b shift false) detail || t) (or-false (eqb (keysym_of a b shift true) detail))

-- a test that passes under some setting passes under one
pub under_some : {P : Type 0} (passes : Bool → Bool) (cares is : Bool) → ((s : Bool) → passes s ≡ true → P)
    → any passes (settings cares is) ≡ true → P
under_some passes true is f e = f is (sym (or-false (passes is)) ∙ e)
under_some passes false is f e =
    elim (or_cases (passes false) (passes true || false) e) [
      | inl p ↦ f false p
      | inr q ↦ f true (sym (or-false (passes true)) ∙ q)
    ]

module _ (set clear a b state detail : ℕ) where
  pub with_colon : pair_asked set clear true a b state detail ≡ eqb (keysym_of a b (bit 0 state) (bit 1 state)) detail
  unfolding pair_asked matches_with_colon
  with_colon = refl

-- with a colon both Shift and Lock are cared for
pub asked_either : (set clear : ℕ) (colon : Bool) (a b state detail : ℕ)
    → any (λ shift. lock_gives a b shift (colon || bit 1 set || bit 1 clear) (bit 1 state) detail)
    (settings (colon || bit 0 set || bit 0 clear) (bit 0 state))
    ≡ pair_asked set clear colon a b state detail
unfolding pair_asked matches_with_colon matches_without lock_gives
asked_either set clear true a b state detail = or-false _ ∙ or-false (eqb (keysym_of a b (bit 0 state) (bit 1 state)) detail)
asked_either set clear false a b state detail = refl

-- ---- Letters

pub in_range_lem : (low k high : ℕ) → in_range low k high ≡ true → (low ≤ k) × (k ≤ high)
in_range_lem low k high e = go (leb low k) refl
  where
    go : (t : Bool) → leb low k ≡ t → (low ≤ k) × (k ≤ high)
    go true q = (leb-true low k q, leb-true k high (ap (λ (t : Bool). t && leb k high) (sym q) ∙ e))
    go false q = absurd (false≢true (ap (λ (t : Bool). t && leb k high) (sym q) ∙ e))

pub either : {P : Type 0} (a b : Bool) → (a ≡ true → P) → (b ≡ true → P) → a || b ≡ true → P
either true b f g e = f refl
either false b f g e = g e

pub lower_letter : (k : ℕ) → is_lower k ≡ true → (0x61 ≤ k) × (k ≤ 0xFE)
unfolding is_lower
lower_letter k e = (grind (arith, nat_tests), grind (arith, nat_tests))

pub upper_letter : (k : ℕ) → is_upper k ≡ true → (0x41 ≤ k) × (k ≤ 0xDE)
unfolding is_upper
upper_letter k e = (grind (arith, nat_tests), grind (arith, nat_tests))
