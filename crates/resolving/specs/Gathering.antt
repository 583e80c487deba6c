-- The names of an event gathered one at a time, as masks: the bits of a name, what names ask together, and what the event asks.
-- proofs/Asking shows that this comes to model's `asked`.
use Rattle.std.specs.Prelude.{ℕ, ◌-◌, ◌≡◌, Bool, false, cond, ◌&&◌, ◌||◌, List, eqb, length}
use Rattle.std.specs.Int.Bits.{bit_and, bit_or}
use Rattle.model.specs.Lists.{any}
use Rattle.model.specs.Bytes.{in_range}
use Rattle.model.specs.Modifiers.{mask}
use Rattle.model.specs.Setting.{Setting}
use Rattle.model.specs.Resolving.{ListedName, is_bad_map, row_of, keycode_holds, has_bit, is_unmet}
use Rattle.model.specs.Asked.{Test}
use Rattle.keyboard.specs.Maps.{map_numbers, modifier_entries_in}
use Rattle.resolving.specs.declared.Resolved.{Resolved}

-- ---- Maps

-- number 18: "an entry 1..7"
abbrev pub is_low_entry : ℕ → Bool
is_low_entry c = in_range 1 c 7

-- lent maps that neither 1 nor 18 refuses
pub record MapsReady (maps : List ℕ) : Type 0 where
  pub mapped : length (map_numbers maps) ≡ 496
  pub good : is_bad_map (modifier_entries_in maps) ≡ false

-- ---- Names

-- the bits of a name that may stand for these keysyms
unfoldable pub bits_of : Setting → List ℕ → ℕ
bits_of setting keysyms = mask (λ k. any (keycode_holds setting.keyboard keysyms) (row_of setting.modifiers k))

-- what names ask together
unfoldable pub gathered : Setting → List ListedName → Resolved
gathered setting ns =
    record {
      set = mask (λ k. any (λ n. n.set && has_bit setting n k) ns);
      clear = mask (λ k. any (λ n. n.clear && has_bit setting n k) ns);
      dead = any (is_unmet setting) ns;
    }

-- with one more name, of these bits and listed so
unfoldable pub with_bits : Resolved → ℕ → (set clear : Bool) → Resolved
with_bits r bits set clear =
    record {
      set = bit_or (cond set bits 0) r.set;
      clear = bit_or (cond clear bits 0) r.clear;
      dead = (set && eqb bits 0) || r.dead;
    }

-- ---- The event

-- the mask of the testable bits, of which Shift and Lock are 1 and 2
abbrev pub testable_mask : (colon : Bool) → ℕ
testable_mask colon = cond colon 8188 8191

-- with `!` the bits that are not among the listed ones
abbrev pub other_bits : (bang : Bool) → ℕ → ℕ
other_bits bang listed = cond bang (8191 - listed) 0

-- what an event asks that has these bits and marks, and names that ask so
unfoldable pub tested : (set clear : ℕ) (colon bang : Bool) → Resolved → Resolved
tested set clear colon bang by =
    record {
      set = bit_or set (bit_and (testable_mask colon) by.set);
      clear =
          bit_or clear
          (bit_and (testable_mask colon)
          (bit_or by.clear (other_bits bang (bit_or (bit_or set clear) (bit_or by.set by.clear)))));
      dead = by.dead;
    }

-- a test without its clause
abbrev pub resolved_test : Test → Resolved
resolved_test t = record { set = t.set; clear = t.clear; dead = t.dead }
