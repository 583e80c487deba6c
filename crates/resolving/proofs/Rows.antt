-- Lent maps that neither 1 nor 18 refuses: eight rows of one width, and entries that are 0 or a keycode.
use Prim.Native.Nat.{ℕ, ◌+◌, ◌-◌, ◌*◌, ◌/◌, ◌%◌, ◌≤◌, ◌<◌}
use native.Mathlib.Omega.{arith}
use native.Mathlib.Nat.{add-mul, mul-le-mul_right}
use Rattle.std.proofs.lemmas.Bool.Decides.{nat_tests}
use mathlib.Core.Path.{◌≡◌, refl, sym, ap, ◌∙◌}
use mathlib.Core.Bool.{Bool, true, false, ◌&&◌, ◌||◌}
use mathlib.Core.List.{List, []}
use lib.Dec.{eqb, ltb}
use lib.ListN.{length, get_or, take, drop, length-take, length-drop, drop_of_length-le}
use lib.Seq.{get_or-take, get_or-drop, drop-drop, take-nil}
use Rattle.model.specs.Lists.{any}
use Rattle.model.specs.Modifiers.{mask}
use Rattle.model.specs.Resolving.{is_bad_map, row_of, keycode_holds}
use Rattle.modifiers.specs.Setting.{with_bit}
use Rattle.modifiers.proofs.Masks.{same_mask, mask_none, mask_below}
use Rattle.modifiers.proofs.Setting.{with_bit_mask}
use Rattle.keyboard.specs.Maps.{map_numbers, lent_setting}
use Rattle.keyboard.proofs.Maps.{map_bytes_lem}
use Rattle.resolving.specs.Gathering.{is_low_entry, MapsReady, bits_of}
use Rattle.resolving.proofs.Entries.{none_passes, none_before, none_after}

-- ---- Entries

pub high_keycode : (c : ℕ) → is_low_entry c ≡ false → (c ≡ 0 → ⊥) → 8 ≤ c
high_keycode c e f = grind (arith, nat_tests)

-- n entries from a place on
module _ (l : List ℕ) (from n : ℕ) where
  pub length_row : from + n ≤ length l → length (take n (drop from l)) ≡ n
  length_row h = simp (length-take, length-drop) (omega arith)

  pub row_length : (i : ℕ) → from + n ≤ length l → i < n → i < length (take n (drop from l))
  row_length i h j = rw (length_row h) j

  pub row_entry : (i : ℕ) → i < n → get_or (take n (drop from l)) i 0 ≡ get_or l (from + i) 0
  row_entry i h = rw (get_or-take, get_or-drop)

-- what a map that 18 does not refuse is
record GoodMap (map : List ℕ) : Type 0 where
  rows : length map % 8 ≡ 0
  least : 8 ≤ length map
  most : length map ≤ 64
  entries : any is_low_entry map ≡ false

good_map : (map : List ℕ) → is_bad_map map ≡ false → GoodMap map
unfolding is_bad_map
good_map map e =
    record {
      rows = grind (arith, nat_tests);
      least = grind (arith, nat_tests);
      most = grind (arith, nat_tests);
      entries = grind (arith, nat_tests);
    }

module _ (maps : List ℕ) (ready : MapsReady maps) where
  pub maps_long : 1984 ≤ length maps
  maps_long = map_bytes_lem maps ready.mapped

  pub entry_known : (at : ℕ) → 1984 ≤ at → at < length maps → is_low_entry (get_or maps at 0) ≡ false
  entry_known at h l =
      let n : at - 1984 < length (drop 1984 maps) = rw length-drop (omega arith) in
      let e : 1984 + (at - 1984) ≡ at = omega arith in
      ap is_low_entry (ap (λ (i : ℕ). get_or maps i 0) (sym e) ∙ sym (get_or-drop 1984 maps (at - 1984) 0))
      ∙ none_passes is_low_entry (drop 1984 maps) (good_map (drop 1984 maps) ready.good).entries (at - 1984) n

  -- ---- Rows

  abbrev pub width : ℕ
  width = (length maps - 1984) / 8

  pub eight_rows : 1984 + 8 * width ≡ length maps
  eight_rows =
      let l = maps_long in
      let g = good_map (drop 1984 maps) ready.good in
      let r : (length maps - 1984) % 8 ≡ 0 = rw length-drop at g.rows in
      omega arith

  -- a row is among the entries
  pub row_in : (k : ℕ) → k < 8 → 1984 + k * width + width ≤ length maps
  row_in k h =
      let m : (k + 1) * width ≤ 8 * width = mul-le-mul_right width (omega arith) in
      let e = eight_rows in
      omega (arith, add-mul k 1 width)

  pub row_at : (k at n : ℕ) → at ≡ 1984 + k * width → n ≡ width → take n (drop at maps) ≡ row_of (drop 1984 maps) k
  unfolding row_of
  row_at k at n p q = rw (p, q, length-drop, drop-drop)

  -- and none of its entries is 1..7
  pub row_known : (k : ℕ) → any is_low_entry (row_of (drop 1984 maps) k) ≡ false
  unfolding row_of
  row_known k =
      let entries = drop 1984 maps in
      let w = length entries / 8 in
      none_before is_low_entry (drop (k * w) entries) w
      (none_after is_low_entry entries (k * w) (good_map entries ready.good).entries)

  past_rows : (k : ℕ) → 8 ≤ k → row_of (drop 1984 maps) k ≡ []
  past_rows k h =
      let m : 8 * width ≤ k * width = mul-le-mul_right width h in
      let e = eight_rows in
      let d : drop (1984 + k * width) maps ≡ [] = drop_of_length-le maps {i = 1984 + k * width} (omega arith) in
      sym (row_at k _ _ refl refl) ∙ ap (take width) d ∙ take-nil width

-- ---- The bits of a name, row after row

module _ (maps keysyms : List ℕ) where
  -- some keycode of the row has one of the keysyms
  abbrev holds : ℕ → Bool
  holds k = any (keycode_holds (map_numbers maps) keysyms) (row_of (drop 1984 maps) k)

  -- the bits of the first n rows
  unfoldable pub row_bits : ℕ → ℕ
  row_bits n = mask (λ k. ltb k n && holds k)

  pub row_bits_below : (n : ℕ) → row_bits n < 8192
  unfolding row_bits
  row_bits_below n = mask_below (λ k. ltb k n && holds k)

  pub no_rows : 0 ≡ row_bits 0
  unfolding row_bits
  no_rows = sym (same_mask (λ k. ltb k 0 && holds k) (λ k. false) (λ k h. none k) ∙ mask_none)
    where
      none : (k : ℕ) → ltb k 0 && holds k ≡ false
      none k = grind (arith, nat_tests)

  -- one row more
  pub row_bits_with : (n : ℕ) → holds n ≡ true → with_bit (row_bits n) n ≡ row_bits (n + 1)
  unfolding row_bits
  row_bits_with n q =
      with_bit_mask (λ k. ltb k n && holds k) n
      ∙ same_mask (λ k. (ltb k n && holds k) || eqb n k) (λ k. ltb k (n + 1) && holds k) (λ k h. step k)
    where
      step : (k : ℕ) → (ltb k n && holds k) || eqb n k ≡ ltb k (n + 1) && holds k
      step k = grind (arith, nat_tests)

  pub row_bits_without : (n : ℕ) → holds n ≡ false → row_bits n ≡ row_bits (n + 1)
  unfolding row_bits
  row_bits_without n q =
      same_mask (λ k. ltb k n && holds k) (λ k. ltb k (n + 1) && holds k) (λ k h. step k)
    where
      step : (k : ℕ) → ltb k n && holds k ≡ ltb k (n + 1) && holds k
      step k = grind (arith, nat_tests)

  pub all_rows : MapsReady maps → row_bits 8 ≡ bits_of (lent_setting maps 0) keysyms
  unfolding row_bits bits_of
  all_rows ready = same_mask (λ k. ltb k 8 && holds k) holds (λ k h. all k)
    where
      none : (k : ℕ) → 8 ≤ k → holds k ≡ false
      none k h = ap (any (keycode_holds (map_numbers maps) keysyms)) (past_rows maps ready k h)

      all : (k : ℕ) → ltb k 8 && holds k ≡ holds k
      all k = grind (arith, nat_tests, none k)

-- what one row does
pub ruleset row_steps = (no_rows, row_bits_below, row_bits_with, row_bits_without)
