-- The bytes of a name's numbers are the name.
use Prim.Native.Nat.{ℕ, zero, suc, min, ◌+◌, ◌-◌, ◌*◌, ◌/◌, ◌%◌, ◌^◌, ◌≤◌, ◌<◌}
use native.Mathlib.Omega.{arith}
use mathlib.Core.Path.{◌≡◌, refl, ap₂, ◌∙◌}
use mathlib.Core.List.{List, [], ◌∷◌, ◌++◌}
use lib.ListN.{length, take, drop, length-drop}
use lib.Seq.{get_or-drop}
use Rattle.std.proofs.lemmas.List.{take_min, take_all, take-append-drop}
use Rattle.std.specs.Int.{w64, byte_at, bytes_low_first, to_le_bytes}
use Rattle.std.proofs.Math.Nat.{div-div-eq-div-mul, min_comm, mul_comm, pow-suc}
use Rattle.names.specs.declared.table.Spelling.{Spelling}
use Rattle.names.specs.Table.{name_row, packed, spelling_of, Bytes, longest_name}
use Rattle.names.proofs.Spelled.{row_length, row_bytes}

-- what follows the lowest byte are the bytes of the number without it
rest_at : (i v : ℕ) → byte_at (suc i) v ≡ byte_at i (v / 256)
rest_at zero v = refl
rest_at (suc i) v = rw (pow-suc 256 (suc i), mul_comm (256 ^ suc i) 256, ← div-div-eq-div-mul v 256 (256 ^ suc i))

rest_bytes : (i k v : ℕ) → bytes_low_first (suc i) k v ≡ bytes_low_first i k (v / 256)
rest_bytes i zero v = refl
rest_bytes i (suc k) v = rw (rest_at i v, rest_bytes (suc i) k v)

-- the first n of the bytes that a number was made of
bytes_packed : (n m k : ℕ) (w : List ℕ) → Bytes w → n ≤ m → n ≤ k → n ≤ length w → take n (bytes_low_first 0 k (packed (take m w))) ≡ take n w
bytes_packed zero m k w h p q l = refl
bytes_packed (suc n) zero k w h p q l = absurd (omega arith)
bytes_packed (suc n) (suc m) zero w h p q l = absurd (omega arith)
bytes_packed (suc n) (suc m) (suc k) [] h p q l = absurd (omega arith)
bytes_packed (suc n) (suc m) (suc k) (b ∷ bs) h p q l =
    let c : b < 256 = h 0 in
    let e : (b + 256 * packed (take m bs)) % 256 ≡ b = omega arith in
    let f : (b + 256 * packed (take m bs)) / 256 ≡ packed (take m bs) = omega arith in
    let r = rest_bytes 0 k (b + 256 * packed (take m bs)) in
    let i : n ≤ m = omega arith in
    let j : n ≤ k = omega arith in
    let o : n ≤ length bs = omega arith in
    rw (e, r, f, bytes_packed n m k bs (λ i. h (suc i)) i j o)

-- the bytes of a spelling's numbers, as many as the name has, are the name
module _ (place : ℕ) (s : Spelling) (spelled : s ≡ spelling_of (name_row place)) where
  abbrev w : List ℕ
  w = name_row place

  pub spelled_length : s.0 ≤ longest_name
  unfolding spelling_of
  spelled_length = rw spelled (row_length place)

  bytes_of : take (min s.0 8) (to_le_bytes w64 s.1) ++ take (s.0 - 8) (to_le_bytes w64 s.2) ≡ w
  unfolding spelling_of
  bytes_of = rw spelled (
      let rest : Bytes (drop 8 w) = λ i. rw get_or-drop (row_bytes place (8 + i)) in
      let long = row_length place in
      ap₂ ◌++◌
      (bytes_packed (min (length w) 8) 8 8 w (row_bytes place) (omega arith) (omega arith) (omega arith) ∙ rw min_comm (take_min 8 w))
      (bytes_packed (length w - 8) 8 8 (drop 8 w) rest (omega arith) (omega arith) (omega (arith, length-drop 8 w)) ∙ take_all (length w - 8) (drop 8 w) (omega (arith, length-drop 8 w)))
      ∙ take-append-drop 8 w)

  pub spelled_bytes : {n m : ℕ} {a b : List ℕ} → n ≡ min s.0 8 → m ≡ s.0 - 8 → a ≡ to_le_bytes w64 s.1 → b ≡ to_le_bytes w64 s.2
      → take n a ++ take m b ≡ w
  spelled_bytes e f g h = rw (e, f, g, h) bytes_of
