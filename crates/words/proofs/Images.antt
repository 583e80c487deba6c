-- The bytes of a list of words: what a store of a word does to them, what a word read back is, and that bytes are those of
-- the words that are read from them.
use Prim.Native.Nat.{ℕ, zero, suc, ◌+◌, ◌*◌, ◌%◌, ◌/◌, ◌≤◌, ◌<◌}
use native.Mathlib.Omega.{arith}
use native.Mathlib.Nat.{zero-add, add-mul-mod_self_left, add-mul-div_left, div-eq_of_lt, mod-eq_of_lt}
use mathlib.Core.Path.{◌≡◌, refl, ap, ◌∙◌}
use mathlib.Core.List.{List, [], ◌∷◌, ◌++◌}
use lib.ListN.{length, take, drop, get_or, set}
use lib.Seq.{drop-cons}
use Rattle.words.specs.Words.{word_bytes, word_at, put_word, zeros}
use Rattle.words.specs.Runs.{run}

pub bytes_append : (a b : List ℕ) → word_bytes (a ++ b) ≡ word_bytes a ++ word_bytes b
unfolding word_bytes
bytes_append [] b = refl
bytes_append (x ∷ xs) b = ap (λ (r : List ℕ). x % 256 ∷ x / 256 % 256 ∷ r) (bytes_append xs b)

pub length_bytes : (a : List ℕ) → length (word_bytes a) ≡ 2 * length a
unfolding word_bytes
length_bytes [] = refl
length_bytes (x ∷ xs) = omega (arith, length_bytes xs)

pub bytes_zeros : (n : ℕ) → word_bytes (zeros n) ≡ zeros (2 * n)
unfolding word_bytes zeros
bytes_zeros zero = refl
bytes_zeros (suc n) =
    let e : 2 * suc n ≡ suc (suc (2 * n)) = omega arith in
    rw e (ap (λ (r : List ℕ). 0 ∷ 0 ∷ r) (bytes_zeros n))

-- a word stored in the bytes of words is stored in the words
pub put_image : (W rest : List ℕ) (k v : ℕ) → k < length W → put_word (word_bytes W ++ rest) k v ≡ word_bytes (set W k v) ++ rest
unfolding put_word word_bytes
put_image [] rest k v h = absurd (omega arith)
put_image (w ∷ ws) rest zero v h = refl
put_image (w ∷ ws) rest (suc k) v h =
    let e : 2 * suc k ≡ suc (suc (2 * k)) = omega arith in
    let e1 : suc (suc (2 * k)) + 1 ≡ suc (suc (2 * k + 1)) = omega arith in
    rw (e, e1) (ap (λ (r : List ℕ). w % 256 ∷ w / 256 % 256 ∷ r) (put_image ws rest k v (omega arith)))

-- a word read back
pub word_image : (W rest : List ℕ) (k : ℕ) → k < length W → get_or W k 0 < 65536 → word_at (word_bytes W ++ rest) k ≡ get_or W k 0
unfolding word_at word_bytes
word_image [] rest k h b = absurd (omega arith)
word_image (w ∷ ws) rest zero h b = omega arith
word_image (w ∷ ws) rest (suc k) h b =
    let e : 2 * suc k ≡ suc (suc (2 * k)) = omega arith in
    let e1 : suc (suc (2 * k)) + 1 ≡ suc (suc (2 * k + 1)) = omega arith in
    rw (e, e1) (word_image ws rest k (omega arith) b)

-- a word is below 65,536
pub word_below : (l : List ℕ) → ((i : ℕ) → get_or l i 0 < 256) → (k : ℕ) → word_at l k < 65536
unfolding word_at
word_below l b k = omega (arith, b (2 * k), b (2 * k + 1))

high_byte : (a b : ℕ) → a < 256 → b < 256 → (a + 256 * b) / 256 % 256 ≡ b
high_byte a b p q =
    let e : (a + 256 * b) / 256 ≡ a / 256 + b = add-mul-div_left a b (omega arith) in
    let f : a / 256 ≡ 0 = div-eq_of_lt p in
    rw (e, f, zero-add) (mod-eq_of_lt q)

-- bytes are those of the words that are read from them
pub bytes_run : (l : List ℕ) (s n : ℕ) → ((i : ℕ) → get_or l i 0 < 256) → 2 * (s + n) ≤ length l → take (2 * n) (drop (2 * s) l) ≡ word_bytes (run (word_at l) s n)
unfolding word_bytes run word_at
bytes_run l s zero b h = refl
bytes_run l s (suc n) b h =
    let e : 2 * suc n ≡ suc (suc (2 * n)) = omega arith in
    let e2 : suc (suc (2 * s)) ≡ 2 * suc s = omega arith in
    let e3 : suc (2 * s) ≡ 2 * s + 1 = omega arith in
    let low : (get_or l (2 * s) 0 + 256 * get_or l (2 * s + 1) 0) % 256 ≡ get_or l (2 * s) 0 = add-mul-mod_self_left (get_or l (2 * s) 0) 256 (get_or l (2 * s + 1) 0) ∙ mod-eq_of_lt (b (2 * s)) in
    let high : (get_or l (2 * s) 0 + 256 * get_or l (2 * s + 1) 0) / 256 % 256 ≡ get_or l (2 * s + 1) 0 = high_byte (get_or l (2 * s) 0) (get_or l (2 * s + 1) 0) (b (2 * s)) (b (2 * s + 1)) in
    ap (take (2 * suc n)) (drop-cons l (2 * s) 0 (omega arith) ∙ ap (λ (r : List ℕ). get_or l (2 * s) 0 ∷ r) (drop-cons l (suc (2 * s)) 0 (omega arith)))
    ∙ rw (e, e2, e3, low, high, bytes_run l (suc s) n b (omega arith))
