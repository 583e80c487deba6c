-- What `whole`, `encode` and `decode` are to each other (specs/Laws).
use Prim.Native.Nat.{ℕ, ◌-◌, ◌≤◌}
use native.Mathlib.Omega.{arith}
use mathlib.Core.Path.{◌≡◌, refl, sym, ap, ◌∙◌}
use mathlib.Core.List.{List, [], ◌∷◌, ◌++◌, map}
use mathlib.Core.Bool.{true}
use lib.ListN.{length, take, drop, take-append-drop, length-append}
use lib.Seq.{take_at}
use Rattle.words.specs.Words.{word_bytes, zeros}
use Rattle.words.proofs.Bools.{and_left, and_right, and_both}
use Rattle.words.proofs.Laws.{zeros_add}
use Rattle.words.proofs.Images.{bytes_zeros}
use Rattle.model.specs.Lists.{same}
use Rattle.model.specs.Tables.{Table}
use Rattle.model.proofs.Sameness.{same_eq, same_refl}
use Rattle.tables.specs.Layout.{padded, joined_sections, offset, columns, capacities, table_length, flat, header_of, entries_of, sections_of, image, encode}
use Rattle.tables.specs.Reading.{decode}
use Rattle.tables.specs.Fitting.{fitting}
use Rattle.tables.specs.Whole.{whole}
use Rattle.tables.specs.Laws.{DecodeEncode, HoldsTable, WholeHolds, HoldsWhole, HoldsDecode, EncodeEmpty}
use Rattle.tables.proofs.Images.{length_image}
use Rattle.tables.proofs.Encoded as encoded

pub decode_encode : DecodeEncode
decode_encode t fit rest = encoded.decode_encode t fit rest

pub length_encode : (t : Table) → fitting t ≡ true → length (encode t) ≡ table_length
unfolding encode
length_encode t fit = length_image (entries_of t) (encoded.room t fit [])

-- the bytes of a table that fits are whole
pub whole_encode : (t : Table) → fitting t ≡ true → (rest : List ℕ) → whole (encode t ++ rest) ≡ true
unfolding whole
whole_encode t fit rest =
    rw (decode_encode t fit rest, take_at (encode t) rest table_length (length_encode t fit))
    (and_both (fitting t) (same (encode t) (encode t)) fit (same_refl (encode t)))

pub whole_holds : WholeHolds
unfolding whole
whole_holds l e =
    record {
      fits = and_left (fitting (decode l)) (same (take table_length l) (encode (decode l))) e;
      bytes = same_eq (take table_length l) (encode (decode l)) (and_right (fitting (decode l)) (same (take table_length l) (encode (decode l))) e);
    }

pub holds_split : (t : Table) (l : List ℕ) → HoldsTable t l → l ≡ encode t ++ drop table_length l
holds_split t l h = sym (take-append-drop table_length l) ∙ ap (λ (a : List ℕ). a ++ drop table_length l) h.bytes

pub holds_whole : HoldsWhole
holds_whole t l h = rw (holds_split t l h) (whole_encode t h.fits (drop table_length l))

pub holds_decode : HoldsDecode
holds_decode t l h = rw (holds_split t l h) (decode_encode t h.fits (drop table_length l))

pub whole_length : (l : List ℕ) → whole l ≡ true → table_length ≤ length l
whole_length l e =
    let h : HoldsTable (decode l) l = whole_holds l e in
    omega (arith, ap length (holds_split (decode l) l h), length-append (encode (decode l)) (drop table_length l), length_encode (decode l) h.fits)

-- ---- The empty table

zeros_none : [] ≡ zeros 0
unfolding zeros
zeros_none = refl

pub joined_empty : (cs : List ℕ) → joined_sections cs (map (λ c. []) cs) ≡ zeros (offset cs (length cs))
unfolding joined_sections padded
joined_empty [] = zeros_none
joined_empty (c ∷ cs) =
    let e : c - 0 ≡ c = omega arith in
    rw (e, joined_empty cs) (zeros_add c (offset cs (length cs)))

header_empty : padded 8 (0 ∷ 0 ∷ 0 ∷ 0 ∷ 0 ∷ 0 ∷ 0 ∷ 0 ∷ []) ≡ zeros 8
unfolding padded zeros
header_empty = refl

abbrev after_header : List ℕ
after_header = drop 1 capacities

words_empty : padded 8 (0 ∷ 0 ∷ 0 ∷ 0 ∷ 0 ∷ 0 ∷ 0 ∷ 0 ∷ []) ++ joined_sections after_header (map (λ c. []) after_header) ≡ zeros 5000
words_empty = rw (header_empty, joined_empty after_header) (zeros_add 8 4992)

pub encode_empty : EncodeEmpty
unfolding encode image entries_of sections_of columns header_of flat joined_sections
encode_empty = ap word_bytes words_empty ∙ bytes_zeros 5000
