-- What a record that is not refused is known to have.
use Prim.Native.Nat.{ℕ}
use mathlib.Core.Path.{◌≡◌, refl}
use mathlib.Core.Bool.{Bool, true, false, not, ◌||◌, true≢false}
use mathlib.Core.List.{List}
use lib.Dec.{eqb}
use lib.ListN.{length}
use borrow.Author.Tests.{eqb-true, not-false}
use Rattle.model.specs.Codes.{is_event_code}
use Rattle.model.specs.Records.{code_of, bad_order, bad_keycode, is_bad_record}

either_left : (a b : Bool) → a || b ≡ false → a ≡ false
either_left true b e = e
either_left false b e = refl

either_right : (a b : Bool) → a || b ≡ false → b ≡ false
either_right true b e = absurd (true≢false e)
either_right false b e = e

module _ (bytes : List ℕ) (order : ℕ) (good : is_bad_record bytes order ≡ false) where
  abbrev short : Bool
  short = not (eqb (length bytes) 32)

  abbrev outside : Bool
  outside = not (is_event_code (code_of bytes))

  pub good_length : length bytes ≡ 32
  unfolding is_bad_record
  good_length =
      eqb-true _ _
      (not-false (eqb (length bytes) 32)
      (either_left short (bad_order order)
      (either_left (short || bad_order order) outside
      (either_left (short || bad_order order || outside) (bad_keycode bytes) good))))

  -- its code is one of the protocol's
  pub good_code : is_event_code (code_of bytes) ≡ true
  unfolding is_bad_record
  good_code =
      not-false (is_event_code (code_of bytes))
      (either_right (short || bad_order order) outside
      (either_left (short || bad_order order || outside) (bad_keycode bytes) good))

  -- a key event's keycode is 8 or more
  pub good_keycode : bad_keycode bytes ≡ false
  unfolding is_bad_record
  good_keycode = either_right (short || bad_order order || outside) (bad_keycode bytes) good
