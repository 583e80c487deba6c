-- The order of writing, and the texts of a list by their place.
use Rattle.std.specs.Prelude.{ℕ, ◌-◌, Bool, cond, not, ◌&&◌, List, eqb, ltb}
use Rattle.std.specs.Int.Bits.{bit_or}
use Rattle.model.specs.Named.{kept_as_written}
use Rattle.model.specs.Canonical.{writes_bang, bit_text, is_written_bit}
use Rattle.model.specs.declared.events.KeptEvent.{KeptEvent}
use Rattle.name_text.specs.Forms.{has_form, form_text}

-- the j-th bit in the order of writing
unfoldable pub order_at : ℕ → ℕ
order_at j = cond (eqb j 0) 2 (cond (ltb j 3) (j - 1) j)

-- `!` stands for the clear bits, so that only set ones are listed
unfoldable pub is_brief : KeptEvent → Bool
is_brief e = writes_bang e && not (kept_as_written e)

-- the bits that are listed, one mask
unfoldable pub listed_bits : KeptEvent → ℕ
listed_bits e = cond (is_brief e) e.set (bit_or e.set e.clear)

-- the places 0..12 of a list are those of bits, 13..28 those of names' forms: the event has the text of a place, and the text
unfoldable pub has_place : KeptEvent → ℕ → Bool
has_place e j = cond (ltb j 13) (is_written_bit e (order_at j)) (has_form e (j - 13))

unfoldable pub place_text : KeptEvent → ℕ → List ℕ
place_text e j = cond (ltb j 13) (bit_text e (order_at j)) (form_text e (j - 13))
