-- Document 01, "Modifier tests": the bits, which of them a written list and an added modifier ask set or clear, when a state
-- meets that and when none can. The test of a kept event is in Asked, the bits that a table tests are in Matching.
use Rattle.std.specs.Prelude.{ℕ, ◌+◌, ◌/◌, ◌%◌, ◌^◌, Bool, true, false, cond, not, ◌&&◌, ◌||◌, List, [], ◌∷◌, eqb, ltb}
use Rattle.model.specs.Lists.{any, all}
use Rattle.model.specs.Names.{modifier_named}
use Rattle.model.specs.Events.{Modifier, name, keysym, ModifierList, listed, no_modifier, any_modifier}
use Rattle.model.specs.declared.names.Added.{Added}
use Rattle.model.specs.declared.names.ModifierName.{ModifierName}
use Rattle.model.specs.declared.events.KeptEvent.{KeptEvent}

-- ---- Bits

-- "Bits 0..12: Shift, Lock, Ctrl, Mod1..Mod5, Button1..Button5."
abbrev pub bits : List ℕ
bits = 0 ∷ 1 ∷ 2 ∷ 3 ∷ 4 ∷ 5 ∷ 6 ∷ 7 ∷ 8 ∷ 9 ∷ 10 ∷ 11 ∷ 12 ∷ []

abbrev pub button_bits : List ℕ
button_bits = 8 ∷ 9 ∷ 10 ∷ 11 ∷ 12 ∷ []

abbrev pub is_shift_or_lock : ℕ → Bool
is_shift_or_lock k = ltb k 2

-- bit k of a mask is set
abbrev pub bit : ℕ → ℕ → Bool
bit k mask = eqb (mask / 2 ^ k % 2) 1

abbrev pub bit_if : Bool → ℕ → ℕ
bit_if b k = cond b (2 ^ k) 0

abbrev pub sum_bits : (ℕ → Bool) → List ℕ → ℕ
sum_bits test [] = 0
sum_bits test (k ∷ ks) = bit_if (test k) k + sum_bits test ks

-- the mask of the bits that pass the test
unfoldable pub mask : (ℕ → Bool) → ℕ
mask test = sum_bits test bits

-- ---- What a written list asks

abbrev pub is_bit : ℕ → ModifierName → Bool
is_bit k (ModifierName.Bit n) = eqb n k
is_bit k (ModifierName.Named n) = false
is_bit k ModifierName.Unknown = false

-- R-1: Meta, Alt, Hyper or Super
abbrev pub is_mapped : ℕ → ModifierName → Bool
is_mapped k (ModifierName.Bit n) = false
is_mapped k (ModifierName.Named n) = eqb n k
is_mapped k ModifierName.Unknown = false

-- the modifier lists bit k, with `~` or without
abbrev pub lists : Bool → ℕ → Modifier → Bool
lists true k (name true word) = is_bit k (modifier_named word)
lists true k (name false word) = false
lists true k (keysym tilde word) = false
lists false k (name true word) = false
lists false k (name false word) = is_bit k (modifier_named word)
lists false k (keysym tilde word) = false

abbrev pub modifiers_of : ModifierList → List Modifier
modifiers_of (listed bang colon ms) = ms
modifiers_of no_modifier = []
modifiers_of any_modifier = []

unfoldable pub lists_set : ModifierList → ℕ → Bool
lists_set list k = any (lists false k) (modifiers_of list)

unfoldable pub lists_clear : ModifierList → ℕ → Bool
lists_clear list k = any (lists true k) (modifiers_of list)

-- the list has the bit: "listed" covers both signs
abbrev pub has : ModifierList → ℕ → Bool
has list k = lists_set list k || lists_clear list k

-- "`!` or `None` also asks every unlisted bit to be clear"
abbrev pub asks_others_clear : ModifierList → Bool
asks_others_clear (listed bang colon ms) = bang
asks_others_clear no_modifier = true
asks_others_clear any_modifier = false

abbrev pub has_colon : ModifierList → Bool
has_colon (listed bang colon ms) = colon
has_colon no_modifier = false
has_colon any_modifier = false

-- something is written before `<`: "a written modifier list (`!`, `:`, `None`, `Any` too)"
abbrev pub is_written : ModifierList → Bool
is_written (listed bang colon []) = bang || colon
is_written (listed bang colon (m ∷ ms)) = true
is_written no_modifier = true
is_written any_modifier = true

abbrev pub adds_bit : Added → ℕ → Bool
adds_bit Added.Nothing k = false
adds_bit (Added.Modifier n) k = eqb n k
adds_bit Added.AnyButton k = false
adds_bit Added.Meta k = false

-- "Listed bits must be as listed"; "A modifier added by a type name is asked set whatever the list says"
unfoldable pub asks_set : ModifierList → Added → ℕ → Bool
asks_set list added k = lists_set list k || adds_bit added k

-- "With a colon, Shift and Lock are not tested."
abbrev pub untested_by_colon : ModifierList → ℕ → Bool
untested_by_colon list k = has_colon list && is_shift_or_lock k

-- "`!` or `None` also asks every unlisted bit to be clear"; an added one too, "unless the list has it"
unfoldable pub asks_clear : ModifierList → ℕ → Bool
asks_clear list k = lists_clear list k || (asks_others_clear list && not (has list k) && not (untested_by_colon list k))

unfoldable pub set_mask : ModifierList → Added → ℕ
set_mask list added = mask (asks_set list added)

unfoldable pub clear_mask : ModifierList → ℕ
clear_mask list = mask (asks_clear list)

abbrev pub adds_clause : Added → Bool
adds_clause Added.Nothing = false
adds_clause (Added.Modifier n) = false
adds_clause Added.AnyButton = true
adds_clause Added.Meta = false

-- "The button clause of `<BtnMotion>` isn't kept where a button is already asked set."
unfoldable pub keeps_clause : ModifierList → Added → Bool
keeps_clause list added = adds_clause added && not (any (asks_set list added) button_bits)

-- ---- When a state meets an event's test

-- a bit asked set is set, and one asked clear is clear
abbrev pub as_asked : Bool → Bool → Bool → Bool
as_asked set clear is = (not set || is) && (not clear || not is)

abbrev pub bits_met : ℕ → ℕ → ℕ → Bool
bits_met set clear state = all (λ k. as_asked (bit k set) (bit k clear) (bit k state)) bits

-- "`<BtnMotion>` asks for at least one button"
abbrev pub clause_met : Bool → ℕ → Bool
clause_met clause state = not clause || any (λ k. bit k state) button_bits

unfoldable pub state_meets : ℕ → ℕ → Bool → ℕ → Bool
state_meets set clear clause state = bits_met set clear state && clause_met clause state

-- number 8, "no 13-bit modifier state meets the event's test": a bit is asked both set and clear, or at least one button is
-- asked for and all are asked clear (the crate modifiers shows that it is the same)
unfoldable pub no_state_meets : ℕ → ℕ → Bool → Bool
no_state_meets set clear clause =
    any (λ k. bit k set && bit k clear) bits || (clause && all (λ k. bit k clear) button_bits)

-- ---- What a kept event has of a bit

-- it asks the bit set or clear
abbrev pub asks_bit : KeptEvent → ℕ → Bool
asks_bit e k = bit k e.set || bit k e.clear

-- testable bits are 13, beside a colon 11
abbrev pub is_testable : KeptEvent → ℕ → Bool
is_testable e k = not (e.colon && is_shift_or_lock k)
