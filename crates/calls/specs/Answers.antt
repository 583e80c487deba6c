-- What each request answers, for any bytes: its number, its values, and the case of the answer. What is asked of a table is a
-- definition of model's Asking, which finds a count or a place or says that it is not there.
use Rattle.std.specs.Prelude.{ℕ, zero, suc, ◌≡◌, Bool, true, false, List}
use Rattle.model.specs.Numbers.{read_order, counted_number, counted_count, located_number, located_in_second, located_start, located_length}
use Rattle.model.specs.Asking.{production_count, call_count, parameter_count, located_name, located_parameter}
use Rattle.model.specs.declared.answers.Counted.{Counted}
use Rattle.model.specs.declared.answers.Located.{Located}
use Rattle.tables.specs.Reading.{decode}
use Rattle.calls.specs.Refusals.{is_short, table_broken, lent_not_whole}

module _ {A : Type 0} where
  -- a value where the number is 0, and what stands for it in a refusal
  abbrev pub if_accepted : (number : ℕ) → A → A → A
  if_accepted zero value none = value
  if_accepted (suc n) value none = none

-- ---- How many

-- "16: production, call or parameter asked for isn't there"
abbrev pub no_count : Counted → Bool
no_count (Counted.Accepted k) = false
no_count (Counted.Refused n) = true

-- "Reading a name or parameter: 1 for the table, 12, 16."
unfoldable pub count_number : List ℕ → Counted → ℕ
count_number table asked = read_order (is_short table) (table_broken table) (no_count asked)

-- the count of an answer r
abbrev pub CountValue : (asked r : Counted) → Type 0
CountValue asked r = counted_count r ≡ if_accepted (counted_number r) (counted_count asked) 0

-- a number is a refusal, and 0 lets what was asked for stand
abbrev pub or_refused : ℕ → Counted → Counted
or_refused zero asked = asked
or_refused (suc n) asked = Counted.Refused (suc n)

unfoldable pub count_answer : List ℕ → Counted → Counted
count_answer table asked = or_refused (count_number table asked) asked

abbrev pub productions_answer : List ℕ → Counted
productions_answer table = count_answer table (production_count (decode table))

abbrev pub calls_answer : List ℕ → (production : ℕ) → Counted
calls_answer table production = count_answer table (call_count (decode table) production)

abbrev pub parameters_answer : List ℕ → (production call : ℕ) → Counted
parameters_answer table production call = count_answer table (parameter_count (decode table) production call)

-- ---- Where

abbrev pub no_place : Located → Bool
no_place (Located.First start len) = false
no_place (Located.Second start len) = false
no_place (Located.Refused n) = true

-- "1 for the table, 12, 16"; 12 also for a lent text that is too short
unfoldable pub place_number : (table first second : List ℕ) → Located → ℕ
place_number table first second asked = read_order (is_short table) (lent_not_whole table first second) (no_place asked)

-- the values of an answer r: the mark of the text, the start and the length of the part asked for, or, of a refusal, "the
-- empty part at the start of the first text"
pub record PlaceValues (asked r : Located) : Type 0 where
  pub second : located_in_second r ≡ if_accepted (located_number r) (located_in_second asked) false
  pub start : located_start r ≡ if_accepted (located_number r) (located_start asked) 0
  pub len : located_length r ≡ if_accepted (located_number r) (located_length asked) 0

abbrev pub placed : ℕ → Located → Located
placed zero asked = asked
placed (suc n) asked = Located.Refused (suc n)

unfoldable pub place_answer : (table first second : List ℕ) → Located → Located
place_answer table first second asked = placed (place_number table first second asked) asked

abbrev pub name_answer : (table first second : List ℕ) → (production call : ℕ) → Located
name_answer table first second production call =
    place_answer table first second (located_name (decode table) production call)

abbrev pub parameter_answer : (table first second : List ℕ) → (production call parameter : ℕ) → Located
parameter_answer table first second production call parameter =
    place_answer table first second (located_parameter (decode table) production call parameter)
