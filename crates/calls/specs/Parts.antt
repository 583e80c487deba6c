-- The part of a text that an answer names: its bytes, and where it stands in memory.
use Rattle.std.specs.Prelude.{ℕ, ◌+◌, ◌≤◌, ◌≡◌, List, length}
use Rattle.std.specs.Borrow.{Bor}
use Rattle.model.specs.Numbers.{located_in_second, located_start, located_length}
use Rattle.model.specs.Asking.{part_bytes}
use Rattle.model.specs.declared.answers.Located.{Located}
use Rattle.calls.specs.Answers.{name_answer, parameter_answer}

-- "A refused request .. gives the empty part at the start of the first text. An accepted one gives the name's bytes, or the
-- parameter's without quotes, as a part of the text."
unfoldable pub part_of : (first second : List ℕ) → Located → List ℕ
part_of first second place =
    part_bytes first second (located_in_second place) (record { start = located_start place; len = located_length place })

-- the part lies in its text
abbrev pub PartWithin : (first second : List ℕ) → Located → Type 0
PartWithin first second (Located.First start len) = start + len ≤ length first
PartWithin first second (Located.Second start len) = start + len ≤ length second
PartWithin first second (Located.Refused n) = Unit

abbrev pub name_part : (table first second : List ℕ) → (production call : ℕ) → List ℕ
name_part table first second production call = part_of first second (name_answer table first second production call)

abbrev pub parameter_part : (table first second : List ℕ) → (production call parameter : ℕ) → List ℕ
parameter_part table first second production call parameter =
    part_of first second (parameter_answer table first second production call parameter)

-- where the part begins, by where the texts begin: a block of memory, and a byte of it
abbrev pub begins_at : (first second : ℕ × ℕ) → Located → ℕ × ℕ
begins_at first second (Located.First start len) = (first.0, first.1 + start)
begins_at first second (Located.Second start len) = (second.0, second.1 + start)
begins_at first second (Located.Refused n) = first

-- a slice that is the named part of one of two lent texts, and no copy
pub record IsPart (first second part : Bor (List ℕ)) (place : Located) : Type 0 where
  pub bytes : part.now ≡ part_of first.now second.now place
  pub begins : part.ref_ptr ≡ begins_at first.ref_ptr second.ref_ptr place
