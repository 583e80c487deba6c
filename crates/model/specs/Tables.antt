-- What a table holds, as the papers speak of it: no layout.
use Rattle.std.specs.Prelude.{ℕ, Bool, List, [], false}
use Rattle.model.specs.declared.scan.Span.{Span}
use Rattle.model.specs.declared.events.KeptEvent.{KeptEvent}
use Rattle.model.specs.declared.events.Directive.{Directive}

-- a call: where its name and its parameters stand in the text that it came from
pub record Call : Type 0 where
  -- the text mark: the call came from the second of two texts
  pub second : Bool
  pub name : Span
  pub parameters : List Span

-- "A production is events parted by commas, a colon, then zero or more calls."
pub record Production : Type 0 where
  pub events : List KeptEvent
  pub calls : List Call

pub record Table : Type 0 where
  pub directive : Directive
  -- it is the result of a merge
  pub merged : Bool
  -- "text lengths that the table keeps"
  pub first_length : ℕ
  pub second_length : ℕ
  pub productions : List Production

-- the table of a text of no bytes
abbrev pub empty_table : Table
empty_table = record { directive = Directive.Replace; merged = false; first_length = 0; second_length = 0; productions = [] }
