-- What a table says over its texts: events as kept, and calls by the bytes of their names and parameters.
use Rattle.std.specs.Prelude.{ℕ, List, map}
use Rattle.model.specs.Asking.{part_bytes}
use Rattle.model.specs.Tables.{Call, Production, Table}
use Rattle.model.specs.declared.events.KeptEvent.{KeptEvent}

-- a call as the reader of calls hands it over
pub record CallBytes : Type 0 where
  pub name : List ℕ
  pub parameters : List (List ℕ)

pub record Content : Type 0 where
  pub events : List KeptEvent
  pub calls : List CallBytes

module _ (first second : List ℕ) where
  abbrev pub call_bytes : Call → CallBytes
  call_bytes c =
      record {
        name = part_bytes first second c.second c.name;
        parameters = map (part_bytes first second c.second) c.parameters;
      }

  abbrev pub content : Production → Content
  content p = record { events = p.events; calls = map call_bytes p.calls }

  -- production by production
  abbrev pub contents : Table → List Content
  contents t = map content t.productions
