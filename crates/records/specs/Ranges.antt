-- What holds of every event that a record is read to.
use Rattle.std.specs.Prelude.{◌≤◌, ◌<◌}
use Rattle.model.specs.declared.events.Event.{Event}

pub record EventRanges (e : Event) : Type 0 where
  pub code_least : 2 ≤ e.code
  pub code_most : e.code ≤ 34
  -- 13 bits
  pub state_most : e.state < 8192
  -- a key event's keycode has a pair in the map
  pub keycode_least : e.code ≤ 3 → 8 ≤ e.detail
