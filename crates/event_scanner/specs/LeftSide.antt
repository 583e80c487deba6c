-- The left side of a production: what the code keeps of the model's reading of its events.
use Rattle.std.specs.Prelude.{ℕ, List}
use Rattle.model.specs.Events.{EventsRead, events, events_at, after_event_at}
use Rattle.model.specs.declared.scan.AfterEvent.{AfterEvent}
use Rattle.event_scanner.specs.declared.left.LeftRead.{LeftRead}

abbrev pub step_of : List ℕ → EventsRead → AfterEvent
step_of l EventsRead.broken = AfterEvent.Broken
step_of l (events es next) = after_event_at l next

unfoldable pub event_step : List ℕ → ℕ → AfterEvent
event_step l at = step_of l (events_at l at)

abbrev pub left_of : EventsRead → LeftRead
left_of EventsRead.broken = LeftRead.Broken
left_of (events es next) = LeftRead.Left next
