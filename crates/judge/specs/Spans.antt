-- What the parts of an event stand for, and where they lie.
use Rattle.std.specs.Prelude.{ℕ, ◌≤◌, Bool, cond, List}
use Rattle.model.specs.Events.{ModifierList, no_modifier, any_modifier, Written}
use Rattle.event_scanner.specs.Spans.{list_in, count_in, part_in}
use Rattle.event_scanner.specs.declared.events.CountSpan.{CountSpan}
use Rattle.event_scanner.specs.declared.events.EventSpans.{EventSpans}

-- `None` or `Any`
abbrev pub lone_list_of : Bool → ModifierList
lone_list_of none = cond none no_modifier any_modifier

-- the event of the model
abbrev pub written_in : List ℕ → EventSpans → Written
written_in l s =
    record {
      list = list_in l s.list;
      type_name = part_in l s.name;
      count = count_in l s.count;
      detail = part_in l s.detail;
    }

-- within a line of n bytes
abbrev pub CountSpanIn : ℕ → CountSpan → Type 0
CountSpanIn n CountSpan.Absent = Unit
CountSpanIn n (CountSpan.Digits start end plus) = (start ≤ end) × (end ≤ n)

pub record SpansIn (n : ℕ) (s : EventSpans) : Type 0 where
  pub list : s.list.start ≤ n
  pub name_from : s.name.start ≤ s.name.end
  pub name_to : s.name.end ≤ n
  pub count : CountSpanIn n s.count
  pub detail_from : s.detail.start ≤ s.detail.end
  pub detail_to : s.detail.end ≤ n
