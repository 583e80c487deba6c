-- A whole line in the bytes of a table: its two sides and its production, and that they fit. And the header, which is written last.
use Rattle.std.specs.Prelude.{ℕ, ◌≤◌, ◌<◌, ◌≡◌, false, List, map}
use Rattle.model.specs.Events.{left_side}
use Rattle.model.specs.Calls.{right_side}
use Rattle.model.specs.Compiling.{call_of}
use Rattle.model.specs.declared.events.Directive.{Directive}
use Rattle.event_scanner.specs.Spans.{events_in}
use Rattle.call_scanner.specs.RightSide.{calls_in}
use Rattle.lines.specs.Line.{calls_start}
use Rattle.lines.specs.declared.line.LineJudged.{LineJudged}
use Rattle.lines.specs.declared.totals.Totals.{Totals}
use Rattle.lines.specs.declared.totals.Line.{Line}
use Rattle.tables.specs.Writing.{put_production, put_texts, put_counts}
use Rattle.line_writer.specs.Puts.{put_written, put_calls}
use Rattle.line_writer.specs.Reads.{EventsFit, CallsFit}

-- the events and calls of a line that begins at `base`, its calls at `right`, after productions with these totals
unfoldable pub put_sides : ℕ → List ℕ → Totals → ℕ → List ℕ → List ℕ
put_sides base l t right out =
    put_calls
    (put_written out t.events (events_in (left_side l)))
    t.calls
    t.parameters
    (map (call_of base) (calls_in (right_side l right)))

-- and its production
unfoldable pub put_line : ℕ → List ℕ → Totals → Line → List ℕ → List ℕ
put_line base l t line out = put_production (put_sides base l t line.right out) t.productions line.events line.calls

-- a line that adds a production has its events and calls in the bytes, where they fit
abbrev pub AddedPut : (base : ℕ) (l : List ℕ) (t : Totals) (before after : List ℕ) → LineJudged → Type 0
AddedPut base l t before after (LineJudged.Refuse n) = Unit
AddedPut base l t before after (LineJudged.Add line) =
    EventsFit (left_side l) t.events → CallsFit (right_side l (calls_start l)) t.calls t.parameters
    → after ≡ put_sides base l t (calls_start l) before

-- a line that was judged, after productions with these totals
pub record LineFits (l : List ℕ) (t : Totals) (line : Line) : Type 0 where
  pub events : EventsFit (left_side l) t.events
  pub calls : CallsFit (right_side l line.right) t.calls t.parameters
  pub production : t.productions < 64
  pub few_events : line.events ≤ 256
  pub few_calls : line.calls ≤ 128

-- the header of a table of one text
unfoldable pub put_header : List ℕ → Directive → Totals → (text : ℕ) → List ℕ
put_header out d t text = put_counts (put_texts out d false text 0) t.productions t.events t.calls t.parameters
