-- The parts that the scanner reads lie in the line, and an event kept of them is in range.
use Prim.Native.Nat.{ℕ, ◌<◌}
use native.Mathlib.Omega.{arith}
use mathlib.Core.Path.{◌≡◌}
use mathlib.Core.List.{List}
use Rattle.model.specs.Bytes.{byte_at}
use Rattle.model.specs.Judging.{judged_written}
use Rattle.model.specs.declared.events.KeptEvent.{KeptEvent}
use Rattle.model.specs.declared.answers.Judged.{Judged}
use Rattle.event_scanner.specs.declared.events.CountSpan.{CountSpan}
use Rattle.event_scanner.specs.declared.events.EventSpans.{EventSpans}
use Rattle.event_scanner.proofs.EventRanges as scanner
use Rattle.judge.specs.Ranges.{EventIn}
use Rattle.judge.specs.Spans.{written_in, CountSpanIn, SpansIn}
use Rattle.judge.proofs.Words.{part_in, spans_words}
use Rattle.judge.proofs.EventRanges.{written_in_lem}

count_span : (n from : ℕ) (c : CountSpan) → scanner.CountSpanIn n from c → CountSpanIn n c
count_span n from CountSpan.Absent h = tt
count_span n from (CountSpan.Digits start end plus) h = (omega (arith, h.1), omega (arith, h.2))

-- what the scanner shows of the parts is what `judge_event` requires
pub spans_within : (n at : ℕ) (s : EventSpans) → scanner.PlainIn n at s → SpansIn n s
spans_within n at s h =
    record {
      list = omega (arith, h.name_from, h.name, h.detail_from, h.detail, h.within);
      name_from = omega (arith, h.name);
      name_to = omega (arith, h.detail_from, h.detail, h.within);
      count = count_span n s.name.end s.count h.count;
      detail_from = h.detail;
      detail_to = h.within;
    }

-- an event that is kept of a line of bytes
pub spans_kept : (l : List ℕ) (s : EventSpans) (e : KeptEvent) → ((k : ℕ) → byte_at l k < 256)
    → judged_written (written_in l s) ≡ Judged.Keep e → EventIn e
spans_kept l s e h p =
    written_in_lem (written_in l s) e (part_in l s.detail.start s.detail.end (h s.detail.start), spans_words l h s.list) p
