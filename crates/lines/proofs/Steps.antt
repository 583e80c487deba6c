-- How much can be kept of what stands at a position of a line.
use Prim.Native.Nat.{ℕ, suc, ◌+◌, ◌*◌, ◌≤◌, ◌<◌}
use native.Mathlib.Omega.{arith}
use mathlib.Core.Path.{◌≡◌, refl, sym, ap, subst, ◌∙◌}
use mathlib.Core.Bool.{Bool, false}
use mathlib.Core.List.{List, [], ◌∷◌}
use lib.ListN.{length, length-append}
use Rattle.model.specs.Bytes.{byte_at, sign_at, skip}
use Rattle.model.specs.Counts.{elements_of, elements_at, expanded}
use Rattle.model.specs.Events.{WrittenEvent, EventsRead, events, lead_at, modifiers_at, type_at, count_at, keys_from, events_at}
use Rattle.model.specs.Judging.{judged}
use Rattle.model.specs.Compiling.{EventsJudged, keep, crowded, keep_one_more, crowded_with, judged_next, judged_all}
use Rattle.model.specs.declared.scan.TypeRead.{TypeRead}
use Rattle.model.specs.declared.scan.CountRead.{CountRead}
use Rattle.model.specs.declared.events.KeptEvent.{KeptEvent}
use Rattle.model.specs.declared.answers.Judged.{Judged}
use Rattle.list_scanner.specs.declared.lists.ListRead.{ListRead}
use Rattle.event_scanner.specs.declared.events.Part.{Part}
use Rattle.event_scanner.specs.declared.events.ListSpans.{ListSpans}
use Rattle.event_scanner.specs.declared.events.EventRead.{EventRead}
use Rattle.list_scanner.specs.ModifierLists.{summed, list_from}
use Rattle.event_scanner.specs.Spans.{count_spans, type_spans, with_list_read, list_spans, plain_spans, keyed, keys_spans, key_spans, spans_from, spans_at, events_in, read_of}
use Rattle.scanner.proofs.Ranges.{cond_in}
use Rattle.event_scanner.proofs.Meaning.{spans_read}
use Rattle.event_scanner.proofs.KeyCounts.{KeysIn, keys_in}
use Rattle.event_scanner.proofs.EventRanges.{EventIn, spans_in_lem}
use Rattle.counts.proofs.Elements.{element_count_lem, count_at_most}
use Rattle.judge.specs.Ranges as judge
use Rattle.judge.proofs.EventRanges.{judged_in}
use Rattle.judge.proofs.LineRanges.{AllWritten, ReadIn, events_written}
use Rattle.lines.specs.declared.left.StepJudged.{StepJudged}
use Rattle.lines.specs.Left.{kept_counts, going_on, step_judged}

-- ---- A key sequence that was read is in the grammar, and has a character

abbrev pub KeysWhole : List ℕ → EventRead → Type 0
KeysWhole l EventRead.Broken = Unit
KeysWhole l (EventRead.Plain s) = Unit
KeysWhole l (EventRead.Keys start count next) =
    (sign_at l start "\"" ≡ false) × (keys_from (length l + 1) l start ≡ read_of l (EventRead.Keys start count next))

module _ (l : List ℕ) where
  keys_whole : (at : ℕ) (r : EventsRead) → sign_at l at "\"" ≡ false → keys_from (length l + 1) l at ≡ r
      → KeysWhole l (keys_spans at (keyed r))
  keys_whole at EventsRead.broken q e = tt
  keys_whole at (events ks next) q e = (q, e ∙ ap (λ (r : EventsRead). events (events_in r) next) (sym e))

  count_whole : (list : ListSpans) (name : Part) (r : CountRead) → KeysWhole l (count_spans l list name r)
  count_whole list name CountRead.Broken = tt
  count_whole list name (CountRead.Absent next) = tt
  count_whole list name (CountRead.Digits start end plus next) = tt

  type_whole : (list : ListSpans) (r : TypeRead) → KeysWhole l (type_spans l list r)
  type_whole list TypeRead.Broken = tt
  type_whole list (TypeRead.Type start end next) = count_whole list (record { start = start; end = end }) (count_at l next)

  list_whole : (bang colon : Bool) (start : ℕ) (r : ListRead) → KeysWhole l (with_list_read l bang colon start r)
  list_whole bang colon start ListRead.Broken = tt
  list_whole bang colon start (ListRead.List kind end) =
      type_whole (record { kind = kind; bang = bang; colon = colon; start = start }) (type_at l end)

  pub spans_whole : (at : ℕ) → KeysWhole l (spans_at l at)
  unfolding spans_at spans_from key_spans plain_spans list_spans
  spans_whole at =
      let p = skip l at in
      cond_in (KeysWhole l) (sign_at l p "\"")
      (λ e.
      cond_in (KeysWhole l) (sign_at l (p + 1) "\"") (λ e. tt) (λ e. keys_whole (p + 1) (keys_from (length l + 1) l (p + 1)) e refl))
      (λ e.
      list_whole (lead_at l p).bang (lead_at l p).colon (lead_at l p).next
      (list_from (lead_at l p).bang (lead_at l p).colon (summed (modifiers_at l (lead_at l p).next))))

-- ---- No more events than bytes

abbrev pub CountsIn : ℕ → ℕ → EventsRead → Type 0
CountsIn n at EventsRead.broken = Unit
CountsIn n at (events es next) = (at + length es ≤ next) × (next ≤ n)

read_counts : (l : List ℕ) (at : ℕ) (r : EventRead) → EventIn (length l) at r → KeysWhole l r → CountsIn (length l) at (read_of l r)
read_counts l at EventRead.Broken h w = tt
read_counts l at (EventRead.Plain s) h w =
    (omega (arith, h.list, h.name_from, h.name, h.detail_from, h.detail), h.within)
read_counts l at (EventRead.Keys start count next) h w =
    let k : KeysIn (length l) start (read_of l (EventRead.Keys start count next)) =
    subst (KeysIn (length l) start) w.1 (keys_in (length l + 1) l start) in
    (omega (arith, h.0, k.0), h.2)

pub counts_in : (l : List ℕ) (at : ℕ) → at ≤ length l → CountsIn (length l) at (events_at l at)
counts_in l at h =
    subst (CountsIn (length l) at) (spans_read l at) (read_counts l at (spans_at l at) (spans_in_lem l at h) (spans_whole l at))

-- ---- What judging keeps

abbrev pub AllKept : List KeptEvent → Type 0
AllKept [] = Unit
AllKept (e ∷ es) = judge.EventIn e × AllKept es

abbrev pub JudgedIn : ℕ → EventsJudged → Type 0
JudgedIn n (keep ks) = (length ks ≡ n) × AllKept ks
JudgedIn n crowded = Unit
JudgedIn n (EventsJudged.refuse k) = Unit

more_in : (n : ℕ) (e : KeptEvent) (j : EventsJudged) → judge.EventIn e → JudgedIn n j → JudgedIn (suc n) (keep_one_more e j)
more_in n e (keep ks) h k = (ap suc k.0, (h, k.1))
more_in n e crowded h k = tt
more_in n e (EventsJudged.refuse m) h k = tt

crowded_in : (n : ℕ) (j : EventsJudged) → JudgedIn n (crowded_with j)
crowded_in n (keep ks) = tt
crowded_in n crowded = tt
crowded_in n (EventsJudged.refuse m) = tt

next_in : (n : ℕ) (w : WrittenEvent) (d : Judged) (j : EventsJudged) → judge.WrittenIn w → judged w ≡ d → JudgedIn n j
    → JudgedIn (suc n) (judged_next d j)
next_in n w (Judged.Keep e) j h q k = more_in n e j (judged_in w e h q) k
next_in n w Judged.Crowded j h q k = crowded_in (suc n) j
next_in n w (Judged.Refuse m) j h q k = tt

-- as many as were written, each in range
pub judged_all_in : (ws : List WrittenEvent) → AllWritten ws → JudgedIn (length ws) (judged_all ws)
unfolding judged_all
judged_all_in [] h = (refl, tt)
judged_all_in (w ∷ ws) h = next_in (length ws) w (judged w) (judged_all ws) h.0 refl (judged_all_in ws h.1)

pub expanded_most : (ks : List KeptEvent) → AllKept ks → length (expanded ks) ≤ 18 * length ks
unfolding expanded elements_of
expanded_most [] h = omega arith
expanded_most (e ∷ es) h =
    omega
    (arith, expanded_most es h.1, length-append (elements_at e.count e) (expanded es), element_count_lem e.count e, count_at_most e.code e.count 9 h.0.count_to (omega arith))

-- ---- One step

abbrev pub StepIn : ℕ → ℕ → StepJudged → Type 0
StepIn n at StepJudged.Broken = Unit
StepIn n at (StepJudged.Refuse k) = Unit
StepIn n at (StepJudged.Keep a b one next) = (at + a ≤ next) × (b ≤ 18 * a) × (next ≤ n)

step_of_in : (n at m next : ℕ) (j : EventsJudged) → at + m ≤ next → next ≤ n → JudgedIn m j → StepIn n at (going_on m (kept_counts j) next)
step_of_in n at m next (keep ks) a b h = (omega (arith, h.0), expanded_most ks h.1, b)
step_of_in n at m next crowded a b h = (omega arith, omega arith, b)
step_of_in n at m next (EventsJudged.refuse k) a b h = tt

step_read_in : (n at : ℕ) (r : EventsRead) → CountsIn n at r → ReadIn r → StepIn n at (step_judged r)
step_read_in n at EventsRead.broken h k = tt
step_read_in n at (events es next) h k = step_of_in n at (length es) next (judged_all es) h.0 h.1 (judged_all_in es k)

pub step_in : (l : List ℕ) (at : ℕ) → ((k : ℕ) → byte_at l k < 256) → at ≤ length l → StepIn (length l) at (step_judged (events_at l at))
step_in l at b h = step_read_in (length l) at (events_at l at) (counts_in l at h) (events_written l b at)
