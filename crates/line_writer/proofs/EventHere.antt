-- What is read at a position of a line, an event or a key sequence: what judging and writing it comes to.
use Prim.Native.Nat.{ℕ, ◌+◌, ◌≤◌, ◌<◌}
use native.Mathlib.Omega.{arith}
use mathlib.Core.Path.{◌≡◌, refl, sym, ap, ◌∙◌, subst}
use mathlib.Core.Bool.{Bool, true, false, cond}
use mathlib.Core.List.{List, [], ◌∷◌}
use lib.Dec.{leb}
use lib.ListN.{length}
use borrow.Author.Tests.{le-leb, lt-leb}
use Rattle.model.specs.Events.{WrittenEvent, event, EventsRead, events, keys_from, events_at}
use Rattle.model.specs.Judging.{judged, judged_written}
use Rattle.model.specs.Compiling.{EventsJudged, keep, crowded, judged_all}
use Rattle.model.specs.declared.answers.Judged.{Judged}
use Rattle.event_scanner.specs.declared.events.EventSpans.{EventSpans}
use Rattle.event_scanner.specs.declared.events.EventRead.{EventRead}
use Rattle.event_scanner.specs.Spans.{spans_at, events_in, read_of}
use Rattle.event_scanner.proofs.EventRanges.{EventIn, spans_in_lem}
use Rattle.event_scanner.proofs.Walks.{Stands, spans_stand, keyed_good}
use Rattle.judge.specs.Spans.{written_in, SpansIn}
use Rattle.judge.proofs.SpanRanges.{spans_within}
use Rattle.lines.specs.declared.left.LeftJudged.{LeftJudged}
use Rattle.lines.specs.declared.left.StepJudged.{StepJudged}
use Rattle.lines.specs.Left.{IsRead, kept_counts, going_on, step_judged}
use Rattle.lines.proofs.Kept.{KeysKept, keys_kept}
use Rattle.line_writer.specs.Puts.{put_judged, put_written, put_fitting}
use Rattle.line_writer.specs.Reads.{EventsFit}
use Rattle.line_writer.proofs.AllKept.{kept_length}

-- ---- Events where they fit

same_put : (b : Bool) (out : List ℕ) → out ≡ cond b out out
same_put true out = refl
same_put false out = refl

pub put_nothing : (out : List ℕ) (k : ℕ) → out ≡ put_fitting out k []
unfolding put_fitting put_written
put_nothing out k = same_put (leb (k + 0) 256) out

pub put_all_lem : (out : List ℕ) (k : ℕ) (es : List WrittenEvent) → k + length es ≤ 256 → put_fitting out k es ≡ put_written out k es
unfolding put_fitting
put_all_lem out k es h = ap (λ (b : Bool). cond b (put_written out k es) out) (le-leb (k + length es) 256 h)

pub put_past : (out : List ℕ) (k : ℕ) (es : List WrittenEvent) → 256 < k + length es → out ≡ put_fitting out k es
unfolding put_fitting
put_past out k es h = ap (λ (b : Bool). cond b (put_written out k es) out) (sym (lt-leb (k + length es) 256 h))

pub fit_read : (r : EventsRead) (k : ℕ) → IsRead r → k + length (events_in r) ≤ 256 → EventsFit r k
fit_read EventsRead.broken k r h = r
fit_read (events es next) k r h = h

module _ (out : List ℕ) (k : ℕ) (l : List ℕ) (s : EventSpans) where
  -- an event by what it is judged
  pub put_one : (j : Judged) → judged_written (written_in l s) ≡ j
      → cond (leb (k + 1) 256) (put_judged out k j) out ≡ put_fitting out k (event (written_in l s) ∷ [])
  unfolding put_fitting put_written judged
  put_one j e = ap (λ (i : Judged). cond (leb (k + 1) 256) (put_judged out k i) out) (sym e)

  pub put_crowded : judged_written (written_in l s) ≡ Judged.Crowded → out ≡ put_fitting out k (event (written_in l s) ∷ [])
  put_crowded e = same_put (leb (k + 1) 256) out ∙ put_one Judged.Crowded e

  pub put_refused : (n : ℕ) → judged_written (written_in l s) ≡ Judged.Refuse n → out ≡ put_fitting out k (event (written_in l s) ∷ [])
  put_refused n e = same_put (leb (k + 1) 256) out ∙ put_one (Judged.Refuse n) e

-- ---- What is read

pub record PlainHere (l : List ℕ) (at : ℕ) (s : EventSpans) : Type 0 where
  pub spans : SpansIn (length l) s
  pub is : events (event (written_in l s) ∷ []) s.detail.end ≡ events_at l at

pub record KeysHere (l : List ℕ) (at start count next : ℕ) : Type 0 where
  pub inside : start ≤ length l
  pub read : IsRead (keys_from (length l + 1) l start)
  pub counted : count ≡ length (events_in (keys_from (length l + 1) l start))
  pub few : count ≤ length l
  pub step : StepJudged.Keep count count false next ≡ step_judged (events_at l at)
  pub are : events_in (keys_from (length l + 1) l start) ≡ events_in (events_at l at)

abbrev pub ReadHere : List ℕ → ℕ → EventRead → Type 0
ReadHere l at EventRead.Broken = EventsRead.broken ≡ events_at l at
ReadHere l at (EventRead.Plain s) = PlainHere l at s
ReadHere l at (EventRead.Keys start count next) = KeysHere l at start count next

module _ (l : List ℕ) (at : ℕ) where
  read_here : (r : EventRead) → read_of l r ≡ events_at l at → EventIn (length l) at r → Stands l r → ReadHere l at r
  read_here EventRead.Broken e b s = e
  read_here (EventRead.Plain s) e b w = record { spans = spans_within (length l) at s b; is = e }
  read_here (EventRead.Keys start count next) e b w =
      let r : EventsRead = keys_from (length l + 1) l start in
      let g = keyed_good r count next w in
      let n : count ≡ length (events_in r) = sym g.1 in
      let k : kept_counts (judged_all (events_in r)) ≡ LeftJudged.Keep (length (events_in r)) (length (events_in r)) =
      subst KeysKept g.0 (keys_kept (length l + 1) l start) in
      record {
        inside = omega (arith, b.1, b.2);
        read = subst IsRead (sym g.0) tt;
        counted = n;
        few = omega (arith, b.1, b.2);
        step =
            (λ i. StepJudged.Keep (n i) (n i) false next)
            ∙ ap (λ (j : LeftJudged). going_on (length (events_in r)) j next) (sym k)
            ∙ ap step_judged e;
        are = ap events_in e;
      }

-- at the value that a match found
pub read_told : (l : List ℕ) (at : ℕ) → at ≤ length l → {r s : EventRead} → (r ≡ spans_at l at) × (read_of l r ≡ events_at l at) → r ≡ s
    → ReadHere l at s
read_told l at h {r} {s} e q =
    let p : spans_at l at ≡ s = sym e.0 ∙ q in
    read_here l at s (ap (read_of l) (sym q) ∙ e.1) (subst (EventIn (length l) at) p (spans_in_lem l at h)) (subst (Stands l) p (spans_stand l at))

-- a step that is kept has as many events as were read
pub step_length : (es : List WrittenEvent) (next a b : ℕ) (one : Bool) (p : ℕ) → step_judged (events es next) ≡ StepJudged.Keep a b one p
    → (a ≡ length es) × (next ≡ p)
step_length es next a b one p e = go (judged_all es) refl e
  where
    go : (j : EventsJudged) → judged_all es ≡ j → going_on (length es) (kept_counts j) next ≡ StepJudged.Keep a b one p
        → (a ≡ length es) × (next ≡ p)
    go (keep ks) q h =
        let m : length ks ≡ a = cc in
        let n : next ≡ p = cc in
        (sym m ∙ kept_length es ks q, n)
    go crowded q h =
        let m : length es ≡ a = cc in
        let n : next ≡ p = cc in
        (sym m, n)
    go (EventsJudged.refuse n) q h = let z : ◌≡◌ {A = ℕ} 0 1 = cc in absurd (omega arith)
