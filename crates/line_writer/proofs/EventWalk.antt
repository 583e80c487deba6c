-- The walk over a line's left side that writes its events: what is left to be read gives what is left to be written.
use Prim.Native.Nat.{ℕ, suc, pred, ◌+◌, ◌≤◌, ◌<◌}
use native.Mathlib.Omega.{arith}
use native.Mathlib.Nat.{add-zero}
use mathlib.Core.Path.{◌≡◌, refl, sym, ap, ◌∙◌, subst}
use mathlib.Core.Bool.{Bool, false, ◌||◌}
use mathlib.Core.List.{List, [], ◌∷◌, ◌++◌}
use lib.ListN.{length, length-append}
use Rattle.model.specs.Bytes.{byte_at}
use Rattle.model.specs.Events.{WrittenEvent, key, KeyChar, EventsRead, events, one_more_key, key_at, keys_from, events_at, after_event_at, join_events, after_events, left_next, left_from, left_side}
use Rattle.model.specs.Judging.{judged, judged_mark}
use Rattle.model.specs.declared.scan.KeyRead.{KeyRead}
use Rattle.model.specs.declared.scan.AfterEvent.{AfterEvent}
use Rattle.event_scanner.specs.Spans.{events_in}
use Rattle.scanner.proofs.Ranges.{KeyIn, key_in, AfterIn, after_in}
use Rattle.event_scanner.proofs.EventRanges.{EventsIn, events_in_lem}
use Rattle.event_scanner.proofs.KeyCounts.{keys_step}
use Rattle.event_scanner.proofs.Walks.{events_step}
use Rattle.lines.specs.declared.left.StepJudged.{StepJudged}
use Rattle.lines.specs.Left.{step_judged}
use Rattle.lines.proofs.Turns.{LeftAt, left_start, left_comma}
use Rattle.line_writer.specs.Puts.{put_judged, put_written, put_fitting}
use Rattle.line_writer.specs.Reads.{EventsFit, EventsPut}
use Rattle.line_writer.proofs.EventHere.{put_all_lem, step_length}

-- ---- Events written one after the other

pub put_written_append : (out : List ℕ) (k : ℕ) (es fs : List WrittenEvent)
    → put_written out k (es ++ fs) ≡ put_written (put_written out k es) (k + length es) fs
unfolding put_written
put_written_append out k [] fs = rw add-zero
put_written_append out k (e ∷ es) fs =
    let n : k + 1 + length es ≡ k + suc (length es) = omega arith in
    put_written_append (put_judged out k (judged e)) (k + 1) es fs
    ∙ ap (λ (m : ℕ). put_written (put_written (put_judged out k (judged e)) (k + 1) es) m fs) n

put_none : (out : List ℕ) (k : ℕ) → put_written out k [] ≡ out
unfolding put_written
put_none out k = refl

put_key : (out : List ℕ) (k : ℕ) (c : KeyChar) (es : List WrittenEvent)
    → put_written out k (key c ∷ es) ≡ put_written (put_judged out k (judged_mark c.mark c.byte)) (k + 1) es
unfolding put_written judged
put_key out k c es = refl

-- ---- The characters of a key sequence

-- from position i on, event k is next; the target is the bytes at the end
pub record KeysLeft (l target out : List ℕ) (k i : ℕ) : Type 0 where
  pub f : ℕ
  pub es : List WrittenEvent
  pub next : ℕ
  pub enough : length l < f + i
  pub inside : i ≤ length l
  pub read : keys_from f l i ≡ events es next
  pub room : k + length es ≤ 256
  pub bytes : target ≡ put_written out k es

pub keys_start : (l out : List ℕ) (k at : ℕ) → at ≤ length l → EventsFit (keys_from (length l + 1) l at) k
    → KeysLeft l (put_written out k (events_in (keys_from (length l + 1) l at))) out k at
keys_start l out k at h fit = go (keys_from (length l + 1) l at) refl fit
  where
    go : (r : EventsRead) → keys_from (length l + 1) l at ≡ r → EventsFit r k → KeysLeft l (put_written out k (events_in r)) out k at
    go EventsRead.broken e b = absurd b
    go (events es next) e b =
        record { f = length l + 1; es = es; next = next; enough = omega arith; inside = h; read = e; room = b; bytes = refl }

-- where the walk stands past what was read at i
abbrev pub AfterKey : List ℕ → List ℕ → List ℕ → ℕ → ℕ → KeyRead → Type 0
AfterKey l target out k i KeyRead.Broken = ⊥
AfterKey l target out k i (KeyRead.End next) = target ≡ out
AfterKey l target out k i (KeyRead.Key mark b next) =
    (k < 256) × (i < next) × KeysLeft l target (put_judged out k (judged_mark mark b)) (k + 1) next

module _ (l target out : List ℕ) (k i : ℕ) (g : KeysLeft l target out k i) where
  key_more : (c : KeyChar) (p : ℕ) (r : EventsRead) → i < p → p ≤ length l → keys_from (pred g.f) l p ≡ r
      → one_more_key c r ≡ events g.es g.next → AfterKey l target out k i (KeyRead.Key c.mark c.byte p)
  key_more c p EventsRead.broken a b e h = let z : ◌≡◌ {A = ℕ} 0 1 = cc in absurd (omega arith)
  key_more c p (events ks n) a b e h =
      let q : g.es ≡ key c ∷ ks = cc in
      let m : length g.es ≡ suc (length ks) = ap length q in (
        omega (arith, g.room),
        a,
        record {
          f = pred g.f;
          es = ks;
          next = n;
          enough = omega (arith, g.enough, g.inside);
          inside = b;
          read = e;
          room = omega (arith, g.room);
          bytes = g.bytes ∙ ap (put_written out k) q ∙ put_key out k c ks;
        },
      )

  key_after : (r : KeyRead) → key_at l i ≡ r → KeyIn (length l) i r → AfterKey l target out k i r
  key_after KeyRead.Broken e h =
      let s = keys_step g.f l i KeyRead.Broken (omega (arith, g.enough, g.inside)) e in
      let w : EventsRead.broken ≡ events g.es g.next = sym s ∙ g.read in
      let z : ◌≡◌ {A = ℕ} 0 1 = cc in
      omega arith
  key_after (KeyRead.End p) e h =
      let s = keys_step g.f l i (KeyRead.End p) (omega (arith, g.enough, g.inside)) e in
      let w : events [] p ≡ events g.es g.next = sym s ∙ g.read in
      let q : g.es ≡ [] = cc in
      g.bytes ∙ ap (put_written out k) q ∙ put_none out k
  key_after (KeyRead.Key mark b p) e h =
      let s = keys_step g.f l i (KeyRead.Key mark b p) (omega (arith, g.enough, g.inside)) e in
      key_more (record { mark = mark; byte = b }) p (keys_from (pred g.f) l p) h.0 h.1 refl (sym s ∙ g.read)

  pub key_here : AfterKey l target out k i (key_at l i)
  key_here = key_after (key_at l i) refl (key_in l i)

-- at the value that a match found
pub key_told : {l target out : List ℕ} {k i : ℕ} (g : KeysLeft l target out k i) {r s : KeyRead} → r ≡ key_at l i → r ≡ s
    → AfterKey l target out k i s
key_told {l} {target} {out} {k} {i} g p q = subst (AfterKey l target out k i) (sym p ∙ q) (key_here l target out k i g)

-- at other bytes that are the same
pub keys_at : {l target out new : List ℕ} {k i : ℕ} → KeysLeft l target out k i → new ≡ out → KeysLeft l target new k i
keys_at {l} {target} {out} {new} {k} {i} g e = subst (λ (o : List ℕ). KeysLeft l target o k i) (sym e) g

-- ---- The events of a line

pub record EventsLeft (l target out : List ℕ) (k at : ℕ) : Type 0 where
  pub f : ℕ
  pub es : List WrittenEvent
  pub next : ℕ
  pub enough : length l < f + at
  pub inside : at ≤ length l
  pub read : left_from f l at ≡ events es next
  pub room : k + length es ≤ 256
  pub bytes : target ≡ put_written out k es

pub events_start : (l out : List ℕ) (k : ℕ) → EventsFit (left_side l) k
    → EventsLeft l (put_written out k (events_in (left_side l))) out k 0
unfolding left_side
events_start l out k fit = go (left_from (length l + 1) l 0) refl fit
  where
    go : (r : EventsRead) → left_from (length l + 1) l 0 ≡ r → EventsFit r k → EventsLeft l (put_written out k (events_in r)) out k 0
    go EventsRead.broken e b = absurd b
    go (events es next) e b =
        record { f = length l + 1; es = es; next = next; enough = omega arith; inside = omega arith; read = e; room = b; bytes = refl }

-- where the walk stands past events that end at p, with what parts them from the next
abbrev pub AfterHere : List ℕ → List ℕ → List ℕ → ℕ → ℕ → AfterEvent → Type 0
AfterHere l target out k p AfterEvent.Broken = ⊥
AfterHere l target out k p (AfterEvent.Comma next) = (p < next) × EventsLeft l target out k next
AfterHere l target out k p (AfterEvent.Colon next) = target ≡ out

-- the events that stand at a position
pub record EventsHere (l target out : List ℕ) (k at : ℕ) : Type 0 where
  pub es : List WrittenEvent
  pub next : ℕ
  pub read : events_at l at ≡ events es next
  pub past : at < next
  pub inside : next ≤ length l
  pub room : k + length es ≤ 256
  pub after : AfterHere l target (put_written out k es) (k + length es) next (after_event_at l next)

module _ (l target out : List ℕ) (k at : ℕ) (g : EventsLeft l target out k at) where
  module _ (es : List WrittenEvent) (p : ℕ) (past : at < p) where
    comma_after : (q : ℕ) (r : EventsRead) → p < q → q ≤ length l → left_from (pred g.f) l q ≡ r
        → join_events es r ≡ events g.es g.next
        → (k + length es ≤ 256) × AfterHere l target (put_written out k es) (k + length es) p (AfterEvent.Comma q)
    comma_after q EventsRead.broken a b e h = let z : ◌≡◌ {A = ℕ} 0 1 = cc in absurd (omega arith)
    comma_after q (events fs n) a b e h =
        let w : g.es ≡ es ++ fs = cc in
        let m : length g.es ≡ length es + length fs = ap length w ∙ length-append es fs in (
          omega (arith, g.room),
          (
            a,
            record {
              f = pred g.f;
              es = fs;
              next = n;
              enough = omega (arith, g.enough, g.inside);
              inside = b;
              read = e;
              room = omega (arith, g.room);
              bytes = g.bytes ∙ ap (put_written out k) w ∙ put_written_append out k es fs;
            },
          ),
        )

    after_after : (r : AfterEvent) → AfterIn (length l) p r
        → after_events es r (λ q. left_from (pred g.f) l q) ≡ events g.es g.next
        → (k + length es ≤ 256) × AfterHere l target (put_written out k es) (k + length es) p r
    after_after AfterEvent.Broken b h = let z : ◌≡◌ {A = ℕ} 0 1 = cc in absurd (omega arith)
    after_after (AfterEvent.Comma q) b h = comma_after q (left_from (pred g.f) l q) b.0 b.1 refl h
    after_after (AfterEvent.Colon q) b h =
        let w : g.es ≡ es = cc in
        let m : length g.es ≡ length es = ap length w in
        (omega (arith, g.room), g.bytes ∙ ap (put_written out k) w)

  events_after : (r : EventsRead) → events_at l at ≡ r → EventsIn (length l) at r
      → left_next l r (λ q. left_from (pred g.f) l q) ≡ events g.es g.next → EventsHere l target out k at
  events_after EventsRead.broken e b h = let z : ◌≡◌ {A = ℕ} 0 1 = cc in absurd (omega arith)
  events_after (events es p) e b h =
      let x = after_after es p b.0 (after_event_at l p) (after_in l p) h in
      record { es = es; next = p; read = e; past = b.0; inside = b.1; room = x.0; after = x.1 }

  pub events_here : EventsHere l target out k at
  events_here =
      let s = events_step g.f l at (events_at l at) (omega (arith, g.enough, g.inside)) refl in
      events_after (events_at l at) refl (events_in_lem l at g.inside) (sym s ∙ g.read)

-- the walk after the events at a position were judged, and written where they fit
pub after_step : {l target out new : List ℕ} {k at a b next : ℕ} {one : Bool} {s : AfterEvent} (g : EventsLeft l target out k at)
    → step_judged (events_at l at) ≡ StepJudged.Keep a b one next → new ≡ put_fitting out k (events_in (events_at l at))
    → after_event_at l next ≡ s → AfterHere l target new (k + a) next s
after_step {l} {target} {out} {new} {k} {at} {a} {b} {next} {one} {s} g e w q =
    let h = events_here l target out k at g in
    let n = step_length h.es h.next a b one next (ap step_judged (sym h.read) ∙ e) in
    let o : new ≡ put_written out k h.es =
    w ∙ ap (λ (x : EventsRead). put_fitting out k (events_in x)) h.read ∙ put_all_lem out k h.es h.room in
    subst (AfterHere l target new (k + a) next) q
    (subst (λ (p : ℕ). AfterHere l target new (k + a) p (after_event_at l p)) n.1
    (subst (λ (m : ℕ). AfterHere l target new (k + m) h.next (after_event_at l h.next)) (sym n.0)
    (subst (λ (x : List ℕ). AfterHere l target x (k + length h.es) h.next (after_event_at l h.next)) (sym o) h.after)))

-- ---- Judging and writing at once

-- at a position, after n events from event `first` on that are m elements, or after one that is crowded
pub record Walking (l before : List ℕ) (first : ℕ) (out : List ℕ) (at : ℕ) (o : Bool) (n m : ℕ) : Type 0 where
  pub left : LeftAt l at o n m
  pub put : EventsFit (left_side l) first → EventsLeft l (put_written before first (events_in (left_side l))) out (first + n) at

pub walking_start : (l out : List ℕ) (first : ℕ) → Walking l out first out 0 false 0 0
walking_start l out first =
    record {
      left = left_start l;
      put = λ h.
          subst (λ (k : ℕ). EventsLeft l (put_written out first (events_in (left_side l))) out k 0) (sym (add-zero first)) (events_start l out first h);
    }

module _ {l before : List ℕ} {first : ℕ} {out : List ℕ} {at : ℕ} {o : Bool} {n m : ℕ} (g : Walking l before first out at o n m) where
  module _ {new : List ℕ} {a b next : ℕ} {one : Bool} (e : step_judged (events_at l at) ≡ StepJudged.Keep a b one next)
      (w : new ≡ put_fitting out (first + n) (events_in (events_at l at))) where
    pub walking_colon : (p : ℕ) → after_event_at l next ≡ AfterEvent.Colon p → EventsPut l first before new
    walking_colon p q h = sym (after_step (g.put h) e w q)

    pub walking_comma : (p : ℕ) → after_event_at l next ≡ AfterEvent.Comma p → ((k : ℕ) → byte_at l k < 256)
        → Walking l before first new p (one || o) (n + a) (m + b)
    walking_comma p q bytes =
        let s : first + n + a ≡ first + (n + a) = omega arith in
        record {
          left = left_comma l at o n m g.left a b one next e bytes p q;
          put = λ h.
              subst (λ (k : ℕ). EventsLeft l (put_written before first (events_in (left_side l))) new k p) s
              (after_step (g.put h) e w q).1;
        }
