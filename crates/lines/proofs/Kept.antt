-- The events of a line, judged one after the other: what is kept so far, with what is left, gives the whole.
use Prim.Native.Nat.{ℕ, zero, suc, pred, ◌+◌, ◌<◌}
use native.Mathlib.Omega.{arith}
use native.Mathlib.Nat.{zero-add}
use mathlib.Core.Path.{◌≡◌, refl, sym, ap, ◌∙◌}
use mathlib.Core.Bool.{Bool, true, false, ◌||◌}
use mathlib.Core.List.{List, [], ◌∷◌, ◌++◌, append_assoc}
use lib.ListN.{length, length-append}
use Rattle.model.specs.Numbers.{not_grammar}
use Rattle.model.specs.Counts.{elements_of, elements_at, expanded}
use Rattle.model.specs.Events.{KeyChar, WrittenEvent, event, EventsRead, events, one_more_key, key_at, keys_next, keys_from, events_at, after_event_at, join_events, after_events, left_next, left_from}
use Rattle.model.specs.Judging.{key_press_of, judged_mark, judged_written, judged}
use Rattle.model.specs.Compiling.{EventsJudged, keep, crowded, keep_one_more, crowded_with, judged_next, judged_all}
use Rattle.model.specs.declared.scan.KeyMark.{KeyMark}
use Rattle.model.specs.declared.scan.KeyRead.{KeyRead}
use Rattle.model.specs.declared.scan.AfterEvent.{AfterEvent}
use Rattle.model.specs.declared.events.KeptEvent.{KeptEvent}
use Rattle.model.specs.declared.answers.Judged.{Judged}
use Rattle.event_scanner.specs.declared.events.EventSpans.{EventSpans}
use Rattle.event_scanner.specs.LeftSide.{step_of, event_step}
use Rattle.counts.specs.Elements.{element_count}
use Rattle.counts.proofs.Elements.{element_count_lem}
use Rattle.judge.specs.Spans.{written_in}
use Rattle.lines.specs.declared.left.LeftJudged.{LeftJudged}
use Rattle.lines.specs.declared.left.StepJudged.{StepJudged}
use Rattle.lines.specs.Left.{IsRead, finished, kept_counts, side_judged, going_on, step_judged}

-- what is kept after n events that are m elements, or after one that is crowded
abbrev pub kept_from : Bool → ℕ → ℕ → EventsJudged → LeftJudged
kept_from o n m (keep ks) = finished o (n + length ks) (m + length (expanded ks))
kept_from o n m crowded = LeftJudged.Crowded
kept_from o n m (EventsJudged.refuse k) = LeftJudged.Refuse k

abbrev pub side_from : Bool → ℕ → ℕ → EventsRead → LeftJudged
side_from o n m EventsRead.broken = LeftJudged.Refuse not_grammar
side_from o n m (events es next) = kept_from o n m (judged_all es)

kept_start : (j : EventsJudged) → kept_counts j ≡ kept_from false 0 0 j
kept_start (keep ks) = λ i. LeftJudged.Keep (sym (zero-add (length ks)) i) (sym (zero-add (length (expanded ks))) i)
kept_start crowded = refl
kept_start (EventsJudged.refuse n) = refl

pub side_start : (r : EventsRead) → side_judged r ≡ side_from false 0 0 r
side_start EventsRead.broken = refl
side_start (events es next) = kept_start (judged_all es)

-- ---- A key sequence

-- an event that is one element
keep_one : (e : KeptEvent) (j : EventsJudged) (n : ℕ) → length (elements_of e) ≡ 1 → kept_counts j ≡ LeftJudged.Keep n n
    → kept_counts (keep_one_more e j) ≡ LeftJudged.Keep (suc n) (suc n)
unfolding expanded
keep_one e (keep ks) n q h =
    let a : length ks ≡ n = cc in
    let b : length (expanded ks) ≡ n = cc in
    let s : suc (length ks) ≡ suc n = omega arith in
    let t : length (elements_of e ++ expanded ks) ≡ suc n = omega (arith, length-append (elements_of e) (expanded ks)) in
    λ i. LeftJudged.Keep (s i) (t i)
keep_one e crowded n q h = let z : ◌≡◌ {A = ℕ} 0 1 = cc in absurd (omega arith)
keep_one e (EventsJudged.refuse k) n q h = let z : ◌≡◌ {A = ℕ} 0 1 = cc in absurd (omega arith)

-- a character is one
mark_kept : (mark : KeyMark) (byte : ℕ) (j : EventsJudged) (n : ℕ) → kept_counts j ≡ LeftJudged.Keep n n
    → kept_counts (judged_next (judged_mark mark byte) j) ≡ LeftJudged.Keep (suc n) (suc n)
unfolding elements_of elements_at
mark_kept KeyMark.Plain byte j n h = keep_one (key_press_of 0 0 byte) j n refl h
mark_kept KeyMark.Control byte j n h = keep_one (key_press_of 4 0 byte) j n refl h
mark_kept KeyMark.Quoted byte j n h = keep_one (key_press_of 0 0 byte) j n refl h
mark_kept KeyMark.Meta byte j n h = keep_one (key_press_of 0 1 byte) j n refl h

-- all are kept
abbrev pub KeysKept : EventsRead → Type 0
KeysKept EventsRead.broken = Unit
KeysKept (events ks next) = kept_counts (judged_all ks) ≡ LeftJudged.Keep (length ks) (length ks)

more_kept : (k : KeyChar) (r : EventsRead) → KeysKept r → KeysKept (one_more_key k r)
unfolding judged_all judged
more_kept k EventsRead.broken h = tt
more_kept k (events ks next) h = mark_kept k.mark k.byte (judged_all ks) (length ks) h

next_kept : (r : KeyRead) (rest : ℕ → EventsRead) → ((p : ℕ) → KeysKept (rest p)) → KeysKept (keys_next r rest)
unfolding judged_all expanded
next_kept KeyRead.Broken rest h = tt
next_kept (KeyRead.End next) rest h = refl
next_kept (KeyRead.Key mark b next) rest h = more_kept (record { mark = mark; byte = b }) (rest next) (h next)

pub keys_kept : (f : ℕ) (l : List ℕ) (at : ℕ) → KeysKept (keys_from f l at)
unfolding keys_from
keys_kept zero l at = tt
keys_kept (suc f) l at = next_kept (key_at l at) (λ p. keys_from f l p) (λ p. keys_kept f l p)

-- ---- One event that is no key sequence

module _ (l : List ℕ) (spans : EventSpans) (next : ℕ) where
  abbrev plain_step : StepJudged
  plain_step = step_judged (events (event (written_in l spans) ∷ []) next)

  abbrev plain_of : Judged → StepJudged
  plain_of j = going_on 1 (kept_counts (judged_next j (keep []))) next

  pub plain_refused : (n : ℕ) → judged_written (written_in l spans) ≡ Judged.Refuse n → StepJudged.Refuse n ≡ plain_step
  unfolding judged_all judged
  plain_refused n q = ap plain_of (sym q)

  pub plain_crowded : judged_written (written_in l spans) ≡ Judged.Crowded → StepJudged.Keep 1 0 true next ≡ plain_step
  unfolding judged_all judged
  plain_crowded q = ap plain_of (sym q)

  pub plain_kept : (e : KeptEvent) (a : ℕ) → a ≡ element_count e.code e.count → judged_written (written_in l spans) ≡ Judged.Keep e
      → StepJudged.Keep 1 a false next ≡ plain_step
  unfolding judged_all judged expanded elements_of
  plain_kept e a h q =
      let n : a ≡ length (elements_at e.count e ++ []) =
      omega (arith, element_count_lem e.count e, length-append (elements_at e.count e) []) in
      ap (λ (m : ℕ). StepJudged.Keep 1 m false next) n ∙ ap plain_of (sym q)

-- ---- The left side

-- what follows kept events
abbrev pub kept_before : List KeptEvent → EventsJudged → EventsJudged
kept_before ks (keep ms) = keep (ks ++ ms)
kept_before ks crowded = crowded
kept_before ks (EventsJudged.refuse n) = EventsJudged.refuse n

abbrev pub joined : EventsJudged → EventsJudged → EventsJudged
joined (keep ks) j = kept_before ks j
joined crowded j = crowded_with j
joined (EventsJudged.refuse n) j = EventsJudged.refuse n

before_none : (j : EventsJudged) → j ≡ kept_before [] j
before_none (keep ms) = refl
before_none crowded = refl
before_none (EventsJudged.refuse n) = refl

one_more : (e : KeptEvent) (i j : EventsJudged) → keep_one_more e (joined i j) ≡ joined (keep_one_more e i) j
one_more e (keep ks) (keep ms) = refl
one_more e (keep ks) crowded = refl
one_more e (keep ks) (EventsJudged.refuse n) = refl
one_more e crowded (keep ms) = refl
one_more e crowded crowded = refl
one_more e crowded (EventsJudged.refuse n) = refl
one_more e (EventsJudged.refuse n) j = refl

crowded_joined : (i j : EventsJudged) → crowded_with (joined i j) ≡ joined (crowded_with i) j
crowded_joined (keep ks) (keep ms) = refl
crowded_joined (keep ks) crowded = refl
crowded_joined (keep ks) (EventsJudged.refuse n) = refl
crowded_joined crowded (keep ms) = refl
crowded_joined crowded crowded = refl
crowded_joined crowded (EventsJudged.refuse n) = refl
crowded_joined (EventsJudged.refuse n) j = refl

next_joined : (d : Judged) (i j : EventsJudged) → judged_next d (joined i j) ≡ joined (judged_next d i) j
next_joined (Judged.Keep e) i j = one_more e i j
next_joined Judged.Crowded i j = crowded_joined i j
next_joined (Judged.Refuse n) i j = refl

pub judged_append : (es fs : List WrittenEvent) → judged_all (es ++ fs) ≡ joined (judged_all es) (judged_all fs)
unfolding judged_all
judged_append [] fs = before_none (judged_all fs)
judged_append (e ∷ es) fs =
    ap (judged_next (judged e)) (judged_append es fs) ∙ next_joined (judged e) (judged_all es) (judged_all fs)

pub expanded_append : (ks ms : List KeptEvent) → expanded (ks ++ ms) ≡ expanded ks ++ expanded ms
unfolding expanded
expanded_append [] ms = refl
expanded_append (k ∷ ks) ms =
    ap (λ (es : List _). elements_of k ++ es) (expanded_append ks ms) ∙ sym (append_assoc (elements_of k) (expanded ks) (expanded ms))

before_from : (o : Bool) (n m : ℕ) (ks : List KeptEvent) (j : EventsJudged)
    → kept_from o n m (kept_before ks j) ≡ kept_from o (n + length ks) (m + length (expanded ks)) j
before_from o n m ks (keep ms) =
    let s : n + length (ks ++ ms) ≡ n + length ks + length ms = omega (arith, length-append ks ms) in
    let t : m + length (expanded (ks ++ ms)) ≡ m + length (expanded ks) + length (expanded ms) =
    omega (arith, ap length (expanded_append ks ms), length-append (expanded ks) (expanded ms)) in
    λ i. finished o (s i) (t i)
before_from o n m ks crowded = refl
before_from o n m ks (EventsJudged.refuse k) = refl

-- after an event that is crowded no count matters
crowded_from : (o : Bool) (n m a b : ℕ) (j : EventsJudged) → kept_from o n m (crowded_with j) ≡ kept_from true a b j
crowded_from o n m a b (keep ks) = refl
crowded_from o n m a b crowded = refl
crowded_from o n m a b (EventsJudged.refuse k) = refl

-- one turn: what stands there is judged, then what stands after it says whether more follow
abbrev pub after_turn : Bool → ℕ → ℕ → AfterEvent → (Bool → ℕ → ℕ → ℕ → LeftJudged) → LeftJudged
after_turn o n m AfterEvent.Broken rest = LeftJudged.Refuse not_grammar
after_turn o n m (AfterEvent.Comma p) rest = rest o n m p
after_turn o n m (AfterEvent.Colon p) rest = finished o n m

abbrev pub left_turn : List ℕ → Bool → ℕ → ℕ → StepJudged → (Bool → ℕ → ℕ → ℕ → LeftJudged) → LeftJudged
left_turn l o n m StepJudged.Broken rest = LeftJudged.Refuse not_grammar
left_turn l o n m (StepJudged.Refuse k) rest = LeftJudged.Refuse k
left_turn l o n m (StepJudged.Keep a b one next) rest = after_turn (one || o) (n + a) (m + b) (after_event_at l next) rest

module _ (l : List ℕ) (o : Bool) (n m : ℕ) (rest : ℕ → EventsRead) where
  abbrev others : Bool → ℕ → ℕ → ℕ → LeftJudged
  others c a b p = side_from c a b (rest p)

  joined_turn : (count next p : ℕ) (fs : List WrittenEvent) (end : ℕ) → after_event_at l next ≡ AfterEvent.Comma p
      → rest p ≡ events fs end
      → (j : EventsJudged) → kept_from o n m (joined j (judged_all fs)) ≡ left_turn l o n m (going_on count (kept_counts j) next) others
  joined_turn count next p fs end q t (EventsJudged.refuse k) = refl
  joined_turn count next p fs end q t (keep ks) =
      before_from o n m ks (judged_all fs)
      ∙ ap (side_from o (n + length ks) (m + length (expanded ks))) (sym t)
      ∙ ap (λ (a : AfterEvent). after_turn o (n + length ks) (m + length (expanded ks)) a others) (sym q)
  joined_turn count next p fs end q t crowded =
      crowded_from o n m (n + count) (m + 0) (judged_all fs)
      ∙ ap (side_from true (n + count) (m + 0)) (sym t)
      ∙ ap (λ (a : AfterEvent). after_turn true (n + count) (m + 0) a others) (sym q)

  colon_turn : (count next p : ℕ) → after_event_at l next ≡ AfterEvent.Colon p
      → (j : EventsJudged) → kept_from o n m j ≡ left_turn l o n m (going_on count (kept_counts j) next) others
  colon_turn count next p q (EventsJudged.refuse k) = refl
  colon_turn count next p q (keep ks) =
      ap (λ (a : AfterEvent). after_turn o (n + length ks) (m + length (expanded ks)) a others) (sym q)
  colon_turn count next p q crowded = ap (λ (a : AfterEvent). after_turn true (n + count) (m + 0) a others) (sym q)

  comma_turn : (es : List WrittenEvent) (next p : ℕ) → after_event_at l next ≡ AfterEvent.Comma p → (r : EventsRead) → rest p ≡ r
      → IsRead (join_events es r)
      → side_from o n m (join_events es r) ≡ left_turn l o n m (going_on (length es) (kept_counts (judged_all es)) next) others
  comma_turn es next p q EventsRead.broken t h = absurd h
  comma_turn es next p q (events fs end) t h =
      ap (kept_from o n m) (judged_append es fs) ∙ joined_turn (length es) next p fs end q t (judged_all es)

  after_turn_lem : (es : List WrittenEvent) (next : ℕ) (a : AfterEvent) → after_event_at l next ≡ a → IsRead (after_events es a rest)
      → side_from o n m (after_events es a rest) ≡ left_turn l o n m (going_on (length es) (kept_counts (judged_all es)) next) others
  after_turn_lem es next AfterEvent.Broken q h = absurd h
  after_turn_lem es next (AfterEvent.Comma p) q h = comma_turn es next p q (rest p) refl h
  after_turn_lem es next (AfterEvent.Colon p) q h = colon_turn (length es) next p q (judged_all es)

  next_turn : (r : EventsRead) → IsRead (left_next l r rest)
      → side_from o n m (left_next l r rest) ≡ left_turn l o n m (step_judged r) others
  next_turn EventsRead.broken h = absurd h
  next_turn (events es next) h = after_turn_lem es next (after_event_at l next) refl h

pub left_turn_lem : (o : Bool) (n m f : ℕ) (l : List ℕ) (at : ℕ) (r : StepJudged) → 0 < f → IsRead (left_from f l at) → step_judged (events_at l at) ≡ r
    → side_from o n m (left_from f l at) ≡ left_turn l o n m r (λ c a b p. side_from c a b (left_from (pred f) l p))
unfolding left_from
left_turn_lem o n m zero l at r h i e = absurd (omega arith)
left_turn_lem o n m (suc f) l at r h i e =
    next_turn l o n m (λ p. left_from f l p) (events_at l at) i
    ∙ ap (λ (s : StepJudged). left_turn l o n m s (λ c a b p. side_from c a b (left_from f l p))) e

-- ---- What stands after a step

next_step : (j : EventsJudged) (count next a b : ℕ) (one : Bool) (p : ℕ) → going_on count (kept_counts j) next ≡ StepJudged.Keep a b one p
    → next ≡ p
next_step (keep ks) count next a b one p e = cc
next_step crowded count next a b one p e = cc
next_step (EventsJudged.refuse n) count next a b one p e = let z : ◌≡◌ {A = ℕ} 0 1 = cc in absurd (omega arith)

not_broken : (j : EventsJudged) (count next : ℕ) → going_on count (kept_counts j) next ≡ StepJudged.Broken → ⊥
not_broken (keep ks) count next e = let z : ◌≡◌ {A = ℕ} 0 1 = cc in omega arith
not_broken crowded count next e = let z : ◌≡◌ {A = ℕ} 0 1 = cc in omega arith
not_broken (EventsJudged.refuse n) count next e = let z : ◌≡◌ {A = ℕ} 0 1 = cc in omega arith

module _ (l : List ℕ) (at : ℕ) where
  pub step_after : (a b : ℕ) (one : Bool) (next : ℕ) → step_judged (events_at l at) ≡ StepJudged.Keep a b one next
      → event_step l at ≡ after_event_at l next
  unfolding event_step
  step_after a b one next e = go (events_at l at) e
    where
      go : (r : EventsRead) → step_judged r ≡ StepJudged.Keep a b one next → step_of l r ≡ after_event_at l next
      go EventsRead.broken h = let z : ◌≡◌ {A = ℕ} 0 1 = cc in absurd (omega arith)
      go (events es end) h = ap (after_event_at l) (next_step (judged_all es) (length es) end a b one next h)

  pub step_broken : step_judged (events_at l at) ≡ StepJudged.Broken → event_step l at ≡ AfterEvent.Broken
  unfolding event_step
  step_broken e = go (events_at l at) e
    where
      go : (r : EventsRead) → step_judged r ≡ StepJudged.Broken → step_of l r ≡ AfterEvent.Broken
      go EventsRead.broken h = refl
      go (events es end) h = absurd (not_broken (judged_all es) (length es) end h)
