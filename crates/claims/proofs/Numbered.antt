-- No text is refused with 0: the compiler's number tells whether a text is accepted.
use Prim.Native.Nat.{ℕ, zero, suc, ◌+◌, ◌<◌}
use native.Mathlib.Omega.{arith}
use borrow.Author.Tests.{eqb-false}
use mathlib.Core.Path.{◌≡◌, refl, subst}
use mathlib.Core.Bool.{Bool, true, false, cond}
use Rattle.std.specs.Prelude.{Option, None, Some}
use mathlib.Core.List.{List, [], ◌∷◌, ◌++◌, map}
use lib.Dec.{eqb, leb, ltb}
use lib.ListN.{length}
use Rattle.model.specs.Limits.{text_limit}
use Rattle.model.specs.Bytes.{first_bad_byte}
use Rattle.model.specs.Lines.{line_end, line_at, is_blank_line, directive_at}
use Rattle.model.specs.Events.{Written, WrittenEvent, event, key}
use Rattle.model.specs.Calls.{WrittenCall}
use Rattle.model.specs.Names.{type_named}
use Rattle.model.specs.Named.{is_crowded}
use Rattle.model.specs.Judging.{event_number, kept_event, judged_as, judged_mark, judged_written, judged}
use Rattle.model.specs.Tables.{Production}
use Rattle.model.specs.Compiling.{passes_limit, LineRead, broken, production, line_read, EventsJudged, keep, crowded, judged_next, judged_all, call_of, LineOutcome, add, line_judged, line_from, line_outcome, Outcome, accepted, refused, go_on, after_line, after_directive, lines_from, lines_of, after_bytes, compiled}
use Rattle.claims.specs.Compiling.{RefusedNumbered}
use Rattle.model.specs.declared.names.TypeName.{TypeName}
use Rattle.model.specs.declared.scan.KeyMark.{KeyMark}
use Rattle.model.specs.declared.events.Directive.{Directive}
use Rattle.model.specs.declared.answers.Judged.{Judged}

-- ---- Events

abbrev EventNumbered : Judged → Type 0
EventNumbered (Judged.Keep e) = Unit {0}
EventNumbered Judged.Crowded = Unit {0}
EventNumbered (Judged.Refuse n) = 0 < n

number_above : (n : ℕ) → eqb n 0 ≡ false → 0 < n
number_above n e = let z = eqb-false n 0 e in omega arith

as_numbered : (w : Written) (ty : TypeName) → EventNumbered (judged_as w ty)
as_numbered w TypeName.Unknown = omega arith
as_numbered w (TypeName.Known ty) = go (eqb (event_number w ty) 0) refl
  where
    kept : (b : Bool) → EventNumbered (cond b Judged.Crowded (Judged.Keep (kept_event w ty)))
    kept true = tt
    kept false = tt

    go : (b : Bool) → eqb (event_number w ty) 0 ≡ b → EventNumbered (judged_as w (TypeName.Known ty))
    go true q = rw q (kept (is_crowded w.list))
    go false q = rw q (number_above (event_number w ty) q)

mark_numbered : (m : KeyMark) (byte : ℕ) → EventNumbered (judged_mark m byte)
mark_numbered KeyMark.Plain byte = tt
mark_numbered KeyMark.Control byte = tt
mark_numbered KeyMark.Quoted byte = tt
mark_numbered KeyMark.Meta byte = tt

event_numbered : (e : WrittenEvent) → EventNumbered (judged e)
unfolding judged judged_written
event_numbered (event w) = as_numbered w (type_named w.type_name)
event_numbered (key k) = mark_numbered k.mark k.byte

abbrev EventsNumbered : EventsJudged → Type 0
EventsNumbered (keep es) = Unit {0}
EventsNumbered crowded = Unit {0}
EventsNumbered (EventsJudged.refuse n) = 0 < n

next_numbered : (j : Judged) (rest : EventsJudged) → EventNumbered j → EventsNumbered rest → EventsNumbered (judged_next j rest)
next_numbered (Judged.Keep e) (keep es) f g = tt
next_numbered (Judged.Keep e) crowded f g = tt
next_numbered (Judged.Keep e) (EventsJudged.refuse n) f g = g
next_numbered Judged.Crowded (keep es) f g = tt
next_numbered Judged.Crowded crowded f g = tt
next_numbered Judged.Crowded (EventsJudged.refuse n) f g = g
next_numbered (Judged.Refuse n) rest f g = f

events_numbered : (es : List WrittenEvent) → EventsNumbered (judged_all es)
unfolding judged_all
events_numbered [] = tt
events_numbered (e ∷ es) = next_numbered (judged e) (judged_all es) (event_numbered e) (events_numbered es)

-- ---- A line

abbrev LineNumbered : LineOutcome → Type 0
LineNumbered (add p) = Unit {0}
LineNumbered (LineOutcome.refuse n) = 0 < n

limit_numbered : (b : Bool) (p : Production) → LineNumbered (cond b (LineOutcome.refuse 11) (add p))
limit_numbered true p = omega arith
limit_numbered false p = tt

judged_numbered :
    (before : List Production) (base : ℕ) (j : EventsJudged) (cs : List WrittenCall) → EventsNumbered j
    → LineNumbered (line_judged before base j cs)
judged_numbered before base (keep es) cs f =
    limit_numbered (passes_limit (before ++ (record { events = es; calls = map (call_of base) cs } ∷ []))) _
judged_numbered before base crowded cs f = omega arith
judged_numbered before base (EventsJudged.refuse n) cs f = f

read_numbered : (before : List Production) (base : ℕ) (r : LineRead) → LineNumbered (line_from before base r)
read_numbered before base broken = omega arith
read_numbered before base (production es cs) = judged_numbered before base (judged_all es) cs (events_numbered es)

line_numbered : (before : List Production) (base : ℕ) (line : List ℕ) → LineNumbered (line_outcome before base line)
unfolding line_outcome
line_numbered before base line = read_numbered before base (line_read line)

-- ---- A text

abbrev Numbered : Outcome → Type 0
Numbered (accepted t) = Unit {0}
Numbered (refused n p) = 0 < n

cond_numbered : (b : Bool) (x y : Outcome) → Numbered x → Numbered y → Numbered (cond b x y)
cond_numbered true x y f g = f
cond_numbered false x y f g = g

-- what is left of the text is refused with no 0
RestNumbered : (ℕ → Directive → List Production → Outcome) → Type 0
RestNumbered rest = (p : ℕ) (d : Directive) (ps : List Production) → Numbered (rest p d ps)

module _ (text : List ℕ) (rest : ℕ → Directive → List Production → Outcome) (f : RestNumbered rest) where
  on_numbered : (end : ℕ) (d : Directive) (ps : List Production) → Numbered (go_on text end d ps rest)
  unfolding RestNumbered
  on_numbered end d ps = cond_numbered (leb (length text) end) _ _ tt (f (end + 1) d ps)

  after_numbered :
      (at : ℕ) (d : Directive) (ps : List Production) (o : LineOutcome) → LineNumbered o → Numbered (after_line text at d ps o rest)
  after_numbered at d ps (add p) g = on_numbered (line_end text at) d (ps ++ (p ∷ []))
  after_numbered at d ps (LineOutcome.refuse n) g = g

  directive_numbered :
      (at : ℕ) (d : Directive) (ps : List Production) (o : Option Directive) → Numbered (after_directive text at d ps o rest)
  directive_numbered at d ps (Some e) = on_numbered (line_end text at) e ps
  directive_numbered at d ps None =
      cond_numbered (is_blank_line (line_at text at)) _ _ (on_numbered (line_end text at) d ps)
      (after_numbered at d ps (line_outcome ps at (line_at text at)) (line_numbered ps at (line_at text at)))

lines_numbered :
    (fuel : ℕ) (text : List ℕ) (at : ℕ) (d : Directive) (ps : List Production) → Numbered (lines_from fuel text at d ps)
unfolding lines_from RestNumbered
lines_numbered zero text at d ps = omega arith
lines_numbered (suc fuel) text at d ps =
    directive_numbered text (λ p e qs. lines_from fuel text p e qs) (λ p e qs. lines_numbered fuel text p e qs) at d ps
    (directive_at text at)

bytes_numbered : (text : List ℕ) (o : Option ℕ) → Numbered (after_bytes text o)
unfolding lines_of
bytes_numbered text (Some place) = omega arith
bytes_numbered text None = lines_numbered (length text + 1) text 0 Directive.Replace []

compiled_numbered : (text : List ℕ) → Numbered (compiled text)
unfolding compiled
compiled_numbered text =
    cond_numbered (ltb text_limit (length text)) _ _ (omega arith) (bytes_numbered text (first_bad_byte text))

pub refused_numbered : RefusedNumbered
refused_numbered text n place e z = let k : 0 < n = subst Numbered e (compiled_numbered text) in omega arith
