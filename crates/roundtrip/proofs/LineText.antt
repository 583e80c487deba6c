-- The grammar derives a line of the canonical text.
use Prim.Native.Nat.{ℕ}
use Prim.Native.Char.{code}
use mathlib.Core.Path.{◌≡◌, refl, sym}
use mathlib.Core.Bool.{true, false≢true}
use mathlib.Core.List.{List, [], ◌∷◌, ◌++◌, append_assoc}
use lib.Seq.{append_snoc}
use Rattle.model.specs.Lists.{bytes}
use Rattle.model.specs.Events.{WrittenEvent, event}
use Rattle.model.specs.Calls.{WrittenCall}
use Rattle.model.specs.Canonical.{joined_by, each, event_text}
use Rattle.model.specs.declared.events.KeptEvent.{KeptEvent}
use Rattle.grammar.specs.Productions as Grammar
use Rattle.grammar.specs.Compiling.{EventsKept}
use Rattle.roundtrip.specs.Contents.{Content}
use Rattle.roundtrip.proofs.Joined.{sign}
use Rattle.roundtrip.proofs.Written.{written_of}
use Rattle.roundtrip.proofs.Judged.{judged_again}
use Rattle.roundtrip.proofs.EventText.{Ends, derive_event}
use Rattle.roundtrip.proofs.Good.{AllKept, GoodContent, CallsHeld}
use Rattle.roundtrip.proofs.CallText.{calls_text, CallsGot, derive_calls}
use Rattle.grammar.specs.Tokens.{is_some}

abbrev pub events_text : List KeptEvent → List ℕ
events_text es = joined_by (bytes ",") (each event_text es)

abbrev pub line_text : Content → List ℕ
line_text x = events_text x.events ++ (code ":" ∷ calls_text x.calls)

abbrev pub written_events : List KeptEvent → List WrittenEvent
written_events [] = []
written_events (e ∷ es) = event (written_of e) ∷ written_events es

-- ---- Events

comma_ends : (r : List ℕ) → Ends (code "," ∷ r)
comma_ends r = record { detail = refl; blank = refl; bracket = refl }

colon_ends : (r : List ℕ) → Ends (code ":" ∷ r)
colon_ends r = record { detail = refl; blank = refl; bracket = refl }

events_one : (e : KeptEvent) (r : List ℕ) → events_text (e ∷ []) ++ r ≡ event_text e ++ r
unfolding joined_by
events_one e r = refl

events_more : (e f : KeptEvent) (es : List KeptEvent) (r : List ℕ)
    → events_text (e ∷ f ∷ es) ++ r ≡ event_text e ++ (code "," ∷ (events_text (f ∷ es) ++ r))
unfolding joined_by
events_more e f es r = append_assoc (event_text e) (code "," ∷ events_text (f ∷ es)) r

derive_events : (e : KeptEvent) (es : List KeptEvent) (r : List ℕ) → AllKept (e ∷ es)
    → Grammar.Lhs (events_text (e ∷ es) ++ (code ":" ∷ r)) (written_events (e ∷ es)) (code ":" ∷ r)
derive_events e [] r k =
    rw (events_one e (code ":" ∷ r)) (Grammar.Lhs.one (Grammar.Item.event (derive_event e k.0 (code ":" ∷ r) (colon_ends r))))
derive_events e (f ∷ es) r k =
    let m : List ℕ = events_text (f ∷ es) ++ (code ":" ∷ r) in
    rw (events_more e f es (code ":" ∷ r))
    (Grammar.Lhs.more (Grammar.Item.event (derive_event e k.0 (code "," ∷ m) (comma_ends m))) (sign "," m refl)
    (derive_events f es r k.1))

pub events_kept : (es : List KeptEvent) → AllKept es → EventsKept (written_events es) es
events_kept [] k = EventsKept.nothing
events_kept (e ∷ es) k = EventsKept.more (judged_again e k.0) (events_kept es k.1)

-- ---- A line

pub record LineGot (x : Content) : Type 0 where
  pub calls : List WrittenCall
  pub derived : Grammar.DerivesProduction (line_text x) (written_events x.events) calls
  pub held : CallsHeld (line_text x) calls x.calls

left : (es : List KeptEvent) (r : List ℕ) → is_some es ≡ true → AllKept es
    → Grammar.Lhs (events_text es ++ (code ":" ∷ r)) (written_events es) (code ":" ∷ r)
left [] r s k = absurd (false≢true s)
left (e ∷ es) r s k = derive_events e es r k

pub derive_line : (x : Content) → GoodContent x → LineGot x
derive_line x g =
    let c : CallsGot (line_text x) (calls_text x.calls) x.calls =
    derive_calls (line_text x) x.calls (events_text x.events ++ (code ":" ∷ [])) g.calls
    (sym (append_snoc (events_text x.events) (code ":") (calls_text x.calls))) in
    record {
      calls = c.calls;
      derived =
          Grammar.DerivesProduction.production (left x.events (calls_text x.calls) g.some g.kept) (sign ":" (calls_text x.calls) refl)
          c.derived;
      held = c.held;
    }
