-- The events that are kept of a line of allowed bytes can be written.
use Prim.Native.Nat.{ℕ, zero, suc, ◌<◌, ◌≤◌}
use native.Mathlib.Omega.{arith}
use mathlib.Core.Path.{◌≡◌, refl, subst}
use mathlib.Core.Bool.{true, ◌||◌, false≢true}
use mathlib.Core.List.{List, [], ◌∷◌, ◌++◌}
use lib.Dec.{leb, lit<}
use borrow.Author.Tests.{eqb-true, leb-true}
use Rattle.model.specs.Lists.{all}
use Rattle.model.specs.Bytes.{byte_at, is_tab, is_newline, in_range}
use Rattle.model.specs.Events.{WrittenEvent, EventsRead, events, left_side}
use Rattle.model.specs.Calls.{WrittenCall, CallsRead, calls, right_side}
use Rattle.model.specs.Compiling.{LineRead, with_calls, with_events, line_read}
use Rattle.model.specs.declared.events.KeptEvent.{KeptEvent}
use Rattle.modifiers.proofs.Below.{both_left, both_right}
use Rattle.judge.proofs.LineRanges.{AllWritten, ReadIn, left_written}
use Rattle.grammar.specs.Bytes.{allowed_byte}
use Rattle.grammar.specs.Tokens.{is_some}
use Rattle.grammar.specs.KeySequences.{Keyseq}
use Rattle.grammar.specs.Productions as Grammar
use Rattle.grammar.specs.Compiling.{EventsKept}
use Rattle.grammar.proofs.Productions.{line_complete}
use Rattle.roundtrip.proofs.Lists.{either}
use Rattle.roundtrip.proofs.Kept.{kept_well}
use Rattle.roundtrip.proofs.Good.{AllKept}

-- ---- Bytes

ranged : (low b high : ℕ) → high < 256 → in_range low b high ≡ true → b < 256
ranged low b high h e =
    let q : b ≤ high = leb-true b high (both_right (leb low b) (leb b high) e) in omega arith

allowed_byte_lem : (b : ℕ) → allowed_byte b ≡ true → b < 256
allowed_byte_lem b e =
    either (is_tab b || is_newline b || in_range 32 b 126) (in_range 160 b 255) e
    (λ p.
    either (is_tab b || is_newline b) (in_range 32 b 126) p
    (λ q.
    either (is_tab b) (is_newline b) q
    (λ r. let i : b ≡ 9 = eqb-true b 9 r in omega arith)
    (λ r. let i : b ≡ 10 = eqb-true b 10 r in omega arith))
    (ranged 32 b 126 (omega arith)))
    (ranged 160 b 255 (omega arith))

allowed_bytes : (l : List ℕ) → all allowed_byte l ≡ true → (k : ℕ) → byte_at l k < 256
allowed_bytes [] e k = lit< tt
allowed_bytes (b ∷ l) e zero = allowed_byte_lem b (both_left (allowed_byte b) (all allowed_byte l) e)
allowed_bytes (b ∷ l) e (suc k) = allowed_bytes l (both_right (allowed_byte b) (all allowed_byte l) e) k

-- ---- Events

calls_written : (es fs : List WrittenEvent) (cs : List WrittenCall) (x : CallsRead) → AllWritten fs
    → with_calls fs x ≡ LineRead.production es cs → AllWritten es
calls_written es fs cs CallsRead.broken w e = let z : ◌≡◌ {A = ℕ} 0 1 = cc in absurd (omega arith)
calls_written es fs cs (calls ds) w e = let i : fs ≡ es = cc in subst AllWritten i w

events_written : (l : List ℕ) (es : List WrittenEvent) (cs : List WrittenCall) (x : EventsRead) → ReadIn x
    → with_events l x ≡ LineRead.production es cs → AllWritten es
events_written l es cs EventsRead.broken w e = let z : ◌≡◌ {A = ℕ} 0 1 = cc in absurd (omega arith)
events_written l es cs (events fs next) w e = calls_written es fs cs (right_side l next) w e

line_written : (l : List ℕ) {es : List WrittenEvent} {cs : List WrittenCall} → all allowed_byte l ≡ true → Grammar.DerivesProduction l es cs
    → AllWritten es
unfolding line_read
line_written l {es} {cs} a d =
    events_written l es cs (left_side l) (left_written l (allowed_bytes l a)) (line_complete l d)

all_kept : {es : List WrittenEvent} {ks : List KeptEvent} → AllWritten es → EventsKept es ks → AllKept ks
all_kept w EventsKept.nothing = tt
all_kept w (EventsKept.more {e = e} {k = k} q d) = (kept_well e k w.0 q, all_kept w.1 d)

pub line_kept : (l : List ℕ) {es : List WrittenEvent} {cs : List WrittenCall} {ks : List KeptEvent} → all allowed_byte l ≡ true
    → Grammar.DerivesProduction l es cs → EventsKept es ks → AllKept ks
line_kept l a d k = all_kept (line_written l a d) k

-- ---- At least one

some_left : {A : Type 0} (xs ys : List A) → is_some xs ≡ true → is_some (xs ++ ys) ≡ true
some_left [] ys e = absurd (false≢true e)
some_left (x ∷ xs) ys e = refl

item_some : {l r : List ℕ} {es : List WrittenEvent} → Grammar.Item l es r → is_some es ≡ true
item_some (Grammar.Item.event d) = refl
item_some (Grammar.Item.keyseq (Keyseq.keyseq s d e)) = e

left_some : {l r : List ℕ} {es : List WrittenEvent} → Grammar.Lhs l es r → is_some es ≡ true
left_some (Grammar.Lhs.one d) = item_some d
left_some (Grammar.Lhs.more {es = es} {fs = fs} d c ds) = some_left es fs (item_some d)

kept_some : {es : List WrittenEvent} {ks : List KeptEvent} → EventsKept es ks → is_some es ≡ true → is_some ks ≡ true
kept_some EventsKept.nothing e = e
kept_some (EventsKept.more q d) e = refl

pub line_some : {l : List ℕ} {es : List WrittenEvent} {cs : List WrittenCall} {ks : List KeptEvent} → Grammar.DerivesProduction l es cs
    → EventsKept es ks → is_some ks ≡ true
line_some (Grammar.DerivesProduction.production d s c) k = kept_some k (left_some d)
