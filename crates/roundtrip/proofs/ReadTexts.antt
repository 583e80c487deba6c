-- The contents of a table that a text compiles to can be written.
use Prim.Native.Nat.{ℕ}
use native.Mathlib.Omega.{arith}
use mathlib.Core.Path.{◌≡◌, refl, sym, ap, ◌∙◌}
use mathlib.Core.Bool.{true}
use Rattle.std.specs.Prelude.{Option, None, Some}
use mathlib.Core.List.{List, [], ◌∷◌, ◌++◌, map, append_assoc}
use lib.ListN.{length, length-append}
use lib.Seq.{append_snoc}
use Rattle.model.specs.Lists.{all}
use Rattle.model.specs.Compiling.{call_of}
use Rattle.model.specs.Events.{WrittenEvent}
use Rattle.model.specs.Calls.{WrittenCall}
use Rattle.model.specs.Merging.{mark_second, from_second}
use Rattle.model.specs.Tables as Tables
use Rattle.model.specs.declared.events.KeptEvent.{KeptEvent}
use Rattle.model.specs.declared.events.Directive as Model
use Rattle.grammar.specs.Bytes.{allowed_byte}
use Rattle.grammar.specs.Productions.{DerivesProduction}
use Rattle.grammar.specs.Texts.{Line, Derived, start_in_text, Lines, TranslationTable}
use Rattle.grammar.specs.Compiling.{production_of, EventsKept, ProductionsKept, Upto}
use Rattle.roundtrip.specs.Contents.{Content, call_bytes, content}
use Rattle.roundtrip.proofs.Lists.{all_left, all_right}
use Rattle.roundtrip.proofs.Good.{GoodContents, calls_bytes, marked_bytes}
use Rattle.roundtrip.proofs.ReadCalls.{CallsSound, calls_sound}
use Rattle.roundtrip.proofs.ReadEvents.{line_kept, line_some}

-- productions say something that can be written, over the text as the first of two and, marked so, as the second
pub record Said (text : List ℕ) (ps : List Tables.Production) : Type 0 where
  pub contents : List Content
  pub good : GoodContents contents
  pub first : (second : List ℕ) → map (content text second) ps ≡ contents
  pub second : (first : List ℕ) → map (content first text) (map from_second ps) ≡ contents

line_calls : (l : List ℕ) {es : List WrittenEvent} {cs : List WrittenCall} (a : all allowed_byte l ≡ true) → DerivesProduction l es cs → CallsSound l a cs
line_calls l a (DerivesProduction.production d s c) = calls_sound l a c

module _ (text : List ℕ) (allowed : all allowed_byte text ≡ true) where
  -- one production, and those behind it
  more_said : (b l w after : List ℕ) {es : List WrittenEvent} {cs : List WrittenCall} {ks : List KeptEvent} {ps : List Tables.Production}
      → text ≡ b ++ l → l ≡ w ++ after → DerivesProduction w es cs → EventsKept es ks → Said text ps
      → Said text (production_of (start_in_text text l) ks cs ∷ ps)
  more_said b l w after {es} {cs} {ks} {ps} e f d k rest =
      let t : text ≡ b ++ (w ++ after) = e ∙ ap {B = List ℕ} (λ x. b ++ x) f in
      let a : all allowed_byte w ≡ true = all_left allowed_byte w after (all_right allowed_byte b (w ++ after) (rw t at allowed)) in
      let c : CallsSound w a cs = line_calls w a d in
      let s : start_in_text text l ≡ length b = omega (arith, ap length e ∙ length-append b l) in
      record {
        contents = record { events = ks; calls = c.bytes } ∷ rest.contents;
        good = (record { some = line_some d k; kept = line_kept w a d k; calls = c.good }, rest.good);
        first = λ second.
            let m : map (call_bytes text second) (map (call_of (start_in_text text l)) cs) ≡ c.bytes =
            (λ i. map (call_bytes (t i) second) (map (call_of (s i)) cs)) ∙ calls_bytes w b after second c.held in
            λ i. record { events = ks; calls = m i } ∷ rest.first second i;
        second = λ first.
            let m : map (call_bytes first text) (map mark_second (map (call_of (start_in_text text l)) cs)) ≡ c.bytes =
            (λ i. map (call_bytes first (t i)) (map mark_second (map (call_of (s i)) cs))) ∙ marked_bytes w b after first c.held in
            λ i. record { events = ks; calls = m i } ∷ rest.second first i;
      }

  -- the text ends with these bytes
  abbrev Ending : Option (List ℕ) → Type 0
  Ending None = Unit
  Ending (Some l) = (b : List ℕ) × (text ≡ b ++ l)

  next_line : {l w : List ℕ} {r : Option (List ℕ)} → Ending (Some l) → Line l w r → Ending r
  next_line z (Line.last run) = tt
  next_line {l} {w} z (Line.newline {r = r} run) = (
    z.0 ++ (w ++ (10 ∷ [])),
    z.1 ∙ ap {B = List ℕ} (λ x. z.0 ++ x) (run.split ∙ sym (append_snoc w 10 r)) ∙ sym (append_assoc z.0 (w ++ (10 ∷ [])) r),
  )

  said_line : {l w : List ℕ} {r : Option (List ℕ)} {es : List WrittenEvent} {cs : List WrittenCall} {ks : List KeptEvent} {ps : List Tables.Production}
      → Ending (Some l) → Line l w r → DerivesProduction w es cs → EventsKept es ks → Said text ps → Said text (production_of (start_in_text text l) ks cs ∷ ps)
  said_line {l} {w} z (Line.last run) d k rest = more_said z.0 l w [] z.1 run.split d k rest
  said_line {l} {w} z (Line.newline {r = r} run) d k rest = more_said z.0 l w (10 ∷ r) z.1 run.split d k rest

  lines_said : {s u : Option (List ℕ)} {ds : List Derived} {ps : List Tables.Production} → Ending s → Lines text s ds u → ProductionsKept ds ps → Said text ps
  lines_said z Lines.done ProductionsKept.nothing = record { contents = []; good = tt; first = λ second. refl; second = λ first. refl }
  lines_said z (Lines.blanks c b ls) k = lines_said (next_line z c) ls k
  lines_said z (Lines.production c d ls) (ProductionsKept.more k ks) = said_line z c d k (lines_said (next_line z c) ls ks)

  table_said : {d : Model.Directive} {u : Option (List ℕ)} {ds : List Derived} {ps : List Tables.Production} → TranslationTable text d ds u → ProductionsKept ds ps
      → Said text ps
  table_said (TranslationTable.plain ls) k = lines_said ([], refl) ls k
  table_said (TranslationTable.directed c x ls) k = lines_said (next_line ([], refl) c) ls k

  pub upto_said : {d : Model.Directive} {u : Option (List ℕ)} {ps : List Tables.Production} → Upto text u d ps → Said text ps
  upto_said x = table_said x.table x.kept
