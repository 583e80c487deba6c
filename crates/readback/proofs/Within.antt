-- A table that fits reads its texts only within the lengths that it keeps.
use Prim.Native.Nat.{ℕ, ◌+◌, ◌≤◌}
use native.Mathlib.Omega.{arith}
use mathlib.Core.Path.{◌≡◌, refl, sym, ap, ap₂, ◌∙◌}
use mathlib.Core.Bool.{Bool, true, false, not, ◌&&◌, ◌||◌}
use mathlib.Core.List.{List, [], ◌∷◌, ◌++◌, map}
use lib.ListN.{length, take, drop, length-drop}
use lib.Seq.{take-append-le, drop-append-le}
use borrow.Author.Tests.{leb-true}
use Rattle.words.proofs.Bools.{and_left, and_right}
use Rattle.model.specs.Lists.{all}
use Rattle.model.specs.Asking.{part_bytes}
use Rattle.model.specs.Compiling.{passes_limit}
use Rattle.model.specs.Tables.{Call, Production, Table}
use Rattle.model.specs.Canonical.{canonical_text}
use Rattle.model.specs.declared.scan.Span.{Span}
use Rattle.tables.specs.Layout.{flat, all_events, all_calls}
use Rattle.tables.specs.Fitting.{span_in_text, text_length, call_in_range, event_in_range, texts_in_range, has_event, fitting}
use Rattle.roundtrip.specs.Contents.{CallBytes, Content, call_bytes, content, contents}
use Rattle.roundtrip.proofs.Lists.{all_left, all_right}
use Rattle.roundtrip.proofs.WholeText.{text_of}
use Rattle.roundtrip.proofs.Canonical.{canonical_text_lem}

part_of : (xs ys : List ℕ) (start len : ℕ) → start + len ≤ length xs → take len (drop start (xs ++ ys)) ≡ take len (drop start xs)
part_of xs ys start len h =
    ap (take len) (drop-append-le start xs ys (omega arith))
    ∙ take-append-le len (drop start xs) ys (rw length-drop (omega arith))

module _ (t : Table) (first second more later : List ℕ) (a : t.first_length ≤ length first) (b : t.second_length ≤ length second) where
  part_same : (mark : Bool) (s : Span) → span_in_text (text_length t mark) s ≡ true
      → part_bytes (first ++ more) (second ++ later) mark s ≡ part_bytes first second mark s
  unfolding span_in_text
  part_same true s e =
      let h : s.start + s.len ≤ t.second_length = leb-true (s.start + s.len) t.second_length e in
      part_of second later s.start s.len (omega arith)
  part_same false s e =
      let h : s.start + s.len ≤ t.first_length = leb-true (s.start + s.len) t.first_length e in
      part_of first more s.start s.len (omega arith)

  parts_same : (mark : Bool) (ss : List Span) → all (span_in_text (text_length t mark)) ss ≡ true
      → map (part_bytes (first ++ more) (second ++ later) mark) ss ≡ map (part_bytes first second mark) ss
  parts_same mark [] e = refl
  parts_same mark (s ∷ ss) e =
      ap₂ {C = List (List ℕ)} (λ x xs. x ∷ xs)
      (part_same mark s (and_left (span_in_text (text_length t mark) s) (all (span_in_text (text_length t mark)) ss) e))
      (parts_same mark ss (and_right (span_in_text (text_length t mark) s) (all (span_in_text (text_length t mark)) ss) e))

  call_same : (c : Call) → call_in_range t c ≡ true → call_bytes (first ++ more) (second ++ later) c ≡ call_bytes first second c
  unfolding call_in_range
  call_same c e =
      let marked : Bool = t.merged || not c.second in
      let named : Bool = span_in_text (text_length t c.second) c.name in
      let given : Bool = all (span_in_text (text_length t c.second)) c.parameters in
      ap₂ {C = CallBytes} (λ x xs. record { name = x; parameters = xs })
      (part_same c.second c.name (and_right marked named (and_left (marked && named) given e)))
      (parts_same c.second c.parameters (and_right (marked && named) given e))

  calls_same : (cs : List Call) → all (call_in_range t) cs ≡ true
      → map (call_bytes (first ++ more) (second ++ later)) cs ≡ map (call_bytes first second) cs
  calls_same [] e = refl
  calls_same (c ∷ cs) e =
      ap₂ {C = List CallBytes} (λ x xs. x ∷ xs)
      (call_same c (and_left (call_in_range t c) (all (call_in_range t) cs) e))
      (calls_same cs (and_right (call_in_range t c) (all (call_in_range t) cs) e))

  productions_same : (ps : List Production) → all (call_in_range t) (all_calls ps) ≡ true
      → map (content (first ++ more) (second ++ later)) ps ≡ map (content first second) ps
  unfolding flat
  productions_same [] e = refl
  productions_same (p ∷ ps) e =
      ap₂ {C = List Content} (λ x xs. record { events = p.events; calls = x } ∷ xs)
      (calls_same p.calls (all_left (call_in_range t) p.calls (all_calls ps) e))
      (productions_same ps (all_right (call_in_range t) p.calls (all_calls ps) e))

  calls_fit : fitting t ≡ true → all (call_in_range t) (all_calls t.productions) ≡ true
  unfolding fitting
  calls_fit e =
      let before : Bool = texts_in_range t && all has_event t.productions && all event_in_range (all_events t.productions) in
      let calls : Bool = all (call_in_range t) (all_calls t.productions) in
      and_right before calls (and_left (before && calls) (not (passes_limit t.productions)) e)

  pub contents_within : fitting t ≡ true → contents (first ++ more) (second ++ later) t ≡ contents first second t
  contents_within e = productions_same t.productions (calls_fit e)

  pub canonical_within : fitting t ≡ true → canonical_text (first ++ more) (second ++ later) t ≡ canonical_text first second t
  canonical_within e =
      canonical_text_lem (first ++ more) (second ++ later) t ∙ ap text_of (contents_within e) ∙ sym (canonical_text_lem first second t)
