-- The reader of calls, as specs/ReadOut states it.
use Prim.Native.Nat.{ℕ, ◌+◌, ◌≤◌, ◌<◌}
use native.Mathlib.Omega.{arith}
use mathlib.Core.Path.{◌≡◌, refl, ap, ◌∙◌}
use mathlib.Core.Bool.{Bool, true, false}
use Rattle.std.specs.Prelude.{Option, None, Some}
use mathlib.Core.List.{List, ◌++◌, map, append_assoc}
use lib.ListN.{length, take, drop, length-append, length-map}
use Rattle.model.specs.Calls.{WrittenCall}
use Rattle.model.specs.Tables.{Call, Production, Table}
use Rattle.model.specs.Compiling.{in_text, compiled, accepted}
use Rattle.model.specs.Merging.{merged_table}
use Rattle.model.specs.Asking.{at, asked_production, call_in, asked_call, calls_asked, parameters_asked, name_asked, span_of, parameter_of, located, production_count, call_count, parameter_count, located_name, located_parameter}
use Rattle.model.specs.declared.scan.Span.{Span}
use Rattle.model.specs.declared.answers.Counted.{Counted}
use Rattle.tables.specs.Layout.{encode}
use Rattle.tables.proofs.AcceptedFits.{accepted_fits}
use Rattle.calls.specs.Parts.{part_of}
use Rattle.grammar.specs.Texts.{Derived}
use Rattle.roundtrip.specs.RoundTrip.{CameFrom}
use Rattle.roundtrip.proofs.RoundTrip.{round_trip}
use Rattle.readout.specs.ReadOut.{TextHas, part_of_line, calls_of_line, text_of_mark, ReadsLine, ReadsBytes, ReadsProduction, ReadsNone, ReadsAll, ReadOut}
use Rattle.readout.proofs.Elements.{at_there, at_past, at_map}
use Rattle.readout.proofs.Reader.{ReadsTable, reads_table}
use Rattle.readout.proofs.Lines.{accepts}
use Rattle.readout.proofs.Spans.{name_in, parameter_in, part_there}
use Rattle.readout.proofs.Sources.{Found, found}

-- ---- A table keeps the lengths of its texts

kept_length : (text : List ℕ) (t : Table) → compiled text ≡ accepted t → t.first_length ≡ length text
kept_length text t e = ap (λ (x : Table). x.first_length) (accepts text t e).table

one_text_lem : (text : List ℕ) (t : Table) → compiled text ≡ accepted t → t.second_length ≡ 0
one_text_lem text t e = ap (λ (x : Table). x.second_length) (accepts text t e).table

first_length_lem : {t : Table} {first second : List ℕ} → CameFrom t first second → t.first_length ≤ length first
unfolding merged_table
first_length_lem {t} {first} (CameFrom.compiling e) = let a = kept_length first t e in omega arith
first_length_lem {first = first} (CameFrom.merging {old = old} a b l) = let c = kept_length first old a in omega arith

second_length_lem : {t : Table} {first second : List ℕ} → CameFrom t first second → t.second_length ≤ length second
unfolding merged_table
second_length_lem {t} {first} (CameFrom.compiling e) = let a = one_text_lem first t e in omega arith
second_length_lem {second = second} (CameFrom.merging {new = new} a b l) = let c = kept_length second new b in omega arith

-- ---- A production

part_by : (first second : List ℕ) (m : Bool) (s : Span) → part_of first second (located m s) ≡ take s.len (drop s.start (text_of_mark m first second))
unfolding part_of
part_by first second true s = refl
part_by first second false s = refl

-- a text with more after it
more_after : (m : Bool) (first second more_first more_second : List ℕ)
    → text_of_mark m (first ++ more_first) (second ++ more_second) ≡ text_of_mark m first second ++ text_of_mark m more_first more_second
more_after true first second more_first more_second = refl
more_after false first second more_first more_second = refl

module _ (t : Table) (table first second : List ℕ) (reads : ReadsTable t table first second) (p : ℕ) where
  module _ (q : Production) (e : at t.productions p ≡ Some q) (m : Bool) (line : Derived) (c : q.calls ≡ calls_of_line m line) where
    there : (k : ℕ) → asked_call t p k ≡ at (calls_of_line m line) k
    unfolding asked_call asked_production
    there k = ap (λ (o : Option Production). call_in o k) e ∙ ap (λ (cs : List Call). at cs k) c

    reads_line : ReadsLine table first second p m line
    unfolding call_count asked_production located_name parameter_count located_parameter
    reads_line =
        record {
          calls = reads.calls p ∙ ap calls_asked e ∙ ap (λ (cs : List Call). Counted.Accepted (length cs)) c ∙ ap Counted.Accepted (length-map line.calls _);
          name = λ k. reads.name p k ∙ ap name_asked (there k);
          parameters = λ k. reads.parameters p k ∙ ap parameters_asked (there k);
          parameter = λ k i. reads.parameter p k i ∙ ap (λ (o : Option Call). parameter_of o i) (there k);
        }

    module _ (text more : List ℕ) (lent : text_of_mark m first second ≡ text ++ more) (n : ℕ) (h : TextHas text n line) where
      lent_split : text_of_mark m first second ≡ h.before ++ (h.bytes ++ (h.after ++ more))
      lent_split =
          lent ∙ ap {B = List ℕ} (λ x. x ++ more) h.split ∙ append_assoc h.before (h.bytes ++ h.after) more
          ∙ ap {B = List ℕ} (λ x. h.before ++ x) (append_assoc h.bytes h.after more)

      place_bytes : (s : Span) → s.start + s.len ≤ length h.bytes → part_of first second (located m (in_text line.start s)) ≡ part_of_line h.bytes s
      place_bytes s w =
          part_by first second m (in_text line.start s)
          ∙ part_there (text_of_mark m first second) h.before h.bytes (h.after ++ more) line.start s lent_split h.start w

      call_there_lem : (k : ℕ) (call : WrittenCall) → at line.calls k ≡ Some call
          → at (calls_of_line m line) k ≡ Some (record { second = m; name = in_text line.start call.name; parameters = map (in_text line.start) call.parameters })
      call_there_lem k call f = at_map _ line.calls k call f

      reads_bytes : ReadsBytes table first second p line h.bytes
      reads_bytes =
          record {
            name = λ k call f.
                ap (part_of first second) (reads_line.name k ∙ ap name_asked (call_there_lem k call f))
                ∙ place_bytes call.name (name_in h.bytes h.derives k call f);
            parameter = λ k i call s f g.
                ap (part_of first second) (reads_line.parameter k i ∙ ap (λ (o : Option Call). parameter_of o i) (call_there_lem k call f)
                ∙ ap (span_of m) (at_map (in_text line.start) call.parameters i s g))
                ∙ place_bytes s (parameter_in h.bytes h.derives k call f i s g);
          }

  -- ---- No production

  module _ (e : at t.productions p ≡ None) where
    no_call : (k : ℕ) → asked_call t p k ≡ None
    unfolding asked_call asked_production
    no_call k = ap (λ (o : Option Production). call_in o k) e

    reads_none : ReadsNone table first second p
    unfolding call_count asked_production located_name parameter_count located_parameter
    reads_none =
        record {
          calls = reads.calls p ∙ ap calls_asked e;
          name = λ k. reads.name p k ∙ ap name_asked (no_call k);
          parameters = λ k. reads.parameters p k ∙ ap parameters_asked (no_call k);
          parameter = λ k i. reads.parameter p k i ∙ ap (λ (o : Option Call). parameter_of o i) (no_call k);
        }

-- ---- All of them

module _ (t : Table) (first second : List ℕ) (c : CameFrom t first second) where
  pub reads_fitting : (rest lent_first lent_second : List ℕ) → length first ≤ length lent_first → length second ≤ length lent_second
      → ReadsTable t (encode t ++ rest) lent_first lent_second
  reads_fitting rest lent_first lent_second h k =
      let a = first_length_lem c in
      let b = second_length_lem c in
      reads_table t (accepted_fits (round_trip.accepted t first second c)) lent_first lent_second rest (omega arith) (omega arith)

  module _ (rest more_first more_second : List ℕ) where
    reads : ReadsTable t (encode t ++ rest) (first ++ more_first) (second ++ more_second)
    reads =
        reads_fitting rest (first ++ more_first) (second ++ more_second) (omega (arith, length-append first more_first))
        (omega (arith, length-append second more_second))

    reads_production : (p : ℕ) → p < length t.productions
        → ReadsProduction t first second (encode t ++ rest) (first ++ more_first) (second ++ more_second) p
    reads_production p h =
        let x = at_there t.productions p h in
        let f : Found first second t p x.0 = found c p x.0 x.1 in
        record {
          mark = f.mark;
          number = f.number;
          source = f.source;
          line = f.line;
          has = f.has;
          reads =
              reads_line t (encode t ++ rest) (first ++ more_first) (second ++ more_second) reads p x.0 x.1 f.mark f.line f.calls;
          bytes =
              reads_bytes t (encode t ++ rest) (first ++ more_first) (second ++ more_second) reads p x.0 x.1 f.mark f.line f.calls
              (text_of_mark f.mark first second) (text_of_mark f.mark more_first more_second)
              (more_after f.mark first second more_first more_second) f.number f.has;
        }

    reads_all : ReadsAll t first second (encode t ++ rest) (first ++ more_first) (second ++ more_second)
    unfolding production_count
    reads_all =
        record {
          count = reads.productions;
          production = reads_production;
          absent = λ p h. reads_none t (encode t ++ rest) (first ++ more_first) (second ++ more_second) reads p (at_past t.productions p h);
        }

pub read_out : ReadOut
read_out t first second c rest more_first more_second = reads_all t first second c rest more_first more_second
