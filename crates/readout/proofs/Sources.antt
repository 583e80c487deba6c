-- Every production of a table that came from texts is one of the first text's or of the second's.
use Prim.Native.Nat.{ℕ}
use mathlib.Core.Path.{◌≡◌, refl, ap, ◌∙◌}
use mathlib.Core.Bool.{Bool, true, false, not}
use Rattle.std.specs.Prelude.{Some}
use mathlib.Core.List.{List, [], ◌∷◌, map}
use Rattle.model.specs.Lists.{those}
use Rattle.model.specs.Calls.{WrittenCall}
use Rattle.model.specs.Tables.{Production, Table}
use Rattle.model.specs.Compiling.{call_of, compiled, accepted}
use Rattle.model.specs.Merging.{is_among, without, merged_productions, mark_second, from_second, merged_table}
use Rattle.model.specs.Asking.{at}
use Rattle.model.specs.declared.events.Directive.{Directive}
use Rattle.grammar.specs.Texts.{Derived}
use Rattle.roundtrip.specs.RoundTrip.{CameFrom}
use Rattle.readout.specs.ReadOut.{TextHas, calls_of_line, Source, text_of_mark}
use Rattle.readout.proofs.Elements.{Among, Either, at_append, at_those, at_mapped}
use Rattle.readout.proofs.Lines.{Written, written}

-- where a production q, at place p of a table, came from, and that its calls are those of the line there
pub record Found (first second : List ℕ) (t : Table) (p : ℕ) (q : Production) : Type 0 where
  pub mark : Bool
  pub number : ℕ
  pub source : Source first second t p mark number
  pub line : Derived
  pub has : TextHas (text_of_mark mark first second) number line
  pub calls : q.calls ≡ calls_of_line mark line

-- ---- Which of two lists a merge took a production from

merged_either : (d : Directive) (old new : List Production) (p : ℕ) (q : Production) → at (merged_productions d old new) p ≡ Some q → Either old new q
unfolding merged_productions without
merged_either Directive.Replace old new p q e = Either.right (record { place = p; there = e })
merged_either Directive.Override old new p q e = go (at_append new (those (λ x. not (is_among new x)) old) p q e)
  where
    go : Either new (those (λ x. not (is_among new x)) old) q → Either old new q
    go (Either.left a) = Either.right a
    go (Either.right a) = Either.left (at_those (λ x. not (is_among new x)) old a.place q a.there)
merged_either Directive.Augment old new p q e = go (at_append old (those (λ x. not (is_among old x)) new) p q e)
  where
    go : Either old (those (λ x. not (is_among old x)) new) q → Either old new q
    go (Either.left a) = Either.left a
    go (Either.right a) = Either.right (at_those (λ x. not (is_among old x)) new a.place q a.there)

-- ---- Marks

mark_calls : (start : ℕ) (cs : List WrittenCall) → map mark_second (map (call_of start) cs) ≡ map (λ c. mark_second (call_of start c)) cs
mark_calls start [] = refl
mark_calls start (c ∷ cs) = rw (mark_calls start cs)

marked : (line : Derived) → map mark_second (map (call_of line.start) line.calls) ≡ calls_of_line true line
marked line = mark_calls line.start line.calls

-- ---- A merged table

module _ (first second : List ℕ) (old new : Table) (a : compiled first ≡ accepted old) (b : compiled second ≡ accepted new) (p : ℕ) (q : Production)
    (e : at (merged_table old new).productions p ≡ Some q) where
  from_old : Among old.productions q → Found first second (merged_table old new) p q
  from_old x =
      let w : Written first x.place q = written first old a x.place q x.there in
      record { mark = false; number = x.place; source = Source.of_old a b x.there e; line = w.line; has = w.has; calls = w.calls }

  from_new : (n : ℕ) (r : Production) → at new.productions n ≡ Some r → q ≡ from_second r → Found first second (merged_table old new) p q
  from_new n r x y =
      let w : Written second n r = written second new b n r x in
      let f : at (merged_table old new).productions p ≡ Some (from_second r) = e ∙ ap {B = _} Some y in
      record {
        mark = true;
        number = n;
        source = Source.of_new a b x f;
        line = w.line;
        has = w.has;
        calls = ap (λ (z : Production). z.calls) y ∙ ap (map mark_second) w.calls ∙ marked w.line;
      }

  from_either : Either old.productions (map from_second new.productions) q → Found first second (merged_table old new) p q
  from_either (Either.left x) = from_old x
  from_either (Either.right x) =
      let y = at_mapped from_second new.productions x.place q x.there in
      from_new x.place y.0 y.1 y.2

  merged_found : Found first second (merged_table old new) p q
  unfolding merged_table
  merged_found = from_either (merged_either new.directive old.productions (map from_second new.productions) p q e)

-- ---- Every table that came from texts

pub found : {t : Table} {first second : List ℕ} → CameFrom t first second → (p : ℕ) (q : Production) → at t.productions p ≡ Some q → Found first second t p q
found {t} {first} {second} (CameFrom.compiling c) p q e =
    let w : Written first p q = written first t c p q e in
    record { mark = false; number = p; source = Source.of_text c; line = w.line; has = w.has; calls = w.calls }
found {first = first} {second = second} (CameFrom.merging {old = old} {new = new} a b l) p q e = merged_found first second old new a b p q e
