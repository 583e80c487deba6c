-- The places that the grammar derives lie in their line, and hold there what they hold in the text.
use Prim.Native.Nat.{ℕ, zero, suc, ◌+◌, ◌-◌, ◌≤◌}
use Prim.Native.Char.{code}
use native.Mathlib.Omega.{arith}
use mathlib.Core.Path.{◌≡◌, ap, ◌∙◌}
use Rattle.std.specs.Prelude.{Some}
use mathlib.Core.List.{List, [], ◌∷◌, ◌++◌}
use lib.ListN.{length, take, drop, length-append, length-drop}
use lib.Seq.{drop-append-add, drop-append-le, take-append-le}
use Rattle.model.specs.Events.{WrittenEvent}
use Rattle.model.specs.Calls.{WrittenCall}
use Rattle.model.specs.Asking.{at}
use Rattle.model.specs.declared.scan.Span.{Span}
use Rattle.grammar.specs.Tokens.{Stands}
use Rattle.grammar.specs.Calls as Grammar
use Rattle.grammar.specs.Productions.{DerivesProduction}
use Rattle.readout.specs.ReadOut.{part_of_line}
use Rattle.readout.proofs.Elements.{none_some, same_some}

-- ---- In the line

module _ (line : List ℕ) where
  abbrev Within : Span → Type 0
  Within s = s.start + s.len ≤ length line

  abbrev AllWithin : List Span → Type 0
  AllWithin [] = Unit
  AllWithin (s ∷ ss) = Within s × AllWithin ss

  abbrev CallsWithin : List WrittenCall → Type 0
  CallsWithin [] = Unit
  CallsWithin (c ∷ cs) = Within c.name × AllWithin c.parameters × CallsWithin cs

  stands_within : {m w : List ℕ} {s : Span} (r : List ℕ) → Stands line m w s → m ≡ w ++ r → Within s
  stands_within {m} {w} {s} r x e =
      let a : s.start ≡ length x.before = ap (λ (y : Span). y.start) x.place in
      let b : s.len ≡ length w = ap (λ (y : Span). y.len) x.place in
      omega (arith, ap length x.split ∙ length-append x.before m, ap length e ∙ length-append w r)

  string_within : {l r : List ℕ} {s : Span} → Grammar.String line l s r → Within s
  string_within (Grammar.String.quoted {r = r} q run x) = stands_within (code "\"" ∷ r) x run.split
  string_within (Grammar.String.unquoted {r = r} b run x) = stands_within r x run.split

  params_within : {l r : List ℕ} {ss : List Span} → Grammar.Params line l ss r → AllWithin ss
  params_within (Grammar.Params.last s c) = (string_within s, tt)
  params_within (Grammar.Params.more s c ps) = (string_within s, params_within ps)

  bracketed_within : {l r : List ℕ} {ss : List Span} → Grammar.Bracketed line l ss r → AllWithin ss
  bracketed_within (Grammar.Bracketed.absent c) = tt
  bracketed_within (Grammar.Bracketed.present b e ps) = params_within ps

  name_within_lem : {l r : List ℕ} {s : Span} → Grammar.Name line l s r → Within s
  name_within_lem (Grammar.Name.name {r = r} b word x) = stands_within (code "(" ∷ r) x word.run.split

  calls_within_lem : {l : List ℕ} {cs : List WrittenCall} → Grammar.Rhs line l cs → CallsWithin cs
  calls_within_lem (Grammar.Rhs.none b) = tt
  calls_within_lem (Grammar.Rhs.call n b d) = (name_within_lem n, bracketed_within b, calls_within_lem d)

  production_within : {es : List WrittenEvent} {cs : List WrittenCall} → DerivesProduction line es cs → CallsWithin cs
  production_within (DerivesProduction.production d s c) = calls_within_lem c

  name_of : (cs : List WrittenCall) (c : ℕ) (call : WrittenCall) → CallsWithin cs → at cs c ≡ Some call → Within call.name
  name_of [] c call w e = absurd (none_some e)
  name_of (x ∷ cs) zero call w e = let q : x ≡ call = same_some e in rw q at w.0
  name_of (x ∷ cs) (suc c) call w e = name_of cs c call w.2 e

  parameters_of : (cs : List WrittenCall) (c : ℕ) (call : WrittenCall) → CallsWithin cs → at cs c ≡ Some call → AllWithin call.parameters
  parameters_of [] c call w e = absurd (none_some e)
  parameters_of (x ∷ cs) zero call w e = let q : x ≡ call = same_some e in rw q at w.1
  parameters_of (x ∷ cs) (suc c) call w e = parameters_of cs c call w.2 e

  parameter_of_lem : (ss : List Span) (k : ℕ) (s : Span) → AllWithin ss → at ss k ≡ Some s → Within s
  parameter_of_lem [] k s w e = absurd (none_some e)
  parameter_of_lem (x ∷ ss) zero s w e = let q : x ≡ s = same_some e in rw q at w.0
  parameter_of_lem (x ∷ ss) (suc k) s w e = parameter_of_lem ss k s w.1 e

  module _ {es : List WrittenEvent} {cs : List WrittenCall} (d : DerivesProduction line es cs) (c : ℕ) (call : WrittenCall) (e : at cs c ≡ Some call) where
    pub name_in : call.name.start + call.name.len ≤ length line
    name_in = name_of cs c call (production_within d) e

    pub parameter_in : (k : ℕ) (s : Span) → at call.parameters k ≡ Some s → s.start + s.len ≤ length line
    parameter_in k s f = parameter_of_lem call.parameters k s (parameters_of cs c call (production_within d) e) f

-- ---- In the text

pub part_there : (text before bytes after : List ℕ) (start : ℕ) (s : Span) → text ≡ before ++ (bytes ++ after) → length before ≡ start
    → s.start + s.len ≤ length bytes → take s.len (drop (start + s.start) text) ≡ part_of_line bytes s
part_there text before bytes after start s e f h =
    let a : s.start + s.len - s.start ≡ s.len = omega arith in
    let d : drop (length before + s.start) (before ++ (bytes ++ after)) ≡ drop s.start bytes ++ after =
    drop-append-add before (bytes ++ after) s.start ∙ drop-append-le s.start bytes after (omega arith) in
    rw (e, ← f, a, d) (take-append-le s.len (drop s.start bytes) after (omega (arith, length-drop s.start bytes)))
