-- Demand 2: texts are accepted exactly by the syntax of Appendix B as document 01 narrows it, each with one reading.
-- This is about the definitions of the crate model, which the compiler's contract cites. proofs/Exact shows it. So a reader who believes
-- the relation `Compiles` and the statements here need not believe the recursion with fuel in model's Events, Calls and Compiling.
use Rattle.std.specs.Prelude.{ℕ, ◌+◌, ◌≡◌, ◌↔◌, true, List, ◌++◌, Option, None, Some}
use Rattle.model.specs.Numbers as Numbers
use Rattle.model.specs.Lists.{all, part}
use Rattle.model.specs.Events.{WrittenEvent}
use Rattle.model.specs.Calls.{WrittenCall}
use Rattle.model.specs.Tables as Tables
use Rattle.model.specs.Compiling.{LineRead, line_read, Outcome, accepted, refused, table_of, out_of_fuel, compiled}
use Rattle.model.specs.declared.scan.Span.{Span}
use Rattle.model.specs.declared.events.Directive as Model
use Rattle.grammar.specs.Bytes.{line_byte}
use Rattle.grammar.specs.Tokens.{Stands}
use Rattle.grammar.specs.Productions.{DerivesProduction}
use Rattle.grammar.specs.Texts.{Line, Derived, start_in_text, TranslationTable}
use Rattle.grammar.specs.Compiling.{Allowed, Upto, NotDerived, Compiles}

-- the table t is what the text comes to: at most 8,192 allowed bytes, every line derived, every event kept, no limit passed
pub record Accepts (text : List ℕ) (t : Tables.Table) : Type 0 where
  pub allowed : Allowed text
  pub directive : Model.Directive
  pub productions : List Tables.Production
  pub derived : Upto text None directive productions
  pub table : t ≡ table_of text directive productions

-- the line that begins at a place is the first that the grammar does not derive, and none before it is refused
pub record FirstNotDerived (text : List ℕ) (place : ℕ) : Type 0 where
  pub allowed : Allowed text
  pub directive : Model.Directive
  pub productions : List Tables.Production
  pub rest : List ℕ
  pub before : Upto text (Some rest) directive productions
  pub line : List ℕ
  pub after : Option (List ℕ)
  pub cut : Line rest line after
  pub not_derived : NotDerived text rest line
  pub starts : place ≡ start_in_text text rest

pub record Exact : Type 0 where
  -- a line, which has no newline, is read as a production exactly where the grammar derives it
  pub line : (l : List ℕ) → all line_byte l ≡ true → (es : List WrittenEvent) (cs : List WrittenCall)
      → (line_read l ≡ LineRead.production es cs) ↔ DerivesProduction l es cs
  -- one reading of a line
  pub one_line : (l : List ℕ) (es fs : List WrittenEvent) (cs ds : List WrittenCall) → DerivesProduction l es cs → DerivesProduction l fs ds
      → (es ≡ fs) × (cs ≡ ds)
  -- one reading of a text
  pub one_text : (text : List ℕ) (d e : Model.Directive) (ds es : List Derived) → TranslationTable text d ds None → TranslationTable text e es None
      → (d ≡ e) × (ds ≡ es)
  -- a text comes to what the numbers of 01 say over what the grammar derives from it, and to nothing else
  pub outcome : (text : List ℕ) (o : Outcome) → (compiled text ≡ o) ↔ Compiles text o
  -- texts are accepted exactly by the syntax
  pub accepts : (text : List ℕ) (t : Tables.Table) → (compiled text ≡ accepted t) ↔ Accepts text t
  -- "4: line not in the grammar", with "the start of the line"
  pub not_grammar : (text : List ℕ) (place : ℕ) → (compiled text ≡ refused Numbers.not_grammar place) ↔ FirstNotDerived text place
  -- the span of a name or a parameter holds its bytes
  pub parts : (line m w r : List ℕ) (s : Span) → Stands line m w s → m ≡ w ++ r → part line s.start (s.start + s.len) ≡ w
  -- the fuel of model's recursion over the lines suffices: no text comes to what stands where it ends
  pub enough : (text : List ℕ) (place : ℕ) → compiled text ≡ out_of_fuel place → ⊥
