-- Lines on each side of the points at which document 01 narrows Appendix B. proofs/Examples shows each of them.
use Rattle.std.specs.Prelude.{ℕ, false, List, [], ◌∷◌, None}
use Prim.Native.String.{String}
use Rattle.model.specs.Lists.{bytes}
use Rattle.model.specs.Events.{Modifier, ModifierList, WrittenEvent}
use Rattle.model.specs.Calls.{WrittenCall}
use Rattle.model.specs.declared.scan.KeyMark.{KeyMark}
use Rattle.grammar.specs.Productions.{DerivesProduction}

-- the grammar derives something from a line
abbrev pub Derivable : List ℕ → Type 0
Derivable l = (es : List WrittenEvent) × (cs : List WrittenCall) × DerivesProduction l es cs

abbrev pub Every : (List ℕ → Type 0) → List String → Type 0
Every P [] = Unit {0}
Every P (s ∷ ss) = P (bytes s) × Every P ss

-- in the grammar; some are refused later, by 5, 6 or 10
unfoldable pub derivable : List String
derivable =
    -- blanks around tokens
    "<Key>a:" ∷ "< Key >a :" ∷ "~ Shift<Key>a:" ∷ "! : Ctrl<Key>a:" ∷ "<Key> ( 2 ) a:" ∷ "<Key>( 2 + )a:"
    -- modifiers
    ∷ "None<Key>a:" ∷ "Any <Key>a:" ∷ "none<Key>a:" ∷ "s~c<Key>a:" ∷ "ShiftCtrl<Key>a:" ∷ "@x_1<Key>a:" ∷ ":<Key>:"
    -- a detail runs on to blank, comma or colon
    ∷ "<Foo>:" ∷ "<Key>a(2):" ∷ "<Key>a<Key>b:" ∷ "<Key>\"a\":" ∷ "<Key>\":" ∷ "<Key>(2)(:"
    -- counts
    ∷ "<Key>(0)a:" ∷ "<Key>(10)a:" ∷ "<Motion>(1):"
    -- key sequences
    ∷ "\"a^b\":" ∷ "\"^\"\":" ∷ "\"^\\a\":" ∷ "\"$\"\":" ∷ "\" \":" ∷ "\"a\",<Key>b:"
    -- calls
    ∷ "<Key>a:f()g()" ∷ "<Key>a:f( )" ∷ "<Key>a:f( , )" ∷ "<Key>a:f(a(b)" ∷ "<Key>a:f( \"a b\" , c ) -_9() "
    ∷ []

-- no production: refused by 4, but for the line of no bytes, which is skipped, and `#replace` as the whole first line
unfoldable pub underivable : List String
underivable =
    -- an event is needed, and a colon
    "" ∷ ":x()" ∷ "<Key>a" ∷ "<Key>a,:"
    -- types
    ∷ "<>:" ∷ "<Key_>:" ∷ "<Key a>:"
    -- modifiers
    ∷ "!None<Key>a:" ∷ "~None<Key>a:" ∷ "None Shift<Key>a:" ∷ "None Any<Key>a:" ∷ ":!<Key>a:" ∷ "@ x<Key>a:" ∷ "@<Key>a:" ∷ "Shift@x<Key>a:" ∷ "@a@b<Key>a:"
    -- details and counts
    ∷ "<Key>a b:" ∷ "<Key>():" ∷ "<Key>(x):" ∷ "<Key>(-1):" ∷ "<Key>(2++):" ∷ "<Key>(1 2):"
    -- key sequences
    ∷ "\"\":" ∷ "\"a:" ∷ "Ctrl\"a\":" ∷ "\"a\"(2):"
    -- calls
    ∷ "<Key>a:f ()" ∷ "<Key>a:f" ∷ "<Key>a:f(" ∷ "<Key>a:f(\"a\"b)" ∷ "<Key>a:f(a\"b)" ∷ "<Key>a:f(a b)" ∷ "<Key>a:f()()"
    -- directives
    ∷ "#replace" ∷ " #replace"
    ∷ []

-- the example at the head of Productions: its line, and what is derived from it
unfoldable pub example_line : List ℕ
example_line = bytes "s<Key>a, \"^b\": f(x) g()"

abbrev pub example_events : List WrittenEvent
example_events =
    WrittenEvent.event
    (record { list = ModifierList.listed false false (Modifier.name false (bytes "s") ∷ []); type_name = bytes "Key"; count = None; detail = bytes "a" })
    ∷ WrittenEvent.key (record { mark = KeyMark.Control; byte = 98 })
    ∷ []

abbrev pub example_calls : List WrittenCall
example_calls =
    record { name = record { start = 15; len = 1 }; parameters = record { start = 17; len = 1 } ∷ [] }
    ∷ record { name = record { start = 20; len = 1 }; parameters = [] }
    ∷ []

pub record Examples : Type 0 where
  pub derived : Every Derivable derivable
  pub underived : Every (λ l. Derivable l → ⊥) underivable
  pub worked : DerivesProduction example_line example_events example_calls
