-- Document 01, "The text": "`f()` has no parameter, `f("")` one, `f(,)` two empty ones", and other calls, as one table of what
-- is written and what is read out. That the reader gives every line of it is proved in proofs/Shown.
use Rattle.std.specs.Prelude.{ℕ, ◌≡◌, List, [], ◌∷◌, ◌++◌, length, get_or}
use Rattle.model.specs.Lists.{bytes}
use Rattle.model.specs.Tables.{Table}
use Rattle.model.specs.Compiling.{accepted, compiled}
use Rattle.model.specs.declared.answers.Counted.{Counted}
use Rattle.tables.specs.Layout.{encode}
use Rattle.calls.specs.Answers.{parameters_answer}
use Rattle.calls.specs.Parts.{name_part, parameter_part}

-- the first call of a text: its name, and its parameters without quotes
pub record ReadExample : Type 0 where
  pub text : List ℕ
  pub name : List ℕ
  pub parameters : List (List ℕ)

unfoldable pub read_examples : List ReadExample
read_examples =
    record { text = bytes "<Key>a:f(ab)"; name = bytes "f"; parameters = bytes "ab" ∷ [] }
    ∷ record { text = bytes "<Key>a:f()"; name = bytes "f"; parameters = [] }
    ∷ record { text = bytes "<Key>a:f(\"\")"; name = bytes "f"; parameters = [] ∷ [] }
    ∷ record { text = bytes "<Key>a:f(,)"; name = bytes "f"; parameters = [] ∷ [] ∷ [] }
    ∷ record { text = bytes "<Key>a:f( )"; name = bytes "f"; parameters = [] }
    ∷ record { text = bytes "<Key>a:f(a(b)"; name = bytes "f"; parameters = bytes "a(b" ∷ [] }
    ∷ record { text = bytes "s c<Key>a : go(now,) stop()"; name = bytes "go"; parameters = bytes "now" ∷ [] ∷ [] }
    ∷ record { text = bytes "<Key>a: go-on_2( \"x, y)\" ,z )"; name = bytes "go-on_2"; parameters = bytes "x, y)" ∷ bytes "z" ∷ [] }
    ∷ []

-- the text is accepted, and its table's bytes, whatever stands after them, give this name and these parameters;
-- past the last parameter the part is empty
pub record Shown (x : ReadExample) (t : Table) : Type 0 where
  pub compiles : compiled x.text ≡ accepted t
  pub name : (rest second : List ℕ) → name_part (encode t ++ rest) x.text second 0 0 ≡ x.name
  pub count : (rest : List ℕ) → parameters_answer (encode t ++ rest) 0 0 ≡ Counted.Accepted (length x.parameters)
  pub parameter : (rest second : List ℕ) (k : ℕ) → parameter_part (encode t ++ rest) x.text second 0 0 k ≡ get_or x.parameters k []

abbrev pub AllShown : List ReadExample → Type 0
AllShown [] = Unit
AllShown (x ∷ xs) = ((t : Table) × Shown x t) × AllShown xs
