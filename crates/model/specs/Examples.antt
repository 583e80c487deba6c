-- Document 01, "Examples on each side": the starred lines, as one table of what is asked and what is answered.
-- That the definitions give every answer of it is proved in proofs/Starred.
use Rattle.std.specs.Prelude.{ℕ, ◌/◌, ◌%◌, ◌≡◌, List, [], ◌∷◌, ◌++◌, map, length, replicate}
use Prim.Native.Char.{code}
use Rattle.model.specs.Lists.{bytes}
use Rattle.model.specs.Canonical.{joined_by}
use Rattle.model.specs.Compiling.{Outcome, accepted, refused, compiled}
use Rattle.model.specs.Setting.{Setting}
use Rattle.model.specs.Demand.{MatchCall, named_from}
use Rattle.model.specs.declared.answers.Matched.{Matched}

-- ---- What is asked

pub data Question : Type 0 where
  -- what a text compiles to
  compile : (text : List ℕ) → Question
  -- what calls select, from a fresh state, on the table of a text under a setting
  select : (text : List ℕ) (setting : Setting) (calls : List MatchCall) → Question

pub data Answered : Type 0 where
  -- accepted, with so many productions
  productions : ℕ → Answered
  -- refused, with the number and the place
  refusal : (number place : ℕ) → Answered
  matched : List Matched → Answered

abbrev pub example_outcome : Outcome → Answered
example_outcome (accepted t) = productions (length t.productions)
example_outcome (refused n place) = refusal n place

abbrev pub select_answer : Outcome → Setting → List MatchCall → Answered
select_answer (accepted t) setting calls = matched (named_from t setting [] calls)
select_answer (refused n place) setting calls = refusal n place

-- what the definitions answer
unfoldable pub answer : Question → Answered
answer (compile text) = example_outcome (compiled text)
answer (select text setting calls) = select_answer (compiled text) setting calls

pub record Example : Type 0 where
  pub question : Question
  pub answered : Answered

-- every line of a table is answered as it says
abbrev pub AllAnswered : List Example → Type 0
AllAnswered es = map (λ e. answer e.question) es ≡ map (λ e. e.answered) es

-- ---- Records

-- the first byte of each pair is the less significant: byte order `l`
abbrev pub word16 : ℕ → List ℕ
word16 v = v % 256 ∷ v / 256 % 256 ∷ []

abbrev pub word32 : ℕ → List ℕ
word32 v = word16 (v % 65536) ++ word16 (v / 65536)

-- a key, button or motion event of 32 bytes
unfoldable pub call : (code detail time state : ℕ) → MatchCall
call eventCode detail time state =
    record {
      bytes = eventCode ∷ detail ∷ 0 ∷ 0 ∷ word32 time ++ (replicate 20 0 ++ (word16 state ++ (0 ∷ 0 ∷ [])));
      order = code "l";
    }

abbrev pub press : (button time : ℕ) → MatchCall
press button time = call 4 button time 0

abbrev pub release : (button time : ℕ) → MatchCall
release button time = call 5 button time 0

-- a map whose keycode 38 has the pair (0x61, 0x41), and every other key none
unfoldable pub one_key : List ℕ
one_key = replicate 60 0 ++ (0x61 ∷ 0x41 ∷ replicate 434 0)

-- a modifier map of eight rows of two keycodes, all unused
unfoldable pub no_modifiers : List ℕ
no_modifiers = replicate 16 0

-- under these maps and a multi-click time
abbrev pub under_time : ℕ → Setting
under_time time = record { keyboard = one_key; modifiers = no_modifiers; time = time }

-- keycode 38, with Shift and without
abbrev pub shifted : MatchCall
shifted = call 2 38 0 1

abbrev pub unshifted : MatchCall
unshifted = call 2 38 0 0

-- ---- Texts

-- "Table P"
unfoldable pub table_p : List ℕ
table_p = bytes "<Btn1Down>,<Btn1Up>:toves()\n<Btn1Up>:did()"

unfoldable pub double_press : List ℕ
double_press = bytes "<Btn1Down>(2):g()"

-- a production of so many events
unfoldable pub events_in_one : ℕ → List ℕ
events_in_one n = joined_by (bytes ",") (replicate n (bytes "<Key>a")) ++ bytes ":x()"

-- ---- The table

unfoldable pub starred : List Example
starred =
    -- "empty text: accepted, no productions"
    record { question = compile []; answered = productions 0 }
    -- "P: press 1, release 1 selects none, then production 0"
    ∷ record {
      question = select table_p (under_time 200) (press 1 1000 ∷ release 1 1050 ∷ []);
      answered = matched (Matched.Heard ∷ Matched.Selected 0 ∷ []);
    }
    -- "P: press 1, release 2, release 1: none, none, production 1"
    ∷ record {
      question = select table_p (under_time 200) (press 1 1000 ∷ release 2 1050 ∷ release 1 1100 ∷ []);
      answered = matched (Matched.Heard ∷ Matched.Heard ∷ Matched.Selected 1 ∷ []);
    }
    -- "`<Btn1Down>(2):g()`: press, release, .. press (five), all quick: selected at the third only"
    ∷ record {
      question =
          select double_press (under_time 200)
          (press 1 1000 ∷ release 1 1010 ∷ press 1 1020 ∷ release 1 1030 ∷ press 1 1040 ∷ []);
      answered = matched (Matched.Heard ∷ Matched.Heard ∷ Matched.Selected 0 ∷ Matched.Heard ∷ Matched.Heard ∷ []);
    }
    -- "times 4294967290 and 94: no pair with limit 100"
    ∷ record {
      question = select double_press (under_time 100) (press 1 4294967290 ∷ release 1 20 ∷ press 1 94 ∷ []);
      answered = matched (Matched.Heard ∷ Matched.Heard ∷ Matched.Heard ∷ []);
    }
    -- "a pair with 101"
    ∷ record {
      question = select double_press (under_time 101) (press 1 4294967290 ∷ release 1 20 ∷ press 1 94 ∷ []);
      answered = matched (Matched.Heard ∷ Matched.Heard ∷ Matched.Selected 0 ∷ []);
    }
    -- "`Shift ~Shift<Key>a:x()` and `None<Ctrl>a:x()`: 8"
    ∷ record { question = compile (bytes "Shift ~Shift<Key>a:x()"); answered = refusal 8 0 }
    ∷ record { question = compile (bytes "None<Ctrl>a:x()"); answered = refusal 8 0 }
    -- "key pair (0x61, 0x41): `<Key>A` matches with and without Shift"
    ∷ record {
      question = select (bytes "<Key>A:x()") (under_time 200) (shifted ∷ unshifted ∷ []);
      answered = matched (Matched.Selected 0 ∷ Matched.Selected 0 ∷ []);
    }
    -- "`:<Key>a` not with Shift"
    ∷ record {
      question = select (bytes ":<Key>a:x()") (under_time 200) (shifted ∷ unshifted ∷ []);
      answered = matched (Matched.Heard ∷ Matched.Selected 0 ∷ []);
    }
    -- "`<Key>(2+)a:x()`: 10; `<Key>(0)a:x()`: 6"
    ∷ record { question = compile (bytes "<Key>(2+)a:x()"); answered = refusal 10 0 }
    ∷ record { question = compile (bytes "<Key>(0)a:x()"); answered = refusal 6 0 }
    -- "24 events in a production: 0; 25: 11"
    ∷ record { question = compile (events_in_one 24); answered = productions 1 }
    ∷ record { question = compile (events_in_one 25); answered = refusal 11 0 }
    ∷ []
