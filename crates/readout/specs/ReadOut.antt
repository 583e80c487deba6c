-- Demand 2, a call's name and parameters exactly as the text has them: on an accepted table, with its texts unchanged, the reader
-- of calls gives the parts that the grammar's one reading of the text has there, each of them whole, and no others.
--
-- In the text `<Key>a:f(ab)` the grammar reads one production, in the line at byte 0, with one call: its name is 1 byte at 7, its
-- parameter 2 bytes at 9. So of production 0 and call 0 the reader gives the name `f`, one parameter, and as parameter 0 `ab`,
-- neither `a` nor `b`; parameter 1, call 1 and production 1 are not there.
use Rattle.std.specs.Prelude.{ℕ, ◌+◌, ◌≤◌, ◌<◌, ◌≡◌, Bool, true, false, List, ◌++◌, map, length, None, Some}
use Rattle.model.specs.Numbers.{not_there}
use Rattle.model.specs.Lists.{part}
use Rattle.model.specs.Calls.{WrittenCall}
use Rattle.model.specs.Tables.{Call, Production, Table}
use Rattle.model.specs.Compiling.{in_text, accepted, compiled}
use Rattle.model.specs.Merging.{from_second, merged_table}
use Rattle.model.specs.Asking.{at, name_asked, parameters_asked, parameter_of}
use Rattle.model.specs.declared.scan.Span.{Span}
use Rattle.model.specs.declared.events.Directive.{Directive}
use Rattle.model.specs.declared.answers.Counted.{Counted}
use Rattle.model.specs.declared.answers.Located.{Located}
use Rattle.tables.specs.Layout.{encode}
use Rattle.calls.specs.Answers.{productions_answer, calls_answer, parameters_answer, name_answer, parameter_answer}
use Rattle.calls.specs.Parts.{name_part, parameter_part}
use Rattle.grammar.specs.Productions.{DerivesProduction}
use Rattle.grammar.specs.Texts.{Derived, TranslationTable}
use Rattle.roundtrip.specs.RoundTrip.{CameFrom}

-- ---- What a text has

-- production n of a text as the grammar reads it; that there is one reading is `one_text` of grammar's Exact
pub record TextHas (text : List ℕ) (n : ℕ) (line : Derived) : Type 0 where
  pub directive : Directive
  pub lines : List Derived
  pub reading : TranslationTable text directive lines None
  pub number : at lines n ≡ Some line
  -- the bytes of its line, and where they stand in the text
  pub bytes : List ℕ
  pub before : List ℕ
  pub after : List ℕ
  pub split : text ≡ before ++ (bytes ++ after)
  pub start : length before ≡ line.start
  pub derives : DerivesProduction bytes line.events line.calls

-- the part of a line that a name or a parameter is; `parts` of grammar's Exact says that it is what the grammar derives there
abbrev pub part_of_line : List ℕ → Span → List ℕ
part_of_line bytes s = part bytes s.start (s.start + s.len)

-- the calls of a line: its places, counted from the start of the text that it stands in, and that text's mark
abbrev pub calls_of_line : (second : Bool) → Derived → List Call
calls_of_line second line =
    map
    (λ (c : WrittenCall). record {
      second = second;
      name = in_text line.start c.name;
      parameters = map (in_text line.start) c.parameters;
    })
    line.calls

-- ---- Where a production of a table came from

-- production p of a table is production n of its first text or, marked so, of its second
pub data Source (first second : List ℕ) : Table → (p : ℕ) → (mark : Bool) → (n : ℕ) → Type 0 where
  -- a compiled table has the productions of its text, in order
  of_text : {t : Table} {p : ℕ} → compiled first ≡ accepted t → Source first second t p false p
  -- a merged one has those of the old table that the rule keeps,
  of_old : {old new : Table} {q : Production} {p n : ℕ} → compiled first ≡ accepted old → compiled second ≡ accepted new
      → at old.productions n ≡ Some q → at (merged_table old new).productions p ≡ Some q
      → Source first second (merged_table old new) p false n
  -- and those of the new
  of_new : {old new : Table} {q : Production} {p n : ℕ} → compiled first ≡ accepted old → compiled second ≡ accepted new
      → at new.productions n ≡ Some q → at (merged_table old new).productions p ≡ Some (from_second q)
      → Source first second (merged_table old new) p true n

-- "a part of whichever of the two texts it came from"
abbrev pub text_of_mark : (mark : Bool) → (first second : List ℕ) → List ℕ
text_of_mark false first second = first
text_of_mark true first second = second

-- ---- What the reader gives

-- of a production of a table: as many calls as its line has, and of call c and its parameter k what that line has there, or 16
pub record ReadsLine (table first second : List ℕ) (p : ℕ) (mark : Bool) (line : Derived) : Type 0 where
  pub calls : calls_answer table p ≡ Counted.Accepted (length line.calls)
  pub name : (c : ℕ) → name_answer table first second p c ≡ name_asked (at (calls_of_line mark line) c)
  pub parameters : (c : ℕ) → parameters_answer table p c ≡ parameters_asked (at (calls_of_line mark line) c)
  pub parameter : (c k : ℕ) → parameter_answer table first second p c k ≡ parameter_of (at (calls_of_line mark line) c) k

-- "An accepted one gives the name's bytes, or the parameter's without quotes, as a part of the text."
pub record ReadsBytes (table first second : List ℕ) (p : ℕ) (line : Derived) (bytes : List ℕ) : Type 0 where
  pub name : (c : ℕ) (call : WrittenCall) → at line.calls c ≡ Some call
      → name_part table first second p c ≡ part_of_line bytes call.name
  pub parameter : (c k : ℕ) (call : WrittenCall) (s : Span) → at line.calls c ≡ Some call → at call.parameters k ≡ Some s
      → parameter_part table first second p c k ≡ part_of_line bytes s

-- of production p of a table that came from texts: it came from a line of one of them, and the reader gives that line's calls
pub record ReadsProduction (t : Table) (first second table lent_first lent_second : List ℕ) (p : ℕ) : Type 0 where
  pub mark : Bool
  pub number : ℕ
  pub source : Source first second t p mark number
  pub line : Derived
  pub has : TextHas (text_of_mark mark first second) number line
  pub reads : ReadsLine table lent_first lent_second p mark line
  pub bytes : ReadsBytes table lent_first lent_second p line has.bytes

-- "16: production, call or parameter asked for isn't there"
pub record ReadsNone (table first second : List ℕ) (p : ℕ) : Type 0 where
  pub calls : calls_answer table p ≡ Counted.Refused not_there
  pub name : (c : ℕ) → name_answer table first second p c ≡ Located.Refused not_there
  pub parameters : (c : ℕ) → parameters_answer table p c ≡ Counted.Refused not_there
  pub parameter : (c k : ℕ) → parameter_answer table first second p c k ≡ Located.Refused not_there

pub record ReadsAll (t : Table) (first second table lent_first lent_second : List ℕ) : Type 0 where
  pub count : productions_answer table ≡ Counted.Accepted (length t.productions)
  pub production : (p : ℕ) → p < length t.productions → ReadsProduction t first second table lent_first lent_second p
  pub absent : (p : ℕ) → length t.productions ≤ p → ReadsNone table lent_first lent_second p

-- for every accepted table, merged or not, lent as its bytes with the texts that it came from, whatever stands after each of the
-- three; that every accepted table came from texts is `texts` of roundtrip's RoundTrip
abbrev pub ReadOut : Type 0
ReadOut =
    (t : Table) (first second : List ℕ) → CameFrom t first second → (rest more_first more_second : List ℕ)
    → ReadsAll t first second (encode t ++ rest) (first ++ more_first) (second ++ more_second)
