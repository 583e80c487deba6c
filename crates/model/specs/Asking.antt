-- Document 01, "Numbers handed back", 16, and "What is built", "a reader of calls": what a request for a name or a parameter finds.
use Rattle.std.specs.Prelude.{ℕ, zero, suc, Bool, true, false, List, [], ◌∷◌, length, take, drop, Option, None, Some}
use Rattle.model.specs.Numbers.{not_there}
use Rattle.model.specs.Tables.{Call, Production, Table}
use Rattle.model.specs.declared.scan.Span.{Span}
use Rattle.model.specs.declared.answers.Counted.{Counted}
use Rattle.model.specs.declared.answers.Located.{Located}

module _ {A : Type 0} where
  -- the element at a place, none past the end
  abbrev pub at : List A → ℕ → Option A
  at [] i = None
  at (x ∷ xs) zero = Some x
  at (x ∷ xs) (suc i) = at xs i

unfoldable pub asked_production : Table → ℕ → Option Production
asked_production t p = at t.productions p

abbrev pub call_in : Option Production → ℕ → Option Call
call_in None c = None
call_in (Some p) c = at p.calls c

unfoldable pub asked_call : Table → ℕ → ℕ → Option Call
asked_call t p c = call_in (asked_production t p) c

-- ---- How many

unfoldable pub production_count : Table → Counted
production_count t = Counted.Accepted (length t.productions)

abbrev pub calls_asked : Option Production → Counted
calls_asked None = Counted.Refused not_there
calls_asked (Some p) = Counted.Accepted (length p.calls)

unfoldable pub call_count : Table → ℕ → Counted
call_count t p = calls_asked (asked_production t p)

abbrev pub parameters_asked : Option Call → Counted
parameters_asked None = Counted.Refused not_there
parameters_asked (Some c) = Counted.Accepted (length c.parameters)

unfoldable pub parameter_count : Table → ℕ → ℕ → Counted
parameter_count t p c = parameters_asked (asked_call t p c)

-- ---- Where

-- "a part of whichever of the two texts it came from"
abbrev pub located : Bool → Span → Located
located true s = Located.Second s.start s.len
located false s = Located.First s.start s.len

abbrev pub name_asked : Option Call → Located
name_asked None = Located.Refused not_there
name_asked (Some c) = located c.second c.name

-- where the name of call c of production p stands
unfoldable pub located_name : Table → ℕ → ℕ → Located
located_name t p c = name_asked (asked_call t p c)

abbrev pub span_of : Bool → Option Span → Located
span_of second None = Located.Refused not_there
span_of second (Some s) = located second s

abbrev pub parameter_of : Option Call → ℕ → Located
parameter_of None k = Located.Refused not_there
parameter_of (Some c) k = span_of c.second (at c.parameters k)

-- where parameter k of call c of production p stands
unfoldable pub located_parameter : Table → ℕ → ℕ → ℕ → Located
located_parameter t p c k = parameter_of (asked_call t p c) k

-- the bytes that a span has in its text
abbrev pub part_bytes : List ℕ → List ℕ → Bool → Span → List ℕ
part_bytes first second true s = take s.len (drop s.start second)
part_bytes first second false s = take s.len (drop s.start first)
