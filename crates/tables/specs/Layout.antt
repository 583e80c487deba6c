-- The layout of a table in lent bytes: 5,000 words of 16 bits, the lower byte first, in sections by field. Only this crate and
-- those of the check know a place as a number. A table of two lines (proofs/Example computes its sections):
--
--     Ctrl<Key>a: f(x)
--     <Btn1Down>: g()
--
--     words       section                        entries
--        0 ..     header                         0 0 32 0 2 2 2 1: the directive, whether it is merged, the lengths of the
--                                                texts, how many productions, events, calls and parameters
--        8 ..     events of each production      1 1
--       72 ..     calls of each production       1 1
--      136 ..     codes                          2 4      a key press, a button press
--      392 ..     counts                         1 1
--      648 ..     bits asked set                 4 0      Control
--      904 ..     bits asked clear               0 0
--     1160 ..     flags                          4 4      a detail is given
--     1416 ..     details, lower words           97 1     the keysym a, button 1
--     1672 ..     details, upper words           0 0
--     1928 ..     four keysyms after `@`,        0 0      eight sections: of each the lower words, then the upper ones
--     3976 ..     marks                          0 0      of the first text
--     4104 ..     names: where they start        12 29    f, g
--     4232 ..     names: their lengths           1 1
--     4360 ..     parameters of each call        1 0
--     4488 ..     parameters: where they start   14       x
--     4744 ..     parameters: their lengths      1
--
-- A section has room for the most entries that a table may have, and its unused words are 0. Entry i of a field stands at the
-- section's first word plus i. Which parameters are a call's, and which calls and events are a production's, follows from how
-- many those before it have: the second call's parameters begin past the first one's.
use Rattle.std.specs.Prelude.{ℕ, zero, suc, ◌+◌, ◌-◌, ◌*◌, ◌/◌, ◌%◌, Bool, cond, List, [], ◌∷◌, ◌++◌, map, length}
use Rattle.words.specs.Words.{word_bytes, zeros}
use Rattle.model.specs.Tables.{Call, Production, Table}
use Rattle.model.specs.declared.scan.Span.{Span}
use Rattle.model.specs.declared.events.Detail.{Detail}
use Rattle.model.specs.declared.events.KeptEvent.{KeptEvent}
use Rattle.model.specs.declared.events.Directive.{Directive}

-- ---- Sections in general: each has a capacity, and its unused words are 0

-- a section's words, and zeros up to its capacity
unfoldable pub padded : ℕ → List ℕ → List ℕ
padded capacity ws = ws ++ zeros (capacity - length ws)

-- padded sections, one after the other
unfoldable pub joined_sections : List ℕ → List (List ℕ) → List ℕ
joined_sections [] sections = []
joined_sections (c ∷ cs) [] = padded c [] ++ joined_sections cs []
joined_sections (c ∷ cs) (s ∷ ss) = padded c s ++ joined_sections cs ss

-- where section j begins
abbrev pub offset : List ℕ → ℕ → ℕ
offset [] j = 0
offset (c ∷ cs) zero = 0
offset (c ∷ cs) (suc j) = c + offset cs j

-- ---- The sections of a table

-- the first word of each section: `offset capacities` 0 to 23

abbrev pub production_events_at : ℕ
production_events_at = 8

abbrev pub production_calls_at : ℕ
production_calls_at = 72

abbrev pub codes_at : ℕ
codes_at = 136

abbrev pub counts_at : ℕ
counts_at = 392

abbrev pub sets_at : ℕ
sets_at = 648

abbrev pub clears_at : ℕ
clears_at = 904

abbrev pub flags_at : ℕ
flags_at = 1160

abbrev pub lows_at : ℕ
lows_at = 1416

abbrev pub highs_at : ℕ
highs_at = 1672

abbrev pub first_lows_at : ℕ
first_lows_at = 1928

abbrev pub first_highs_at : ℕ
first_highs_at = 2184

abbrev pub second_lows_at : ℕ
second_lows_at = 2440

abbrev pub second_highs_at : ℕ
second_highs_at = 2696

abbrev pub third_lows_at : ℕ
third_lows_at = 2952

abbrev pub third_highs_at : ℕ
third_highs_at = 3208

abbrev pub fourth_lows_at : ℕ
fourth_lows_at = 3464

abbrev pub fourth_highs_at : ℕ
fourth_highs_at = 3720

abbrev pub marks_at : ℕ
marks_at = 3976

abbrev pub name_starts_at : ℕ
name_starts_at = 4104

abbrev pub name_lengths_at : ℕ
name_lengths_at = 4232

abbrev pub call_parameters_at : ℕ
call_parameters_at = 4360

abbrev pub parameter_starts_at : ℕ
parameter_starts_at = 4488

abbrev pub parameter_lengths_at : ℕ
parameter_lengths_at = 4744

-- the length of a table in bytes, the same for all content
abbrev pub table_length : ℕ
table_length = 10000

-- ---- Fields as words

abbrev pub directive_word : Directive → ℕ
directive_word Directive.Replace = 0
directive_word Directive.Override = 1
directive_word Directive.Augment = 2

abbrev pub flag : ℕ → Bool → ℕ
flag value is = cond is value 0

abbrev pub is_given : Detail → Bool
is_given Detail.Unspecified = Bool.false
is_given (Detail.Value v) = Bool.true

abbrev pub value_of : Detail → ℕ
value_of Detail.Unspecified = 0
value_of (Detail.Value v) = v

-- 1 colon, 2 clause, 4 a detail is given, 8 `!` beside names; the upper byte has the names Meta, Alt, Hyper and Super
abbrev pub flags_word : KeptEvent → ℕ
flags_word e = flag 1 e.colon + flag 2 e.clause + flag 4 (is_given e.detail) + flag 8 e.bang + 256 * e.names

abbrev pub low_word : KeptEvent → ℕ
low_word e = value_of e.detail % 65536

abbrev pub high_word : KeptEvent → ℕ
high_word e = value_of e.detail / 65536

-- 0 the first text, 1 the second
abbrev pub mark_word : Call → ℕ
mark_word c = flag 1 c.second

-- ---- Fields: each has a section of its own

-- an event's
abbrev pub event_fields : List (KeptEvent → ℕ)
event_fields =
    (λ (e : KeptEvent). e.code)
    ∷ (λ (e : KeptEvent). e.count)
    ∷ (λ (e : KeptEvent). e.set)
    ∷ (λ (e : KeptEvent). e.clear)
    ∷ flags_word
    ∷ low_word
    ∷ high_word
    ∷ (λ (e : KeptEvent). e.keysyms.first % 65536)
    ∷ (λ (e : KeptEvent). e.keysyms.first / 65536)
    ∷ (λ (e : KeptEvent). e.keysyms.second % 65536)
    ∷ (λ (e : KeptEvent). e.keysyms.second / 65536)
    ∷ (λ (e : KeptEvent). e.keysyms.third % 65536)
    ∷ (λ (e : KeptEvent). e.keysyms.third / 65536)
    ∷ (λ (e : KeptEvent). e.keysyms.fourth % 65536)
    ∷ (λ (e : KeptEvent). e.keysyms.fourth / 65536)
    ∷ []

-- a call's
abbrev pub call_fields : List (Call → ℕ)
call_fields =
    mark_word
    ∷ (λ (c : Call). c.name.start)
    ∷ (λ (c : Call). c.name.len)
    ∷ (λ (c : Call). length c.parameters)
    ∷ []

-- a parameter's
abbrev pub parameter_fields : List (Span → ℕ)
parameter_fields = (λ (s : Span). s.start) ∷ (λ (s : Span). s.len) ∷ []

module _ {A : Type 0} where
  -- the sections of some fields of entries
  unfoldable pub columns : List (A → ℕ) → List A → List (List ℕ)
  columns [] xs = []
  columns (f ∷ fs) xs = map f xs ∷ columns fs xs

  -- a capacity for each field
  abbrev pub for_each : List (A → ℕ) → ℕ → List ℕ
  for_each fs c = map (λ (f : A → ℕ). c) fs

-- the header; two fields of productions; those of events, of calls and of parameters
abbrev pub capacities : List ℕ
capacities = 8 ∷ 64 ∷ 64 ∷ (for_each event_fields 256 ++ (for_each call_fields 128 ++ for_each parameter_fields 256))

-- ---- A table's entries in production order, with no nesting

module _ {A B : Type 0} where
  -- the lists of all elements, joined in order
  unfoldable pub flat : (A → List B) → List A → List B
  flat f [] = []
  flat f (x ∷ xs) = f x ++ flat f xs

abbrev pub all_events : List Production → List KeptEvent
all_events ps = flat (λ (p : Production). p.events) ps

abbrev pub all_calls : List Production → List Call
all_calls ps = flat (λ (p : Production). p.calls) ps

abbrev pub all_parameters : List Call → List Span
all_parameters cs = flat (λ (c : Call). c.parameters) cs

pub record Entries : Type 0 where
  pub header : List ℕ
  -- how many events and calls each production has
  pub production_events : List ℕ
  pub production_calls : List ℕ
  pub events : List KeptEvent
  pub calls : List Call
  pub parameters : List Span

-- directive, merged, length of the first text and of the second; how many productions, events, calls and parameters
unfoldable pub header_of : Table → List ℕ
header_of t =
    directive_word t.directive
    ∷ flag 1 t.merged
    ∷ t.first_length
    ∷ t.second_length
    ∷ length t.productions
    ∷ length (all_events t.productions)
    ∷ length (all_calls t.productions)
    ∷ length (all_parameters (all_calls t.productions))
    ∷ []

unfoldable pub entries_of : Table → Entries
entries_of t =
    record {
      header = header_of t;
      production_events = map (λ (p : Production). length p.events) t.productions;
      production_calls = map (λ (p : Production). length p.calls) t.productions;
      events = all_events t.productions;
      calls = all_calls t.productions;
      parameters = all_parameters (all_calls t.productions);
    }

-- the words of each section that are used
unfoldable pub sections_of : Entries → List (List ℕ)
sections_of x =
    x.header
    ∷ x.production_events
    ∷ x.production_calls
    ∷ (columns event_fields x.events ++ (columns call_fields x.calls ++ columns parameter_fields x.parameters))

-- entries as bytes
unfoldable pub image : Entries → List ℕ
image x = word_bytes (joined_sections capacities (sections_of x))

-- a table as bytes
unfoldable pub encode : Table → List ℕ
encode t = image (entries_of t)
