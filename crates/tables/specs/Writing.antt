-- Bytes with one entry written, and entries with one more.
use Rattle.std.specs.Prelude.{ℕ, ◌+◌, ◌/◌, ◌%◌, Bool, List, [], ◌∷◌, ◌++◌}
use Rattle.words.specs.Words.{put_word}
use Rattle.model.specs.Tables.{Call}
use Rattle.model.specs.declared.scan.Span.{Span}
use Rattle.model.specs.declared.events.Keysyms.{Keysyms}
use Rattle.model.specs.declared.events.KeptEvent.{KeptEvent}
use Rattle.model.specs.declared.events.Directive.{Directive}
use Rattle.tables.specs.Layout.{flag, directive_word, value_of, flags_word, Entries}
use Rattle.tables.specs.Layout.{production_events_at, production_calls_at, codes_at, counts_at, sets_at, clears_at, flags_at, lows_at, highs_at, first_lows_at, first_highs_at, second_lows_at, second_highs_at, third_lows_at, third_highs_at, fourth_lows_at, fourth_highs_at, marks_at, name_starts_at, name_lengths_at, call_parameters_at, parameter_starts_at, parameter_lengths_at}

-- ---- In bytes

unfoldable pub put_test : List ℕ → ℕ → (code count set clear : ℕ) → List ℕ
put_test l i code count set clear =
    put_word (put_word (put_word (put_word l (codes_at + i) code) (counts_at + i) count) (sets_at + i) set) (clears_at + i) clear

-- a number of 32 bits as two words
unfoldable pub put_joined : List ℕ → (low high n : ℕ) → List ℕ
put_joined l low high n = put_word (put_word l low (n % 65536)) high (n / 65536)

unfoldable pub put_detail : List ℕ → ℕ → (flags value : ℕ) → List ℕ
put_detail l i flags value = put_joined (put_word l (flags_at + i) flags) (lows_at + i) (highs_at + i) value

unfoldable pub put_keysyms : List ℕ → ℕ → Keysyms → List ℕ
put_keysyms l i k =
    put_joined
    (put_joined
    (put_joined
    (put_joined l (first_lows_at + i) (first_highs_at + i) k.first)
    (second_lows_at + i) (second_highs_at + i) k.second)
    (third_lows_at + i) (third_highs_at + i) k.third)
    (fourth_lows_at + i) (fourth_highs_at + i) k.fourth

-- event i
unfoldable pub put_event : List ℕ → ℕ → KeptEvent → List ℕ
put_event l i e =
    put_keysyms
    (put_detail (put_test l i e.code e.count e.set e.clear) i (flags_word e) (value_of e.detail))
    i
    e.keysyms

-- call i: its text, its name and how many parameters it has
unfoldable pub put_call : List ℕ → ℕ → (second : Bool) (name : Span) (parameters : ℕ) → List ℕ
put_call l i second name parameters =
    put_word
    (put_word (put_word (put_word l (marks_at + i) (flag 1 second)) (name_starts_at + i) name.start) (name_lengths_at + i) name.len)
    (call_parameters_at + i)
    parameters

-- parameter i
unfoldable pub put_parameter : List ℕ → ℕ → Span → List ℕ
put_parameter l i s = put_word (put_word l (parameter_starts_at + i) s.start) (parameter_lengths_at + i) s.len

-- production p: how many events and calls it has
unfoldable pub put_production : List ℕ → ℕ → (events calls : ℕ) → List ℕ
put_production l p events calls = put_word (put_word l (production_events_at + p) events) (production_calls_at + p) calls

unfoldable pub put_texts : List ℕ → Directive → (merged : Bool) (first second : ℕ) → List ℕ
put_texts l directive merged first second =
    put_word (put_word (put_word (put_word l 0 (directive_word directive)) 1 (flag 1 merged)) 2 first) 3 second

unfoldable pub put_counts : List ℕ → (productions events calls parameters : ℕ) → List ℕ
put_counts l productions events calls parameters =
    put_word (put_word (put_word (put_word l 4 productions) 5 events) 6 calls) 7 parameters

-- ---- In entries

abbrev pub no_entries : Entries
no_entries = record { header = []; production_events = []; production_calls = []; events = []; calls = []; parameters = [] }

abbrev pub with_event : Entries → KeptEvent → Entries
with_event x e =
    record {
      header = x.header;
      production_events = x.production_events;
      production_calls = x.production_calls;
      events = x.events ++ (e ∷ []);
      calls = x.calls;
      parameters = x.parameters;
    }

abbrev pub with_call : Entries → Call → Entries
with_call x c =
    record {
      header = x.header;
      production_events = x.production_events;
      production_calls = x.production_calls;
      events = x.events;
      calls = x.calls ++ (c ∷ []);
      parameters = x.parameters;
    }

abbrev pub with_parameter : Entries → Span → Entries
with_parameter x s =
    record {
      header = x.header;
      production_events = x.production_events;
      production_calls = x.production_calls;
      events = x.events;
      calls = x.calls;
      parameters = x.parameters ++ (s ∷ []);
    }

abbrev pub with_production : Entries → (events calls : ℕ) → Entries
with_production x events calls =
    record {
      header = x.header;
      production_events = x.production_events ++ (events ∷ []);
      production_calls = x.production_calls ++ (calls ∷ []);
      events = x.events;
      calls = x.calls;
      parameters = x.parameters;
    }

abbrev pub with_header : Entries → List ℕ → Entries
with_header x header =
    record {
      header = header;
      production_events = x.production_events;
      production_calls = x.production_calls;
      events = x.events;
      calls = x.calls;
      parameters = x.parameters;
    }
