-- Which tables can be kept: document 01's limits, and each field's range.
use Rattle.std.specs.Prelude.{ℕ, ◌+◌, Bool, cond, not, ◌&&◌, ◌||◌, eqb, leb, ltb, length}
use Rattle.model.specs.Lists.{all}
use Rattle.model.specs.Bytes.{in_range}
use Rattle.model.specs.Limits.{text_limit, keysym_limit}
use Rattle.model.specs.Codes.{is_event_code, takes_count}
use Rattle.model.specs.Named.{marked_keysym}
use Rattle.model.specs.Compiling.{passes_limit}
use Rattle.model.specs.Tables.{Call, Production, Table}
use Rattle.model.specs.declared.scan.Span.{Span}
use Rattle.model.specs.declared.events.Keysyms.{Keysyms}
use Rattle.model.specs.declared.events.KeptEvent.{KeptEvent}
use Rattle.tables.specs.Layout.{value_of, all_events, all_calls}

-- a keysym after `@`: none, or one with a mark
abbrev pub keysym_in_range : ℕ → Bool
keysym_in_range s = eqb s 0 || (leb 0x20000000 s && ltb s 0x80000000)

-- those there are come first, "rising"
abbrev pub comes_after : ℕ → ℕ → Bool
comes_after s next = eqb next 0 || (not (eqb s 0) && ltb (marked_keysym s) (marked_keysym next))

unfoldable pub keysyms_in_range : Keysyms → Bool
keysyms_in_range k =
    keysym_in_range k.first
    && keysym_in_range k.second
    && keysym_in_range k.third
    && keysym_in_range k.fourth
    && comes_after k.first k.second
    && comes_after k.second k.third
    && comes_after k.third k.fourth

-- an event: code 2..34; count 1..9, above 1 on codes 2..5 only; bits 0..12 asked set, asked clear; detail up to 0x1FFFFFFF; eight
-- bits of names, and keysyms in their order
unfoldable pub event_in_range : KeptEvent → Bool
event_in_range e =
    is_event_code e.code
    && in_range 1 e.count 9
    && (leb e.count 1 || takes_count e.code)
    && ltb e.set 8192
    && ltb e.clear 8192
    && leb (value_of e.detail) keysym_limit
    && ltb e.names 256
    && keysyms_in_range e.keysyms

-- a part of a text of this length
unfoldable pub span_in_text : ℕ → Span → Bool
span_in_text len s = leb (s.start + s.len) len

-- the length of the text that a call came from
abbrev pub text_length : Table → Bool → ℕ
text_length t second = cond second t.second_length t.first_length

-- a call: marked as the second text's only in a merged table; its name and parameters are parts of its text
unfoldable pub call_in_range : Table → Call → Bool
call_in_range t c =
    (t.merged || not c.second)
    && span_in_text (text_length t c.second) c.name
    && all (span_in_text (text_length t c.second)) c.parameters

-- "at most 8,192 bytes"; a second text only of a merged table
unfoldable pub texts_in_range : Table → Bool
texts_in_range t = leb t.first_length text_limit && leb t.second_length text_limit && (t.merged || leb t.second_length 0)

-- a production has at least one event
abbrev pub has_event : Production → Bool
has_event p = leb 1 (length p.events)

unfoldable pub fitting : Table → Bool
fitting t =
    texts_in_range t
    && all has_event t.productions
    && all event_in_range (all_events t.productions)
    && all (call_in_range t) (all_calls t.productions)
    && not (passes_limit t.productions)
