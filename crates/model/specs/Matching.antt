-- Document 01, "Modifier tests" and "Selection", rule 2: when events match the elements of a production; which bits a table tests.
use Rattle.std.specs.Prelude.{ℕ, Bool, true, false, cond, not, ◌&&◌, ◌||◌, List, [], ◌∷◌, eqb, length, Option, None, Some}
use Rattle.model.specs.Lists.{any, earliest}
use Rattle.model.specs.Codes.{is_key, is_motion}
use Rattle.model.specs.Names.{first_button_bit, last_button_bit}
use Rattle.model.specs.Bytes.{in_range}
use Rattle.model.specs.Modifiers.{is_shift_or_lock}
use Rattle.model.specs.Setting.{Setting}
use Rattle.model.specs.Resolving.{resolves}
use Rattle.model.specs.Asked.{Test, asked, test_met, cares_for}
use Rattle.model.specs.Keyboard.{key_matches}
use Rattle.model.specs.Tables.{Production, Table}
use Rattle.model.specs.Counts.{Element, sequence, quick}
use Rattle.model.specs.Selection.{Reading}
use Rattle.model.specs.declared.events.Event.{Event}
use Rattle.model.specs.declared.events.Detail.{Detail}
use Rattle.model.specs.declared.events.KeptEvent.{KeptEvent}

-- ---- One event

-- a key's keysym is asked for; any other detail is the event's own
abbrev pub detail_met : Setting → KeptEvent → Detail → Event → Bool
detail_met setting e Detail.Unspecified x = true
detail_met setting e (Detail.Value d) x =
    cond (is_key x.code) (key_matches setting e x.detail x.state d) (eqb x.detail d)

-- type, modifiers and detail
unfoldable pub meets : Setting → Element → Event → Bool
meets setting el x =
    eqb el.code x.code
    && test_met (asked setting el.event) x.state
    && detail_met setting el.event el.event.detail x

-- ---- A stretch of events

-- the event comes quickly enough after the one two before it in the stretch
abbrev pub in_time : Setting → Option Event → Event → Bool
in_time setting None x = true
in_time setting (Some before) x = quick setting.time before.time x.time

abbrev pub fits : Setting → Option Event → Element → Event → Bool
fits setting twoBefore el x = meets setting el x && (not el.timed || in_time setting twoBefore x)

-- "its events match the first elements one for one, times included"; the events two and one before the stretch are given
unfoldable pub follows : Setting → Option Event → Option Event → List Element → List Event → Bool
follows setting twoBefore oneBefore els [] = true
follows setting twoBefore oneBefore [] (x ∷ xs) = false
follows setting twoBefore oneBefore (el ∷ els) (x ∷ xs) =
    fits setting twoBefore el x && follows setting oneBefore (Some x) els xs

-- "A stretch reads as a prefix of a production"
unfoldable pub reads_as_prefix : Setting → List Event → Production → Bool
reads_as_prefix setting xs p = follows setting None None (sequence p) xs

-- "whose whole sequence the stretch is"
unfoldable pub is_whole_sequence : Setting → List Event → Production → Bool
is_whole_sequence setting xs p = eqb (length xs) (length (sequence p)) && reads_as_prefix setting xs p

-- "whose type no production has, expansion included"
unfoldable pub has_type : ℕ → Production → Bool
has_type code p = any (λ el. eqb el.code code) (sequence p)

-- what the rules of selection ask of a table under a setting
abbrev pub reading_of : Table → Setting → Reading Event
reading_of t setting =
    record {
      known = λ x. any (has_type x.code) t.productions;
      prefix = λ xs. any (reads_as_prefix setting xs) t.productions;
      chosen = λ xs. earliest (is_whole_sequence setting xs) 0 t.productions;
      motion = λ x. is_motion x.code;
    }

-- ---- "A bit is tested by a table" (TestedExamples has some lines and the bits that they test)

abbrev pub asks_detail : Detail → Bool
asks_detail Detail.Unspecified = false
asks_detail (Detail.Value v) = true

-- "a kept button clause tests all buttons"
abbrev pub tests_by_clause : Test → ℕ → Bool
tests_by_clause t k = t.clause && in_range first_button_bit k last_button_bit

-- "a colon with a key detail tests Shift and Lock"
abbrev pub tests_by_colon : KeptEvent → ℕ → Bool
tests_by_colon e k = e.colon && asks_detail e.detail && is_shift_or_lock k

-- "if some event asks for it set or clear"; R-1: "a bit that a name resolves to counts as tested", beside a colon too
unfoldable pub event_tests : Setting → KeptEvent → ℕ → Bool
event_tests setting e k =
    cares_for (asked setting e) k || tests_by_clause (asked setting e) k || tests_by_colon e k || resolves setting e k

unfoldable pub tests : Setting → Table → ℕ → Bool
tests setting t k = any (λ p. any (λ e. event_tests setting e k) p.events) t.productions
