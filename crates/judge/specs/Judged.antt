-- An event judged by the values of its modifier list, count and detail, the same as model's `judged_as` (proofs/Same).
use Rattle.std.specs.Prelude.{ℕ, Bool, cond, not, ◌&&◌, ◌||◌, List, eqb, Option, None, Some}
use Rattle.model.specs.Numbers.{event_order}
use Rattle.model.specs.Names.{shift_bit, lock_bit}
use Rattle.model.specs.Codes.{is_key, takes_modifiers}
use Rattle.model.specs.Events.{Count}
use Rattle.model.specs.Modifiers.{bit, adds_bit, no_state_meets}
use Rattle.model.specs.Judging.{read_unknown, read_too_large, read_unbuilt, read_value, detail_unknown, detail_too_large, detail_unbuilt, kept_detail, count_bad, count_unbuilt, count_value, keep_unless}
use Rattle.model.specs.declared.events.KeptEvent.{KeptEvent}
use Rattle.model.specs.declared.names.EventType.{EventType}
use Rattle.model.specs.declared.names.DetailRead.{DetailRead}
use Rattle.model.specs.declared.answers.Judged.{Judged}
use Rattle.list_masks.specs.declared.lists.ListSummary.{ListSummary}
use Rattle.judge.specs.declared.events.CountSummary.{CountSummary}
use Rattle.judge.specs.declared.events.DetailSummary.{DetailSummary}
use Rattle.list_masks.specs.Summary.{set_of, clear_of, clause_of, forms_of}

-- ---- Counts

-- a count as the scanner hands it over
unfoldable pub count_of : Bool → Bool → List ℕ → Option Count
count_of counted plus digits = cond counted (Some (record { digits = digits; plus = plus })) None

unfoldable pub count_summary : ℕ → Option Count → CountSummary
count_summary code count =
    record { bad = count_bad code count; unbuilt = count_unbuilt count; value = count_value count }

-- ---- Details

-- of a detail of at least one byte
unfoldable pub read_summary : DetailRead → DetailSummary
read_summary read =
    record {
      unknown = read_unknown read;
      too_large = read_too_large read;
      unbuilt = read_unbuilt read;
      kept = read_value read;
    }

unfoldable pub detail_summary : EventType → List ℕ → DetailSummary
detail_summary ty word =
    record {
      unknown = detail_unknown ty word;
      too_large = detail_too_large ty word;
      unbuilt = detail_unbuilt ty word;
      kept = kept_detail ty word;
    }

-- ---- The checks

-- Shift or Lock is listed, with `~` or without
unfoldable pub has_standard_bits : ℕ → ℕ → Bool
has_standard_bits set clear =
    (bit shift_bit set || bit shift_bit clear) || (bit lock_bit set || bit lock_bit clear)

-- number 9
unfoldable pub colon_misplaced : ListSummary → EventType → Bool
colon_misplaced s ty =
    s.colon && (not (is_key ty.code) || (has_standard_bits s.set s.clear || adds_bit ty.added shift_bit))

-- it has a name whose bits the modifier map gives
abbrev pub parts_named : ListSummary → EventType → Bool
parts_named s ty = not (eqb (forms_of s.names ty.added) 0) || not (eqb s.keysyms.first 0)

-- the event that is kept, with the bits that are asked set and clear as if there were no such name
unfoldable pub event_of_parts : ListSummary → EventType → CountSummary → DetailSummary → (set clear : ℕ) → (clause : Bool) → KeptEvent
event_of_parts s ty c d set clear clause =
    record {
      code = ty.code;
      set = set;
      clear = cond (parts_named s ty) s.clear clear;
      colon = s.colon;
      clause = clause;
      detail = d.kept;
      count = c.value;
      bang = parts_named s ty && s.others_clear;
      names = forms_of s.names ty.added;
      keysyms = s.keysyms;
    }

unfoldable pub kept_parts : ListSummary → EventType → CountSummary → DetailSummary → KeptEvent
kept_parts s ty c d =
    event_of_parts s ty c d (set_of s.set ty.added) (clear_of s) (clause_of ty.added (set_of s.set ty.added))

unfoldable pub parts_number : ListSummary → EventType → CountSummary → DetailSummary → ℕ
parts_number s ty c d =
    event_order
    (s.unknown || d.unknown)
    (s.too_large || c.bad || d.too_large)
    (c.unbuilt || d.unbuilt)
    (s.written && not (takes_modifiers ty.code))
    (colon_misplaced s ty)
    (no_state_meets (set_of s.set ty.added) (clear_of s) (clause_of ty.added (set_of s.set ty.added)))

unfoldable pub judged_parts : ListSummary → EventType → CountSummary → DetailSummary → Judged
judged_parts s ty c d = keep_unless (parts_number s ty c d) s.over (kept_parts s ty c d)
