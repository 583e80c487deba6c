-- Document 01, "Numbers handed back", 5..10, and request R-1: an event of a line, refused or kept.
use Rattle.std.specs.Prelude.{ℕ, ◌-◌, ◌^◌, Bool, true, false, cond, not, ◌&&◌, ◌||◌, List, eqb, length, Option, None, Some}
use Rattle.model.specs.Lists.{any, is_empty}
use Rattle.model.specs.Numbers.{no_refusal, unknown_name, bad_number, not_built, past_limit, event_order}
use Rattle.model.specs.Bytes.{in_range, byte_at}
use Rattle.model.specs.Names.{shift_bit, lock_bit, ctrl_bit, meta_name, modifier_number, modifier_named, type_named}
use Rattle.model.specs.Codes.{key_press, is_key, takes_count, takes_modifiers}
use Rattle.model.specs.Details.{detail_number, key_detail, detail_named}
use Rattle.model.specs.Events.{Modifier, name, keysym, ModifierList, Count, Written, WrittenEvent, event, key}
use Rattle.model.specs.Modifiers.{mask, modifiers_of, lists_clear, has, asks_others_clear, has_colon, is_written, adds_bit, set_mask, clear_mask, keeps_clause, no_state_meets}
use Rattle.model.specs.Named.{form_bit, names_mask, keysyms_of, is_crowded, keysyms_in, no_keysyms, has_names}
use Rattle.model.specs.declared.scan.KeyMark.{KeyMark}
use Rattle.model.specs.declared.events.Detail.{Detail}
use Rattle.model.specs.declared.events.KeptEvent.{KeptEvent}
use Rattle.model.specs.declared.names.Added.{Added}
use Rattle.model.specs.declared.names.EventType.{EventType}
use Rattle.model.specs.declared.names.TypeName.{TypeName}
use Rattle.model.specs.declared.names.ModifierName.{ModifierName}
use Rattle.model.specs.declared.names.DetailRead.{DetailRead}
use Rattle.model.specs.declared.answers.Judged.{Judged}

-- ---- Modifiers

abbrev pub name_unknown : ModifierName → Bool
name_unknown n = eqb (modifier_number n) unknown_name

abbrev pub read_unknown : DetailRead → Bool
read_unknown r = eqb (detail_number r) unknown_name

abbrev pub read_too_large : DetailRead → Bool
read_too_large r = eqb (detail_number r) bad_number

abbrev pub read_unbuilt : DetailRead → Bool
read_unbuilt r = eqb (detail_number r) not_built

-- "unknown modifier"; R-1: "After `@` the run in 01 is read as a key detail is"
abbrev pub modifier_unknown : Modifier → Bool
modifier_unknown (name tilde word) = name_unknown (modifier_named word)
modifier_unknown (keysym tilde word) = read_unknown (key_detail word)

-- "a number out of range"
abbrev pub modifier_too_large : Modifier → Bool
modifier_too_large (name tilde word) = false
modifier_too_large (keysym tilde word) = read_too_large (key_detail word)

abbrev pub any_unknown : ModifierList → Bool
any_unknown list = any modifier_unknown (modifiers_of list)

abbrev pub any_too_large : ModifierList → Bool
any_too_large list = any modifier_too_large (modifiers_of list)

-- ---- Details

abbrev pub fixes : Detail → Bool
fixes Detail.Unspecified = false
fixes (Detail.Value v) = true

-- a detail that is written: "`<Btn1Down>` fixes the detail, so a written one is refused"
unfoldable pub detail_of : EventType → List ℕ → DetailRead
detail_of ty word = cond (fixes ty.detail) DetailRead.Unknown (detail_named ty.code word)

abbrev pub read_value : DetailRead → Detail
read_value (DetailRead.Value v) = Detail.Value v
read_value DetailRead.Unknown = Detail.Unspecified
read_value DetailRead.TooLarge = Detail.Unspecified
read_value DetailRead.NotBuilt = Detail.Unspecified

-- "unknown .. detail name; detail where none is taken"
abbrev pub detail_unknown : EventType → List ℕ → Bool
detail_unknown ty word = not (is_empty word) && read_unknown (detail_of ty word)

-- "a number out of range"
abbrev pub detail_too_large : EventType → List ℕ → Bool
detail_too_large ty word = not (is_empty word) && read_too_large (detail_of ty word)

-- "atom details"
abbrev pub detail_unbuilt : EventType → List ℕ → Bool
detail_unbuilt ty word = not (is_empty word) && read_unbuilt (detail_of ty word)

-- the detail that is kept: the written one, or what the type's name fixes
unfoldable pub kept_detail : EventType → List ℕ → Detail
kept_detail ty word = cond (is_empty word) ty.detail (read_value (detail_of ty word))

-- ---- Counts

-- "one digit 1..9"
abbrev pub is_one_digit : List ℕ → Bool
is_one_digit digits = eqb (length digits) 1 && in_range 49 (byte_at digits 0) 57

-- "count not one digit 1..9, count on other than key or button events"
abbrev pub count_bad : ℕ → Option Count → Bool
count_bad code None = false
count_bad code (Some c) = not (takes_count code) || not (is_one_digit c.digits)

-- "counts with `+`"
abbrev pub count_unbuilt : Option Count → Bool
count_unbuilt None = false
count_unbuilt (Some c) = c.plus

-- "Count 1 reads as no count."
abbrev pub count_value : Option Count → ℕ
count_value None = 1
count_value (Some c) = byte_at c.digits 0 - 48

-- ---- The checks on one event

abbrev pub is_unknown : Written → EventType → Bool
is_unknown w ty = any_unknown w.list || detail_unknown ty w.detail

abbrev pub is_out_of_range : Written → EventType → Bool
is_out_of_range w ty = any_too_large w.list || count_bad ty.code w.count || detail_too_large ty w.detail

-- R-1: "10 no longer for these"
abbrev pub is_unbuilt : Written → EventType → Bool
is_unbuilt w ty = count_unbuilt w.count || detail_unbuilt ty w.detail

-- "a written modifier list (`!`, `:`, `None`, `Any` too) on an event type outside codes 2..8"
abbrev pub is_list_not_taken : Written → EventType → Bool
is_list_not_taken w ty = is_written w.list && not (takes_modifiers ty.code)

-- "listed Shift, listed Lock or `<Shift>` beside a colon"
abbrev pub has_standard : Written → EventType → Bool
has_standard w ty = has w.list shift_bit || has w.list lock_bit || adds_bit ty.added shift_bit

-- "colon on a non-key event, or .."
abbrev pub is_colon_misplaced : Written → EventType → Bool
is_colon_misplaced w ty = has_colon w.list && (not (is_key ty.code) || has_standard w ty)

-- "no 13-bit modifier state meets the event's test"; R-1: "8 as if these names weren't there"
unfoldable pub is_impossible : Written → EventType → Bool
is_impossible w ty = no_state_meets (set_mask w.list ty.added) (clear_mask w.list) (keeps_clause w.list ty.added)

-- R-1: "An event with such a name keeps `!` and its plain names, clear ones too, as written"; any other the bits that `!` asks clear
unfoldable pub kept_clear : ModifierList → Added → ℕ
kept_clear list added = cond (has_names list added) (mask (lists_clear list)) (clear_mask list)

abbrev pub kept_bang : ModifierList → Added → Bool
kept_bang list added = has_names list added && asks_others_clear list

-- the event that is kept
unfoldable pub kept_event : Written → EventType → KeptEvent
kept_event w ty =
    record {
      code = ty.code;
      set = set_mask w.list ty.added;
      clear = kept_clear w.list ty.added;
      colon = has_colon w.list;
      clause = keeps_clause w.list ty.added;
      detail = kept_detail ty w.detail;
      count = count_value w.count;
      bang = kept_bang w.list ty.added;
      names = names_mask w.list ty.added;
      keysyms = keysyms_in (keysyms_of w.list);
    }

-- "event by event 5, 6, 10, 7, 9, 8"
unfoldable pub event_number : Written → EventType → ℕ
event_number w ty =
    event_order
    (is_unknown w ty)
    (is_out_of_range w ty)
    (is_unbuilt w ty)
    (is_list_not_taken w ty)
    (is_colon_misplaced w ty)
    (is_impossible w ty)

-- where no number of these refuses it, "over four different keysyms in an event is 11"
abbrev pub keep_unless : ℕ → (crowded : Bool) → KeptEvent → Judged
keep_unless n crowded e = cond (eqb n no_refusal) (cond crowded Judged.Crowded (Judged.Keep e)) (Judged.Refuse n)

abbrev pub number_unless : ℕ → (crowded : Bool) → ℕ
number_unless n crowded = cond (eqb n no_refusal) (cond crowded past_limit no_refusal) n

-- an unknown type is 5 whatever else is written
abbrev pub typed_number : Written → TypeName → ℕ
typed_number w (TypeName.Known ty) = number_unless (event_number w ty) (is_crowded w.list)
typed_number w TypeName.Unknown = unknown_name

-- the event that is kept, or its number
abbrev pub judged_as : Written → TypeName → Judged
judged_as w (TypeName.Known ty) = keep_unless (event_number w ty) (is_crowded w.list) (kept_event w ty)
judged_as w TypeName.Unknown = Judged.Refuse unknown_name

unfoldable pub judged_written : Written → Judged
judged_written w = judged_as w (type_named w.type_name)

-- ---- Characters of a key sequence

-- "each a KeyPress. No other bit is tested and there is no colon."
abbrev pub key_press_of : (set names : ℕ) → ℕ → KeptEvent
key_press_of set names byte =
    record {
      code = key_press;
      set = set;
      clear = 0;
      colon = false;
      clause = false;
      detail = Detail.Value byte;
      count = 1;
      bang = false;
      names = names;
      keysyms = no_keysyms;
    }

-- "`^` adds Ctrl, and `\` quotes"; R-1: "`<Meta>` and `$` read as Meta listed"
abbrev pub judged_mark : KeyMark → ℕ → Judged
judged_mark KeyMark.Plain byte = Judged.Keep (key_press_of 0 0 byte)
judged_mark KeyMark.Control byte = Judged.Keep (key_press_of (2 ^ ctrl_bit) 0 byte)
judged_mark KeyMark.Quoted byte = Judged.Keep (key_press_of 0 0 byte)
judged_mark KeyMark.Meta byte = Judged.Keep (key_press_of 0 (2 ^ form_bit false meta_name) byte)

unfoldable pub judged : WrittenEvent → Judged
judged (event w) = judged_written w
judged (key k) = judged_mark k.mark k.byte
