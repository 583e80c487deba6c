-- The ranges of what names stand for, and of an event that judging keeps.
use Rattle.std.specs.Prelude.{ℕ, ◌≤◌, ◌<◌, ◌≡◌, true, ◌||◌, List, [], ◌∷◌, leb}
use Rattle.model.specs.Limits.{keysym_limit}
use Rattle.model.specs.Bytes.{byte_at}
use Rattle.model.specs.Codes.{takes_count}
use Rattle.model.specs.Events.{Modifier, name, keysym, WrittenEvent, event, key}
use Rattle.model.specs.Modifiers.{modifiers_of}
use Rattle.model.specs.declared.events.Detail.{Detail}
use Rattle.model.specs.declared.events.KeptEvent.{KeptEvent}
use Rattle.model.specs.declared.names.EventType.{EventType}
use Rattle.keysym_list.specs.Rising.{KeysymsIn}
use Rattle.list_masks.specs.Summary.{AddedIn}

abbrev pub DetailIn : ℕ → Detail → Type 0
DetailIn limit Detail.Unspecified = Unit
DetailIn limit (Detail.Value v) = v ≤ limit

-- what a known name of an event type stands for; a name fixes no detail but a button, 1..5
pub record TypeIn (ty : EventType) : Type 0 where
  pub code_from : 2 ≤ ty.code
  pub code_to : ty.code ≤ 34
  pub added : AddedIn ty.added
  pub detail : DetailIn 5 ty.detail

pub record EventIn (e : KeptEvent) : Type 0 where
  pub code_from : 2 ≤ e.code
  pub code_to : e.code ≤ 34
  pub count_from : 1 ≤ e.count
  pub count_to : e.count ≤ 9
  -- above 1 on codes 2..5 only
  pub count_taken : leb e.count 1 || takes_count e.code ≡ true
  pub set : e.set < 8192
  pub clear : e.clear < 8192
  pub detail : DetailIn keysym_limit e.detail
  pub names : e.names < 256
  pub keysyms : KeysymsIn e.keysyms

-- where a character stands for its code, it is a byte
abbrev pub WordIn : Modifier → Type 0
WordIn (name tilde word) = Unit
WordIn (keysym tilde word) = byte_at word 0 < 256

abbrev pub WordsIn : List Modifier → Type 0
WordsIn [] = Unit
WordsIn (m ∷ ms) = WordIn m × WordsIn ms

abbrev pub WrittenIn : WrittenEvent → Type 0
WrittenIn (event w) = (byte_at w.detail 0 < 256) × WordsIn (modifiers_of w.list)
WrittenIn (key k) = k.byte < 256
