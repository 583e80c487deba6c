-- The forms of an event's names by number, in the order of writing: 0..7 are those of Meta, Alt, Hyper and Super, 8..15 those of
-- the four keysyms; of one name the set form first, and the odd ones have `~`.
use Rattle.std.specs.Prelude.{ℕ, ◌-◌, ◌/◌, ◌%◌, Bool, cond, List, [], ◌++◌, eqb, ltb}
use Rattle.model.specs.Lists.{bytes}
use Rattle.model.specs.Modifiers.{bit}
use Rattle.model.specs.Named.{form_bit, marked_keysym, is_listed}
use Rattle.model.specs.Canonical.{hexadecimal, long_name}
use Rattle.model.specs.declared.events.Keysyms.{Keysyms}
use Rattle.model.specs.declared.events.KeptEvent.{KeptEvent}

unfoldable pub keysym_at : Keysyms → ℕ → ℕ
keysym_at keysyms i =
    cond (eqb i 0) keysyms.first (cond (eqb i 1) keysyms.second (cond (eqb i 2) keysyms.third keysyms.fourth))

unfoldable pub form_tilde : ℕ → Bool
form_tilde j = eqb (j % 2) 1

-- the event has the form
unfoldable pub has_form : KeptEvent → ℕ → Bool
has_form e j =
    cond (ltb j 8) (bit (form_bit (form_tilde j) (j / 2)) e.names) (is_listed (form_tilde j) (keysym_at e.keysyms (j / 2 - 4)))

-- what follows `~`, or stands without it
unfoldable pub form_word : KeptEvent → ℕ → List ℕ
form_word e j =
    cond (ltb j 8) (long_name (j / 2)) (bytes "@" ++ hexadecimal (marked_keysym (keysym_at e.keysyms (j / 2 - 4))))

unfoldable pub form_text : KeptEvent → ℕ → List ℕ
form_text e j = cond (form_tilde j) (bytes "~") [] ++ form_word e j
