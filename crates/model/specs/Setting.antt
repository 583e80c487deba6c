-- What the calls of a matcher share beside table and texts (document 01, "Selection": "share table, texts, map and time"; R-1:
-- "Demand 3's list of calls now has one modifier map too").
use Rattle.std.specs.Prelude.{ℕ, ◌+◌, ◌-◌, ◌*◌, List, get_or}

pub record Setting : Type 0 where
  -- "keyboard map: .. 496 numbers"
  pub keyboard : List ℕ
  -- the modifier map's entries, row after row
  pub modifiers : List ℕ
  -- "the multi-click time"
  pub time : ℕ

-- "248 pairs, keycodes 8..255": the keysyms that the keyboard map has for a keycode
abbrev pub first_keysym : List ℕ → ℕ → ℕ
first_keysym map keycode = get_or map (2 * (keycode - 8)) 0

abbrev pub second_keysym : List ℕ → ℕ → ℕ
second_keysym map keycode = get_or map (2 * (keycode - 8) + 1) 0
