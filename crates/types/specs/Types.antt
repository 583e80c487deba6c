-- Which types of events a table has: 01, "Selection", rule 1, "expansion included".
use Rattle.std.specs.Prelude.{ℕ, zero, suc, ◌+◌, ◌-◌, ◌*◌, ◌%◌, Bool, false, not, ◌&&◌, ◌||◌, List, eqb, ltb}
use Rattle.words.specs.Words.{word_at}
use Rattle.tables.specs.Layout.{codes_at, counts_at}

-- a test passes at a number below n
unfoldable pub any_below : (ℕ → Bool) → ℕ → Bool
any_below test zero = false
any_below test (suc n) = any_below test n || test n

-- a press and its release stand for each other where either is counted
abbrev pub other_code : ℕ → ℕ
other_code own = own + 1 - 2 * (own % 2)

unfoldable pub event_has : (own count code : ℕ) → Bool
event_has own count code = eqb own code || (ltb 1 count && eqb (other_code own) code)

-- event i of a table has this code
unfoldable pub has_code : List ℕ → (code : ℕ) → ℕ → Bool
has_code l code i = eqb (word_at l (codes_at + i)) code

-- or it has the other code, and is counted
unfoldable pub has_either : List ℕ → (code other : ℕ) → ℕ → Bool
has_either l code other i =
    eqb (word_at l (codes_at + i)) code || (eqb (word_at l (codes_at + i)) other && not (eqb (word_at l (counts_at + i)) 1))
