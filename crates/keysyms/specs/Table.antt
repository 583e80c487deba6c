-- The table of the Latin-1 names, R-4: "in a sorted constant table of name bytes with starts and values". Of the three names `AE`,
-- `a` and `ae` it would hold the bytes `AEaae`, the starts 0, 2, 3 and 5, and the values 0xc6, 0x61 and 0xe6.
use Rattle.std.specs.Prelude.{ℕ, ◌+◌, List, [], ◌∷◌, ◌++◌, map, length, get_or, Option, None, Some}
use Rattle.words.specs.Runs.{run}
use Rattle.model.specs.Lists.{earliest}
use Rattle.model.specs.Latin1.{latin1_entries}
use Rattle.model.specs.Canonical.{is_value}
use Rattle.model.specs.declared.names.DetailRead.{DetailRead}
use Rattle.names.specs.Table.{names_in, meanings_in, value_number}
use Rattle.keysyms.specs.declared.search.NamePlace.{NamePlace}

-- how many names there are
abbrev pub keysym_total : ℕ
keysym_total = 197

-- the name at a place, and what it stands for: those of the rules' list, in its order
unfoldable pub keysym_name : ℕ → List ℕ
keysym_name i = get_or (names_in latin1_entries) i []

unfoldable pub keysym_meaning : ℕ → DetailRead
keysym_meaning i = get_or (meanings_in latin1_entries) i DetailRead.Unknown

-- ---- The constants

unfoldable pub run_together : List (List ℕ) → List ℕ
run_together [] = []
run_together (n ∷ ns) = n ++ run_together ns

-- where each begins, the first at `at`, and where the last one ends
unfoldable pub starts_from : ℕ → List (List ℕ) → List ℕ
starts_from at [] = at ∷ []
starts_from at (n ∷ ns) = at ∷ starts_from (at + length n) ns

unfoldable pub name_bytes : List ℕ
name_bytes = run_together (names_in latin1_entries)

unfoldable pub name_starts : List ℕ
name_starts = starts_from 0 (names_in latin1_entries)

unfoldable pub keysym_values : List ℕ
keysym_values = map value_number (meanings_in latin1_entries)

-- ---- The first name of a keysym

abbrev pub place_given : Option ℕ → NamePlace
place_given None = NamePlace.Nowhere
place_given (Some i) = NamePlace.At i

-- the place of the first name that stands for a value
unfoldable pub first_place : ℕ → NamePlace
first_place v = place_given (earliest (is_value v) 0 (meanings_in latin1_entries))

abbrev pub place_number : NamePlace → ℕ
place_number (NamePlace.At i) = i
place_number NamePlace.Nowhere = keysym_total

-- of the keysyms 0x20 to 0x7e, then of 0xa0 to 0xff
unfoldable pub first_places : List ℕ
first_places = run (λ v. place_number (first_place v)) 0x20 95 ++ run (λ v. place_number (first_place v)) 0xa0 96
