-- How many events a table's events stand for.
use Prim.Native.Nat.{ℕ, ◌≤◌}
use native.Mathlib.Omega.{arith}
use mathlib.Core.Path.{◌≡◌, refl}
use mathlib.Core.List.{List, [], ◌∷◌}
use lib.ListN.{length, length-append}
use Rattle.model.specs.Lists.{in_all}
use Rattle.model.specs.Counts.{elements_of, expanded}
use Rattle.model.specs.declared.events.KeptEvent.{KeptEvent}
use Rattle.counts.specs.Elements.{element_count}
use Rattle.counts.proofs.Elements.{element_count_lem, count_at_least}

abbrev pub event_size : KeptEvent → ℕ
event_size e = element_count e.code e.count

pub length_elements : (e : KeptEvent) → length (elements_of e) ≡ event_size e
unfolding elements_of
length_elements e = element_count_lem e.count e

pub length_expanded : (es : List KeptEvent) → length (expanded es) ≡ in_all event_size es
unfolding expanded
length_expanded [] = refl
length_expanded (e ∷ es) = omega (arith, length-append (elements_of e) (expanded es), length_elements e, length_expanded es)

pub length_le_size : (es : List KeptEvent) → length es ≤ in_all event_size es
length_le_size [] = omega arith
length_le_size (e ∷ es) = omega (arith, count_at_least e.code e.count, length_le_size es)
