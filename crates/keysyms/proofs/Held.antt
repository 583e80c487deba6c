-- The table holds exactly the names of the rules' list. Assumes nothing.
use Prim.Native.Nat.{ℕ, suc, ◌<◌}
use native.Mathlib.Omega.{arith}
use native.Mathlib.Nat.{zero-add}
use mathlib.Core.Path.{◌≡◌, refl, sym, ap, ◌∙◌}
use mathlib.Core.Bool.{Bool, true, false, cond}
use mathlib.Core.List.{List, [], ◌∷◌}
use lib.ListN.{length, get_or}
use Rattle.words.specs.Runs.{run}
use Rattle.words.proofs.RunLaws.{run_at}
use Rattle.model.specs.Lists.{same, bytes}
use Rattle.model.specs.Names.{Entry, first_meaning}
use Rattle.model.specs.Latin1.{latin1_entries}
use Rattle.model.specs.declared.names.DetailRead.{DetailRead}
use Rattle.model.proofs.Sameness.{same_eq}
use Rattle.names.specs.Table.{names_in}
use Rattle.keysyms.specs.Table.{keysym_total, keysym_name, keysym_meaning, keysym_values}
use Rattle.keysyms.specs.Rule.{latin1_named, Placed, KeysymTable}
use Rattle.keysyms.specs.declared.search.NamePlace.{NamePlace}
use Rattle.keysyms.proofs.Order.{names_rise}

held_test : run (λ i. latin1_named (keysym_name i)) 0 keysym_total ≡ run keysym_meaning 0 keysym_total
unfolding run latin1_named keysym_name keysym_meaning latin1_entries
held_test = refl

values_test : run (λ i. DetailRead.Value (get_or keysym_values i 0)) 0 keysym_total ≡ run keysym_meaning 0 keysym_total
unfolding run keysym_values keysym_meaning latin1_entries
values_test = refl

pub name_held : (i : ℕ) → i < keysym_total → latin1_named (keysym_name i) ≡ keysym_meaning i
name_held i h =
    rw zero-add at (run_at (λ i. latin1_named (keysym_name i)) keysym_meaning 0 keysym_total DetailRead.Unknown held_test i h)

-- a word that is a name of the table stands for the value there
pub value_held : (w : List ℕ) (i : ℕ) → Placed w (NamePlace.At i) → DetailRead.Value (get_or keysym_values i 0) ≡ latin1_named w
value_held w i p =
    rw zero-add at (run_at (λ i. DetailRead.Value (get_or keysym_values i 0)) keysym_meaning 0 keysym_total DetailRead.Unknown values_test i p.0)
    ∙ sym (name_held i p.0)
    ∙ ap latin1_named p.1

-- a word that is none of some names stands for none of them
none_named : (w : List ℕ) (es : List (Entry DetailRead)) → ((i : ℕ) → i < length es → get_or (names_in es) i [] ≡ w → ⊥)
    → first_meaning es DetailRead.Unknown w ≡ DetailRead.Unknown
none_named w [] h = refl
none_named w (e ∷ es) h = go (same w (bytes e.name)) refl (none_named w es (λ i k q. h (suc i) (omega arith) q))
  where
    go : (b : Bool) → same w (bytes e.name) ≡ b → first_meaning es DetailRead.Unknown w ≡ DetailRead.Unknown
        → cond (same w (bytes e.name)) e.meaning (first_meaning es DetailRead.Unknown w) ≡ DetailRead.Unknown
    go true q ih = absurd (h 0 (omega arith) (sym (same_eq w (bytes e.name) q)))
    go false q ih = rw q ih

entries_total : length latin1_entries ≡ keysym_total
unfolding latin1_entries
entries_total = refl

pub none_held : (w : List ℕ) → Placed w NamePlace.Nowhere → latin1_named w ≡ DetailRead.Unknown
unfolding latin1_named keysym_name
none_held w h = none_named w latin1_entries (λ i k q. h i (rw entries_total at k) q)

pub keysym_table : KeysymTable
keysym_table = record { order = names_rise; held = name_held; complete = none_held }
