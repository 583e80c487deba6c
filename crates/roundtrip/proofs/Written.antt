-- What the canonical text of an event derives to.
use Prim.Native.Nat.{ℕ, ◌%◌}
use mathlib.Core.Bool.{Bool, true, false, cond, not}
use mathlib.Core.List.{List, [], ◌∷◌, ◌++◌, map}
use Rattle.std.specs.Prelude.{Option, None, Some}
use lib.Dec.{leb, ltb}
use Rattle.model.specs.Lists.{those}
use Rattle.model.specs.Modifiers.{bit}
use Rattle.model.specs.Named.{marked_keysym, is_listed}
use Rattle.model.specs.Events.{Modifier, name, keysym, ModifierList, listed, Count, Written}
use Rattle.model.specs.Canonical.{writing_order, bit_name, is_written_bit, long_name, hexadecimal, writes_bang, type_text, detail_text, decimal}
use Rattle.model.specs.declared.events.Keysyms.{Keysyms}
use Rattle.model.specs.declared.events.KeptEvent.{KeptEvent}

-- ---- Bits

abbrev pub modifier_of : KeptEvent → ℕ → Modifier
modifier_of e k = name (not (bit k e.set)) (bit_name k)

abbrev pub bits_of : KeptEvent → List ℕ
bits_of e = those (is_written_bit e) writing_order

-- ---- Meta, Alt, Hyper, Super

-- their forms in the order of writing, each by its bit
abbrev pub form_order : List ℕ
form_order = 0 ∷ 4 ∷ 1 ∷ 5 ∷ 2 ∷ 6 ∷ 3 ∷ 7 ∷ []

abbrev pub form_modifier : ℕ → Modifier
form_modifier k = name (leb 4 k) (long_name (k % 4))

abbrev pub written_forms : KeptEvent → List ℕ
written_forms e = those (λ k. bit k e.names) form_order

-- ---- Keysyms

abbrev pub keysym_modifier : ℕ → (tilde : Bool) → Modifier
keysym_modifier s tilde = keysym tilde (hexadecimal (marked_keysym s))

abbrev pub both_forms : (set clear : Bool) → ℕ → List Modifier
both_forms set clear s = cond set (keysym_modifier s false ∷ []) [] ++ cond clear (keysym_modifier s true ∷ []) []

abbrev pub keysym_modifiers : List ℕ → List Modifier
keysym_modifiers [] = []
keysym_modifiers (s ∷ ss) = both_forms (is_listed false s) (is_listed true s) s ++ keysym_modifiers ss

abbrev pub slots : Keysyms → List ℕ
slots k = k.first ∷ k.second ∷ k.third ∷ k.fourth ∷ []

-- ---- The event

abbrev pub name_modifiers : KeptEvent → List Modifier
name_modifiers e = map form_modifier (written_forms e) ++ keysym_modifiers (slots e.keysyms)

abbrev pub written_modifiers : KeptEvent → List Modifier
written_modifiers e = map (modifier_of e) (bits_of e) ++ name_modifiers e

unfoldable pub list_of : KeptEvent → ModifierList
list_of e = listed (writes_bang e) e.colon (written_modifiers e)

unfoldable pub count_of : ℕ → Option Count
count_of n = cond (ltb 1 n) (Some (record { digits = decimal n; plus = false })) None

abbrev pub written_of : KeptEvent → Written
written_of e =
    record {
      list = list_of e;
      type_name = type_text e;
      count = count_of e.count;
      detail = detail_text e.code e.detail;
    }
