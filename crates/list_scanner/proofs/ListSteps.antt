-- A modifier list, one modifier at a time: what is kept of it, and where it ends.
use Prim.Native.Nat.{ℕ, zero, suc, pred, ◌+◌, ◌≤◌, ◌<◌}
use native.Mathlib.Omega.{arith}
use native.Mathlib.Nat.{zero-add, add-zero}
use mathlib.Core.Path.{◌≡◌, refl, sym, ◌∙◌}
use mathlib.Core.List.{List, []}
use mathlib.Core.Bool.{Bool, false, not, ◌&&◌, ◌||◌}
use lib.ListN.{length}
use lib.Dec.{eqb}
use Rattle.model.specs.Lists.{bytes, any, part}
use Rattle.model.specs.Events.{Modifier, Modifiers, modifiers, one_more, name, keysym, has_tilde, is_named, is_none_or_any, modifier_at, modifiers_next, modifiers_from, modifiers_at}
use Rattle.model.specs.declared.scan.ModifierRead.{ModifierRead}
use Rattle.list_scanner.specs.declared.lists.ModifiersRead.{ModifiersRead}
use Rattle.list_scanner.specs.declared.lists.ListRead.{ListRead}
use Rattle.list_scanner.specs.ModifierLists.{summed_from, summed, list_end, list_from}
use Rattle.scanner.proofs.BadBytes.{or_assoc, or_none}
use Rattle.scanner.proofs.Ranges.{ModifierIn, modifier_in_lem, cond_in}

pub modifiers_step : (f : ℕ) (l : List ℕ) (at : ℕ) (r : ModifierRead) → 0 < f → modifier_at l at ≡ r
    → modifiers_from f l at ≡ modifiers_next l r (λ p. modifiers_from (pred f) l p)
unfolding modifiers_from
modifiers_step zero l at r h e = absurd (omega arith)
modifiers_step (suc f) l at r h e = rw e

pub summed_start : (m : Modifiers) → summed m ≡ summed_from 0 false false false m
summed_start Modifiers.broken = refl
summed_start (modifiers ms end) =
    λ i. ModifiersRead.Modifiers (sym (zero-add (length ms)) i) (any has_tilde ms) (any (is_named (bytes "None")) ms) (any is_none_or_any ms) end

module _ (n : ℕ) (tilde none lone : Bool) where
  pub summed_end : (end : ℕ) → summed_from n tilde none lone (modifiers [] end) ≡ ModifiersRead.Modifiers n tilde none lone end
  summed_end end = λ i. ModifiersRead.Modifiers (add-zero n i) (or_none tilde i) (or_none none i) (or_none lone i) end

  pub summed_more : (m : Modifier) (rest : Modifiers)
      → summed_from n tilde none lone (one_more m rest)
      ≡ summed_from (n + 1) (tilde || has_tilde m) (none || is_named (bytes "None") m) (lone || is_none_or_any m) rest
  summed_more m Modifiers.broken = refl
  summed_more m (modifiers ms end) =
      let k : n + suc (length ms) ≡ n + 1 + length ms = omega arith in
      λ i.
      ModifiersRead.Modifiers
      (k i)
      (or_assoc tilde (has_tilde m) (any has_tilde ms) i)
      (or_assoc none (is_named (bytes "None") m) (any (is_named (bytes "None")) ms) i)
      (or_assoc lone (is_none_or_any m) (any is_none_or_any ms) i)
      end

-- a `@` with its run is neither `None` nor `Any`
pub summed_keysym : (n : ℕ) (tilde none lone marked : Bool) (w : List ℕ) (rest : Modifiers)
    → summed_from n tilde none lone (one_more (keysym marked w) rest) ≡ summed_from (n + 1) (tilde || marked) none lone rest
summed_keysym n tilde none lone marked w rest =
    summed_more n tilde none lone (keysym marked w) rest
    ∙ (λ i. summed_from (n + 1) (tilde || marked) (or_none none i) (or_none lone i) rest)

-- ---- Where the list ends

-- at or after where it begins, and as many bytes later as it has modifiers
abbrev pub ModifiersIn : ℕ → ℕ → Modifiers → Type 0
ModifiersIn n at Modifiers.broken = Unit
ModifiersIn n at (modifiers ms end) = (at + length ms ≤ end) × (end < n)

one_more_in : (n at p : ℕ) (m : Modifier) (rest : Modifiers) → at < p → ModifiersIn n p rest → ModifiersIn n at (one_more m rest)
one_more_in n at p m Modifiers.broken h k = tt
one_more_in n at p m (modifiers ms end) h k = (omega (arith, k.0), k.1)

next_in : (l : List ℕ) (at : ℕ) (r : ModifierRead) (rest : ℕ → Modifiers) → ModifierIn (length l) at r
    → ((p : ℕ) → p ≤ length l → ModifiersIn (length l) p (rest p)) → ModifiersIn (length l) at (modifiers_next l r rest)
next_in l at ModifierRead.Broken rest h k = tt
next_in l at (ModifierRead.End p) rest h k = (omega (arith, h.0), h.1)
next_in l at (ModifierRead.Name tilde start end) rest h k =
    one_more_in (length l) at end (name tilde (part l start end)) (rest end) (omega (arith, h.0, h.1)) (k end h.2)
next_in l at (ModifierRead.Keysym tilde start end) rest h k =
    one_more_in (length l) at end (keysym tilde (part l start end)) (rest end) (omega (arith, h.0, h.1)) (k end h.2)

pub modifiers_in_lem : (f : ℕ) (l : List ℕ) (at : ℕ) → at ≤ length l → ModifiersIn (length l) at (modifiers_from f l at)
unfolding modifiers_from
modifiers_in_lem zero l at h = tt
modifiers_in_lem (suc f) l at h =
    next_in l at (modifier_at l at) (λ p. modifiers_from f l p) (modifier_in_lem l at h) (λ p k. modifiers_in_lem f l p k)

abbrev pub ListIn : ℕ → ℕ → ListRead → Type 0
ListIn n at ListRead.Broken = Unit
ListIn n at (ListRead.List kind end) = (at ≤ end) × (end < n)

list_end_in : (n at : ℕ) (bang colon : Bool) (count : ℕ) (tilde none lone : Bool) (end : ℕ) → at ≤ end → end < n
    → ListIn n at (list_end bang colon count tilde none lone end)
unfolding list_end
list_end_in n at bang colon count tilde none lone end h k =
    cond_in (ListIn n at) lone
    (λ e. cond_in (ListIn n at) (not (bang || colon || tilde) && eqb count 1) (λ j. (h, k)) (λ j. tt))
    (λ e. (h, k))

list_from_in : (n at : ℕ) (bang colon : Bool) (m : Modifiers) → ModifiersIn n at m → ListIn n at (list_from bang colon (summed m))
list_from_in n at bang colon Modifiers.broken h = tt
list_from_in n at bang colon (modifiers ms end) h =
    list_end_in n at bang colon (length ms) (any has_tilde ms) (any (is_named (bytes "None")) ms) (any is_none_or_any ms) end (omega (arith, h.0)) h.1

pub list_in_lem : (l : List ℕ) (bang colon : Bool) (at : ℕ) → at ≤ length l
    → ListIn (length l) at (list_from bang colon (summed (modifiers_at l at)))
list_in_lem l bang colon at h =
    list_from_in (length l) at bang colon (modifiers_at l at) (modifiers_in_lem (length l + 1) l at h)
