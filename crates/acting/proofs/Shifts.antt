-- Events moved to the first slots, one by one.
use Prim.Native.Nat.{ℕ, ◌+◌, ◌-◌, ◌≤◌, ◌<◌}
use native.Mathlib.Omega.{arith}
use native.Mathlib.Numerals.{add-one}
use mathlib.Core.Path.{◌≡◌, refl, sym, ap, ap₂, ◌∙◌}
use mathlib.Core.List.{List, [], ◌∷◌, ◌++◌}
use lib.ListN.{length, get_or, take, drop, replicate}
use lib.Seq.{take-suc, drop-append-le, length-take-le, length-slice, slice_empty}
use Rattle.words.specs.Words.{zeros}
use Rattle.model.specs.declared.events.Event.{Event}
use Rattle.states.specs.State.{zero_event, put_slot, events_bytes, in_slots}
use Rattle.states.proofs.SlotLaws.{put_more}

pub no_slots : replicate 200 0 ≡ in_slots []
unfolding in_slots events_bytes zeros
no_slots = refl

module _ (events : List Event) (from : ℕ) where
  one_more : (i : ℕ) → from ≤ i → i < length events
      → drop from (take (i + 1) events) ≡ drop from (take i events) ++ (get_or events i zero_event ∷ [])
  one_more i h m =
      rw (add-one, take-suc events i zero_event m)
      (drop-append-le from (take i events) (get_or events i zero_event ∷ []) (omega (arith, length-take-le i events (omega arith))))

  pub shift_more : (bytes : List ℕ) (i : ℕ) (x : Event) → from ≤ i → i < length events → length events ≡ 25
      → bytes ≡ in_slots (drop from (take i events)) → x ≡ get_or events i zero_event
      → put_slot bytes (i - from) x ≡ in_slots (drop from (take (i + 1) events))
  shift_more bytes i x h m l e g =
      let n : length (drop from (take i events)) ≡ i - from = length-slice from i events (omega arith) in
      let b : length (drop from (take i events)) < 25 = omega arith in
      ap₂ (λ (s : List ℕ) (y : Event). put_slot s (i - from) y) e g
      ∙ ap (λ (k : ℕ). put_slot (in_slots (drop from (take i events))) k (get_or events i zero_event)) (sym n)
      ∙ put_more (drop from (take i events)) (get_or events i zero_event) b
      ∙ ap in_slots (sym (one_more i h m))

  pub shift_none : in_slots [] ≡ in_slots (drop from (take from events))
  shift_none = ap in_slots (sym (slice_empty from events))
