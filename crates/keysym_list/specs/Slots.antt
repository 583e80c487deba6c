-- The keysyms of an event in four slots, with one more: what src/lib.rt computes. proofs/Same shows that it is `with_keysym` of
-- the rules.
use Rattle.std.specs.Prelude.{ℕ, ◌+◌, ◌<◌, Bool, cond, not, ◌||◌, List, eqb, ltb, length}
use Rattle.model.specs.Limits.{keysyms_of_event_limit}
use Rattle.model.specs.Named.{listed_mark, marked_keysym, mark_listed, keysyms_in}
use Rattle.model.specs.declared.events.Keysyms.{Keysyms}
use Rattle.keysym_list.specs.declared.Slots.{Slots}
use Rattle.keysym_list.specs.declared.Carried.{Carried}

-- of a list of keysyms with marks
abbrev pub keysym_slots : List ℕ → Slots
keysym_slots ss = record { keysyms = keysyms_in ss; over = ltb keysyms_of_event_limit (length ss) }

abbrev pub hands_on : (slot carried : ℕ) → Carried
hands_on slot carried = record { slot = slot; carried = carried }

-- a slot that a carried number passes: it keeps what has the lower keysym and hands the other on; 0 is nothing
unfoldable pub slot_passed : (tilde : Bool) (slot carried : ℕ) → Carried
slot_passed tilde slot carried =
    cond (eqb carried 0) (hands_on slot 0)
    (cond (eqb slot 0) (hands_on carried 0)
    (cond (ltb (marked_keysym carried) (marked_keysym slot)) (hands_on carried slot)
    (cond (eqb (marked_keysym carried) (marked_keysym slot)) (hands_on (mark_listed tilde slot) 0) (hands_on slot carried))))

unfoldable pub with_one_more : Keysyms → (over tilde : Bool) → ℕ → Slots
with_one_more k over tilde v =
    let first = slot_passed tilde k.first (v + listed_mark tilde) in
    let second = slot_passed tilde k.second first.carried in
    let third = slot_passed tilde k.third second.carried in
    let fourth = slot_passed tilde k.fourth third.carried in
    record {
      keysyms = record { first = first.slot; second = second.slot; third = third.slot; fourth = fourth.slot };
      over = over || not (eqb fourth.carried 0);
    }

-- no number has a further mark
pub record SlotsIn (k : Keysyms) : Type 0 where
  pub first : k.first < 0x80000000
  pub second : k.second < 0x80000000
  pub third : k.third < 0x80000000
  pub fourth : k.fourth < 0x80000000
