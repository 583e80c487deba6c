-- `==` of two events as kept decides what merging calls the same.
use mathlib.Core.Path.{◌≡◌, refl}
use mathlib.Core.Bool.{Bool, true, false, ◌&&◌, beq, and_assoc}
use lib.Dec.{eqb}
use Rattle.model.specs.Merging.{same_detail, same_keysyms, same_event}
use Rattle.model.specs.declared.events.Detail.{Detail}
use Rattle.model.specs.declared.events.Keysyms.{Keysyms}
use Rattle.model.specs.declared.events.KeptEvent.{KeptEvent}
use Rattle.model.specs.contracts.events.DetailPartialEq.TheImpl as detail
use Rattle.model.specs.contracts.events.KeysymsPartialEq.TheImpl as keysyms
use Rattle.model.specs.contracts.events.KeptEventPartialEq.TheImpl as event

detail_is : (d e : Detail) → detail.ghosts.eq d e ≡ same_detail d e
detail_is Detail.Unspecified Detail.Unspecified = refl
detail_is Detail.Unspecified (Detail.Value w) = refl
detail_is (Detail.Value v) Detail.Unspecified = refl
detail_is (Detail.Value v) (Detail.Value w) = refl

keysyms_is : (a b : Keysyms) → keysyms.ghosts.eq a b ≡ same_keysyms a b
unfolding same_keysyms
keysyms_is a b = simp and_assoc

-- the detail and the count come last
last_two : (d n r : Bool) → (d && (n && r)) ≡ (r && d && n)
last_two false n false = refl
last_two false n true = refl
last_two true false false = refl
last_two true false true = refl
last_two true true false = refl
last_two true true true = refl

pub equal_is : (e f : KeptEvent) → event.ghosts.eq e f ≡ same_event e f
unfolding same_event
equal_is e f =
    rw (detail_is e.detail f.detail, keysyms_is e.keysyms f.keysyms, last_two (same_detail e.detail f.detail) (eqb e.count f.count) (beq e.bang f.bang && (eqb e.names f.names && same_keysyms e.keysyms f.keysyms)))
    (simp and_assoc)
