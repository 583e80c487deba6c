-- `modifier_text::put_bit` meets its contract.
use Rattle.std.proofs.Common.{arith, ℕ, Bool, true, false, cond, not, List, [], ◌∷◌, ◌++◌, ◌≡◌, refl, ap, ◌∙◌}
use Rattle.model.specs.Canonical.{bit_name}
use Rattle.names.specs.Table.{name_row}
use Rattle.names.proofs.Written.{bit_name_lem}
use Rattle.writing.proofs.Laws.{put_then, put_as}
use Rattle.modifier_text.proofs.Named.{short_name}
use Rattle.modifier_text.proofs.put_bit.Goals as goal

-- `~` where the bit is not set
tilde : (is : Bool) (name : List ℕ) → cond (not is) (126 ∷ []) [] ++ name ≡ cond is name (126 ∷ name)
tilde true name = refl
tilde false name = refl

pub returns : goal.returns
returns c =
    let a = c.args in
    let n = ap name_row c.bit_place.ensures.0 ∙ bit_name_lem a.k c.requires.1 in
    let b = c.put_if-next.ensures in
    let p = put_as n c.put_name.ensures.0 in
    (put_as (tilde c.bit.result (bit_name a.k) ∙ rw c.bit.ensures) (put_then b.0 p), omega (arith, b.1, p.next, short_name a.k c.requires.1))
