-- `modifier_text::put_modifiers` meets its contract.
use Rattle.std.proofs.Common.{arith, [], ◌∷◌, ◌++◌, Bool, cond, ap}
use Rattle.model.specs.Canonical.{list_text, modifiers_text}
use Rattle.writing.proofs.Laws.{put_then, put_as}
use Rattle.modifier_text.proofs.put_modifiers.Goals as goal

pub returns : goal.returns
unfolding modifiers_text
returns c =
    let e = c.args.e in
    let p = c.put_if-next.ensures in
    let q = c.put_if-next-2.ensures in
    let r = c.put_list.ensures in
    let t = ap (λ (b : Bool). cond b (33 ∷ []) [] ++ (cond e.colon (58 ∷ []) [] ++ list_text e)) c.writes_bang.ensures in
    (put_as t (put_then p.0 (put_then q.0 r.0)), omega (arith, p.1, q.1, r.1))
