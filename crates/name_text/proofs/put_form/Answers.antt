-- `name_text::put_form` meets its contract.
use native.Mathlib.Omega.{arith}
use mathlib.Core.Bool.{Bool, cond}
use mathlib.Core.List.{[], ◌∷◌, ◌++◌}
use mathlib.Core.Path.{◌≡◌, ap}
use Rattle.writing.proofs.Laws.{put_then, put_as}
use Rattle.name_text.specs.Forms.{form_text, form_word, form_tilde}
use Rattle.name_text.proofs.put_form.Goals as goal

pub returns : goal.returns
unfolding form_text
returns c =
    let e = c.args.e in
    let j = c.args.j in
    let p = c.put_if-next.ensures in
    let q = c.put_word.ensures in
    let t : cond c.form_tilde.result (126 ∷ []) [] ++ form_word e j ≡ cond (form_tilde j) (126 ∷ []) [] ++ form_word e j =
    ap (λ (b : Bool). cond b (126 ∷ []) [] ++ form_word e j) c.form_tilde.ensures in
    (put_as t (put_then p.0 q.0), omega (arith, p.1, q.1))
