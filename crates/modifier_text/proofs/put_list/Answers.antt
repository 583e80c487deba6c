-- `modifier_text::put_list` meets its contract.
use Rattle.std.proofs.Common.{arith, ◌≡◌, ap, ◌∙◌, sym, true, false}
use Rattle.modifier_text.specs.Places.{has_place, place_text}
use Rattle.writing.proofs.Laws.{put_none, put_then, put_as}
use Rattle.modifier_text.proofs.Bits.{texts_to, texts_none, count_none, texts_more, count_more, texts_same, count_same, list_all}
use Rattle.modifier_text.proofs.put_list.Goals as goal
use Rattle.modifier_text.proofs.put_list.Goals.{then-has_place, else-has_place}

pub loop-j-init : goal.loop-j-init
loop-j-init c =
    let e = c.args.e in
    record {
      few = omega arith;
      near = omega arith;
      count = count_none (has_place e) (place_text e);
      texts = put_as (texts_none (has_place e) (place_text e)) (put_none _ _);
    }

pub loop-j-preserved : goal.loop-j-preserved
loop-j-preserved c =
    let t = has_place c.args.e in
    let u = place_text c.args.e in
    let j = c.loop-j.j in
    let i = c.loop-j.invariant in
    elim c.if-has_place.branch [
      | then-has_place w ↦
          let is : t j ≡ true = sym c.has_place.ensures ∙ w.if-has_place.true in
          let p = w.put_separator-next.ensures in
          let q = w.put_place-next.ensures in
          record {
            few = omega (arith, w.n-is, i.few);
            near = omega (arith, w.next-is, i.near, p.1, q.1);
            count = w.n-is ∙ count_more t u j c.loop-j.n i.count is;
            texts = rw (w.out-is, w.next-is) (put_as (texts_more t u j c.loop-j.n i.count is) (put_then i.texts (put_then p.0 q.0)));
          }
      | else-has_place w ↦
          let none : t j ≡ false = sym c.has_place.ensures ∙ w.if-has_place.false in
          record {
            few = omega (arith, w.n-is, i.few);
            near = omega (arith, w.next-is, i.near);
            count = w.n-is ∙ count_same t u j c.loop-j.n i.count none;
            texts = rw (w.out-is, w.next-is) (put_as (texts_same t u j c.loop-j.n i.count none) i.texts);
          }
    ]

pub returns : goal.returns
returns c =
    let e = c.args.e in
    let w = c.loop-j.invariant in
    let j : c.loop-j.j ≡ 29 = omega arith in
    (put_as (ap (texts_to (has_place e) (place_text e)) j ∙ list_all e) w.texts, omega (arith, w.near))
