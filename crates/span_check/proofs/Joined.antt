-- Spans and calls whose faults are joined before they are tested.
use Prim.Native.Nat.{ℕ, ◌+◌, ◌-◌}
use native.Mathlib.Omega.{arith}
use mathlib.Core.Path.{◌≡◌, refl, ap, ◌∙◌}
use mathlib.Core.Bool.{Bool, true, false, cond, ◌&&◌, and_assoc}
use lib.Dec.{leb, eqb}
use lib.Bits.{bit_or}
use borrow.Author.Tests.{leb-true, le-leb, eqb-true, eq-eqb}
use Rattle.words.proofs.Bools.{and_left, and_right, and_both, same_test}
use Rattle.words.proofs.Zeros.{or_zero, or_zero_three, within_bound}
use Rattle.span_check.specs.Spans.{length_of_text, call_words_ok}

-- ---- Spans

span_within : (s n t : ℕ) → (eqb (s - t) 0 && eqb (n - (t - s)) 0) ≡ leb (s + n) t
span_within s n t = same_test (eqb (s - t) 0 && eqb (n - (t - s)) 0) (leb (s + n) t) there back
  where
    there : (eqb (s - t) 0 && eqb (n - (t - s)) 0) ≡ true → leb (s + n) t ≡ true
    there e =
        let a = eqb-true (s - t) 0 (and_left (eqb (s - t) 0) (eqb (n - (t - s)) 0) e) in
        let b = eqb-true (n - (t - s)) 0 (and_right (eqb (s - t) 0) (eqb (n - (t - s)) 0) e) in
        le-leb (s + n) t (omega arith)

    back : leb (s + n) t ≡ true → (eqb (s - t) 0 && eqb (n - (t - s)) 0) ≡ true
    back e =
        let a = leb-true (s + n) t e in
        and_both (eqb (s - t) 0) (eqb (n - (t - s)) 0) (eq-eqb (s - t) 0 (omega arith)) (eq-eqb (n - (t - s)) 0 (omega arith))

pub joined_span : (s n t : ℕ) → eqb (bit_or (s - t) (n - (t - s))) 0 ≡ leb (s + n) t
joined_span s n t = or_zero (s - t) (n - (t - s)) ∙ span_within s n t

-- one more parameter, joined to the faults b of those before it
pub joined_parameter : (b s n t : ℕ) → eqb (bit_or (bit_or b (s - t)) (n - (t - s))) 0 ≡ (eqb b 0 && leb (s + n) t)
joined_parameter b s n t =
    or_zero_three b (s - t) (n - (t - s))
    ∙ and_assoc (eqb b 0) (eqb (s - t) 0) (eqb (n - (t - s)) 0)
    ∙ ap (λ (r : Bool). eqb b 0 && r) (span_within s n t)

-- one more call, joined to the faults b of those before it, where x is 0 if its name is in its text
pub joined_call : (merged : Bool) (b m s n k most x f g : ℕ) → (merged ≡ false → most ≡ 0)
    → eqb x 0 ≡ leb (s + n) (cond merged (length_of_text m f g) f)
    → eqb (bit_or b (bit_or (bit_or (m - most) (k - 8)) x)) 0 ≡ (eqb b 0 && call_words_ok m s n k most (length_of_text m f g))
unfolding call_words_ok length_of_text
joined_call merged b m s n k most x f g z e =
    rw (or_zero b (bit_or (bit_or (m - most) (k - 8)) x), or_zero_three (m - most) (k - 8) x, within_bound m most, within_bound k 8, e)
    (ap (λ (t : Bool). eqb b 0 && t) (go merged refl (leb m most) refl))
  where
    text : ℕ
    text = length_of_text m f g

    go : (c : Bool) → merged ≡ c → (t : Bool) → leb m most ≡ t → (t && leb k 8 && leb (s + n) (cond c text f)) ≡ (t && leb k 8 && leb (s + n) text)
    go true p t q = refl
    go false p false q = refl
    go false p true q =
        let b = leb-true m most q in
        let y = z p in
        let w : m ≡ 0 = omega arith in
        rw w
