-- One more keysym in four slots is one more in the list that they show: slot after slot, by what happens at the head.
use Prim.Native.Nat.{ℕ, ◌+◌, ◌<◌}
use native.Mathlib.Omega.{arith}
use mathlib.Core.Path.{◌≡◌, refl, sym, ap, ◌∙◌}
use mathlib.Core.Bool.{Bool, not}
use mathlib.Core.List.{List, [], ◌∷◌}
use lib.Dec.{lit<}
use lib.ListN.{length, get_or}
use borrow.Author.Tests.{lt-ltb}
use Rattle.model.specs.Lists.{is_empty}
use Rattle.model.specs.Named.{listed_mark, with_keysym, keysyms_in}
use Rattle.keysym_list.specs.declared.Slots.{Slots}
use Rattle.keysym_list.specs.Slots.{keysym_slots, slot_passed, with_one_more, SlotsIn}
use Rattle.keysym_list.specs.Rising.{Rising}
use Rattle.keysym_list.proofs.Inserted.{rest, rising_rest, carried_into, with_carried, AtHead, at_head, some_more}

-- the same slots, each the head of what is left
abbrev heads_of : List ℕ → Slots
heads_of ss =
    record {
      keysyms =
          record {
            first = get_or ss 0 0;
            second = get_or (rest ss) 0 0;
            third = get_or (rest (rest ss)) 0 0;
            fourth = get_or (rest (rest (rest ss))) 0 0;
          };
      over = not (is_empty (rest (rest (rest (rest ss)))));
    }

heads_same : (ss : List ℕ) → keysym_slots ss ≡ heads_of ss
heads_same [] = refl
heads_same (a ∷ []) = refl
heads_same (a ∷ b ∷ []) = refl
heads_same (a ∷ b ∷ c ∷ []) = refl
heads_same (a ∷ b ∷ c ∷ d ∷ []) = refl
heads_same (a ∷ b ∷ c ∷ d ∷ e ∷ ss) =
    ap (λ o. record { keysyms = record { first = a; second = b; third = c; fourth = d }; over = o })
    (lt-ltb 4 (length (a ∷ b ∷ c ∷ d ∷ e ∷ ss)) (omega arith))

pub slots_more : (tilde : Bool) (v : ℕ) (ss : List ℕ) → Rising ss → v < 0x20000000
    → with_one_more (keysyms_in ss) (keysym_slots ss).over tilde v ≡ keysym_slots (with_keysym tilde v ss)
unfolding with_one_more
slots_more tilde v ss r h =
    let c0 : ℕ = v + listed_mark tilde in
    let s1 : List ℕ = rest ss in
    let s2 : List ℕ = rest s1 in
    let s3 : List ℕ = rest s2 in
    let c1 : ℕ = (slot_passed tilde (get_or ss 0 0) c0).carried in
    let c2 : ℕ = (slot_passed tilde (get_or s1 0 0) c1).carried in
    let c3 : ℕ = (slot_passed tilde (get_or s2 0 0) c2).carried in
    let r1 : Rising s1 = rising_rest ss r in
    let r2 : Rising s2 = rising_rest s1 r1 in
    let h0 : AtHead tilde c0 ss = at_head tilde c0 ss r in
    let h1 : AtHead tilde c1 s1 = at_head tilde c1 s1 r1 in
    let h2 : AtHead tilde c2 s2 = at_head tilde c2 s2 r2 in
    let h3 : AtHead tilde c3 s3 = at_head tilde c3 s3 (rising_rest s2 r2) in
    let t1 = h0.on in
    let t2 = ap rest t1 ∙ h1.on in
    let t3 = ap rest t2 ∙ h2.on in
    let t4 = ap rest t3 ∙ h3.on in
    let first = h0.slot in
    let second = h1.slot ∙ sym (ap (λ (l : List ℕ). get_or l 0 0) t1) in
    let third = h2.slot ∙ sym (ap (λ (l : List ℕ). get_or l 0 0) t2) in
    let fourth = h3.slot ∙ sym (ap (λ (l : List ℕ). get_or l 0 0) t3) in
    let over = some_more tilde (slot_passed tilde (get_or s3 0 0) c3).carried (rest s3) ∙ sym (ap (λ (l : List ℕ). not (is_empty l)) t4) in
    ap (λ (x : Slots). with_one_more x.keysyms x.over tilde v) (heads_same ss)
    ∙ (λ i.
    record {
      keysyms = record { first = first i; second = second i; third = third i; fourth = fourth i };
      over = over i;
    })
    ∙ sym (ap keysym_slots (with_carried tilde v ss h) ∙ heads_same (carried_into tilde c0 ss))

-- a rising list's numbers are in range
nth_in : (ss : List ℕ) → Rising ss → get_or ss 0 0 < 0x80000000
nth_in [] r = lit< tt
nth_in (s ∷ ss) r = r.0.1

pub slots_in : (ss : List ℕ) → Rising ss → SlotsIn (keysyms_in ss)
slots_in ss r =
    let r1 = rising_rest ss r in
    let r2 = rising_rest (rest ss) r1 in
    let r3 = rising_rest (rest (rest ss)) r2 in
    let e = heads_same ss in
    record {
      first = nth_in ss r;
      second = rw (ap (λ (x : Slots). x.keysyms.second) e) (nth_in (rest ss) r1);
      third = rw (ap (λ (x : Slots). x.keysyms.third) e) (nth_in (rest (rest ss)) r2);
      fourth = rw (ap (λ (x : Slots). x.keysyms.fourth) e) (nth_in (rest (rest (rest ss))) r3);
    }
