-- The names and keysyms that the canonical text lists are those that the event keeps.
use Prim.Native.Nat.{ℕ, ◌+◌, ◌*◌, ◌/◌, ◌%◌, ◌≤◌, ◌<◌}
use native.Mathlib.Omega.{arith}
use mathlib.Core.Path.{◌≡◌, refl, sym, ap, ap₂, ◌∙◌}
use mathlib.Core.Bool.{Bool, true, false, cond, not, ◌&&◌, ◌||◌, and-true, or-false}
use mathlib.Core.List.{List, [], ◌∷◌, ◌++◌, map}
use lib.Dec.{eqb, leb, ltb, lit<}
use lib.ListN.{length, get_or}
use lib.Seq.{append_snoc}
use borrow.Author.Tests.{eqb-true, eqb-false, ltb-true, le-ltb, ne_eqb, eq-eqb}
use Rattle.model.specs.Lists.{any, all, is_empty}
use Rattle.model.specs.Limits.{keysym_limit}
use Rattle.model.specs.Details.{key_detail}
use Rattle.model.specs.Modifiers.{bit, bit_if, sum_bits}
use Rattle.model.specs.Named as Rules
use Rattle.model.specs.Named.{form_bits, is_form, lists_form, adds_form, names_mask, listed_mark, marked_keysym, is_listed, with_keysym, with_modifier, with_read, keysyms_from, is_crowded, keysyms_in, has_names, keeps_names}
use Rattle.model.specs.Events.{Modifier}
use Rattle.model.specs.Canonical.{hexadecimal}
use Rattle.model.specs.declared.events.Keysyms.{Keysyms}
use Rattle.model.specs.declared.events.KeptEvent.{KeptEvent}
use Rattle.model.specs.declared.names.Added.{Added}
use Rattle.model.specs.declared.names.DetailRead.{DetailRead}
use Rattle.keysym_list.specs.Rising.{MarkedIn, Above, Rising, KeysymsIn}
use Rattle.modifiers.proofs.Below.{every, every_at, both_left, both_right}
use Rattle.roundtrip.proofs.Lists.{any_append, any_those, any_at}
use Rattle.roundtrip.proofs.Numbers.{hexadecimal_reads}
use Rattle.roundtrip.proofs.Written.{modifier_of, bits_of, form_order, form_modifier, written_forms, keysym_modifier, both_forms, keysym_modifiers, slots, name_modifiers, written_modifiers, list_of}
use Rattle.roundtrip.proofs.Names.{well_named, well_named_lem, bits_named, FormNamed, form_named_lem, form_ordered, forms_below, type_of}

-- ---- What no modifier of a kind has

module _ (test : Modifier → Bool) where
  pub no_form : ((k : ℕ) → k < 8 → test (form_modifier k) ≡ false) → (ks : List ℕ) → all (λ k. ltb k 8) ks ≡ true → any test (map form_modifier ks) ≡ false
  no_form h [] b = refl
  no_form h (k ∷ ks) b =
      ap₂ ◌||◌ (h k (ltb-true k 8 (both_left (ltb k 8) (all (λ j. ltb j 8) ks) b))) (no_form h ks (both_right (ltb k 8) (all (λ j. ltb j 8) ks) b))

  both_none : ((s : ℕ) (tilde : Bool) → test (keysym_modifier s tilde) ≡ false) → (s : ℕ) (a b : Bool) → any test (both_forms a b s) ≡ false
  both_none h s true true = ap₂ (λ (x y : Bool). x || (y || false)) (h s false) (h s true)
  both_none h s true false = ap (λ (x : Bool). x || false) (h s false)
  both_none h s false true = ap (λ (x : Bool). x || false) (h s true)
  both_none h s false false = refl

  pub no_keysym_lem : ((s : ℕ) (tilde : Bool) → test (keysym_modifier s tilde) ≡ false) → (ss : List ℕ) → any test (keysym_modifiers ss) ≡ false
  no_keysym_lem h [] = refl
  no_keysym_lem h (s ∷ ss) =
      any_append test (both_forms (is_listed false s) (is_listed true s) s) (keysym_modifiers ss)
      ∙ ap₂ ◌||◌ (both_none h s (is_listed false s) (is_listed true s)) (no_keysym_lem h ss)

  pub no_name : (e : KeptEvent) → ((k : ℕ) → k < 8 → test (form_modifier k) ≡ false) → ((s : ℕ) (tilde : Bool) → test (keysym_modifier s tilde) ≡ false)
      → any test (name_modifiers e) ≡ false
  no_name e h g =
      any_append test (map form_modifier (written_forms e)) (keysym_modifiers (slots e.keysyms))
      ∙ ap₂ ◌||◌ (no_form h (written_forms e) (forms_below (λ k. bit k e.names))) (no_keysym_lem g (slots e.keysyms))

-- a keysym of four bytes with marks reads back
pub keysym_reads : (s : ℕ) → key_detail (hexadecimal (marked_keysym s)) ≡ DetailRead.Value (marked_keysym s)
keysym_reads s = hexadecimal_reads (marked_keysym s) (let h : s % 0x20000000 ≤ keysym_limit = omega arith in h)

-- ---- Meta, Alt, Hyper, Super

form_lists : (k j : ℕ) → j < 8 → lists_form k (form_modifier j) ≡ eqb j k
form_lists k j h =
    let n : FormNamed j = form_named_lem j h in ap (is_form k (leb 4 j)) n.stands ∙ ap (λ (i : ℕ). eqb i k) n.bit

forms_list : (k : ℕ) (js : List ℕ) → all (λ j. ltb j 8) js ≡ true → any (lists_form k) (map form_modifier js) ≡ any (λ j. eqb j k) js
forms_list k [] b = refl
forms_list k (j ∷ js) b =
    ap₂ ◌||◌ (form_lists k j (ltb-true j 8 (both_left (ltb j 8) (all (λ i. ltb i 8) js) b)))
    (forms_list k js (both_right (ltb j 8) (all (λ i. ltb i 8) js) b))

bits_bytes : every 256 (λ m. eqb (sum_bits (λ k. bit k m) form_bits) m) ≡ true
unfolding every
bits_bytes = refl

bits_byte : (m : ℕ) → m < 256 → sum_bits (λ k. bit k m) form_bits ≡ m
bits_byte m h = eqb-true (sum_bits (λ k. bit k m) form_bits) m (every_at 256 (λ m. eqb (sum_bits (λ k. bit k m) form_bits) m) bits_bytes m h)

same_forms : (f g : ℕ → Bool) → ((k : ℕ) → k < 8 → f k ≡ g k) → sum_bits f form_bits ≡ sum_bits g form_bits
same_forms f g h =
    let a = h 0 (lit< tt) in
    let b = h 1 (lit< tt) in
    let c = h 2 (lit< tt) in
    let d = h 3 (lit< tt) in
    let p = h 4 (lit< tt) in
    let q = h 5 (lit< tt) in
    let r = h 6 (lit< tt) in
    let s = h 7 (lit< tt) in
    λ i. bit_if (a i) 0 + (bit_if (b i) 1 + (bit_if (c i) 2 + (bit_if (d i) 3 + (bit_if (p i) 4 + (bit_if (q i) 5 + (bit_if (r i) 6 + (bit_if (s i) 7 + 0)))))))

module _ (e : KeptEvent) where
  bits_list : (k : ℕ) (ks : List ℕ) → all well_named ks ≡ true → any (lists_form k) (map (modifier_of e) ks) ≡ false
  bits_list k [] w = refl
  bits_list k (j ∷ ks) w =
      ap₂ ◌||◌ (ap (is_form k (not (bit j e.set))) (well_named_lem j (both_left (well_named j) (all well_named ks) w)).stands)
      (bits_list k ks (both_right (well_named j) (all well_named ks) w))

  list_forms : (k : ℕ) → k < 8 → any (lists_form k) (written_modifiers e) ≡ bit k e.names
  list_forms k h =
      any_append (lists_form k) (map (modifier_of e) (bits_of e)) (name_modifiers e)
      ∙ ap (λ (b : Bool). b || any (lists_form k) (name_modifiers e)) (bits_list k (bits_of e) (bits_named e))
      ∙ any_append (lists_form k) (map form_modifier (written_forms e)) (keysym_modifiers (slots e.keysyms))
      ∙ ap₂ ◌||◌ (forms_list k (written_forms e) (forms_below (λ j. bit j e.names))) (no_keysym_lem (lists_form k) (λ s t. refl) (slots e.keysyms))
      ∙ or-false (any (λ j. eqb j k) (written_forms e))
      ∙ any_those (λ j. eqb j k) (λ j. bit j e.names) form_order
      ∙ any_at (λ j. bit j e.names) k form_order
      ∙ ap (λ (b : Bool). bit k e.names && b) (form_ordered k h)
      ∙ and-true (bit k e.names)

  adds_no_form : (c : Bool) (k : ℕ) → adds_form (cond c Added.AnyButton Added.Nothing) k ≡ false
  adds_no_form true k = refl
  adds_no_form false k = refl

  pub names_same : e.names < 256 → names_mask (list_of e) (type_of e.code e.clause).added ≡ e.names
  unfolding names_mask list_of
  names_same h =
      same_forms (λ k. any (lists_form k) (written_modifiers e) || adds_form (type_of e.code e.clause).added k) (λ k. bit k e.names)
      (λ k l. ap₂ ◌||◌ (list_forms k l) (adds_no_form e.clause k) ∙ or-false (bit k e.names))
      ∙ bits_byte e.names h

-- ---- Keysyms

abbrev AllBelow : ℕ → List ℕ → Type 0
AllBelow v [] = Unit
AllBelow v (s ∷ ss) = (marked_keysym s < v) × AllBelow v ss

below_more : (v s : ℕ) (ss : List ℕ) → AllBelow (marked_keysym s) ss → marked_keysym s < v → AllBelow v (ss ++ (s ∷ []))
below_more v s [] b h = (h, tt)
below_more v s (t ∷ ts) b h = (let l : marked_keysym t < v = omega (arith, b.0, h) in l, below_more v s ts b.1 h)

-- a keysym above all others comes last
with_last_lem : (tilde : Bool) (v : ℕ) (ss : List ℕ) → AllBelow v ss → with_keysym tilde v ss ≡ ss ++ ((v + listed_mark tilde) ∷ [])
unfolding with_keysym
with_last_lem tilde v [] b = refl
with_last_lem tilde v (s ∷ ss) b =
    rw (le-ltb v (marked_keysym s) (omega (arith, b.0)), ne_eqb v (marked_keysym s) (λ q. omega (arith, b.0)))
    (ap {B = List ℕ} (λ x. s ∷ x) (with_last_lem tilde v ss b.1))

-- and takes its second mark there
with_both_lem : (v : ℕ) (ss : List ℕ) → v < 0x20000000 → AllBelow v ss
    → with_keysym true v (ss ++ ((v + 0x20000000) ∷ [])) ≡ ss ++ ((v + 0x20000000 + 0x40000000) ∷ [])
unfolding with_keysym
with_both_lem v [] h b =
    let m : (v + 0x20000000) % 0x20000000 ≡ v = omega arith in
    let n : (v + 0x20000000) / 0x40000000 % 2 ≡ 0 = omega arith in
    rw (m, le-ltb v v (omega arith), eq-eqb v v refl, n)
with_both_lem v (s ∷ ss) h b =
    rw (le-ltb v (marked_keysym s) (omega (arith, b.0)), ne_eqb v (marked_keysym s) (λ q. omega (arith, b.0)))
    (ap {B = List ℕ} (λ x. s ∷ x) (with_both_lem v ss h b.1))

-- a modifier's keysym
with_keysym_lem : (ss : List ℕ) (s : ℕ) (tilde : Bool) → with_modifier ss (keysym_modifier s tilde) ≡ with_keysym tilde (marked_keysym s) ss
with_keysym_lem ss s tilde = ap (λ (r : DetailRead). with_read tilde r ss) (keysym_reads s)

keysyms_append : (ss : List ℕ) (ms ns : List Modifier) → keysyms_from ss (ms ++ ns) ≡ keysyms_from (keysyms_from ss ms) ns
unfolding keysyms_from
keysyms_append ss [] ns = refl
keysyms_append ss (m ∷ ms) ns = keysyms_append (with_modifier ss m) ms ns

-- a number of a keysym and its marks
marks_of_lem : (s : ℕ) → s < 0x80000000 → s % 0x20000000 + (s / 0x20000000 % 2 * 0x20000000 + s / 0x40000000 % 2 * 0x40000000) ≡ s
marks_of_lem s h =
    let x : s / 0x40000000 < 2 = omega arith in
    let y : s / 0x40000000 % 2 ≡ s / 0x40000000 = omega (arith, x) in
    let z : s / 0x20000000 / 2 ≡ s / 0x40000000 = omega arith in
    omega (arith, y, z)

unmarked : (n : ℕ) → eqb (n % 2) 1 ≡ false → n % 2 ≡ 0
unmarked n e = let q = eqb-false (n % 2) 1 e in omega arith

-- both forms of one keysym
one_keysym : (ss : List ℕ) (s : ℕ) → MarkedIn s → AllBelow (marked_keysym s) ss
    → keysyms_from ss (both_forms (is_listed false s) (is_listed true s) s) ≡ ss ++ (s ∷ [])
unfolding keysyms_from
one_keysym ss s m b = go (is_listed false s) refl (is_listed true s) refl
  where
    set : with_modifier ss (keysym_modifier s false) ≡ ss ++ ((s % 0x20000000 + 0x20000000) ∷ [])
    set = with_keysym_lem ss s false ∙ with_last_lem false (marked_keysym s) ss b

    go : (x : Bool) → is_listed false s ≡ x → (y : Bool) → is_listed true s ≡ y → keysyms_from ss (both_forms x y s) ≡ ss ++ (s ∷ [])
    go true p true q =
        let h : s % 0x20000000 < 0x20000000 = omega arith in
        let t = eqb-true (s / 0x20000000 % 2) 1 p in
        let u = eqb-true (s / 0x40000000 % 2) 1 q in
        let i : s % 0x20000000 + 0x20000000 + 0x40000000 ≡ s = omega (arith, marks_of_lem s m.1, t, u) in
        ap (λ (l : List ℕ). with_modifier l (keysym_modifier s true)) set
        ∙ with_keysym_lem (ss ++ ((s % 0x20000000 + 0x20000000) ∷ [])) s true
        ∙ with_both_lem (marked_keysym s) ss h b
        ∙ ap {B = List ℕ} (λ x. ss ++ (x ∷ [])) i
    go true p false q =
        let t = eqb-true (s / 0x20000000 % 2) 1 p in
        let u = unmarked (s / 0x40000000) q in
        let i : s % 0x20000000 + 0x20000000 ≡ s = omega (arith, marks_of_lem s m.1, t, u) in
        set ∙ ap {B = List ℕ} (λ x. ss ++ (x ∷ [])) i
    go false p true q =
        let t = unmarked (s / 0x20000000) p in
        let u = eqb-true (s / 0x40000000 % 2) 1 q in
        let i : s % 0x20000000 + 0x40000000 ≡ s = omega (arith, marks_of_lem s m.1, t, u) in
        with_keysym_lem ss s true ∙ with_last_lem true (marked_keysym s) ss b ∙ ap {B = List ℕ} (λ x. ss ++ (x ∷ [])) i
    go false p false q =
        let t = unmarked (s / 0x20000000) p in
        let u = unmarked (s / 0x40000000) q in
        absurd (omega (arith, m.0, marks_of_lem s m.1, t, u))

abbrev BelowFirst : List ℕ → List ℕ → Type 0
BelowFirst ss [] = Unit
BelowFirst ss (t ∷ ts) = AllBelow (marked_keysym t) ss

below_next : (s : ℕ) (ss ts : List ℕ) → AllBelow (marked_keysym s) ss → Above (marked_keysym s) ts → BelowFirst (ss ++ (s ∷ [])) ts
below_next s ss [] b a = tt
below_next s ss (t ∷ ts) b a = below_more (marked_keysym t) s ss b a

-- those of a rising list, after lower ones
rising_read : (ss ts : List ℕ) → Rising ts → BelowFirst ss ts → keysyms_from ss (keysym_modifiers ts) ≡ ss ++ ts
rising_read ss [] r b = unfold keysyms_from in sym (append_none ss)
  where
    append_none : (l : List ℕ) → l ++ [] ≡ l
    append_none [] = refl
    append_none (x ∷ l) = ap {B = List ℕ} (λ y. x ∷ y) (append_none l)
rising_read ss (t ∷ ts) r b =
    keysyms_append ss (both_forms (is_listed false t) (is_listed true t) t) (keysym_modifiers ts)
    ∙ ap (λ (l : List ℕ). keysyms_from l (keysym_modifiers ts)) (one_keysym ss t r.0 b)
    ∙ rising_read (ss ++ (t ∷ [])) ts r.2 (below_next t ss ts b r.1)
    ∙ append_snoc ss t ts

-- an unused slot writes nothing
slots_used : (ss : List ℕ) → length ss ≤ 4 → keysym_modifiers (slots (keysyms_in ss)) ≡ keysym_modifiers ss
slots_used [] h = refl
slots_used (a ∷ []) h = refl
slots_used (a ∷ b ∷ []) h = refl
slots_used (a ∷ b ∷ c ∷ []) h = refl
slots_used (a ∷ b ∷ c ∷ d ∷ []) h = refl
slots_used (a ∷ b ∷ c ∷ d ∷ x ∷ ss) h = absurd (omega arith)

named_none : (f : ℕ → Modifier) → ((ss : List ℕ) (k : ℕ) → with_modifier ss (f k) ≡ ss) → (ss ks : List ℕ) → keysyms_from ss (map f ks) ≡ ss
unfolding keysyms_from
named_none f h ss [] = refl
named_none f h ss (k ∷ ks) = ap (λ (l : List ℕ). keysyms_from l (map f ks)) (h ss k) ∙ named_none f h ss ks

-- it is there where the first slot is used
pub first_used : (ss : List ℕ) → Rising ss → is_empty ss ≡ eqb (get_or ss 0 0) 0
first_used [] r = refl
first_used (s ∷ ss) r = sym (ne_eqb s 0 (λ q. omega (arith, r.0.0)))

module _ (e : KeptEvent) (k : KeysymsIn e.keysyms) where
  pub keysyms_same : Rules.keysyms_of (list_of e) ≡ k.all
  unfolding Rules.keysyms_of list_of
  keysyms_same =
      keysyms_append [] (map (modifier_of e) (bits_of e)) (name_modifiers e)
      ∙ ap (λ (l : List ℕ). keysyms_from l (name_modifiers e)) (named_none (modifier_of e) (λ ss j. refl) [] (bits_of e))
      ∙ keysyms_append [] (map form_modifier (written_forms e)) (keysym_modifiers (slots e.keysyms))
      ∙ ap (λ (l : List ℕ). keysyms_from l (keysym_modifiers (slots e.keysyms))) (named_none form_modifier (λ ss j. refl) [] (written_forms e))
      ∙ ap (λ (x : Keysyms). keysyms_from [] (keysym_modifiers (slots x))) k.places
      ∙ ap (keysyms_from []) (slots_used k.all k.few)
      ∙ rising_read [] k.all k.rising (lowest k.all)
    where
      lowest : (ts : List ℕ) → BelowFirst [] ts
      lowest [] = tt
      lowest (t ∷ ts) = tt

  pub not_crowded : is_crowded (list_of e) ≡ false
  unfolding is_crowded
  not_crowded = ap (λ (l : List ℕ). ltb 4 (length l)) keysyms_same ∙ le-ltb 4 (length k.all) k.few

  pub has_names_lem : e.names < 256 → has_names (list_of e) (type_of e.code e.clause).added ≡ keeps_names e
  unfolding has_names
  has_names_lem h =
      ap₂ (λ (n : ℕ) (l : List ℕ). not (eqb n 0) || not (is_empty l)) (names_same e h) keysyms_same
      ∙ ap (λ (b : Bool). not (eqb e.names 0) || not b) (first_used k.all k.rising)
      ∙ ap (λ (x : Keysyms). not (eqb e.names 0) || not (eqb x.first 0)) (sym k.places)
