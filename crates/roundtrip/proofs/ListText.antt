-- The text of a modifier list is that of its modifiers, and each can be read.
use Prim.Native.Nat.{ℕ}
use mathlib.Core.Path.{◌≡◌, refl, ap, ap₂, ◌∙◌}
use mathlib.Core.Bool.{Bool, true, false, cond, not, ◌&&◌}
use mathlib.Core.List.{List, [], ◌∷◌, ◌++◌, map, append-nil, append_assoc}
use lib.Dec.{ltb}
use borrow.Author.Tests.{ltb-true}
use Rattle.model.specs.Lists.{bytes, all, those}
use Rattle.model.specs.Modifiers.{bit}
use Rattle.model.specs.Named.{marked_keysym, is_listed}
use Rattle.model.specs.Events.{Modifier, name, keysym}
use Rattle.model.specs.Canonical.{each, bit_text, bit_texts, long_name, form_texts, name_texts, hexadecimal, keysym_texts, names_texts}
use Rattle.model.specs.declared.events.KeptEvent.{KeptEvent}
use Rattle.modifiers.proofs.Below.{both_left, both_right}
use Rattle.grammar.specs.Bytes.{letter_or_digit}
use Rattle.grammar.specs.Tokens.{is_some}
use Rattle.grammar.specs.Modifiers.{is_lone_name}
use Rattle.roundtrip.proofs.Lists.{choose, all_append}
use Rattle.roundtrip.proofs.Numbers.{hexadecimal_word}
use Rattle.roundtrip.proofs.Names.{well_named, well_named_lem, bits_named, form_named_lem, forms_below}
use Rattle.roundtrip.proofs.Written.{modifier_of, bits_of, form_modifier, written_forms, keysym_modifier, both_forms, keysym_modifiers, slots, name_modifiers, written_modifiers}

abbrev pub modifier_text : Modifier → List ℕ
modifier_text (name true w) = bytes "~" ++ w
modifier_text (name false w) = w
modifier_text (keysym true w) = bytes "~" ++ (bytes "@" ++ w)
modifier_text (keysym false w) = bytes "@" ++ w

-- ---- Texts

module _ {A B : Type 0} where
  each_map : (w : B → List ℕ) (v : A → List ℕ) (f : A → B) → ((x : A) → w (f x) ≡ v x) → (xs : List A) → each w (map f xs) ≡ each v xs
  each_map w v f h [] = refl
  each_map w v f h (x ∷ xs) = ap₂ {C = List (List ℕ)} (λ a b. a ∷ b) (h x) (each_map w v f h xs)

module _ {A : Type 0} where
  each_append : (w : A → List ℕ) (xs ys : List A) → each w (xs ++ ys) ≡ each w xs ++ each w ys
  each_append w [] ys = refl
  each_append w (x ∷ xs) ys = ap {B = List (List ℕ)} (λ a. w x ∷ a) (each_append w xs ys)

-- the two forms of a name, and what follows them
two_forms : (test : ℕ → Bool) (i j : ℕ) (text : List ℕ) (js : List ℕ) (rest : List (List ℕ)) → modifier_text (form_modifier i) ≡ text
    → modifier_text (form_modifier j) ≡ bytes "~" ++ text → each modifier_text (map form_modifier (those test js)) ≡ rest
    → each modifier_text (map form_modifier (those test (i ∷ j ∷ js))) ≡ form_texts (test i) (test j) text ++ rest
two_forms test i j text js rest p q r = go (test i) (test j)
  where
    go : (a b : Bool)
        → each modifier_text (map form_modifier (cond a (i ∷ cond b (j ∷ those test js) (those test js)) (cond b (j ∷ those test js) (those test js))))
        ≡ form_texts a b text ++ rest
    go true true = rw (p, q, r)
    go true false = rw (p, r)
    go false true = rw (q, r)
    go false false = r

both_texts : (a b : Bool) (s : ℕ) → each modifier_text (both_forms a b s) ≡ form_texts a b (bytes "@" ++ hexadecimal (marked_keysym s))
both_texts true true s = refl
both_texts true false s = refl
both_texts false true s = refl
both_texts false false s = refl

keysym_texts_lem : (s : ℕ) (ss : List ℕ) (rest : List (List ℕ)) → each modifier_text (keysym_modifiers ss) ≡ rest
    → each modifier_text (keysym_modifiers (s ∷ ss)) ≡ keysym_texts s ++ rest
keysym_texts_lem s ss rest r =
    each_append modifier_text (both_forms (is_listed false s) (is_listed true s) s) (keysym_modifiers ss)
    ∙ ap₂ {C = List (List ℕ)} (λ a b. a ++ b) (both_texts (is_listed false s) (is_listed true s) s) r

module _ (e : KeptEvent) where
  bit_text_lem : (k : ℕ) → modifier_text (modifier_of e k) ≡ bit_text e k
  bit_text_lem k = choose (bit k e.set) (λ q. rw q) (λ q. rw q)

  abbrev keysym_rest : List (List ℕ)
  keysym_rest =
      keysym_texts e.keysyms.first
      ++ (keysym_texts e.keysyms.second ++ (keysym_texts e.keysyms.third ++ keysym_texts e.keysyms.fourth))

  slots_texts : each modifier_text (keysym_modifiers (slots e.keysyms)) ≡ keysym_rest
  slots_texts =
      let k = e.keysyms in
      keysym_texts_lem k.first (k.second ∷ k.third ∷ k.fourth ∷ []) _
      (keysym_texts_lem k.second (k.third ∷ k.fourth ∷ []) _
      (keysym_texts_lem k.third (k.fourth ∷ []) _ (keysym_texts_lem k.fourth [] [] refl ∙ append-nil (keysym_texts k.fourth))))

  forms_texts : each modifier_text (map form_modifier (written_forms e)) ≡ name_texts e 0 ++ (name_texts e 1 ++ (name_texts e 2 ++ name_texts e 3))
  forms_texts =
      let t : ℕ → Bool = λ k. bit k e.names in
      two_forms t 0 4 (long_name 0) (1 ∷ 5 ∷ 2 ∷ 6 ∷ 3 ∷ 7 ∷ []) _ refl refl
      (two_forms t 1 5 (long_name 1) (2 ∷ 6 ∷ 3 ∷ 7 ∷ []) _ refl refl
      (two_forms t 2 6 (long_name 2) (3 ∷ 7 ∷ []) _ refl refl (two_forms t 3 7 (long_name 3) [] [] refl refl refl ∙ append-nil (name_texts e 3))))

  pub list_texts : each modifier_text (written_modifiers e) ≡ bit_texts e ++ names_texts e
  unfolding bit_texts names_texts
  list_texts =
      each_append modifier_text (map (modifier_of e) (bits_of e)) (name_modifiers e)
      ∙ ap₂ {C = List (List ℕ)} (λ a b. a ++ b) (each_map modifier_text (bit_text e) (modifier_of e) bit_text_lem (bits_of e))
      (each_append modifier_text (map form_modifier (written_forms e)) (keysym_modifiers (slots e.keysyms))
      ∙ ap₂ {C = List (List ℕ)} (λ a b. a ++ b) forms_texts slots_texts
      ∙ append_assoc (name_texts e 0) (name_texts e 1 ++ (name_texts e 2 ++ name_texts e 3)) keysym_rest
      ∙ ap {B = List (List ℕ)} (λ x. name_texts e 0 ++ x)
      (append_assoc (name_texts e 1) (name_texts e 2 ++ name_texts e 3) keysym_rest
      ∙ ap {B = List (List ℕ)} (λ x. name_texts e 1 ++ x) (append_assoc (name_texts e 2) (name_texts e 3) keysym_rest)))

-- ---- What can be read

-- a word of letters and digits, and neither `None` nor `Any`
abbrev pub well_written : Modifier → Bool
well_written (name tilde w) = is_some w && (all letter_or_digit w && not (is_lone_name (name tilde w)))
well_written (keysym tilde w) = is_some w && all letter_or_digit w

forms_written : (ks : List ℕ) → all (λ k. ltb k 8) ks ≡ true → all well_written (map form_modifier ks) ≡ true
forms_written [] b = refl
forms_written (k ∷ ks) b =
    let n = form_named_lem k (ltb-true k 8 (both_left (ltb k 8) (all (λ j. ltb j 8) ks) b)) in
    ap₂ ◌&&◌ (ap₂ ◌&&◌ n.some (ap₂ ◌&&◌ n.letters n.plain)) (forms_written ks (both_right (ltb k 8) (all (λ j. ltb j 8) ks) b))

keysym_written : (s : ℕ) (tilde : Bool) → well_written (keysym_modifier s tilde) ≡ true
keysym_written s tilde = hexadecimal_word (marked_keysym s)

both_written : (a b : Bool) (s : ℕ) → all well_written (both_forms a b s) ≡ true
both_written true true s = ap₂ (λ (x y : Bool). x && (y && true)) (keysym_written s false) (keysym_written s true)
both_written true false s = ap (λ (x : Bool). x && true) (keysym_written s false)
both_written false true s = ap (λ (x : Bool). x && true) (keysym_written s true)
both_written false false s = refl

keysyms_written : (ss : List ℕ) → all well_written (keysym_modifiers ss) ≡ true
keysyms_written [] = refl
keysyms_written (s ∷ ss) =
    all_append well_written (both_forms (is_listed false s) (is_listed true s) s) (keysym_modifiers ss)
    (both_written (is_listed false s) (is_listed true s) s) (keysyms_written ss)

module _ (e : KeptEvent) where
  bits_written : (ks : List ℕ) → all well_named ks ≡ true → all well_written (map (modifier_of e) ks) ≡ true
  bits_written [] w = refl
  bits_written (k ∷ ks) w =
      let n = well_named_lem k (both_left (well_named k) (all well_named ks) w) in
      ap₂ ◌&&◌ (ap₂ ◌&&◌ n.some (ap₂ ◌&&◌ n.letters n.plain)) (bits_written ks (both_right (well_named k) (all well_named ks) w))

  pub list_written : all well_written (written_modifiers e) ≡ true
  list_written =
      all_append well_written (map (modifier_of e) (bits_of e)) (name_modifiers e) (bits_written (bits_of e) (bits_named e))
      (all_append well_written (map form_modifier (written_forms e)) (keysym_modifiers (slots e.keysyms))
      (forms_written (written_forms e) (forms_below (λ k. bit k e.names))) (keysyms_written (slots e.keysyms)))
