-- The grammar derives the canonical text of an event.
use Prim.Native.Nat.{ℕ, ◌≤◌}
use Prim.Native.Char.{code}
use mathlib.Core.Path.{◌≡◌, refl, sym, ap, ap₂, ◌∙◌}
use mathlib.Core.Bool.{Bool, true, false, cond, not, ◌&&◌, ◌||◌, false≢true}
use mathlib.Core.List.{List, [], ◌∷◌, ◌++◌, append_assoc}
use Rattle.std.specs.Prelude.{Some}
use lib.Dec.{eqb, ltb}
use lib.Seq.{append_snoc}
use borrow.Author.Tests.{not-true}
use Rattle.model.specs.Lists as Lists
use Rattle.model.specs.Lists.{bytes, all}
use Rattle.model.specs.Bytes.{is_code}
use Rattle.model.specs.Events as Written
use Rattle.model.specs.Canonical.{joined_by, each, writes_bang, bit_texts, names_texts, list_text, modifiers_text, type_text, detail_text, decimal, count_text, event_text}
use Rattle.model.specs.declared.events.Detail.{Detail}
use Rattle.model.specs.declared.events.KeptEvent.{KeptEvent}
use Rattle.modifiers.proofs.Below.{both_left, both_right}
use Rattle.grammar.specs.Bytes.{blank, letter, letter_or_digit, is_digit_sign, keysym_byte, detail_byte}
use Rattle.grammar.specs.Tokens.{begins_with, Optional, is_some}
use Rattle.grammar.specs.Modifiers.{is_lone_name, parts, DerivesModifierName, DerivesModifier, DerivesModifiers, DerivesModifierList}
use Rattle.grammar.specs.Events as Grammar
use Rattle.grammar.proofs.Places.{kind_not}
use Rattle.roundtrip.proofs.Lists.{choose, all_mono, begins_not}
use Rattle.roundtrip.proofs.Names.{type_of, WellTyped, well_typed}
use Rattle.roundtrip.proofs.Numbers.{OneDigit, one_digit}
use Rattle.roundtrip.proofs.Details.{detail_reads}
use Rattle.roundtrip.proofs.Kept.{DetailFits, KeptWell}
use Rattle.roundtrip.proofs.Written.{written_modifiers, list_of, count_of, written_of}
use Rattle.roundtrip.proofs.ListText.{modifier_text, list_texts, well_written, list_written}
use Rattle.roundtrip.proofs.Joined.{behind, joined_behind, joined_none, run, word, no_blanks, sign_after, sign}

-- ---- Bytes

letter_not : (c : ℕ) → letter_or_digit c ≡ false → (b : ℕ) → letter_or_digit b ≡ true → eqb b c ≡ false
letter_not c e b p = kind_not letter_or_digit c e b p

pub letter_blank : (b : ℕ) → letter_or_digit b ≡ true → blank b ≡ false
letter_blank b p = ap₂ ◌||◌ (letter_not 32 refl b p) (letter_not 9 refl b p)

letter_bracket : (b : ℕ) → letter_or_digit b ≡ true → is_code b "(" ≡ false
letter_bracket b p = letter_not (code "(") refl b p

letter_detail : (b : ℕ) → letter_or_digit b ≡ true → detail_byte b ≡ true
letter_detail b p =
    ap not (ap₂ ◌||◌ (ap₂ ◌||◌ (ap₂ ◌||◌ (letter_blank b p) (letter_not (code ",") refl b p)) (letter_not (code ":") refl b p)) (letter_not 10 refl b p))

digit_letter : (b : ℕ) → is_digit_sign b ≡ true → letter_or_digit b ≡ true
digit_letter b p = rw p (or_any (letter b))
  where
    or_any : (a : Bool) → (a || true) ≡ true
    or_any true = refl
    or_any false = refl

-- what may follow an event: a comma or a colon
pub record Ends (r : List ℕ) : Type 0 where
  pub detail : begins_with detail_byte r ≡ false
  pub blank : begins_with blank r ≡ false
  pub bracket : begins_with (λ b. is_code b "(") r ≡ false

-- ---- Detail

detail_letters : (code : ℕ) (d : Detail) → DetailFits code d → all letter_or_digit (detail_text code d) ≡ true
detail_letters code Detail.Unspecified f = refl
detail_letters code (Detail.Value v) f = (detail_reads code v f.0 f.1).letters

all_detail : (w : List ℕ) → all letter_or_digit w ≡ true → all detail_byte w ≡ true
all_detail [] p = refl
all_detail (b ∷ w) p =
    ap₂ ◌&&◌ (letter_detail b (both_left (letter_or_digit b) (all letter_or_digit w) p))
    (all_detail w (both_right (letter_or_digit b) (all letter_or_digit w) p))

derive_detail : (d r : List ℕ) → all letter_or_digit d ≡ true → Ends r → Grammar.DerivesDetail (d ++ r) d r
derive_detail d r a e =
    Grammar.DerivesDetail.detail (no_blanks (d ++ r) (begins_not letter_or_digit blank letter_blank d r a e.blank))
    (run detail_byte d r (all_detail d a) e.detail)

-- ---- Count

counted : (w r : List ℕ) → all is_digit_sign w ≡ true → is_some w ≡ true
    → Grammar.OptionalCount (code "(" ∷ (w ++ (code ")" ∷ r))) (Some (record { digits = w; plus = false })) r
counted w r a s =
    Grammar.OptionalCount.present (sign "(" (w ++ (code ")" ∷ r)) refl)
    (no_blanks (w ++ (code ")" ∷ r)) (begins_not is_digit_sign blank (λ b p. letter_blank b (digit_letter b p)) w (code ")" ∷ r) a refl))
    (word is_digit_sign w (code ")" ∷ r) a s refl)
    (Optional.missing (no_blanks (code ")" ∷ r) refl))
    (sign ")" r refl)

derive_count : (n : ℕ) (r : List ℕ) → 1 ≤ n → n ≤ 9 → begins_with blank r ≡ false → begins_with (λ b. is_code b "(") r ≡ false
    → Grammar.OptionalCount (count_text n ++ r) (count_of n) r
unfolding count_text count_of
derive_count n r low high b c =
    let d : OneDigit n = one_digit n low high in
    choose (ltb 1 n)
    (λ q.
    rw (q, append_snoc (decimal n) (code ")") r)
    (counted (decimal n) r d.digits d.some))
    (λ q. rw q (Grammar.OptionalCount.absent (no_blanks r b) c))

-- ---- Type

derive_type : (w r : List ℕ) → all letter_or_digit w ≡ true → is_some w ≡ true
    → Grammar.DerivesEventType (code "<" ∷ (w ++ (code ">" ∷ r))) w r
derive_type w r a s =
    Grammar.DerivesEventType.event_type (sign "<" (w ++ (code ">" ∷ r)) refl)
    (no_blanks (w ++ (code ">" ∷ r)) (begins_not letter_or_digit blank letter_blank w (code ">" ∷ r) a refl))
    (word letter_or_digit w (code ">" ∷ r) a s refl)
    (sign ">" r refl)

-- ---- Modifiers

letter_keysym : (b : ℕ) → letter_or_digit b ≡ true → keysym_byte b ≡ true
letter_keysym b p = rw p

all_keysym : (w : List ℕ) → all letter_or_digit w ≡ true → all keysym_byte w ≡ true
all_keysym w p = all_mono letter_or_digit keysym_byte letter_keysym w p

-- what may follow a modifier: a blank or `<`
record Parted (r : List ℕ) : Type 0 where
  name : begins_with letter_or_digit r ≡ false
  keysym : begins_with keysym_byte r ≡ false

derive_name : (tilde : Bool) (w bs r : List ℕ) → is_some w ≡ true → all letter_or_digit w ≡ true → all blank bs ≡ true → Parted r
    → DerivesModifierName tilde (bs ++ (w ++ r)) (Written.Modifier.name tilde w) r
derive_name tilde w bs r s p a b =
    DerivesModifierName.name (record { blanks = bs; run = run blank bs (w ++ r) a (name_blank w p s) }) (word letter_or_digit w r p s b.name)
  where
    name_blank : (w : List ℕ) → all letter_or_digit w ≡ true → is_some w ≡ true → begins_with blank (w ++ r) ≡ false
    name_blank [] p s = absurd (false≢true s)
    name_blank (c ∷ w) p s = letter_blank c (both_left (letter_or_digit c) (all letter_or_digit w) p)

derive_keysym : (tilde : Bool) (w bs r : List ℕ) → is_some w ≡ true → all letter_or_digit w ≡ true → all blank bs ≡ true → Parted r
    → DerivesModifierName tilde (bs ++ (code "@" ∷ (w ++ r))) (Written.Modifier.keysym tilde w) r
derive_keysym tilde w bs r s p a b =
    DerivesModifierName.keysym (sign_after "@" bs (w ++ r) a refl) (word keysym_byte w r (all_keysym w p) s b.keysym)

derive_modifier : (m : Written.Modifier) (bs r : List ℕ) → well_written m ≡ true → all blank bs ≡ true → Parted r
    → DerivesModifier (bs ++ (modifier_text m ++ r)) m r
derive_modifier (Written.Modifier.name true w) bs r h a b =
    let l : Bool = all letter_or_digit w in
    let n : Bool = not (is_lone_name (Written.Modifier.name true w)) in
    DerivesModifier.tilde (sign_after "~" bs (w ++ r) a refl)
    (derive_name true w [] r (both_left (is_some w) (l && n) h) (both_left l n (both_right (is_some w) (l && n) h)) refl b)
derive_modifier (Written.Modifier.name false w) bs r h a b =
    let l : Bool = all letter_or_digit w in
    let n : Bool = not (is_lone_name (Written.Modifier.name false w)) in
    DerivesModifier.plain (derive_name false w bs r (both_left (is_some w) (l && n) h) (both_left l n (both_right (is_some w) (l && n) h)) a b)
derive_modifier (Written.Modifier.keysym true w) bs r h a b =
    DerivesModifier.tilde (sign_after "~" bs (code "@" ∷ (w ++ r)) a refl)
    (derive_keysym true w [] r (both_left (is_some w) (all letter_or_digit w) h) (both_right (is_some w) (all letter_or_digit w) h) refl b)
derive_modifier (Written.Modifier.keysym false w) bs r h a b =
    DerivesModifier.plain
    (derive_keysym false w bs r (both_left (is_some w) (all letter_or_digit w) h) (both_right (is_some w) (all letter_or_digit w) h) a b)

-- the first byte of a list is a letter, `~`, `@` or `<`
abbrev starts : ℕ → Bool
starts b = letter_or_digit b || (is_code b "~" || (is_code b "@" || is_code b "<"))

module _ (r : List ℕ) where
  abbrev rest : List Written.Modifier → List ℕ
  rest ms = behind (bytes " ") (each modifier_text ms) ++ (code "<" ∷ r)

  rest_parts : (ms : List Written.Modifier) → begins_with parts (rest ms) ≡ true
  rest_parts [] = refl
  rest_parts (m ∷ ms) = refl

  rest_stops : (ms : List Written.Modifier) → Parted (rest ms)
  rest_stops [] = record { name = refl; keysym = refl }
  rest_stops (m ∷ ms) = record { name = refl; keysym = refl }

  -- those behind the first
  derive_rest : (ms : List Written.Modifier) → all well_written ms ≡ true → DerivesModifiers (rest ms) ms (code "<" ∷ r)
  derive_rest [] w = DerivesModifiers.none
  derive_rest (m ∷ ms) w =
      let d : DerivesModifier (bytes " " ++ (modifier_text m ++ rest ms)) m (rest ms) =
      derive_modifier m (bytes " ") (rest ms) (both_left (well_written m) (all well_written ms) w) refl (rest_stops ms) in
      rw (append_assoc (modifier_text m) (behind (bytes " ") (each modifier_text ms)) (code "<" ∷ r))
      (DerivesModifiers.more d (rest_parts ms) (derive_rest ms (both_right (well_written m) (all well_written ms) w)))

  abbrev all_texts : List Written.Modifier → List ℕ
  all_texts ms = joined_by (bytes " ") (each modifier_text ms) ++ (code "<" ∷ r)

  first_text : (m : Written.Modifier) (ms : List Written.Modifier) → all_texts (m ∷ ms) ≡ modifier_text m ++ rest ms
  first_text m ms =
      ap {B = List ℕ} (λ x. x ++ (code "<" ∷ r)) (joined_behind (bytes " ") (modifier_text m) (each modifier_text ms))
      ∙ append_assoc (modifier_text m) (behind (bytes " ") (each modifier_text ms)) (code "<" ∷ r)

  derive_all : (ms : List Written.Modifier) → all well_written ms ≡ true → DerivesModifiers (all_texts ms) ms (code "<" ∷ r)
  derive_all [] w = rw (joined_none (bytes " ")) DerivesModifiers.none
  derive_all (m ∷ ms) w =
      rw (first_text m ms)
      (DerivesModifiers.more (derive_modifier m [] (rest ms) (both_left (well_written m) (all well_written ms) w) refl (rest_stops ms)) (rest_parts ms)
      (derive_rest ms (both_right (well_written m) (all well_written ms) w)))

  name_starts_lem : (w m : List ℕ) → all letter_or_digit w ≡ true → is_some w ≡ true → begins_with starts (w ++ m) ≡ true
  name_starts_lem [] m p s = absurd (false≢true s)
  name_starts_lem (c ∷ w) m p s = rw (both_left (letter_or_digit c) (all letter_or_digit w) p)

  modifier_starts : (m : Written.Modifier) (k : List ℕ) → well_written m ≡ true → begins_with starts (modifier_text m ++ k) ≡ true
  modifier_starts (Written.Modifier.name true w) k h = refl
  modifier_starts (Written.Modifier.name false w) k h =
      let l : Bool = all letter_or_digit w in
      let n : Bool = not (is_lone_name (Written.Modifier.name false w)) in
      name_starts_lem w k (both_left l n (both_right (is_some w) (l && n) h)) (both_left (is_some w) (l && n) h)
  modifier_starts (Written.Modifier.keysym true w) k h = refl
  modifier_starts (Written.Modifier.keysym false w) k h = refl

  texts_start : (ms : List Written.Modifier) → all well_written ms ≡ true → begins_with starts (all_texts ms) ≡ true
  texts_start [] w = rw (joined_none (bytes " "))
  texts_start (m ∷ ms) w = rw (first_text m ms) (modifier_starts m (rest ms) (both_left (well_written m) (all well_written ms) w))

  begins_blank : (m : List ℕ) → begins_with starts m ≡ true → begins_with blank m ≡ false
  begins_blank [] p = refl
  begins_blank (b ∷ m) p = ap₂ ◌||◌ (kind_not starts 32 refl b p) (kind_not starts 9 refl b p)

  derive_colon : (c : Bool) (m : List ℕ) → begins_with starts m ≡ true → Optional ":" (cond c (bytes ":") [] ++ m) c m
  derive_colon true m p = Optional.there (sign ":" m refl)
  derive_colon false m p = Optional.missing (no_blanks m (begins_blank m p))

  derive_bang : (b c : Bool) (m : List ℕ) → begins_with starts m ≡ true
      → Optional "!" (cond b (bytes "!") [] ++ (cond c (bytes ":") [] ++ m)) b (cond c (bytes ":") [] ++ m)
  derive_bang true c m p = Optional.there (sign "!" (cond c (bytes ":") [] ++ m) refl)
  derive_bang false true m p = Optional.missing (no_blanks (code ":" ∷ m) refl)
  derive_bang false false m p = Optional.missing (no_blanks m (begins_blank m p))

  not_alone : (m : Written.Modifier) → well_written m ≡ true → is_lone_name m ≡ false
  not_alone (Written.Modifier.name tilde w) h =
      let l : Bool = all letter_or_digit w in
      let n : Bool = not (is_lone_name (Written.Modifier.name tilde w)) in
      not-true (is_lone_name (Written.Modifier.name tilde w)) (both_right l n (both_right (is_some w) (l && n) h))
  not_alone (Written.Modifier.keysym tilde w) h = refl

  none_alone : (ms : List Written.Modifier) → all well_written ms ≡ true → Lists.any is_lone_name ms ≡ false
  none_alone [] w = refl
  none_alone (m ∷ ms) w =
      ap₂ ◌||◌ (not_alone m (both_left (well_written m) (all well_written ms) w)) (none_alone ms (both_right (well_written m) (all well_written ms) w))

module _ (e : KeptEvent) where
  module _ (r : List ℕ) where
    modifiers_text_lem : modifiers_text e ++ (code "<" ∷ r)
        ≡ cond (writes_bang e) (bytes "!") [] ++ (cond e.colon (bytes ":") [] ++ all_texts r (written_modifiers e))
    unfolding modifiers_text list_text
    modifiers_text_lem =
        append_assoc (cond (writes_bang e) (bytes "!") [])
        (cond e.colon (bytes ":") [] ++ joined_by (bytes " ") (bit_texts e ++ names_texts e)) (code "<" ∷ r)
        ∙ ap {B = List ℕ} (λ x. cond (writes_bang e) (bytes "!") [] ++ x)
        (append_assoc (cond e.colon (bytes ":") []) (joined_by (bytes " ") (bit_texts e ++ names_texts e)) (code "<" ∷ r)
        ∙ ap {B = List ℕ} (λ (ts : List (List ℕ)). cond e.colon (bytes ":") [] ++ (joined_by (bytes " ") ts ++ (code "<" ∷ r))) (sym (list_texts e)))

    derive_list : DerivesModifierList (modifiers_text e ++ (code "<" ∷ r)) (list_of e) (code "<" ∷ r)
    unfolding list_of
    derive_list =
        let p : begins_with starts (all_texts r (written_modifiers e)) ≡ true = texts_start r (written_modifiers e) (list_written e) in
        rw modifiers_text_lem
        (DerivesModifierList.listed (derive_bang r (writes_bang e) e.colon (all_texts r (written_modifiers e)) p) (derive_colon r e.colon (all_texts r (written_modifiers e)) p)
        (derive_all r (written_modifiers e) (list_written e)) (none_alone r (written_modifiers e) (list_written e)))

  -- ---- The event

  module _ (w : KeptWell e) (r : List ℕ) (ends : Ends r) where
    abbrev detailed : List ℕ
    detailed = detail_text e.code e.detail ++ r

    abbrev after_type : List ℕ
    after_type = count_text e.count ++ detailed

    event_text_lem : event_text e ++ r ≡ modifiers_text e ++ (code "<" ∷ (type_text e ++ (code ">" ∷ after_type)))
    unfolding event_text
    event_text_lem =
        append_assoc (modifiers_text e) (code "<" ∷ (type_text e ++ (code ">" ∷ (count_text e.count ++ detail_text e.code e.detail)))) r
        ∙ ap {B = List ℕ} (λ x. modifiers_text e ++ (code "<" ∷ x))
        (append_assoc (type_text e) (code ">" ∷ (count_text e.count ++ detail_text e.code e.detail)) r
        ∙ ap {B = List ℕ} (λ x. type_text e ++ (code ">" ∷ x)) (append_assoc (count_text e.count) (detail_text e.code e.detail) r))

    pub derive_event : Grammar.DerivesEvent (event_text e ++ r) (written_of e) r
    derive_event =
        let t : WellTyped (type_text e) (type_of e.code e.clause) =
        well_typed e w.range.code_from w.range.code_to w.sound.motion in
        let a : all letter_or_digit (detail_text e.code e.detail) ≡ true = detail_letters e.code e.detail w.sound.detail in
        rw event_text_lem
        (Grammar.DerivesEvent.event (derive_list (type_text e ++ (code ">" ∷ after_type))) (derive_type (type_text e) after_type t.letters t.some)
        (derive_count e.count detailed w.range.count_from w.range.count_to
        (begins_not letter_or_digit blank letter_blank (detail_text e.code e.detail) r a ends.blank)
        (begins_not letter_or_digit (λ b. is_code b "(") letter_bracket (detail_text e.code e.detail) r a ends.bracket))
        (derive_detail (detail_text e.code e.detail) r a ends))
