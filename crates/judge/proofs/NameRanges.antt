-- The ranges of what names stand for, by one computed test over each list of names.
use Prim.Native.Nat.{ℕ, ◌≤◌, ◌<◌}
use native.Mathlib.Omega.{arith}
use mathlib.Core.Path.{◌≡◌, refl, sym, ap, ◌∙◌}
use mathlib.Core.Bool.{Bool, true, false, cond, ◌&&◌}
use mathlib.Core.List.{List, [], ◌∷◌}
use Rattle.std.specs.Prelude.{Option, None, Some}
use lib.Dec.{leb, ltb, eqb}
use lib.ListN.{length, drop}
use borrow.Author.Tests.{leb-true, ltb-true, le-leb, ltb-false}
use Rattle.model.specs.Lists.{all, bytes, same}
use Rattle.model.specs.Limits.{keysym_limit, small_detail_limit}
use Rattle.model.specs.Bytes.{in_range, byte_at, is_digit, is_code}
use Rattle.model.specs.Codes.{is_key, is_button, motion_notify, has_mode, mapping_notify, has_atom}
use Rattle.model.specs.Names.{Entry, first_meaning, modifier_entries, modifier_named, protocol_entries, synonym_entries, abbreviation_entries, type_entries, type_named}
use Rattle.model.specs.Latin1.{latin1_entries}
use Rattle.model.specs.Details.{digits_from, within_limit, number_in, starts_hexadecimal, keysym_entries, keysym_names, key_detail, button_entries, motion_entries, mode_entries, request_entries, leading_zero, small_number, name_or_number, detail_named}
use Rattle.model.specs.declared.events.Detail.{Detail}
use Rattle.model.specs.declared.names.Added.{Added}
use Rattle.model.specs.declared.names.EventType.{EventType}
use Rattle.model.specs.declared.names.TypeName.{TypeName}
use Rattle.model.specs.declared.names.ModifierName.{ModifierName}
use Rattle.model.specs.declared.names.DetailRead.{DetailRead}
use Rattle.modifiers.proofs.Below.{both_left, both_right}
use Rattle.list_masks.specs.Summary.{NameIn, AddedIn}
use Rattle.judge.specs.Ranges.{DetailIn, TypeIn}

module _ {A : Type 0} (passes : A → Bool) where
  pub cond_passes : (b : Bool) (x y : A) → passes x ≡ true → passes y ≡ true → passes (cond b x y) ≡ true
  cond_passes true x y p q = p
  cond_passes false x y p q = q

  -- what a name stands for passes if every entry does
  named_passes : (es : List (Entry A)) (other : A) (word : List ℕ) → passes other ≡ true
      → all (λ (e : Entry A). passes e.meaning) es ≡ true → passes (first_meaning es other word) ≡ true
  named_passes [] other word o e = o
  named_passes (x ∷ es) other word o e =
      cond_passes (same word (bytes x.name)) x.meaning (first_meaning es other word)
      (both_left (passes x.meaning) (all (λ (y : Entry A). passes y.meaning) es) e)
      (named_passes es other word o (both_right (passes x.meaning) (all (λ (y : Entry A). passes y.meaning) es) e))

-- ---- Modifiers

abbrev name_passes : ModifierName → Bool
name_passes (ModifierName.Bit k) = ltb k 13
name_passes (ModifierName.Named n) = ltb n 4
name_passes ModifierName.Unknown = true

names_pass : all (λ (e : Entry ModifierName). name_passes e.meaning) modifier_entries ≡ true
unfolding modifier_entries
names_pass = refl

pub name_in : (word : List ℕ) → NameIn (modifier_named word)
unfolding modifier_named
name_in word =
    go (first_meaning modifier_entries ModifierName.Unknown word)
    (named_passes name_passes modifier_entries ModifierName.Unknown word refl names_pass)
  where
    go : (n : ModifierName) → name_passes n ≡ true → NameIn n
    go (ModifierName.Bit k) e = ltb-true k 13 e
    go (ModifierName.Named n) e = ltb-true n 4 e
    go ModifierName.Unknown e = tt

-- ---- Event types

abbrev added_passes : Added → Bool
added_passes Added.Nothing = true
added_passes (Added.Modifier k) = ltb k 13
added_passes Added.AnyButton = true
added_passes Added.Meta = true

abbrev fixed_passes : Detail → Bool
fixed_passes Detail.Unspecified = true
fixed_passes (Detail.Value v) = leb v 5

abbrev type_passes : TypeName → Bool
type_passes (TypeName.Known ty) = in_range 2 ty.code 34 && (added_passes ty.added && fixed_passes ty.detail)
type_passes TypeName.Unknown = true

types_pass : all (λ (e : Entry TypeName). type_passes e.meaning) type_entries ≡ true
unfolding protocol_entries synonym_entries abbreviation_entries type_entries
types_pass = refl

added_in : (added : Added) → added_passes added ≡ true → AddedIn added
added_in Added.Nothing e = tt
added_in (Added.Modifier k) e = ltb-true k 13 e
added_in Added.AnyButton e = tt
added_in Added.Meta e = tt

fixed_in : (detail : Detail) → fixed_passes detail ≡ true → DetailIn 5 detail
fixed_in Detail.Unspecified e = tt
fixed_in (Detail.Value v) e = leb-true v 5 e

pub type_in_lem : (word : List ℕ) (ty : EventType) → type_named word ≡ TypeName.Known ty → TypeIn ty
unfolding type_named
type_in_lem word ty e =
    let p : type_passes (TypeName.Known ty) ≡ true =
    sym (ap type_passes e) ∙ named_passes type_passes type_entries TypeName.Unknown word refl types_pass in
    let range : in_range 2 ty.code 34 ≡ true =
    both_left (in_range 2 ty.code 34) (added_passes ty.added && fixed_passes ty.detail) p in
    let rest : added_passes ty.added && fixed_passes ty.detail ≡ true =
    both_right (in_range 2 ty.code 34) (added_passes ty.added && fixed_passes ty.detail) p in
    record {
      code_from = leb-true 2 ty.code (both_left (leb 2 ty.code) (leb ty.code 34) range);
      code_to = leb-true ty.code 34 (both_right (leb 2 ty.code) (leb ty.code 34) range);
      added = added_in ty.added (both_left (added_passes ty.added) (fixed_passes ty.detail) rest);
      detail = fixed_in ty.detail (both_right (added_passes ty.added) (fixed_passes ty.detail) rest);
    }

-- ---- Details

abbrev pub read_passes : DetailRead → Bool
read_passes (DetailRead.Value v) = leb v keysym_limit
read_passes DetailRead.Unknown = true
read_passes DetailRead.TooLarge = true
read_passes DetailRead.NotBuilt = true

limit_passes : (limit : ℕ) → limit ≤ keysym_limit → (o : Option ℕ) → read_passes (within_limit limit o) ≡ true
limit_passes limit h None = refl
limit_passes limit h (Some v) = go (ltb limit v) refl
  where
    go : (b : Bool) → ltb limit v ≡ b → read_passes (cond b DetailRead.TooLarge (DetailRead.Value v)) ≡ true
    go true e = refl
    go false e = le-leb v keysym_limit (omega (arith, ltb-false limit v e))

number_passes : (base limit : ℕ) (word : List ℕ) → limit ≤ keysym_limit → read_passes (number_in base limit word) ≡ true
unfolding number_in
number_passes base limit [] h = refl
number_passes base limit (b ∷ bs) h = limit_passes limit h (digits_from base 0 (b ∷ bs))

value_passes : (es : List (Entry DetailRead)) (word : List ℕ)
    → all (λ (e : Entry DetailRead). read_passes e.meaning) es ≡ true
    → read_passes (first_meaning es DetailRead.Unknown word) ≡ true
value_passes es word e = named_passes read_passes es DetailRead.Unknown word refl e

keysyms_pass : all (λ (e : Entry DetailRead). read_passes e.meaning) keysym_names ≡ true
unfolding keysym_names keysym_entries latin1_entries
keysyms_pass = refl

pub key_passes : (word : List ℕ) → byte_at word 0 < 256 → read_passes (key_detail word) ≡ true
unfolding key_detail
key_passes word h =
    let p : leb (byte_at word 0) keysym_limit ≡ true = le-leb (byte_at word 0) keysym_limit (omega arith) in
    cond_passes read_passes (eqb (length word) 1) _ _ p
    (cond_passes read_passes (starts_hexadecimal word) _ _ (number_passes 16 keysym_limit (drop 2 word) (omega arith))
    (cond_passes read_passes (is_code (byte_at word 0) "0") _ _ (number_passes 8 keysym_limit word (omega arith))
    (cond_passes read_passes (is_digit (byte_at word 0)) _ _ (number_passes 10 keysym_limit word (omega arith))
    (value_passes keysym_names word keysyms_pass))))

small_passes : (es : List (Entry DetailRead)) (word : List ℕ)
    → all (λ (e : Entry DetailRead). read_passes e.meaning) es ≡ true → read_passes (name_or_number es word) ≡ true
unfolding name_or_number small_number
small_passes es word e =
    cond_passes read_passes (is_digit (byte_at word 0)) _ _
    (cond_passes read_passes (leading_zero word) _ _ refl (number_passes 10 small_detail_limit word (omega arith)))
    (value_passes es word e)

pub detail_passes : (code : ℕ) (word : List ℕ) → byte_at word 0 < 256 → read_passes (detail_named code word) ≡ true
unfolding detail_named button_entries motion_entries mode_entries request_entries
detail_passes code word h =
    cond_passes read_passes (is_key code) _ _ (key_passes word h)
    (cond_passes read_passes (is_button code) _ _ (value_passes button_entries word refl)
    (cond_passes read_passes (eqb code motion_notify) _ _ (small_passes motion_entries word refl)
    (cond_passes read_passes (has_mode code) _ _ (small_passes mode_entries word refl)
    (cond_passes read_passes (eqb code mapping_notify) _ _ (small_passes request_entries word refl)
    (cond_passes read_passes (has_atom code) DetailRead.NotBuilt DetailRead.Unknown refl refl)))))
