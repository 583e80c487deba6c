-- Ranges of what names and numbers stand for, each by one computed test over the rules' entries. Assumes nothing.
use Prim.Native.Nat.{ℕ, ◌≤◌, ◌<◌}
use native.Mathlib.Omega.{arith}
use mathlib.Core.Path.{◌≡◌, refl, ◌∙◌}
use mathlib.Core.Bool.{Bool, true, false, cond, ◌&&◌}
use mathlib.Core.List.{List, [], ◌∷◌}
use Rattle.std.specs.Prelude.{Option, None, Some}
use lib.Dec.{eqb, leb, ltb}
use lib.ListN.{length, drop, get_or}
use borrow.Author.Tests.{le-leb, ltb-false}
use Rattle.model.specs.Lists.{all, same, bytes}
use Rattle.model.specs.Bytes.{in_range, is_digit}
use Rattle.model.specs.Limits.{keysym_limit, small_detail_limit}
use Rattle.model.specs.Codes.{is_key, is_button, motion_notify, has_mode, mapping_notify, has_atom}
use Rattle.model.specs.Names.{Entry, first_meaning, modifier_named, type_named, modifier_entries, type_entries, protocol_entries, synonym_entries, abbreviation_entries}
use Rattle.model.specs.Latin1.{latin1_entries}
use Rattle.model.specs.Details.{digits_from, within_limit, number_in, starts_hexadecimal, leading_zero, key_detail, small_number, name_or_number, detail_named, keysym_entries, keysym_names, button_entries, motion_entries, mode_entries, request_entries}
use Rattle.model.specs.declared.events.Detail.{Detail}
use Rattle.model.specs.declared.names.Added.{Added}
use Rattle.model.specs.declared.names.TypeName.{TypeName}
use Rattle.model.specs.declared.names.ModifierName.{ModifierName}
use Rattle.model.specs.declared.names.DetailRead.{DetailRead}
use Rattle.names.specs.Table.{meanings_in}
use Rattle.numerals.proofs.Digits.{both_true}

module _ {A : Type 0} (test : A → Bool) where
  -- a test that the other meaning and every entry's meaning pass is passed by what a word stands for
  pub named_passes : (es : List (Entry A)) (other : A) (w : List ℕ) → all test (meanings_in es) ≡ true → test other ≡ true
      → test (first_meaning es other w) ≡ true
  named_passes [] other w e o = o
  named_passes (x ∷ xs) other w e o =
      go (same w (bytes x.name)) refl
      (both_true (test x.meaning) (all test (meanings_in xs)) e).0
      (named_passes xs other w (both_true (test x.meaning) (all test (meanings_in xs)) e).1 o)
    where
      go : (b : Bool) → same w (bytes x.name) ≡ b → test x.meaning ≡ true → test (first_meaning xs other w) ≡ true
          → test (cond (same w (bytes x.name)) x.meaning (first_meaning xs other w)) ≡ true
      go true q p ih = rw q p
      go false q p ih = rw q ih

  -- both branches of a choice pass
  cond_passes : (b : Bool) (x y : A) → test x ≡ true → test y ≡ true → test (cond b x y) ≡ true
  cond_passes true x y p q = p
  cond_passes false x y p q = q

-- ---- Modifiers

-- a bit is one of 0..12, a name whose bits the modifier map gives one of 0..3
abbrev pub modifier_sound : ModifierName → Bool
modifier_sound (ModifierName.Bit b) = ltb b 13
modifier_sound (ModifierName.Named n) = ltb n 4
modifier_sound ModifierName.Unknown = true

pub modifier_sound_lem : (w : List ℕ) → modifier_sound (modifier_named w) ≡ true
unfolding modifier_named
modifier_sound_lem w = named_passes modifier_sound modifier_entries ModifierName.Unknown w (unfold modifier_entries in refl) refl

-- ---- Event types

-- an added bit is one of 0..12 on codes 2..6, any button goes with motion, Meta with KeyPress
abbrev pub added_sound : ℕ → Added → Bool
added_sound code Added.Nothing = true
added_sound code (Added.Modifier b) = ltb b 13 && in_range 2 code 6
added_sound code Added.AnyButton = eqb code motion_notify
added_sound code Added.Meta = eqb code 2

-- a fixed detail is a button, 1..5, on a button event
abbrev pub fixed_sound : ℕ → Detail → Bool
fixed_sound code Detail.Unspecified = true
fixed_sound code (Detail.Value v) = is_button code && in_range 1 v 5

abbrev pub type_sound : TypeName → Bool
type_sound (TypeName.Known t) = in_range 2 t.code 34 && (added_sound t.code t.added && fixed_sound t.code t.detail)
type_sound TypeName.Unknown = true

types_test : all type_sound (meanings_in type_entries) ≡ true
unfolding type_entries protocol_entries synonym_entries abbreviation_entries
types_test = refl

pub type_sound_lem : (w : List ℕ) → type_sound (type_named w) ≡ true
unfolding type_named
type_sound_lem w = named_passes type_sound type_entries TypeName.Unknown w types_test refl

-- ---- Details

-- a value passes a test
abbrev pub passes : (ℕ → Bool) → DetailRead → Bool
passes test (DetailRead.Value v) = test v
passes test DetailRead.Unknown = true
passes test DetailRead.TooLarge = true
passes test DetailRead.NotBuilt = true

-- the details of a code: keysyms up to the limit, buttons 1..5, any other up to 255
abbrev pub detail_sound : ℕ → ℕ → Bool
detail_sound code v =
    cond (is_key code) (leb v keysym_limit) (cond (is_button code) (in_range 1 v 5) (leb v small_detail_limit))

abbrev at_most : ℕ → ℕ → Bool
at_most limit v = leb v limit

within_most : (limit : ℕ) (o : Option ℕ) → passes (at_most limit) (within_limit limit o) ≡ true
within_most limit None = refl
within_most limit (Some v) = go (ltb limit v) refl
  where
    go : (b : Bool) → ltb limit v ≡ b
        → passes (at_most limit) (cond (ltb limit v) DetailRead.TooLarge (DetailRead.Value v)) ≡ true
    go true q = rw q
    go false q = rw q (le-leb v limit (ltb-false limit v q))

number_most : (base limit : ℕ) (w : List ℕ) → passes (at_most limit) (number_in base limit w) ≡ true
unfolding number_in
number_most base limit [] = refl
number_most base limit (b ∷ bs) = within_most limit (digits_from base 0 (b ∷ bs))

keysyms_test : all (passes (at_most keysym_limit)) (meanings_in keysym_names) ≡ true
unfolding keysym_names keysym_entries latin1_entries
keysyms_test = refl

buttons_test : all (passes (λ (v : ℕ). in_range 1 v 5)) (meanings_in button_entries) ≡ true
unfolding button_entries
buttons_test = refl

motions_test : all (passes (at_most small_detail_limit)) (meanings_in motion_entries) ≡ true
unfolding motion_entries
motions_test = refl

modes_test : all (passes (at_most small_detail_limit)) (meanings_in mode_entries) ≡ true
unfolding mode_entries
modes_test = refl

requests_test : all (passes (at_most small_detail_limit)) (meanings_in request_entries) ≡ true
unfolding request_entries
requests_test = refl

key_most : (w : List ℕ) → get_or w 0 0 < 256 → passes (at_most keysym_limit) (key_detail w) ≡ true
unfolding key_detail
key_most w h =
    let t = passes (at_most keysym_limit) in
    let least : get_or w 0 0 ≤ keysym_limit = omega arith in
    cond_passes t (eqb (length w) 1) _ _ (le-leb (get_or w 0 0) keysym_limit least)
    (cond_passes t (starts_hexadecimal w) _ _ (number_most 16 keysym_limit (drop 2 w))
    (cond_passes t (eqb (get_or w 0 0) 48) _ _ (number_most 8 keysym_limit w)
    (cond_passes t (is_digit (get_or w 0 0)) _ _ (number_most 10 keysym_limit w)
    (named_passes t keysym_names DetailRead.Unknown w keysyms_test refl))))

small_most : (es : List (Entry DetailRead)) (w : List ℕ) → all (passes (at_most small_detail_limit)) (meanings_in es) ≡ true
    → passes (at_most small_detail_limit) (name_or_number es w) ≡ true
unfolding name_or_number small_number
small_most es w e =
    let t = passes (at_most small_detail_limit) in
    cond_passes t (is_digit (get_or w 0 0)) _ _
    (cond_passes t (leading_zero w) _ _ refl (number_most 10 small_detail_limit w))
    (named_passes t es DetailRead.Unknown w e refl)

-- a test may be changed for one that says the same of every value
same_test : (f g : ℕ → Bool) (r : DetailRead) → ((v : ℕ) → f v ≡ g v) → passes g r ≡ true → passes f r ≡ true
same_test f g (DetailRead.Value v) h e = h v ∙ e
same_test f g DetailRead.Unknown h e = refl
same_test f g DetailRead.TooLarge h e = refl
same_test f g DetailRead.NotBuilt h e = refl

-- the rule for a detail that is no key's and no button's
abbrev other_detail : ℕ → List ℕ → DetailRead
other_detail code w =
    cond (eqb code motion_notify) (name_or_number motion_entries w)
    (cond (has_mode code) (name_or_number mode_entries w)
    (cond (eqb code mapping_notify) (name_or_number request_entries w)
    (cond (has_atom code) DetailRead.NotBuilt DetailRead.Unknown)))

other_sound : (code : ℕ) (w : List ℕ) → passes (at_most small_detail_limit) (other_detail code w) ≡ true
other_sound code w =
    let t = passes (at_most small_detail_limit) in
    cond_passes t (eqb code motion_notify) _ _ (small_most motion_entries w motions_test)
    (cond_passes t (has_mode code) _ _ (small_most mode_entries w modes_test)
    (cond_passes t (eqb code mapping_notify) _ _ (small_most request_entries w requests_test)
    (cond_passes t (has_atom code) DetailRead.NotBuilt DetailRead.Unknown refl refl)))

-- what a word of bytes reads to is a detail of the code
pub detail_sound_lem : (code : ℕ) (w : List ℕ) → get_or w 0 0 < 256 → passes (detail_sound code) (detail_named code w) ≡ true
unfolding detail_named
detail_sound_lem code w h = go (is_key code) refl (is_button code) refl
  where
    go : (k : Bool) → is_key code ≡ k → (b : Bool) → is_button code ≡ b → passes (detail_sound code) (detail_named code w) ≡ true
    go true p b q =
        rw p (same_test (detail_sound code) (at_most keysym_limit) (key_detail w) (λ v. rw p) (key_most w h))
    go false p true q =
        rw (p, q)
        (same_test (detail_sound code) (λ v. in_range 1 v 5) (first_meaning button_entries DetailRead.Unknown w) (λ v. rw (p, q))
        (named_passes (passes (λ v. in_range 1 v 5)) button_entries DetailRead.Unknown w buttons_test refl))
    go false p false q =
        rw (p, q) (same_test (detail_sound code) (at_most small_detail_limit) (other_detail code w) (λ v. rw (p, q)) (other_sound code w))
