-- The names that the canonical text has read back, by computed tests over all of them.
use Prim.Native.Nat.{ℕ, ◌+◌, ◌-◌, ◌%◌, ◌≤◌, ◌<◌}
use native.Mathlib.Omega.{arith}
use mathlib.Core.Path.{◌≡◌, refl, ap}
use mathlib.Core.Bool.{Bool, true, false, cond, not, ◌&&◌}
use mathlib.Core.List.{List, []}
use lib.Dec.{eqb, leb, ltb}
use borrow.Author.Tests.{eqb-true}
use Rattle.model.specs.Lists.{bytes, all, any, those}
use Rattle.model.specs.Names.{name_of, modifier_entries, modifier_named, protocol_entries, synonym_entries, abbreviation_entries, type_entries, type_named}
use Rattle.model.specs.Modifiers.{is_bit, is_mapped}
use Rattle.model.specs.Named.{form_bit}
use Rattle.model.specs.Judging.{fixes}
use Rattle.model.specs.Events as Written
use Rattle.model.specs.Canonical.{writing_order, bit_name, is_written_bit, long_name, is_code_of, type_text}
use Rattle.model.specs.declared.events.Detail.{Detail}
use Rattle.model.specs.declared.events.KeptEvent.{KeptEvent}
use Rattle.model.specs.declared.names.Added.{Added}
use Rattle.model.specs.declared.names.EventType.{EventType}
use Rattle.model.specs.declared.names.TypeName.{TypeName}
use Rattle.model.specs.declared.names.ModifierName.{ModifierName}
use Rattle.modifiers.proofs.Below.{every, every_at, both_left, both_right}
use Rattle.grammar.specs.Bytes.{letter_or_digit}
use Rattle.grammar.specs.Tokens.{is_some}
use Rattle.grammar.specs.Modifiers.{is_lone_name}
use Rattle.roundtrip.proofs.Lists.{choose, all_those}
use Rattle.roundtrip.proofs.Written.{form_order}

-- ---- Modifiers

-- a bit's name is a word of letters and digits that stands for the bit, and is neither `None` nor `Any`
abbrev pub well_named : ℕ → Bool
well_named k =
    is_bit k (modifier_named (bit_name k))
    && (is_some (bit_name k) && (all letter_or_digit (bit_name k) && not (is_lone_name (Written.Modifier.name false (bit_name k)))))

pub order_named : all well_named writing_order ≡ true
unfolding modifier_named bit_name modifier_entries
order_named = refl

-- so has every bit that is written
pub bits_named : (e : KeptEvent) → all well_named (those (is_written_bit e) writing_order) ≡ true
bits_named e = all_those well_named (is_written_bit e) writing_order order_named

-- every bit has its place in the order
abbrev in_order : ℕ → Bool
in_order k = any (λ j. eqb j k) writing_order

all_ordered : every 13 in_order ≡ true
unfolding every
all_ordered = refl

pub ordered : (k : ℕ) → k < 13 → any (λ j. eqb j k) writing_order ≡ true
ordered k h = every_at 13 in_order all_ordered k h

is_bit_lem : (k : ℕ) (n : ModifierName) → is_bit k n ≡ true → n ≡ ModifierName.Bit k
is_bit_lem k (ModifierName.Bit n) e = ap ModifierName.Bit (eqb-true n k e)
is_bit_lem k (ModifierName.Named n) e = let z : ◌≡◌ {A = ℕ} 0 1 = cc in absurd (omega arith)
is_bit_lem k ModifierName.Unknown e = let z : ◌≡◌ {A = ℕ} 0 1 = cc in absurd (omega arith)

pub record WellNamed (k : ℕ) : Type 0 where
  pub stands : modifier_named (bit_name k) ≡ ModifierName.Bit k
  pub some : is_some (bit_name k) ≡ true
  pub letters : all letter_or_digit (bit_name k) ≡ true
  pub plain : not (is_lone_name (Written.Modifier.name false (bit_name k))) ≡ true

pub well_named_lem : (k : ℕ) → well_named k ≡ true → WellNamed k
well_named_lem k e =
    let a : Bool = is_bit k (modifier_named (bit_name k)) in
    let b : Bool = is_some (bit_name k) in
    let c : Bool = all letter_or_digit (bit_name k) in
    let d : Bool = not (is_lone_name (Written.Modifier.name false (bit_name k))) in
    record {
      stands = is_bit_lem k (modifier_named (bit_name k)) (both_left a (b && (c && d)) e);
      some = both_left b (c && d) (both_right a (b && (c && d)) e);
      letters = both_left c d (both_right b (c && d) (both_right a (b && (c && d)) e));
      plain = both_right c d (both_right b (c && d) (both_right a (b && (c && d)) e));
    }

-- ---- Meta, Alt, Hyper, Super

-- so with the name of a form, by the form's bit
abbrev form_named : ℕ → Bool
form_named k =
    is_mapped (k % 4) (modifier_named (long_name (k % 4)))
    && (eqb (form_bit (leb 4 k) (k % 4)) k
    && (is_some (long_name (k % 4))
    && (all letter_or_digit (long_name (k % 4)) && not (is_lone_name (Written.Modifier.name false (long_name (k % 4)))))))

forms_named : every 8 form_named ≡ true
unfolding every modifier_named long_name modifier_entries
forms_named = refl

is_mapped_lem : (n : ℕ) (m : ModifierName) → is_mapped n m ≡ true → m ≡ ModifierName.Named n
is_mapped_lem n (ModifierName.Bit k) e = let z : ◌≡◌ {A = ℕ} 0 1 = cc in absurd (omega arith)
is_mapped_lem n (ModifierName.Named k) e = ap ModifierName.Named (eqb-true k n e)
is_mapped_lem n ModifierName.Unknown e = let z : ◌≡◌ {A = ℕ} 0 1 = cc in absurd (omega arith)

pub record FormNamed (k : ℕ) : Type 0 where
  pub stands : modifier_named (long_name (k % 4)) ≡ ModifierName.Named (k % 4)
  pub bit : form_bit (leb 4 k) (k % 4) ≡ k
  pub some : is_some (long_name (k % 4)) ≡ true
  pub letters : all letter_or_digit (long_name (k % 4)) ≡ true
  pub plain : not (is_lone_name (Written.Modifier.name false (long_name (k % 4)))) ≡ true

pub form_named_lem : (k : ℕ) → k < 8 → FormNamed k
form_named_lem k h =
    let e : form_named k ≡ true = every_at 8 form_named forms_named k h in
    let a : Bool = is_mapped (k % 4) (modifier_named (long_name (k % 4))) in
    let f : Bool = eqb (form_bit (leb 4 k) (k % 4)) k in
    let b : Bool = is_some (long_name (k % 4)) in
    let c : Bool = all letter_or_digit (long_name (k % 4)) in
    let d : Bool = not (is_lone_name (Written.Modifier.name false (long_name (k % 4)))) in
    let e1 : (f && (b && (c && d))) ≡ true = both_right a (f && (b && (c && d))) e in
    let e2 : (b && (c && d)) ≡ true = both_right f (b && (c && d)) e1 in
    record {
      stands = is_mapped_lem (k % 4) (modifier_named (long_name (k % 4))) (both_left a (f && (b && (c && d))) e);
      bit = eqb-true (form_bit (leb 4 k) (k % 4)) k (both_left f (b && (c && d)) e1);
      some = both_left b (c && d) e2;
      letters = both_left c d (both_right b (c && d) e2);
      plain = both_right c d (both_right b (c && d) e2);
    }

-- every form has its place in the order, and the order has forms only
in_forms : ℕ → Bool
in_forms k = any (λ j. eqb j k) form_order

all_forms : every 8 in_forms ≡ true
unfolding every in_forms
all_forms = refl

pub form_ordered : (k : ℕ) → k < 8 → any (λ j. eqb j k) form_order ≡ true
unfolding in_forms
form_ordered k h = every_at 8 in_forms all_forms k h

pub forms_below : (keep : ℕ → Bool) → all (λ k. ltb k 8) (those keep form_order) ≡ true
forms_below keep = all_those (λ k. ltb k 8) keep form_order refl

-- ---- Event types

-- what the name of a code stands for, and `BtnMotion`
abbrev pub type_of : ℕ → Bool → EventType
type_of code clause =
    record { code = code; added = cond clause Added.AnyButton Added.Nothing; detail = Detail.Unspecified }

abbrev adds_nothing : Added → Bool
adds_nothing Added.Nothing = true
adds_nothing (Added.Modifier k) = false
adds_nothing Added.AnyButton = false
adds_nothing Added.Meta = false

abbrev is_plain : ℕ → TypeName → Bool
is_plain code (TypeName.Known ty) = eqb ty.code code && (adds_nothing ty.added && not (fixes ty.detail))
is_plain code TypeName.Unknown = false

nothing_added : (a : Added) → adds_nothing a ≡ true → a ≡ Added.Nothing
nothing_added Added.Nothing e = refl
nothing_added (Added.Modifier k) e = let z : ◌≡◌ {A = ℕ} 0 1 = cc in absurd (omega arith)
nothing_added Added.AnyButton e = let z : ◌≡◌ {A = ℕ} 0 1 = cc in absurd (omega arith)
nothing_added Added.Meta e = let z : ◌≡◌ {A = ℕ} 0 1 = cc in absurd (omega arith)

nothing_fixed : (d : Detail) → not (fixes d) ≡ true → d ≡ Detail.Unspecified
nothing_fixed Detail.Unspecified e = refl
nothing_fixed (Detail.Value v) e = let z : ◌≡◌ {A = ℕ} 0 1 = cc in absurd (omega arith)

is_plain_lem : (code : ℕ) (n : TypeName) → is_plain code n ≡ true → n ≡ TypeName.Known (type_of code false)
is_plain_lem code (TypeName.Known ty) e =
    let c : Bool = eqb ty.code code in
    let a : Bool = adds_nothing ty.added in
    let d : Bool = not (fixes ty.detail) in
    let p : ty.code ≡ code = eqb-true ty.code code (both_left c (a && d) e) in
    let q : ty.added ≡ Added.Nothing = nothing_added ty.added (both_left a d (both_right c (a && d) e)) in
    let r : ty.detail ≡ Detail.Unspecified = nothing_fixed ty.detail (both_right a d (both_right c (a && d) e)) in
    λ i. TypeName.Known (record { code = p i; added = q i; detail = r i })
is_plain_lem code TypeName.Unknown e = let z : ◌≡◌ {A = ℕ} 0 1 = cc in absurd (omega arith)

abbrev pub code_name : ℕ → List ℕ
code_name code = name_of (is_code_of code) [] protocol_entries

abbrev plain_name : ℕ → Bool
plain_name code = is_plain code (type_named (code_name code)) && (is_some (code_name code) && all letter_or_digit (code_name code))

-- code 2 + k
plain_names : every 33 (λ k. plain_name (2 + k)) ≡ true
unfolding every type_named type_entries protocol_entries synonym_entries abbreviation_entries
plain_names = refl

plain_name_lem : (code : ℕ) → 2 ≤ code → code ≤ 34 → plain_name code ≡ true
plain_name_lem code low high =
    let h : code - 2 < 33 = omega arith in
    let e : 2 + (code - 2) ≡ code = omega arith in
    rw e at (every_at 33 (λ k. plain_name (2 + k)) plain_names (code - 2) h)

pub record WellTyped (word : List ℕ) (ty : EventType) : Type 0 where
  pub stands : type_named word ≡ TypeName.Known ty
  pub some : is_some word ≡ true
  pub letters : all letter_or_digit word ≡ true

code_typed : (code : ℕ) → 2 ≤ code → code ≤ 34 → WellTyped (code_name code) (type_of code false)
code_typed code low high =
    let e : plain_name code ≡ true = plain_name_lem code low high in
    let a : Bool = is_plain code (type_named (code_name code)) in
    let b : Bool = is_some (code_name code) in
    let c : Bool = all letter_or_digit (code_name code) in
    record {
      stands = is_plain_lem code (type_named (code_name code)) (both_left a (b && c) e);
      some = both_left b c (both_right a (b && c) e);
      letters = both_right b c (both_right a (b && c) e);
    }

motion_typed : WellTyped (bytes "BtnMotion") (type_of 6 true)
unfolding type_named type_entries protocol_entries synonym_entries abbreviation_entries
motion_typed = record { stands = refl; some = refl; letters = refl }

-- the canonical type of an event reads back to its code, and to the clause
pub well_typed : (e : KeptEvent) → 2 ≤ e.code → e.code ≤ 34 → (e.clause ≡ true → e.code ≡ 6)
    → WellTyped (type_text e) (type_of e.code e.clause)
unfolding type_text
well_typed e low high c =
    choose e.clause
    (λ q. rw (q, c q) motion_typed)
    (λ q. rw q (code_typed e.code low high))
