-- The value of a modifier list, built from its start, one modifier at a time.
use Prim.Native.Nat.{ℕ}
use mathlib.Core.Path.{◌≡◌, refl, sym, ap, ◌∙◌}
use mathlib.Core.Bool.{Bool, true, false, not, ◌&&◌, ◌||◌, or-false, or-true}
use mathlib.Core.List.{List, [], ◌∷◌, ◌++◌}
use lib.Dec.{eqb, ltb}
use lib.ListN.{length}
use Rattle.model.specs.Lists.{any}
use Rattle.model.specs.Limits.{keysyms_of_event_limit}
use Rattle.model.specs.Names.{modifier_named}
use Rattle.model.specs.Details.{key_detail}
use Rattle.model.specs.Modifiers.{sum_bits, mask, is_bit, lists, lists_set, lists_clear, is_written}
use Rattle.model.specs.Named.{form_bits, form_bit, is_form, lists_form, with_read, with_modifier, with_keysym, keysyms_from, keysyms_of, is_crowded, keysyms_in, no_keysyms}
use Rattle.model.specs.Events.{Modifier, name, keysym, ModifierList, listed, no_modifier, any_modifier}
use Rattle.model.specs.Judging.{name_unknown, read_unknown, read_too_large, modifier_unknown, modifier_too_large}
use Rattle.model.specs.declared.names.ModifierName.{ModifierName}
use Rattle.model.specs.declared.names.DetailRead.{DetailRead}
use Rattle.modifiers.specs.Setting.{with_bit}
use Rattle.modifiers.proofs.Masks.{same_mask, mask_below}
use Rattle.modifiers.proofs.Setting.{with_bit_mask}
use Rattle.keysym_list.specs.Slots.{keysym_slots, with_one_more}
use Rattle.keysym_list.specs.Rising.{Rising}
use Rattle.keysym_list.proofs.Same.{slots_more, slots_in}
use Rattle.list_masks.specs.declared.lists.ListSummary.{ListSummary}
use Rattle.list_masks.specs.Summary.{summary, listed_forms, summary_of, with_form, with_name, with_keysym_read, SummaryIn, KeysymReadIn}
use Rattle.list_masks.proofs.Forms.{same_forms, with_form_forms}

-- ---- Ranges

pub summary_in : (list : ModifierList) → Rising (keysyms_of list) → SummaryIn (summary_of list)
unfolding summary_of
summary_in list r =
    record { set = mask_below (lists_set list); clear = mask_below (lists_clear list); keysyms = slots_in (keysyms_of list) r }

-- ---- A modifier more

module _ {A : Type 0} (t : A → Bool) where
  pub any_last : (xs : List A) (x : A) → any t (xs ++ (x ∷ [])) ≡ (any t xs || t x)
  any_last [] x = or-false (t x)
  any_last (y ∷ xs) x = ap (λ (b : Bool). t y || b) (any_last xs x) ∙ or_assoc' (t y) (any t xs) (t x)
    where
      or_assoc' : (a b c : Bool) → (a || (b || c)) ≡ ((a || b) || c)
      or_assoc' true b c = refl
      or_assoc' false b c = refl

written_last : (bang colon : Bool) (ms : List Modifier) (m : Modifier) → is_written (listed bang colon (ms ++ (m ∷ []))) ≡ true
written_last bang colon [] m = refl
written_last bang colon (x ∷ ms) m = refl

pub keysyms_last : (ss : List ℕ) (ms : List Modifier) (m : Modifier)
    → keysyms_from ss (ms ++ (m ∷ [])) ≡ with_modifier (keysyms_from ss ms) m
unfolding keysyms_from
keysyms_last ss [] m = refl
keysyms_last ss (n ∷ ms) m = keysyms_last (with_modifier ss n) ms m

module _ (bang colon : Bool) (ms : List Modifier) where
  abbrev past : List ℕ
  past = keysyms_from [] ms

  abbrev with_last : Modifier → ListSummary
  with_last m =
      summary true bang colon (any modifier_unknown ms || modifier_unknown m) (any modifier_too_large ms || modifier_too_large m)
      (mask (λ k. any (lists false k) ms || lists false k m)) (mask (λ k. any (lists true k) ms || lists true k m))
      (sum_bits (λ k. any (lists_form k) ms || lists_form k m) form_bits)
      (keysyms_in (with_modifier past m)) (ltb keysyms_of_event_limit (length (with_modifier past m)))

  last : (m : Modifier) → summary_of (listed bang colon (ms ++ (m ∷ []))) ≡ with_last m
  unfolding summary_of lists_set lists_clear listed_forms keysyms_of is_crowded
  last m =
      let s : mask (λ k. any (lists false k) (ms ++ (m ∷ []))) ≡ mask (λ k. any (lists false k) ms || lists false k m) =
      same_mask (λ k. any (lists false k) (ms ++ (m ∷ []))) (λ k. any (lists false k) ms || lists false k m)
      (λ k _. any_last (lists false k) ms m) in
      let c : mask (λ k. any (lists true k) (ms ++ (m ∷ []))) ≡ mask (λ k. any (lists true k) ms || lists true k m) =
      same_mask (λ k. any (lists true k) (ms ++ (m ∷ []))) (λ k. any (lists true k) ms || lists true k m)
      (λ k _. any_last (lists true k) ms m) in
      let f : sum_bits (λ k. any (lists_form k) (ms ++ (m ∷ []))) form_bits
      ≡ sum_bits (λ k. any (lists_form k) ms || lists_form k m) form_bits =
      same_forms (λ k. any (lists_form k) (ms ++ (m ∷ []))) (λ k. any (lists_form k) ms || lists_form k m)
      (λ k _. any_last (lists_form k) ms m) in
      let v = keysyms_last [] ms m in
      λ i.
      summary (written_last bang colon ms m i) bang colon (any_last modifier_unknown ms m i) (any_last modifier_too_large ms m i)
      (s i) (c i) (f i) (keysyms_in (v i)) (ltb keysyms_of_event_limit (length (v i)))

  -- a bit that is not among the modifier's
  same : (t : Bool) → mask (λ k. any (lists t k) ms || false) ≡ mask (λ k. any (lists t k) ms)
  same t = same_mask (λ k. any (lists t k) ms || false) (λ k. any (lists t k) ms) (λ k _. or-false (any (lists t k) ms))

  same_names : sum_bits (λ k. any (lists_form k) ms || false) form_bits ≡ sum_bits (λ k. any (lists_form k) ms) form_bits
  same_names =
      same_forms (λ k. any (lists_form k) ms || false) (λ k. any (lists_form k) ms) (λ k _. or-false (any (lists_form k) ms))

  one_more : (t : Bool) (n : ℕ) → mask (λ k. any (lists t k) ms || eqb n k) ≡ with_bit (mask (λ k. any (lists t k) ms)) n
  one_more t n = sym (with_bit_mask (λ k. any (lists t k) ms) n)

  one_more_name : (n : ℕ)
      → sum_bits (λ k. any (lists_form k) ms || eqb n k) form_bits ≡ with_form (sum_bits (λ k. any (lists_form k) ms) form_bits) n
  one_more_name n = sym (with_form_forms (λ k. any (lists_form k) ms) n)

  known : any modifier_unknown ms || false ≡ any modifier_unknown ms
  known = or-false (any modifier_unknown ms)

  within : any modifier_too_large ms || false ≡ any modifier_too_large ms
  within = or-false (any modifier_too_large ms)

  abbrev over : Bool
  over = ltb keysyms_of_event_limit (length past)

  -- what a name with a meaning adds
  abbrev with_meaning : Bool → ModifierName → ListSummary
  with_meaning tilde n =
      summary true bang colon (any modifier_unknown ms || name_unknown n) (any modifier_too_large ms || false)
      (mask (λ k. any (lists false k) ms || (not tilde && is_bit k n))) (mask (λ k. any (lists true k) ms || (tilde && is_bit k n)))
      (sum_bits (λ k. any (lists_form k) ms || is_form k tilde n) form_bits) (keysyms_in past) over

  name_last : (tilde : Bool) (word : List ℕ) → with_last (name tilde word) ≡ with_meaning tilde (modifier_named word)
  name_last true word = refl
  name_last false word = refl

  meaning : (tilde : Bool) (n : ModifierName) → with_meaning tilde n ≡ with_name (summary_of (listed bang colon ms)) tilde n
  unfolding summary_of lists_set lists_clear listed_forms keysyms_of is_crowded with_name
  meaning true (ModifierName.Bit k) =
      λ i. summary true bang colon (known i) (within i) (same false i) (one_more true k i) (same_names i) (keysyms_in past) over
  meaning false (ModifierName.Bit k) =
      λ i. summary true bang colon (known i) (within i) (one_more false k i) (same true i) (same_names i) (keysyms_in past) over
  meaning true (ModifierName.Named n) =
      λ i.
      summary true bang colon (known i) (within i) (same false i) (same true i) (one_more_name (form_bit true n) i)
      (keysyms_in past) over
  meaning false (ModifierName.Named n) =
      λ i.
      summary true bang colon (known i) (within i) (same false i) (same true i) (one_more_name (form_bit false n) i)
      (keysyms_in past) over
  meaning true ModifierName.Unknown =
      λ i.
      summary true bang colon (or-true (any modifier_unknown ms) i) (within i) (same false i) (same true i) (same_names i)
      (keysyms_in past) over
  meaning false ModifierName.Unknown =
      λ i.
      summary true bang colon (or-true (any modifier_unknown ms) i) (within i) (same false i) (same true i) (same_names i)
      (keysyms_in past) over

  pub summary_name : (tilde : Bool) (word : List ℕ)
      → summary_of (listed bang colon (ms ++ (name tilde word ∷ [])))
      ≡ with_name (summary_of (listed bang colon ms)) tilde (modifier_named word)
  summary_name tilde word = last (name tilde word) ∙ name_last tilde word ∙ meaning tilde (modifier_named word)

  -- what a run after `@` adds
  abbrev with_reading : Bool → DetailRead → ListSummary
  with_reading tilde r =
      summary true bang colon (any modifier_unknown ms || read_unknown r) (any modifier_too_large ms || read_too_large r)
      (mask (λ k. any (lists false k) ms || false)) (mask (λ k. any (lists true k) ms || false))
      (sum_bits (λ k. any (lists_form k) ms || false) form_bits)
      (keysyms_in (with_read tilde r past)) (ltb keysyms_of_event_limit (length (with_read tilde r past)))

  reading : (tilde : Bool) (r : DetailRead) → Rising past → KeysymReadIn r
      → with_reading tilde r ≡ with_keysym_read (summary_of (listed bang colon ms)) tilde r
  unfolding summary_of lists_set lists_clear listed_forms keysyms_of is_crowded with_keysym_read
  reading tilde (DetailRead.Value v) g h =
      let e : keysym_slots (with_keysym tilde v past) ≡ with_one_more (keysyms_in past) over tilde v = sym (slots_more tilde v past g h) in
      λ i.
      summary true bang colon (known i) (within i) (same false i) (same true i) (same_names i) (e i).keysyms (e i).over
  reading tilde DetailRead.Unknown g h =
      λ i.
      summary true bang colon (or-true (any modifier_unknown ms) i) (within i) (same false i) (same true i) (same_names i)
      (keysyms_in past) over
  reading tilde DetailRead.TooLarge g h =
      λ i.
      summary true bang colon (known i) (or-true (any modifier_too_large ms) i) (same false i) (same true i) (same_names i)
      (keysyms_in past) over
  reading tilde DetailRead.NotBuilt g h =
      λ i. summary true bang colon (known i) (within i) (same false i) (same true i) (same_names i) (keysyms_in past) over

  pub summary_keysym : (tilde : Bool) (word : List ℕ) → Rising (keysyms_from [] ms) → KeysymReadIn (key_detail word)
      → summary_of (listed bang colon (ms ++ (keysym tilde word ∷ [])))
      ≡ with_keysym_read (summary_of (listed bang colon ms)) tilde (key_detail word)
  summary_keysym tilde word g h = last (keysym tilde word) ∙ reading tilde (key_detail word) g h

-- ---- Lists with no modifier

pub summary_empty : (bang colon : Bool)
    → summary_of (listed bang colon []) ≡ summary (bang || colon) bang colon false false 0 0 0 no_keysyms false
unfolding summary_of mask lists_set lists_clear listed_forms keysyms_of keysyms_from is_crowded
summary_empty bang colon = refl

pub summary_none : summary_of no_modifier ≡ summary true true false false false 0 0 0 no_keysyms false
unfolding summary_of mask lists_set lists_clear listed_forms keysyms_of keysyms_from is_crowded
summary_none = refl

pub summary_any : summary_of any_modifier ≡ summary true false false false false 0 0 0 no_keysyms false
unfolding summary_of mask lists_set lists_clear listed_forms keysyms_of keysyms_from is_crowded
summary_any = refl
