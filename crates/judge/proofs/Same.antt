-- An event judged by the value of its modifier list is judged as model's `judged_as` says.
use Prim.Native.Nat.{ℕ, ◌<◌}
use native.Mathlib.Omega.{arith}
use mathlib.Core.Path.{◌≡◌, refl, sym, ap, ap₂, ◌∙◌}
use mathlib.Core.Bool.{Bool, true, false, cond, not, ◌&&◌, ◌||◌, and_assoc}
use mathlib.Core.List.{List, [], ◌∷◌}
use lib.Dec.{lit<, eqb}
use lib.ListN.{get_or}
use borrow.Author.Tests.{ne_eqb}
use Rattle.model.specs.Lists.{any, is_empty}
use Rattle.model.specs.Numbers.{event_order, judged_number, no_refusal, past_limit}
use Rattle.model.specs.Names.{shift_bit, lock_bit, type_named}
use Rattle.model.specs.Codes.{is_key}
use Rattle.model.specs.Events.{ModifierList, Written}
use Rattle.model.specs.Named.{form_bits, lists_form, adds_form, names_mask, keysyms_of, is_crowded, keysyms_in, has_names}
use Rattle.model.specs.Modifiers.{bit, sum_bits, mask, button_bits, is_shift_or_lock, modifiers_of, no_state_meets, lists_set, lists_clear, has, has_colon, asks_others_clear, asks_set, asks_clear, adds_bit, adds_clause, set_mask, clear_mask, keeps_clause}
use Rattle.model.specs.Judging.{typed_number, judged_as, judged_written, kept_detail, count_value, kept_clear, kept_event, event_number, keep_unless, number_unless, is_unknown, is_out_of_range, is_unbuilt, is_list_not_taken, is_colon_misplaced, is_impossible}
use Rattle.model.specs.declared.events.KeptEvent.{KeptEvent}
use Rattle.model.specs.declared.names.Added.{Added}
use Rattle.model.specs.declared.names.EventType.{EventType}
use Rattle.model.specs.declared.names.TypeName.{TypeName}
use Rattle.model.specs.declared.answers.Judged.{Judged}
use Rattle.modifiers.proofs.Masks.{same_mask, bit_mask}
use Rattle.list_masks.specs.declared.lists.ListSummary.{ListSummary}
use Rattle.judge.specs.declared.events.CountSummary.{CountSummary}
use Rattle.judge.specs.declared.events.DetailSummary.{DetailSummary}
use Rattle.keysym_list.specs.Rising.{Rising}
use Rattle.list_masks.specs.Summary.{listed_forms, summary_of, set_of, clear_of, clause_of, forms_of}
use Rattle.list_masks.proofs.Forms.{same_forms, bit_forms}
use Rattle.judge.specs.Judged.{count_summary, detail_summary, has_standard_bits, colon_misplaced, parts_named, event_of_parts, kept_parts, parts_number, judged_parts}

module _ (list : ModifierList) where
  set_bit : (k : ℕ) → k < 13 → bit k (mask (lists_set list)) ≡ lists_set list k
  set_bit k h = bit_mask (lists_set list) k h

  clear_bit : (k : ℕ) → k < 13 → bit k (mask (lists_clear list)) ≡ lists_clear list k
  clear_bit k h = bit_mask (lists_clear list) k h

  has_bit_lem : (k : ℕ) → k < 13 → (bit k (mask (lists_set list)) || bit k (mask (lists_clear list))) ≡ has list k
  has_bit_lem k h = ap₂ ◌||◌ (set_bit k h) (clear_bit k h)

  pub set_same : (added : Added) → set_of (mask (lists_set list)) added ≡ set_mask list added
  unfolding set_of set_mask asks_set
  set_same added =
      same_mask (λ k. bit k (mask (lists_set list)) || adds_bit added k) (asks_set list added)
      (λ k h. ap (λ (b : Bool). b || adds_bit added k) (set_bit k h))

  pub clear_same : clear_of (summary_of list) ≡ clear_mask list
  unfolding clear_of clear_mask asks_clear summary_of
  clear_same =
      same_mask
      (λ k.
      bit k (mask (lists_clear list))
      || (asks_others_clear list
      && (not (bit k (mask (lists_set list)) || bit k (mask (lists_clear list))) && not (has_colon list && is_shift_or_lock k))))
      (asks_clear list)
      (λ k h.
      ap₂ ◌||◌ (clear_bit k h)
      (ap (λ (b : Bool). asks_others_clear list && (not b && not (has_colon list && is_shift_or_lock k))) (has_bit_lem k h)
      ∙ sym (and_assoc (asks_others_clear list) (not (has list k)) (not (has_colon list && is_shift_or_lock k)))))

  module _ (added : Added) where
    button_bit : (k : ℕ) → k < 13 → bit k (set_mask list added) ≡ asks_set list added k
    unfolding set_mask
    button_bit k h = bit_mask (asks_set list added) k h

    buttons_same : any (λ k. bit k (set_mask list added)) button_bits ≡ any (asks_set list added) button_bits
    buttons_same =
        ap₂ ◌||◌ (button_bit 8 (lit< tt))
        (ap₂ ◌||◌ (button_bit 9 (lit< tt))
        (ap₂ ◌||◌ (button_bit 10 (lit< tt))
        (ap₂ ◌||◌ (button_bit 11 (lit< tt)) (ap (λ (b : Bool). b || false) (button_bit 12 (lit< tt))))))

    pub clause_same : clause_of added (set_of (mask (lists_set list)) added) ≡ keeps_clause list added
    unfolding clause_of keeps_clause
    clause_same =
        ap (λ (m : ℕ). adds_clause added && not (any (λ k. bit k m) button_bits)) (set_same added)
        ∙ ap (λ (b : Bool). adds_clause added && not b) buttons_same

  -- ---- Names

  pub forms_same : (added : Added) → forms_of (listed_forms list) added ≡ names_mask list added
  unfolding forms_of listed_forms names_mask
  forms_same added =
      same_forms
      (λ k. bit k (sum_bits (λ j. any (lists_form j) (modifiers_of list)) form_bits) || adds_form added k)
      (λ k. any (lists_form k) (modifiers_of list) || adds_form added k)
      (λ k h. ap (λ (b : Bool). b || adds_form added k) (bit_forms (λ j. any (lists_form j) (modifiers_of list)) k h))

  -- a keysym with a mark is not 0
  none_first : (ss : List ℕ) → Rising ss → eqb (get_or ss 0 0) 0 ≡ is_empty ss
  none_first [] g = refl
  none_first (s ∷ ss) g = ne_eqb s 0 (λ e. omega (arith, g.0.0))

  pub named_same : (ty : EventType) → Rising (keysyms_of list) → parts_named (summary_of list) ty ≡ has_names list ty.added
  unfolding summary_of has_names
  named_same ty g =
      ap₂ (λ (n : ℕ) (b : Bool). not (eqb n 0) || not b) (forms_same ty.added) (none_first (keysyms_of list) g)

module _ (w : Written) (ty : EventType) where
  abbrev counted : CountSummary
  counted = count_summary ty.code w.count

  abbrev detailed : DetailSummary
  detailed = detail_summary ty w.detail

  kept_same : Rising (keysyms_of w.list) → kept_parts (summary_of w.list) ty counted detailed ≡ kept_event w ty
  unfolding kept_parts event_of_parts kept_event kept_clear summary_of count_summary detail_summary
  kept_same g =
      let n = named_same w.list ty g in
      λ i.
      record {
        code = ty.code;
        set = set_same w.list ty.added i;
        clear = cond (n i) (mask (lists_clear w.list)) (clear_same w.list i);
        colon = has_colon w.list;
        clause = clause_same w.list ty.added i;
        detail = kept_detail ty w.detail;
        count = count_value w.count;
        bang = n i && asks_others_clear w.list;
        names = forms_same w.list ty.added i;
        keysyms = keysyms_in (keysyms_of w.list);
      }

  colon_same : colon_misplaced (summary_of w.list) ty ≡ is_colon_misplaced w ty
  unfolding colon_misplaced summary_of has_standard_bits
  colon_same =
      ap₂ (λ (a b : Bool). has_colon w.list && (not (is_key ty.code) || (a || b || adds_bit ty.added shift_bit)))
      (has_bit_lem w.list shift_bit (lit< tt)) (has_bit_lem w.list lock_bit (lit< tt))

  -- "8 as if these names weren't there"
  number_same : parts_number (summary_of w.list) ty counted detailed ≡ event_number w ty
  unfolding parts_number event_number is_impossible summary_of count_summary detail_summary
  number_same =
      λ i.
      event_order (is_unknown w ty) (is_out_of_range w ty) (is_unbuilt w ty) (is_list_not_taken w ty) (colon_same i)
      (no_state_meets (set_same w.list ty.added i) (clear_same w.list i) (clause_same w.list ty.added i))

  judged_same : Rising (keysyms_of w.list)
      → judged_parts (summary_of w.list) ty counted detailed ≡ judged_as w (TypeName.Known ty)
  unfolding judged_parts summary_of
  judged_same g = λ i. keep_unless (number_same i) (is_crowded w.list) (kept_same g i)

  -- from the values of its parts
  pub judged_from : (s : ListSummary) (c : CountSummary) (d : DetailSummary) → Rising (keysyms_of w.list)
      → type_named w.type_name ≡ TypeName.Known ty
      → s ≡ summary_of w.list → c ≡ counted → d ≡ detailed → judged_parts s ty c d ≡ judged_written w
  unfolding judged_written
  judged_from s c d g e p q r = (λ i. judged_parts (p i) ty (q i) (r i)) ∙ judged_same g ∙ sym (ap (judged_as w) e)

-- ---- The number of what is judged

unless_number : (n : ℕ) (crowded : Bool) (k : KeptEvent) → judged_number (keep_unless n crowded k) ≡ number_unless n crowded
unless_number n crowded k = go (eqb n 0) crowded
  where
    go : (t c : Bool)
        → judged_number (cond t (cond c Judged.Crowded (Judged.Keep k)) (Judged.Refuse n)) ≡ cond t (cond c past_limit no_refusal) n
    go true true = refl
    go true false = refl
    go false c = refl

typed_number_lem : (w : Written) (t : TypeName) → judged_number (judged_as w t) ≡ typed_number w t
typed_number_lem w (TypeName.Known ty) = unless_number (event_number w ty) (is_crowded w.list) (kept_event w ty)
typed_number_lem w TypeName.Unknown = refl

-- both clauses of the judge's contract, from the first
pub with_number : (w : Written) (r : Judged) → r ≡ judged_written w
    → (r ≡ judged_written w) × (judged_number r ≡ typed_number w (type_named w.type_name))
unfolding judged_written
with_number w r e = (e, ap judged_number e ∙ typed_number_lem w (type_named w.type_name))
