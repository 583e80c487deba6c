-- What the canonical text of a kept event derives to is judged to that event.
use Prim.Native.Nat.{ℕ, ◌≤◌}
use native.Mathlib.Omega.{arith}
use mathlib.Core.Path.{◌≡◌, refl, sym, ap, ap₂, ◌∙◌}
use mathlib.Core.Bool.{Bool, true, false, cond, not, ◌&&◌, ◌||◌, and-false}
use mathlib.Core.List.{List, [], ◌∷◌, ◌++◌, map}
use lib.Dec.{leb, ltb, lit<}
use borrow.Author.Tests.{ltb-true, ltb-false, lt-leb}
use Rattle.model.specs.Lists.{any, all, those}
use Rattle.model.specs.Numbers.{event_order}
use Rattle.model.specs.Codes.{is_key, takes_count, takes_modifiers}
use Rattle.model.specs.Names.{shift_bit, lock_bit, type_named}
use Rattle.model.specs.Details.{detail_named}
use Rattle.model.specs.Events.{Modifier, listed, event}
use Rattle.model.specs.Modifiers.{bit, button_bits, has_colon, is_written, adds_bit, adds_clause, asks_set, keeps_clause, no_state_meets}
use Rattle.model.specs.Named as Rules
use Rattle.model.specs.Named.{keysyms_in, kept_as_written}
use Rattle.model.specs.Judging.{modifier_unknown, modifier_too_large, name_unknown, read_unknown, read_too_large, any_unknown, any_too_large, detail_of, detail_unknown, detail_too_large, detail_unbuilt, kept_detail, count_bad, count_unbuilt, count_value, has_standard, is_unknown, is_out_of_range, is_unbuilt, is_list_not_taken, is_colon_misplaced, is_impossible, kept_event, event_number, keep_unless, judged_as, judged_written, judged}
use Rattle.model.specs.Canonical.{writing_order, asks_every, writes_bang, detail_text, value_text}
use Rattle.model.specs.declared.events.Detail.{Detail}
use Rattle.model.specs.declared.events.Keysyms.{Keysyms}
use Rattle.model.specs.declared.events.KeptEvent.{KeptEvent}
use Rattle.model.specs.declared.names.Added.{Added}
use Rattle.model.specs.declared.names.EventType.{EventType}
use Rattle.model.specs.declared.names.TypeName.{TypeName}
use Rattle.model.specs.declared.answers.Judged.{Judged}
use Rattle.modifiers.proofs.Below.{both_left, both_right}
use Rattle.roundtrip.proofs.Lists.{choose, any_append}
use Rattle.roundtrip.proofs.Names.{well_named, well_named_lem, bits_named, form_named_lem, type_of, well_typed}
use Rattle.roundtrip.proofs.Numbers.{OneDigit, one_digit}
use Rattle.roundtrip.proofs.Details.{Reads, detail_reads}
use Rattle.roundtrip.proofs.Kept.{DetailFits, KeptWell}
use Rattle.roundtrip.proofs.Written.{modifier_of, bits_of, form_order, form_modifier, keysym_modifiers, slots, name_modifiers, list_of, count_of, written_of}
use Rattle.roundtrip.proofs.Named.{no_name, keysym_reads, names_same, keysyms_same, not_crowded}
use Rattle.roundtrip.proofs.Asked.{set_mask_lem, clear_mask_lem, clear_same, bang_same, buttons_asked, listed_cared}

-- ---- Names

module _ (e : KeptEvent) where
  known : (ks : List ℕ) → all well_named ks ≡ true → any modifier_unknown (map (modifier_of e) ks) ≡ false
  known [] w = refl
  known (k ∷ ks) w =
      ap₂ ◌||◌ (ap name_unknown (well_named_lem k (both_left (well_named k) (all well_named ks) w)).stands)
      (known ks (both_right (well_named k) (all well_named ks) w))

  list_known : any_unknown (list_of e) ≡ false
  unfolding list_of
  list_known =
      any_append modifier_unknown (map (modifier_of e) (bits_of e)) (name_modifiers e)
      ∙ ap₂ ◌||◌ (known (bits_of e) (bits_named e))
      (no_name modifier_unknown e (λ k h. ap name_unknown (form_named_lem k h).stands) (λ s t. ap read_unknown (keysym_reads s)))

  in_range_lem : (ks : List ℕ) → any modifier_too_large (map (modifier_of e) ks) ≡ false
  in_range_lem [] = refl
  in_range_lem (k ∷ ks) = in_range_lem ks

  list_in_range : any_too_large (list_of e) ≡ false
  unfolding list_of
  list_in_range =
      any_append modifier_too_large (map (modifier_of e) (bits_of e)) (name_modifiers e)
      ∙ ap₂ ◌||◌ (in_range_lem (bits_of e)) (no_name modifier_too_large e (λ k h. refl) (λ s t. ap read_too_large (keysym_reads s)))

-- ---- Details

record DetailJudged (ty : EventType) (word : List ℕ) (d : Detail) : Type 0 where
  unknown : detail_unknown ty word ≡ false
  large : detail_too_large ty word ≡ false
  unbuilt : detail_unbuilt ty word ≡ false
  kept : kept_detail ty word ≡ d

module _ (code : ℕ) (clause : Bool) where
  detail_judged : (d : Detail) → DetailFits code d → DetailJudged (type_of code clause) (detail_text code d) d
  unfolding kept_detail detail_of
  detail_judged Detail.Unspecified f = record { unknown = refl; large = refl; unbuilt = refl; kept = refl }
  detail_judged (Detail.Value v) f =
      let r : Reads (detail_named code (value_text code v)) v (value_text code v) = detail_reads code v f.0 f.1 in
      record {
        unknown = rw (r.some, r.stands);
        large = rw (r.some, r.stands);
        unbuilt = rw (r.some, r.stands);
        kept = rw (r.some, r.stands);
      }

-- ---- Counts

record CountJudged (code n : ℕ) : Type 0 where
  bad : count_bad code (count_of n) ≡ false
  unbuilt : count_unbuilt (count_of n) ≡ false
  value : count_value (count_of n) ≡ n

count_judged : (code n : ℕ) → 1 ≤ n → n ≤ 9 → (leb n 1 || takes_count code) ≡ true → CountJudged code n
unfolding count_of
count_judged code n low high t =
    choose (ltb 1 n)
    (λ q.
    let o : OneDigit n = one_digit n low high in
    let taken : takes_count code ≡ true = rw (lt-leb n 1 (ltb-true 1 n q)) at t in
    record { bad = rw (q, taken, o.one); unbuilt = rw q; value = rw q o.value })
    (λ q.
    let i : 1 ≡ n = omega (arith, ltb-false 1 n q) in
    record { bad = rw q; unbuilt = rw q; value = rw q i })

-- ---- The list

-- the bits that are written, by what is asked set and clear, and where `!` stands for the clear ones
abbrev written : ℕ → ℕ → Bool → List ℕ
written set clear brief = those (λ k. cond brief (bit k set) (bit k set || bit k clear)) writing_order

abbrev names_written : ℕ → Keysyms → List Modifier
names_written names keysyms = map form_modifier (those (λ k. bit k names) form_order) ++ keysym_modifiers (slots keysyms)

module _ (e : KeptEvent) (w : KeptWell e) where
  bare_bang : takes_modifiers e.code ≡ false → writes_bang e ≡ false
  unfolding writes_bang asks_every
  bare_bang q =
      let b = w.sound.bare q in
      choose (kept_as_written e) (λ k. rw k b.bang) (λ k. rw (k, q))

  bare_brief : takes_modifiers e.code ≡ false → (writes_bang e && not (kept_as_written e)) ≡ false
  bare_brief q = ap (λ (b : Bool). b && not (kept_as_written e)) (bare_bang q)

  not_written : takes_modifiers e.code ≡ false → is_written (list_of e) ≡ false
  unfolding list_of
  not_written q =
      let b = w.sound.bare q in
      λ i.
      is_written
      (listed (bare_bang q i) (b.colon i)
      (map (modifier_of e) (written (b.set i) (b.clear i) (bare_brief q i)) ++ names_written (b.names i) (b.keysyms i)))

  list_taken : is_list_not_taken (written_of e) (type_of e.code e.clause) ≡ false
  list_taken =
      choose (takes_modifiers e.code) (λ q. rw q (and-false (is_written (list_of e)))) (λ q. rw (q, not_written q))

  adds_no_shift : (c : Bool) → adds_bit (cond c Added.AnyButton Added.Nothing) shift_bit ≡ false
  adds_no_shift true = refl
  adds_no_shift false = refl

  no_standard : e.colon ≡ true → has_standard (written_of e) (type_of e.code e.clause) ≡ false
  no_standard q =
      ap₂ ◌||◌
      (ap₂ ◌||◌ (listed_cared e w shift_bit (lit< tt) (w.sound.shift q)) (listed_cared e w lock_bit (lit< tt) (w.sound.lock q)))
      (adds_no_shift e.clause)

  list_colon : has_colon (list_of e) ≡ e.colon
  unfolding list_of
  list_colon = refl

  colon_placed : is_colon_misplaced (written_of e) (type_of e.code e.clause) ≡ false
  colon_placed =
      ap (λ (b : Bool). b && (not (is_key e.code) || has_standard (written_of e) (type_of e.code e.clause))) list_colon
      ∙ placed e.colon (not (is_key e.code) || has_standard (written_of e) (type_of e.code e.clause))
      (λ q. ap₂ (λ (a b : Bool). not a || b) (w.sound.key q) (no_standard q))
    where
      placed : (c x : Bool) → (c ≡ true → x ≡ false) → (c && x) ≡ false
      placed true x f = f refl
      placed false x f = refl

  clause_kept : (c x : Bool) → (c ≡ true → x ≡ false) → (adds_clause (cond c Added.AnyButton Added.Nothing) && not x) ≡ c
  clause_kept true x f = ap not (f refl)
  clause_kept false x f = refl

  clause_same : keeps_clause (list_of e) (type_of e.code e.clause).added ≡ e.clause
  unfolding keeps_clause
  clause_same =
      clause_kept e.clause (any (asks_set (list_of e) (type_of e.code e.clause).added) button_bits)
      (λ q. buttons_asked e w ∙ w.sound.buttons q)

  counted : CountJudged e.code e.count
  counted = count_judged e.code e.count w.range.count_from w.range.count_to w.range.count_taken

  detailed : DetailJudged (type_of e.code e.clause) (detail_text e.code e.detail) e.detail
  detailed = detail_judged e.code e.clause e.detail w.sound.detail

  keysyms_kept : keysyms_in (Rules.keysyms_of (list_of e)) ≡ e.keysyms
  keysyms_kept = ap keysyms_in (keysyms_same e w.range.keysyms) ∙ sym w.range.keysyms.places

  kept_same : kept_event (written_of e) (type_of e.code e.clause) ≡ e
  unfolding kept_event
  kept_same =
      λ i.
      record {
        code = e.code;
        set = set_mask_lem e w i;
        clear = clear_same e w i;
        colon = list_colon i;
        clause = clause_same i;
        detail = detailed.kept i;
        count = counted.value i;
        bang = bang_same e w i;
        names = names_same e w.range.names i;
        keysyms = keysyms_kept i;
      }

  met : is_impossible (written_of e) (type_of e.code e.clause) ≡ false
  unfolding is_impossible
  met = (λ i. no_state_meets (set_mask_lem e w i) (clear_mask_lem e w i) (clause_same i)) ∙ w.sound.possible

  no_number : event_number (written_of e) (type_of e.code e.clause) ≡ 0
  unfolding event_number
  no_number =
      let a : is_unknown (written_of e) (type_of e.code e.clause) ≡ false = ap₂ ◌||◌ (list_known e) detailed.unknown in
      let b : is_out_of_range (written_of e) (type_of e.code e.clause) ≡ false = ap₂ ◌||◌ (ap₂ ◌||◌ (list_in_range e) counted.bad) detailed.large in
      let c : is_unbuilt (written_of e) (type_of e.code e.clause) ≡ false = ap₂ ◌||◌ counted.unbuilt detailed.unbuilt in
      λ i. event_order (a i) (b i) (c i) (list_taken i) (colon_placed i) (met i)

  known_type : type_named (written_of e).type_name ≡ TypeName.Known (type_of e.code e.clause)
  known_type = (well_typed e w.range.code_from w.range.code_to w.sound.motion).stands

  pub judged_again : judged (event (written_of e)) ≡ Judged.Keep e
  unfolding judged judged_written
  judged_again = ap (judged_as (written_of e)) known_type ∙ (λ i. keep_unless (no_number i) (not_crowded e w.range.keysyms i) (kept_same i))
