-- What holds of every event that judging keeps, beyond its ranges: so much that it can be written and judged again.
use Prim.Native.Nat.{ℕ, ◌+◌, ◌≤◌, ◌<◌}
use native.Mathlib.Omega.{arith}
use mathlib.Core.Path.{◌≡◌, refl, sym, ap, ap₂, subst, ◌∙◌}
use mathlib.Core.Bool.{Bool, true, false, cond, not, ◌&&◌, ◌||◌, false≢true, and-false}
use mathlib.Core.List.{List, [], ◌∷◌}
use lib.Dec.{eqb, leb, ltb, lit<}
use lib.ListN.{get_or}
use borrow.Author.Tests.{eqb-true, leb-true, le-leb, not-false, not-true}
use Rattle.model.specs.Lists.{any, all, is_empty}
use Rattle.model.specs.Limits.{keysym_limit}
use Rattle.model.specs.Bytes.{in_range}
use Rattle.model.specs.Numbers.{event_order}
use Rattle.model.specs.Codes.{is_key, is_button, motion_notify, has_mode, mapping_notify, has_atom, takes_modifiers}
use Rattle.model.specs.Names.{shift_bit, lock_bit, type_named, type_entries, protocol_entries, synonym_entries, abbreviation_entries}
use Rattle.model.specs.Details.{detail_named}
use Rattle.model.specs.Events.{ModifierList, listed, no_modifier, any_modifier, Written, WrittenEvent, event, key}
use Rattle.model.specs.Modifiers.{bit, bits, mask, button_bits, is_shift_or_lock, lists_set, lists_clear, has, has_colon, is_written, adds_bit, adds_clause, asks_others_clear, untested_by_colon, asks_set, asks_clear, set_mask, clear_mask, keeps_clause, no_state_meets, asks_bit, is_testable}
use Rattle.model.specs.Named.{adds_meta, names_mask, keysyms_from, keysyms_of, is_crowded, keysyms_in, no_keysyms, has_names, keeps_names}
use Rattle.model.specs.Judging.{fixes, detail_of, read_value, kept_detail, has_standard, is_unknown, is_out_of_range, is_unbuilt, is_list_not_taken, is_colon_misplaced, is_impossible, kept_clear, kept_bang, kept_event, event_number, keep_unless, judged_as, judged_written, key_press_of, judged_mark, judged}
use Rattle.model.specs.declared.scan.KeyMark.{KeyMark}
use Rattle.model.specs.declared.events.Detail.{Detail}
use Rattle.model.specs.declared.events.KeptEvent.{KeptEvent}
use Rattle.model.specs.declared.names.Added.{Added}
use Rattle.model.specs.declared.names.EventType.{EventType}
use Rattle.model.specs.declared.names.TypeName.{TypeName}
use Rattle.model.specs.declared.names.DetailRead.{DetailRead}
use Rattle.model.specs.declared.answers.Judged.{Judged}
use Rattle.names.specs.Table.{meanings_in}
use Rattle.lookup.proofs.Ranges.{named_passes, added_sound, fixed_sound, passes, detail_sound, detail_sound_lem}
use Rattle.modifiers.proofs.Masks.{bit_mask, same_mask, mask_none}
use Rattle.modifiers.proofs.Below.{both_left, both_right, every_at, every_from, none_at_lem, none_from, any_bits, all_buttons}
use Rattle.keysym_list.specs.Rising.{Rising}
use Rattle.judge.specs.Ranges.{EventIn, WrittenIn}
use Rattle.judge.proofs.EventRanges.{judged_in}
use Rattle.judge.proofs.Words.{list_rising}
use Rattle.roundtrip.proofs.Lists.{choose, or_left, or_right}
use Rattle.roundtrip.proofs.Details.{takes_detail}
use Rattle.roundtrip.proofs.Named.{first_used}

-- the detail is one of the code's
abbrev pub DetailFits : ℕ → Detail → Type 0
DetailFits code Detail.Unspecified = Unit
DetailFits code (Detail.Value v) = (takes_detail code ≡ true) × (detail_sound code v ≡ true)

-- nothing is asked of the modifiers
pub record Bare (e : KeptEvent) : Type 0 where
  pub set : e.set ≡ 0
  pub clear : e.clear ≡ 0
  pub colon : e.colon ≡ false
  pub clause : e.clause ≡ false
  pub bang : e.bang ≡ false
  pub names : e.names ≡ 0
  pub keysyms : e.keysyms ≡ no_keysyms

-- what is asked clear, names aside: beside them `!` still asks it of the bits that are not listed
abbrev pub clear_test : KeptEvent → ℕ → Bool
clear_test e k = bit k e.clear || (e.bang && (not (asks_bit e k) && is_testable e k))

unfoldable pub whole_clear : KeptEvent → ℕ
whole_clear e = mask (clear_test e)

-- what the checks 7, 8 and 9 leave, and what the type's name fixes
pub record Sound (e : KeptEvent) : Type 0 where
  pub possible : no_state_meets e.set (whole_clear e) e.clause ≡ false
  pub bare : takes_modifiers e.code ≡ false → Bare e
  pub key : e.colon ≡ true → is_key e.code ≡ true
  pub shift : e.colon ≡ true → asks_bit e shift_bit ≡ false
  pub lock : e.colon ≡ true → asks_bit e lock_bit ≡ false
  pub motion : e.clause ≡ true → e.code ≡ 6
  pub buttons : e.clause ≡ true → any (λ k. bit k e.set) button_bits ≡ false
  pub detail : DetailFits e.code e.detail
  -- `!` is kept beside names only
  pub named : e.bang ≡ true → keeps_names e ≡ true

pub record KeptWell (e : KeptEvent) : Type 0 where
  pub range : EventIn e
  pub sound : Sound e

-- ---- Types

-- no name adds Lock
abbrev type_fits : TypeName → Bool
type_fits (TypeName.Known ty) = not (adds_bit ty.added lock_bit) && (added_sound ty.code ty.added && fixed_sound ty.code ty.detail)
type_fits TypeName.Unknown = true

types_fit : all type_fits (meanings_in type_entries) ≡ true
unfolding type_entries protocol_entries synonym_entries abbreviation_entries
types_fit = refl

type_fits_lem : (w : List ℕ) → type_fits (type_named w) ≡ true
unfolding type_named
type_fits_lem w = named_passes type_fits type_entries TypeName.Unknown w types_fit refl

record TypeFits (ty : EventType) : Type 0 where
  lock : adds_bit ty.added lock_bit ≡ false
  added : added_sound ty.code ty.added ≡ true
  fixed : fixed_sound ty.code ty.detail ≡ true

known_fits : (w : List ℕ) (ty : EventType) → type_named w ≡ TypeName.Known ty → TypeFits ty
known_fits w ty e =
    let a : Bool = not (adds_bit ty.added lock_bit) in
    let b : Bool = added_sound ty.code ty.added in
    let c : Bool = fixed_sound ty.code ty.detail in
    let p : type_fits (TypeName.Known ty) ≡ true = sym (ap type_fits e) ∙ type_fits_lem w in
    record {
      lock = not-true (adds_bit ty.added lock_bit) (both_left a (b && c) p);
      added = both_left b c (both_right a (b && c) p);
      fixed = both_right b c (both_right a (b && c) p);
    }

-- ---- No check gives a number

record Passed (unknown range unbuilt list colon impossible : Bool) : Type 0 where
  list_taken : list ≡ false
  colon_placed : colon ≡ false
  possible : impossible ≡ false

passed : (a b c d e f : Bool) → event_order a b c d e f ≡ 0 → Passed a b c d e f
passed true b c d e f h = absurd (omega arith)
passed false true c d e f h = absurd (omega arith)
passed false false true d e f h = absurd (omega arith)
passed false false false true e f h = absurd (omega arith)
passed false false false false true f h = absurd (omega arith)
passed false false false false false true h = absurd (omega arith)
passed false false false false false false h = record { list_taken = refl; colon_placed = refl; possible = refl }

-- ---- Lists

not_written : (list : ModifierList) → is_written list ≡ false → list ≡ listed false false []
not_written (listed true colon []) e = absurd (false≢true (sym e))
not_written (listed false true []) e = absurd (false≢true (sym e))
not_written (listed false false []) e = refl
not_written (listed bang colon (m ∷ ms)) e = absurd (false≢true (sym e))
not_written no_modifier e = absurd (false≢true (sym e))
not_written any_modifier e = absurd (false≢true (sym e))

codes_taken : (code : ℕ) → in_range 2 code 6 ≡ true → takes_modifiers code ≡ true
codes_taken code e =
    let low : leb 2 code ≡ true = both_left (leb 2 code) (leb code 6) e in
    let high : code ≤ 6 = leb-true code 6 (both_right (leb 2 code) (leb code 6) e) in
    rw low (le-leb code 8 (omega arith))

-- a name that adds a modifier is of codes 2..6
adds_taken : (code : ℕ) (added : Added) → added_sound code added ≡ true → takes_modifiers code ≡ false
    → ((k : ℕ) → adds_bit added k ≡ false) × (adds_clause added ≡ false) × (adds_meta added ≡ false)
adds_taken code Added.Nothing s t = (λ k. refl, refl, refl)
adds_taken code (Added.Modifier b) s t =
    absurd (false≢true (sym t ∙ codes_taken code (both_right (ltb b 13) (in_range 2 code 6) s)))
adds_taken code Added.AnyButton s t =
    let e : code ≡ 6 = eqb-true code motion_notify s in absurd (false≢true (sym t ∙ ap takes_modifiers e))
adds_taken code Added.Meta s t = let e : code ≡ 2 = eqb-true code 2 s in absurd (false≢true (sym t ∙ ap takes_modifiers e))

clause_motion : (code : ℕ) (added : Added) → added_sound code added ≡ true → adds_clause added ≡ true → code ≡ 6
clause_motion code Added.Nothing s t = absurd (false≢true t)
clause_motion code (Added.Modifier b) s t = absurd (false≢true t)
clause_motion code Added.AnyButton s t = eqb-true code motion_notify s
clause_motion code Added.Meta s t = absurd (false≢true t)

-- ---- Details

abbrev is_read : DetailRead → Bool
is_read (DetailRead.Value v) = true
is_read DetailRead.Unknown = false
is_read DetailRead.TooLarge = false
is_read DetailRead.NotBuilt = false

read_fits : (code : ℕ) (r : DetailRead) → (takes_detail code ≡ false → is_read r ≡ false) → passes (detail_sound code) r ≡ true
    → DetailFits code (read_value r)
read_fits code (DetailRead.Value v) f p =
    (choose (takes_detail code) (λ q. q) (λ q. absurd (false≢true (sym (f q)))), p)
read_fits code DetailRead.Unknown f p = tt
read_fits code DetailRead.TooLarge f p = tt
read_fits code DetailRead.NotBuilt f p = tt

either_unread : (b : Bool) → is_read (cond b DetailRead.NotBuilt DetailRead.Unknown) ≡ false
either_unread true = refl
either_unread false = refl

unread : (code : ℕ) (word : List ℕ) → takes_detail code ≡ false → is_read (detail_named code word) ≡ false
unfolding detail_named
unread code word t =
    let k : is_key code ≡ false = or_left (is_key code) _ t in
    let t1 : (is_button code || (eqb code motion_notify || (has_mode code || eqb code mapping_notify))) ≡ false = or_right (is_key code) _ t in
    let b : is_button code ≡ false = or_left (is_button code) _ t1 in
    let t2 : (eqb code motion_notify || (has_mode code || eqb code mapping_notify)) ≡ false = or_right (is_button code) _ t1 in
    let m : eqb code motion_notify ≡ false = or_left (eqb code motion_notify) _ t2 in
    let t3 : (has_mode code || eqb code mapping_notify) ≡ false = or_right (eqb code motion_notify) _ t2 in
    let h : has_mode code ≡ false = or_left (has_mode code) _ t3 in
    let q : eqb code mapping_notify ≡ false = or_right (has_mode code) _ t3 in
    rw (k, b, m, h, q) (either_unread (has_atom code))

fixed_fits : (code : ℕ) (d : Detail) → fixed_sound code d ≡ true → DetailFits code d
fixed_fits code Detail.Unspecified e = tt
fixed_fits code (Detail.Value v) e =
    let b : is_button code ≡ true = both_left (is_button code) (in_range 1 v 5) e in
    let r : in_range 1 v 5 ≡ true = both_right (is_button code) (in_range 1 v 5) e in
    let l : v ≤ 5 = leb-true v 5 (both_right (leb 1 v) (leb v 5) r) in (
      choose (is_key code) (λ k. rw k) (λ k. rw (k, b)),
      choose (is_key code) (λ k. rw k (le-leb v keysym_limit (omega arith))) (λ k. rw (k, b) r),
    )

detail_fits : (ty : EventType) (word : List ℕ) → fixed_sound ty.code ty.detail ≡ true → get_or word 0 0 < 256
    → DetailFits ty.code (kept_detail ty word)
unfolding kept_detail detail_of
detail_fits ty word f h =
    choose (is_empty word)
    (λ e. rw e (fixed_fits ty.code ty.detail f))
    (λ e.
    choose (fixes ty.detail)
    (λ x. rw (e, x) tt)
    (λ x. rw (e, x) (read_fits ty.code (detail_named ty.code word) (unread ty.code word) (detail_sound_lem ty.code word h))))

-- ---- Fewer bits asked clear

less_meets : (set more less : ℕ) (clause : Bool) → ((k : ℕ) → k < 13 → bit k less ≡ true → bit k more ≡ true)
    → no_state_meets set more clause ≡ false → no_state_meets set less clause ≡ false
unfolding no_state_meets
less_meets set more less clause h e =
    let p : any (λ k. bit k set && bit k more) bits ≡ false =
    or_left (any (λ k. bit k set && bit k more) bits) (clause && all (λ k. bit k more) button_bits) e in
    let q : (clause && all (λ k. bit k more) button_bits) ≡ false =
    or_right (any (λ k. bit k set && bit k more) bits) (clause && all (λ k. bit k more) button_bits) e in
    ap₂ ◌||◌
    (any_bits (λ k. bit k set && bit k less)
    ∙ none_from 13 (λ k. bit k set && bit k less)
    (λ k l. one (bit k set) (bit k more) (bit k less) (h k l) (none_at_lem 13 (λ j. bit j set && bit j more) (sym (any_bits (λ j. bit j set && bit j more)) ∙ p) k l)))
    (all_less clause (all (λ k. bit k more) button_bits) (all (λ k. bit k less) button_bits) buttons q)
  where
    one : (s m l : Bool) → (l ≡ true → m ≡ true) → (s && m) ≡ false → (s && l) ≡ false
    one true m true f x = sym (f refl) ∙ x
    one true m false f x = refl
    one false m l f x = refl

    all_less : (c m l : Bool) → (l ≡ true → m ≡ true) → (c && m) ≡ false → (c && l) ≡ false
    all_less c m l f x = one c m l f x

    buttons : all (λ k. bit k less) button_bits ≡ true → all (λ k. bit k more) button_bits ≡ true
    buttons a =
        all_buttons (λ k. bit k more)
        ∙ every_from 5 (λ k. bit (8 + k) more)
        (λ k l. h (8 + k) (omega arith) (every_at 5 (λ j. bit (8 + j) less) (sym (all_buttons (λ j. bit j less)) ∙ a) k l))

-- ---- An event of a known type

module _ (w : Written) (ty : EventType) (t : TypeFits ty) where
  set_bit : (k : ℕ) → k < 13 → bit k (set_mask w.list ty.added) ≡ (lists_set w.list k || adds_bit ty.added k)
  unfolding set_mask asks_set
  set_bit k h = bit_mask (asks_set w.list ty.added) k h

  clear_bit : (k : ℕ) → k < 13
      → bit k (clear_mask w.list)
      ≡ (lists_clear w.list k || (asks_others_clear w.list && not (has w.list k) && not (untested_by_colon w.list k)))
  unfolding clear_mask asks_clear
  clear_bit k h = bit_mask (asks_clear w.list) k h

  listed_bit : (k : ℕ) → k < 13 → bit k (mask (lists_clear w.list)) ≡ lists_clear w.list k
  listed_bit k h = bit_mask (lists_clear w.list) k h

  -- beside a colon
  standard_bit : (k : ℕ) → k < 13 → is_shift_or_lock k ≡ true → has_colon w.list ≡ true → has w.list k ≡ false → adds_bit ty.added k ≡ false
      → (bit k (set_mask w.list ty.added) || bit k (kept_clear w.list ty.added)) ≡ false
  unfolding kept_clear
  standard_bit k h s c n a =
      let p : lists_set w.list k ≡ false = or_left (lists_set w.list k) (lists_clear w.list k) n in
      let q : lists_clear w.list k ≡ false = or_right (lists_set w.list k) (lists_clear w.list k) n in
      choose (has_names w.list ty.added)
      (λ b. rw (b, set_bit k h, listed_bit k h, p, q, a))
      (λ b. rw (b, set_bit k h, clear_bit k h, p, q, a, c, s) (go (asks_others_clear w.list)))
    where
      go : (b : Bool) → (b && true && false) ≡ false
      go true = refl
      go false = refl

  -- no more is asked clear of the event that is kept than of the one that is written
  clear_less : (k : ℕ) → k < 13 → bit k (whole_clear (kept_event w ty)) ≡ true → bit k (clear_mask w.list) ≡ true
  unfolding whole_clear kept_event kept_clear
  clear_less k h e =
      let t : clear_test (kept_event w ty) k ≡ true = sym (bit_mask (clear_test (kept_event w ty)) k h) ∙ e in
      choose (has_names w.list ty.added)
      (λ b.
      rw (clear_bit k h)
      (fewer (lists_set w.list k) (adds_bit ty.added k) (lists_clear w.list k) (asks_others_clear w.list) (untested_by_colon w.list k)
      (rw (b, listed_bit k h, set_bit k h) at t)))
      (λ b. same (bit k (clear_mask w.list)) (rw b at t))
    where
      fewer : (s a c o u : Bool) → (c || (o && (not (s || a || c) && not u))) ≡ true → (c || (o && not (s || c) && not u)) ≡ true
      fewer s a true o u e = refl
      fewer s a false false u e = e
      fewer true a false true u e = e
      fewer false true false true u e = absurd (false≢true e)
      fewer false false false true u e = e

      same : (c : Bool) → (c || false) ≡ true → c ≡ true
      same true e = refl
      same false e = e

  some_names : Rising (keysyms_of w.list) → has_names w.list ty.added ≡ true → keeps_names (kept_event w ty) ≡ true
  unfolding has_names kept_event
  some_names r e =
      ap (λ (b : Bool). not (eqb (names_mask w.list ty.added) 0) || not b) (sym (first_used (keysyms_of w.list) r)) ∙ e

  misplaced : has_colon w.list ≡ true → is_colon_misplaced w ty ≡ false → (not (is_key ty.code) || has_standard w ty) ≡ false
  misplaced c e = rw c at e

  buttons_same : any (λ k. bit k (set_mask w.list ty.added)) button_bits ≡ any (asks_set w.list ty.added) button_bits
  unfolding set_mask
  buttons_same =
      let b : (k : ℕ) → k < 13 → bit k (mask (asks_set w.list ty.added)) ≡ asks_set w.list ty.added k
      = bit_mask (asks_set w.list ty.added) in
      ap₂ ◌||◌ (b 8 (lit< tt))
      (ap₂ ◌||◌ (b 9 (lit< tt))
      (ap₂ ◌||◌ (b 10 (lit< tt)) (ap₂ ◌||◌ (b 11 (lit< tt)) (ap (λ (x : Bool). x || false) (b 12 (lit< tt))))))

  bare_set : takes_modifiers ty.code ≡ false → w.list ≡ listed false false [] → set_mask w.list ty.added ≡ 0
  unfolding set_mask asks_set lists_set
  bare_set n l =
      let a : (k : ℕ) → adds_bit ty.added k ≡ false = (adds_taken ty.code ty.added t.added n).0 in
      rw l (same_mask (λ k. false || adds_bit ty.added k) (λ k. false) (λ k h. a k) ∙ mask_none)

  bare_clear : w.list ≡ listed false false [] → kept_clear w.list ty.added ≡ 0
  unfolding kept_clear clear_mask asks_clear lists_clear lists_set
  bare_clear l =
      choose (has_names w.list ty.added) (λ b. rw b (rw l mask_none)) (λ b. rw b (rw l mask_none))

  bare_bang : w.list ≡ listed false false [] → kept_bang w.list ty.added ≡ false
  bare_bang l = ap (λ (b : Bool). has_names w.list ty.added && b) (ap asks_others_clear l) ∙ and-false (has_names w.list ty.added)

  bare_names : takes_modifiers ty.code ≡ false → w.list ≡ listed false false [] → names_mask w.list ty.added ≡ 0
  unfolding names_mask
  bare_names n l = rw (l, (adds_taken ty.code ty.added t.added n).2)

  bare_keysyms : w.list ≡ listed false false [] → keysyms_in (keysyms_of w.list) ≡ no_keysyms
  unfolding keysyms_of keysyms_from
  bare_keysyms l = rw l

  bare_clause : takes_modifiers ty.code ≡ false → keeps_clause w.list ty.added ≡ false
  unfolding keeps_clause
  bare_clause n = rw (adds_taken ty.code ty.added t.added n).1

  adds_clause_lem : keeps_clause w.list ty.added ≡ true → adds_clause ty.added ≡ true
  unfolding keeps_clause
  adds_clause_lem c = both_left (adds_clause ty.added) (not (any (asks_set w.list ty.added) button_bits)) c

  no_buttons : keeps_clause w.list ty.added ≡ true → any (asks_set w.list ty.added) button_bits ≡ false
  unfolding keeps_clause
  no_buttons c =
      not-true (any (asks_set w.list ty.added) button_bits)
      (both_right (adds_clause ty.added) (not (any (asks_set w.list ty.added) button_bits)) c)

  sound_known : WrittenIn (event w) → event_number w ty ≡ 0 → Sound (kept_event w ty)
  unfolding event_number kept_event is_impossible
  sound_known h n =
      let p : Passed (is_unknown w ty) (is_out_of_range w ty) (is_unbuilt w ty) (is_list_not_taken w ty) (is_colon_misplaced w ty) (is_impossible w ty) =
      passed (is_unknown w ty) (is_out_of_range w ty) (is_unbuilt w ty) (is_list_not_taken w ty) (is_colon_misplaced w ty) (is_impossible w ty) n in
      let rest : has_colon w.list ≡ true → has_standard w ty ≡ false =
      λ c. or_right (not (is_key ty.code)) (has_standard w ty) (misplaced c p.colon_placed) in
      let two : has_colon w.list ≡ true → (has w.list shift_bit || has w.list lock_bit) ≡ false =
      λ c. or_left (has w.list shift_bit || has w.list lock_bit) (adds_bit ty.added shift_bit) (rest c) in
      record {
        possible =
            less_meets (set_mask w.list ty.added) (clear_mask w.list) (whole_clear (kept_event w ty)) (keeps_clause w.list ty.added) clear_less
            p.possible;
        bare = λ q.
            let l : w.list ≡ listed false false [] =
            not_written w.list (unwritten (is_written w.list) (takes_modifiers ty.code) q p.list_taken) in
            record {
              set = bare_set q l;
              clear = bare_clear l;
              colon = ap has_colon l;
              clause = bare_clause q;
              bang = bare_bang l;
              names = bare_names q l;
              keysyms = bare_keysyms l;
            };
        key = λ c. not-false (is_key ty.code) (or_left (not (is_key ty.code)) (has_standard w ty) (misplaced c p.colon_placed));
        shift = λ c.
            standard_bit shift_bit (lit< tt) refl c (or_left (has w.list shift_bit) (has w.list lock_bit) (two c))
            (or_right (has w.list shift_bit || has w.list lock_bit) (adds_bit ty.added shift_bit) (rest c));
        lock = λ c. standard_bit lock_bit (lit< tt) refl c (or_right (has w.list shift_bit) (has w.list lock_bit) (two c)) t.lock;
        motion = λ c. clause_motion ty.code ty.added t.added (adds_clause_lem c);
        buttons = λ c. buttons_same ∙ no_buttons c;
        detail = detail_fits ty w.detail t.fixed h.0;
        named = λ b. some_names (list_rising w.list h.1) (both_left (has_names w.list ty.added) (asks_others_clear w.list) b);
      }
    where
      unwritten : (a b : Bool) → b ≡ false → (a && not b) ≡ false → a ≡ false
      unwritten true true q e = q
      unwritten true false q e = e
      unwritten false b q e = refl

  unless_sound : (k e : KeptEvent) (n : ℕ) (crowded : Bool) → (n ≡ 0 → Sound k) → keep_unless n crowded k ≡ Judged.Keep e → Sound e
  unless_sound k e n crowded f p = go (eqb n 0) refl crowded p
    where
      go : (b : Bool) → eqb n 0 ≡ b → (c : Bool) → cond b (cond c Judged.Crowded (Judged.Keep k)) (Judged.Refuse n) ≡ Judged.Keep e → Sound e
      go true q true p = let z : ◌≡◌ {A = ℕ} 0 1 = cc in absurd (omega arith)
      go true q false p = let i : k ≡ e = cc in subst Sound i (f (eqb-true n 0 q))
      go false q c p = let z : ◌≡◌ {A = ℕ} 0 1 = cc in absurd (omega arith)

  known_sound : (e : KeptEvent) → WrittenIn (event w) → judged_as w (TypeName.Known ty) ≡ Judged.Keep e → Sound e
  known_sound e h p = unless_sound (kept_event w ty) e (event_number w ty) (is_crowded w.list) (sound_known h) p

as_sound : (w : Written) (n : TypeName) (e : KeptEvent) → type_named w.type_name ≡ n → WrittenIn (event w)
    → judged_as w n ≡ Judged.Keep e → Sound e
as_sound w (TypeName.Known ty) e q h p = known_sound w ty (known_fits w.type_name ty q) e h p
as_sound w TypeName.Unknown e q h p = let z : ◌≡◌ {A = ℕ} 0 1 = cc in absurd (omega arith)

-- ---- A character of a key sequence

press_sound : (set names byte : ℕ) → byte < 256 → no_state_meets set (whole_clear (key_press_of set names byte)) false ≡ false
    → Sound (key_press_of set names byte)
press_sound set names byte h n =
    record {
      possible = n;
      bare = λ q. absurd (false≢true (sym q));
      key = λ q. absurd (false≢true q);
      shift = λ q. absurd (false≢true q);
      lock = λ q. absurd (false≢true q);
      motion = λ q. absurd (false≢true q);
      buttons = λ q. absurd (false≢true q);
      detail = (refl, le-leb byte keysym_limit (omega arith));
      named = λ q. absurd (false≢true q);
    }

mark_sound : (mark : KeyMark) (byte : ℕ) (e : KeptEvent) → byte < 256 → judged_mark mark byte ≡ Judged.Keep e → Sound e
unfolding no_state_meets whole_clear mask
mark_sound KeyMark.Plain byte e h p = let i : key_press_of 0 0 byte ≡ e = cc in subst Sound i (press_sound 0 0 byte h refl)
mark_sound KeyMark.Control byte e h p = let i : key_press_of 4 0 byte ≡ e = cc in subst Sound i (press_sound 4 0 byte h refl)
mark_sound KeyMark.Quoted byte e h p = let i : key_press_of 0 0 byte ≡ e = cc in subst Sound i (press_sound 0 0 byte h refl)
mark_sound KeyMark.Meta byte e h p = let i : key_press_of 0 1 byte ≡ e = cc in subst Sound i (press_sound 0 1 byte h refl)

judged_sound : (w : WrittenEvent) (e : KeptEvent) → WrittenIn w → judged w ≡ Judged.Keep e → Sound e
unfolding judged judged_written
judged_sound (event w) e h p = as_sound w (type_named w.type_name) e refl h p
judged_sound (key k) e h p = mark_sound k.mark k.byte e h p

-- every event that judging keeps
pub kept_well : (w : WrittenEvent) (e : KeptEvent) → WrittenIn w → judged w ≡ Judged.Keep e → KeptWell e
kept_well w e h p = record { range = judged_in w e h p; sound = judged_sound w e h p }
