-- The modifier list that the canonical text has asks for the bits that the event asks for.
use Prim.Native.Nat.{ℕ, zero, suc, ◌%◌, ◌<◌}
use native.Mathlib.Omega.{arith}
use mathlib.Core.Path.{◌≡◌, refl, sym, ap, ap₂, ◌∙◌}
use mathlib.Core.Bool.{Bool, true, false, cond, not, ◌&&◌, ◌||◌, false≢true, and-true, and-false, and_assoc, or-true, or-false}
use mathlib.Core.List.{List, [], ◌∷◌, map}
use lib.Dec.{eqb, leb, lit<}
use borrow.Author.Tests.{ltb-true}
use Rattle.model.specs.Lists.{any, all}
use Rattle.model.specs.Codes.{takes_modifiers}
use Rattle.model.specs.Modifiers.{bit, bits, mask, button_bits, is_shift_or_lock, is_bit, lists, lists_set, lists_clear, has, adds_bit, asks_others_clear, asks_set, asks_clear, set_mask, clear_mask, no_state_meets, asks_bit, is_testable}
use Rattle.model.specs.Named.{has_names, keeps_names, kept_as_written}
use Rattle.model.specs.Events.{Modifier}
use Rattle.model.specs.Judging.{kept_clear, kept_bang}
use Rattle.model.specs.Canonical.{writing_order, is_written_bit, long_name, asks_every, writes_bang}
use Rattle.model.specs.declared.events.KeptEvent.{KeptEvent}
use Rattle.model.specs.declared.names.Added.{Added}
use Rattle.modifiers.proofs.Masks.{bit_mask, same_mask, mask_bits}
use Rattle.modifiers.proofs.Below.{every_at, none_at_lem, all_bits, any_bits, both_left, both_right}
use Rattle.roundtrip.proofs.Lists.{choose, or_left, or_right, any_append, any_those, any_same, any_at}
use Rattle.roundtrip.proofs.Names.{well_named, well_named_lem, bits_named, ordered, form_named_lem, type_of}
use Rattle.roundtrip.proofs.Kept.{clear_test, whole_clear, KeptWell}
use Rattle.roundtrip.proofs.Written.{modifier_of, bits_of, form_modifier, keysym_modifier, name_modifiers, written_modifiers, list_of}
use Rattle.roundtrip.proofs.Named.{no_name, has_names_lem}

module _ (e : KeptEvent) where
  -- what one written modifier lists
  modifier_set : (k j : ℕ) → well_named j ≡ true → lists false k (modifier_of e j) ≡ (bit j e.set && eqb j k)
  modifier_set k j w =
      choose (bit j e.set) (λ q. rw q (ap (is_bit k) (well_named_lem j w).stands)) (λ q. rw q)

  modifier_clear : (k j : ℕ) → well_named j ≡ true → lists true k (modifier_of e j) ≡ (not (bit j e.set) && eqb j k)
  modifier_clear k j w =
      choose (bit j e.set) (λ q. rw q) (λ q. rw q (ap (is_bit k) (well_named_lem j w).stands))

  any_modifiers : (t : Bool) (k : ℕ) (h : ℕ → Bool) → ((j : ℕ) → well_named j ≡ true → lists t k (modifier_of e j) ≡ (h j && eqb j k))
      → (ks : List ℕ) → all well_named ks ≡ true → any (lists t k) (map (modifier_of e) ks) ≡ any (λ j. h j && eqb j k) ks
  any_modifiers t k h f [] w = refl
  any_modifiers t k h f (j ∷ ks) w =
      ap₂ ◌||◌ (f j (both_left (well_named j) (all well_named ks) w))
      (any_modifiers t k h f ks (both_right (well_named j) (all well_named ks) w))

  -- names list no bit
  names_none : (t : Bool) (k : ℕ) → any (lists t k) (name_modifiers e) ≡ false
  names_none t k = no_name (lists t k) e (form_none t) (keysym_none t)
    where
      named : (u : Bool) (j : ℕ) → j < 8 → (x : Bool) → lists u k (Modifier.name x (long_name (j % 4))) ≡ false
      named true j h true = ap (is_bit k) (form_named_lem j h).stands
      named true j h false = refl
      named false j h true = refl
      named false j h false = ap (is_bit k) (form_named_lem j h).stands

      form_none : (u : Bool) (j : ℕ) → j < 8 → lists u k (form_modifier j) ≡ false
      form_none u j h = named u j h (leb 4 j)

      keysym_none : (u : Bool) (s : ℕ) (x : Bool) → lists u k (keysym_modifier s x) ≡ false
      keysym_none true s x = refl
      keysym_none false s x = refl

  any_listed : (t : Bool) (k : ℕ) (h : ℕ → Bool) → k < 13
      → ((j : ℕ) → well_named j ≡ true → lists t k (modifier_of e j) ≡ (h j && eqb j k))
      → any (lists t k) (written_modifiers e) ≡ (is_written_bit e k && h k)
  any_listed t k h l f =
      any_append (lists t k) (map (modifier_of e) (bits_of e)) (name_modifiers e)
      ∙ ap (λ (b : Bool). any (lists t k) (map (modifier_of e) (bits_of e)) || b) (names_none t k)
      ∙ or-false (any (lists t k) (map (modifier_of e) (bits_of e)))
      ∙ any_modifiers t k h f (bits_of e) (bits_named e)
      ∙ any_those (λ j. h j && eqb j k) (is_written_bit e) writing_order
      ∙ any_same (λ j. is_written_bit e j && (h j && eqb j k)) (λ j. (is_written_bit e j && h j) && eqb j k)
      (λ j. sym (and_assoc (is_written_bit e j) (h j) (eqb j k))) writing_order
      ∙ any_at (λ j. is_written_bit e j && h j) k writing_order
      ∙ ap (λ (b : Bool). is_written_bit e k && h k && b) (ordered k l)
      ∙ and-true (is_written_bit e k && h k)

  pub lists_set_lem : (k : ℕ) → k < 13 → lists_set (list_of e) k ≡ bit k e.set
  unfolding lists_set list_of
  lists_set_lem k l =
      any_listed false k (λ j. bit j e.set) l (modifier_set k)
      ∙ asked (writes_bang e && not (kept_as_written e)) (bit k e.set) (bit k e.clear)
    where
      asked : (b s c : Bool) → (cond b s (s || c) && s) ≡ s
      asked true true c = refl
      asked true false c = refl
      asked false true c = refl
      asked false false true = refl
      asked false false false = refl

  lists_clear_lem : (k : ℕ) → k < 13 → lists_clear (list_of e) k ≡ (is_written_bit e k && not (bit k e.set))
  unfolding lists_clear list_of
  lists_clear_lem k l = any_listed true k (λ j. not (bit j e.set)) l (modifier_clear k)

-- the bits that the list asks clear, from what is known of one bit: `!` is written, set, clear, untested beside the colon
clear_asked : (b s c u : Bool) → (s && c) ≡ false → (b ≡ true → (not (not u) || (s || c)) ≡ true) → (u ≡ true → (s || c) ≡ false)
    → ((cond b s (s || c) && not s) || (b && not (s || (cond b s (s || c) && not s)) && not u)) ≡ c
clear_asked b true true u p f g = absurd (false≢true (sym p))
clear_asked true true false u p f g = refl
clear_asked true false true true p f g = absurd (false≢true (sym (g refl)))
clear_asked true false true false p f g = refl
clear_asked true false false true p f g = refl
clear_asked true false false false p f g = absurd (false≢true (f refl))
clear_asked false true false u p f g = refl
clear_asked false false true u p f g = refl
clear_asked false false false u p f g = refl

-- and beside names, where each bit is written
clear_kept : (b s c u : Bool) → (s && c) ≡ false
    → (((s || c) && not s) || (b && not (s || ((s || c) && not s)) && not u)) ≡ (c || (b && (not (s || c) && not u)))
clear_kept b true true u p = absurd (false≢true (sym p))
clear_kept true true false u p = refl
clear_kept true false true u p = refl
clear_kept true false false u p = refl
clear_kept false true false u p = refl
clear_kept false false true u p = refl
clear_kept false false false u p = refl

module _ (e : KeptEvent) (w : KeptWell e) where
  -- ---- With names, and without

  with_names : keeps_names e ≡ true → kept_as_written e ≡ true
  with_names q = rw q (or-true e.bang)

  no_bang_lem : keeps_names e ≡ false → e.bang ≡ false
  no_bang_lem q = choose e.bang (λ b. absurd (false≢true (sym q ∙ w.sound.named b))) (λ b. b)

  without_names : keeps_names e ≡ false → kept_as_written e ≡ false
  without_names q = ap₂ ◌||◌ (no_bang_lem q) q

  bang_kept : keeps_names e ≡ true → writes_bang e ≡ e.bang
  unfolding writes_bang
  bang_kept q = rw (with_names q)

  bang_asked : keeps_names e ≡ false → writes_bang e ≡ asks_every e
  unfolding writes_bang
  bang_asked q = rw (without_names q)

  -- ---- One bit

  not_both : (k : ℕ) → k < 13 → (bit k e.set && bit k e.clear) ≡ false
  unfolding no_state_meets whole_clear
  not_both k l =
      less (bit k e.set) (bit k e.clear) (e.bang && (not (asks_bit e k) && is_testable e k))
      (sym (ap (λ (b : Bool). bit k e.set && b) (bit_mask (clear_test e) k l))
      ∙ none_at_lem 13 (λ j. bit j e.set && bit j (whole_clear e))
      (sym (any_bits (λ j. bit j e.set && bit j (whole_clear e)))
      ∙ or_left (any (λ j. bit j e.set && bit j (whole_clear e)) bits) (e.clause && all (λ j. bit j (whole_clear e)) button_bits)
      w.sound.possible)
      k l)
    where
      less : (s c x : Bool) → (s && (c || x)) ≡ false → (s && c) ≡ false
      less true true x q = q
      less true false x q = refl
      less false c x q = refl

  bang_asks : keeps_names e ≡ false → (k : ℕ) → k < 13 → writes_bang e ≡ true → (not (is_testable e k) || asks_bit e k) ≡ true
  unfolding asks_every
  bang_asks q k l b =
      every_at 13 (λ j. not (is_testable e j) || asks_bit e j)
      (sym (all_bits (λ j. not (is_testable e j) || asks_bit e j))
      ∙ both_right (takes_modifiers e.code) (all (λ j. not (is_testable e j) || asks_bit e j) bits) (sym (bang_asked q) ∙ b))
      k l

  untested : (k : ℕ) → (e.colon && is_shift_or_lock k) ≡ true → asks_bit e k ≡ false
  untested zero q = w.sound.shift (both_left e.colon (is_shift_or_lock 0) q)
  untested (suc zero) q = w.sound.lock (both_left e.colon (is_shift_or_lock 1) q)
  untested (suc (suc k)) q =
      let l : suc (suc k) < 2 = ltb-true (suc (suc k)) 2 (both_right e.colon (is_shift_or_lock (suc (suc k))) q) in
      absurd (omega arith)

  -- what is written of a bit
  written_with : keeps_names e ≡ true → (k : ℕ) → is_written_bit e k ≡ asks_bit e k
  written_with q k =
      ap (λ (b : Bool). cond (writes_bang e && not b) (bit k e.set) (asks_bit e k)) (with_names q)
      ∙ ap (λ (b : Bool). cond b (bit k e.set) (asks_bit e k)) (and-false (writes_bang e))

  written_without : keeps_names e ≡ false → (k : ℕ) → is_written_bit e k ≡ cond (writes_bang e) (bit k e.set) (asks_bit e k)
  written_without q k =
      ap (λ (b : Bool). cond (writes_bang e && not b) (bit k e.set) (asks_bit e k)) (without_names q)
      ∙ ap (λ (b : Bool). cond b (bit k e.set) (asks_bit e k)) (and-true (writes_bang e))

  -- the list's own words for it: what it asks of one bit, by `!` and the bit's being written
  abbrev asks_clear_by : (bang written : Bool) → ℕ → Bool
  asks_clear_by bang written k =
      (written && not (bit k e.set))
      || (bang && not (bit k e.set || (written && not (bit k e.set))) && not (e.colon && is_shift_or_lock k))

  asks_clear_list : (k : ℕ) → k < 13 → asks_clear (list_of e) k ≡ asks_clear_by (writes_bang e) (is_written_bit e k) k
  unfolding asks_clear list_of
  asks_clear_list k l =
      let s : lists_set (list_of e) k ≡ bit k e.set = lists_set_lem e k l in
      let c : lists_clear (list_of e) k ≡ (is_written_bit e k && not (bit k e.set)) = lists_clear_lem e k l in
      ap₂ (λ (a b : Bool). b || (writes_bang e && not (a || b) && not (e.colon && is_shift_or_lock k))) s c

  asks_clear_lem : (k : ℕ) → k < 13 → asks_clear (list_of e) k ≡ clear_test e k
  asks_clear_lem k l =
      choose (keeps_names e)
      (λ q.
      asks_clear_list k l
      ∙ ap₂ (λ (b c : Bool). asks_clear_by b c k) (bang_kept q) (written_with q k)
      ∙ clear_kept e.bang (bit k e.set) (bit k e.clear) (e.colon && is_shift_or_lock k) (not_both k l))
      (λ q.
      asks_clear_list k l
      ∙ ap (λ (c : Bool). asks_clear_by (writes_bang e) c k) (written_without q k)
      ∙ clear_asked (writes_bang e) (bit k e.set) (bit k e.clear) (e.colon && is_shift_or_lock k) (not_both k l) (bang_asks q k l) (untested k)
      ∙ sym (ap (λ (b : Bool). bit k e.clear || (b && (not (asks_bit e k) && is_testable e k))) (no_bang_lem q) ∙ or-false (bit k e.clear)))

  adds_no_bit : (clause : Bool) (k : ℕ) → adds_bit (cond clause Added.AnyButton Added.Nothing) k ≡ false
  adds_no_bit true k = refl
  adds_no_bit false k = refl

  asks_set_lem : (k : ℕ) → k < 13 → asks_set (list_of e) (type_of e.code e.clause).added k ≡ bit k e.set
  unfolding asks_set
  asks_set_lem k l = ap₂ ◌||◌ (lists_set_lem e k l) (adds_no_bit e.clause k) ∙ or-false (bit k e.set)

  -- ---- All bits

  pub set_mask_lem : set_mask (list_of e) (type_of e.code e.clause).added ≡ e.set
  unfolding set_mask
  set_mask_lem =
      same_mask (asks_set (list_of e) (type_of e.code e.clause).added) (λ k. bit k e.set) asks_set_lem
      ∙ mask_bits e.set w.range.set

  pub clear_mask_lem : clear_mask (list_of e) ≡ whole_clear e
  unfolding clear_mask whole_clear
  clear_mask_lem = same_mask (asks_clear (list_of e)) (clear_test e) asks_clear_lem

  names_there : has_names (list_of e) (type_of e.code e.clause).added ≡ keeps_names e
  names_there = has_names_lem e w.range.keysyms w.range.names

  -- listed clear, beside names
  listed_clear : keeps_names e ≡ true → mask (lists_clear (list_of e)) ≡ e.clear
  listed_clear q =
      same_mask (lists_clear (list_of e)) (λ k. bit k e.clear)
      (λ k l. lists_clear_lem e k l ∙ ap (λ (b : Bool). b && not (bit k e.set)) (written_with q k) ∙ only (bit k e.set) (bit k e.clear) (not_both k l))
      ∙ mask_bits e.clear w.range.clear
    where
      only : (s c : Bool) → (s && c) ≡ false → ((s || c) && not s) ≡ c
      only true true p = sym p
      only true false p = refl
      only false true p = refl
      only false false p = refl

  -- asked clear, without names
  whole_clear_lem : keeps_names e ≡ false → whole_clear e ≡ e.clear
  unfolding whole_clear
  whole_clear_lem q =
      same_mask (clear_test e) (λ k. bit k e.clear)
      (λ k l. ap (λ (b : Bool). bit k e.clear || (b && (not (asks_bit e k) && is_testable e k))) (no_bang_lem q) ∙ or-false (bit k e.clear))
      ∙ mask_bits e.clear w.range.clear

  pub clear_same : kept_clear (list_of e) (type_of e.code e.clause).added ≡ e.clear
  unfolding kept_clear
  clear_same =
      ap (λ (b : Bool). cond b (mask (lists_clear (list_of e))) (clear_mask (list_of e))) names_there
      ∙ choose (keeps_names e) (λ q. rw q (listed_clear q)) (λ q. rw q (clear_mask_lem ∙ whole_clear_lem q))

  list_bang : asks_others_clear (list_of e) ≡ writes_bang e
  unfolding list_of
  list_bang = refl

  pub bang_same : kept_bang (list_of e) (type_of e.code e.clause).added ≡ e.bang
  bang_same =
      ap₂ ◌&&◌ names_there list_bang
      ∙ choose (keeps_names e) (λ q. rw q (bang_kept q)) (λ q. rw q (sym (no_bang_lem q)))

  -- the buttons that the list asks set
  pub buttons_asked : any (asks_set (list_of e) (type_of e.code e.clause).added) button_bits ≡ any (λ k. bit k e.set) button_bits
  buttons_asked =
      ap₂ ◌||◌ (asks_set_lem 8 (lit< tt))
      (ap₂ ◌||◌ (asks_set_lem 9 (lit< tt))
      (ap₂ ◌||◌ (asks_set_lem 10 (lit< tt))
      (ap₂ ◌||◌ (asks_set_lem 11 (lit< tt)) (ap (λ (x : Bool). x || false) (asks_set_lem 12 (lit< tt))))))

  -- a bit is listed only where it is cared for
  pub listed_cared : (k : ℕ) → k < 13 → asks_bit e k ≡ false → has (list_of e) k ≡ false
  listed_cared k l q =
      let s : bit k e.set ≡ false = or_left (bit k e.set) (bit k e.clear) q in
      let c : bit k e.clear ≡ false = or_right (bit k e.set) (bit k e.clear) q in
      ap₂ ◌||◌ (lists_set_lem e k l ∙ s) (lists_clear_lem e k l ∙ rw (s, c) (none (writes_bang e && not (kept_as_written e))))
    where
      none : (b : Bool) → (cond b false false && true) ≡ false
      none true = refl
      none false = refl
