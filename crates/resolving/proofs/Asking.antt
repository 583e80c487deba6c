-- Names gathered one at a time come to what the model's `asked` says; an event without names asks its own bits.
use Prim.Native.Nat.{ℕ, ◌-◌, ◌<◌}
use borrow.Author.Tests.{eq-eqb, ne_eqb}
use Rattle.std.specs.List.{fold}
use Rattle.std.proofs.lemmas.Bool.{or_parts}
use native.Mathlib.Omega.{arith}
use mathlib.Core.Path.{◌≡◌, refl, sym, ap, ap₂, ◌∙◌}
use mathlib.Core.Bool.{Bool, true, false, cond, not, ◌&&◌, ◌||◌, true≢false}
use mathlib.Core.List.{List, [], ◌∷◌}
use lib.Dec.{eqb}
use lib.Bits.{bit_and, bit_or, or_zero_l}
use Rattle.model.specs.Lists.{any}
use Rattle.model.specs.Modifiers.{bit, bits, mask, is_shift_or_lock, is_testable, asks_bit}
use Rattle.model.specs.Setting.{Setting}
use Rattle.model.specs.Named.{no_keysyms, marked_keysym, is_listed}
use Rattle.model.specs.Resolving.{ListedName, named_keysym, names_of, holds_keysym, keycode_holds, row_of, has_bit, is_unmet, resolves_set, resolves_clear, resolves}
use Rattle.model.specs.Asked.{asks_bit_set, asks_bit_clear, is_unlisted, asked}
use Rattle.model.specs.declared.events.Detail.{Detail}
use Rattle.model.specs.declared.events.Keysyms.{Keysyms}
use Rattle.model.specs.declared.events.KeptEvent.{KeptEvent}
use Rattle.modifiers.proofs.Digits.{bit_none}
use Rattle.modifiers.proofs.Masks.{same_mask, bit_mask, mask_bits, mask_below, mask_or, mask_and, mask_not, mask_none}
use Rattle.modifiers.proofs.Below.{none_at_lem, none_from, any_bits}
use Rattle.keyboard.specs.Maps.{lent_setting}
use Rattle.resolving.specs.declared.Resolved.{Resolved}
use Rattle.resolving.specs.Gathering.{bits_of, gathered, with_bits, testable_mask, other_bits, tested, resolved_test}

-- ---- One name

-- a mask is 0 where no bit passes
mask_zero : (f : ℕ → Bool) → eqb (mask f) 0 ≡ not (any f bits)
mask_zero f = go (any f bits) refl
  where
    none : mask f ≡ 0 → any f bits ≡ false
    none z = any_bits f ∙ none_from 13 f (λ k h. sym (bit_mask f k h) ∙ ap (bit k) z ∙ bit_none k)

    go : (b : Bool) → any f bits ≡ b → eqb (mask f) 0 ≡ not b
    go true q = ne_eqb (mask f) 0 (λ z. true≢false (sym q ∙ none z))
    go false q =
        eq-eqb (mask f) 0 (same_mask f (λ k. false) (λ k h. none_at_lem 13 f (sym (any_bits f) ∙ q) k h) ∙ mask_none)

bits_if : (b : Bool) (f : ℕ → Bool) → mask (λ k. b && f k) ≡ cond b (mask f) 0
bits_if true f = refl
bits_if false f = mask_none

holds_twice : (keyboard : List ℕ) (v c : ℕ) → keycode_holds keyboard (v ∷ v ∷ []) c ≡ keycode_holds keyboard (v ∷ []) c
unfolding keycode_holds
holds_twice keyboard v c = ap (λ (b : Bool). not (eqb c 0) && b) (twice (holds_keysym keyboard c v))
  where
    twice : (a : Bool) → a || (a || false) ≡ a || false
    twice true = refl
    twice false = refl

same_row : (f g : ℕ → Bool) → ((c : ℕ) → f c ≡ g c) → (row : List ℕ) → any f row ≡ any g row
same_row f g s [] = refl
same_row f g s (c ∷ cs) = ap₂ ◌||◌ (s c) (same_row f g s cs)

-- a name that is not listed asks nothing
pub with_none : (so : Resolved) (m : ℕ) (set clear : Bool) → set || clear ≡ false → with_bits so m set clear ≡ so
unfolding with_bits
with_none so m set clear e =
    let o = or_parts set clear e in
    rw (o.0, o.1, or_zero_l so.set, or_zero_l so.clear)

module _ (setting : Setting) where
  name_bits : (n : ListedName) → mask (has_bit setting n) ≡ bits_of setting n.keysyms
  unfolding bits_of has_bit
  name_bits n = refl

  -- a keysym twice is that keysym
  pub bits_twice : (v : ℕ) → bits_of setting (v ∷ v ∷ []) ≡ bits_of setting (v ∷ [])
  unfolding bits_of
  bits_twice v =
      same_mask (λ k. any (keycode_holds setting.keyboard (v ∷ v ∷ [])) (row_of setting.modifiers k))
      (λ k. any (keycode_holds setting.keyboard (v ∷ [])) (row_of setting.modifiers k))
      (λ k h. same_row (keycode_holds setting.keyboard (v ∷ v ∷ [])) (keycode_holds setting.keyboard (v ∷ []))
      (holds_twice setting.keyboard v) (row_of setting.modifiers k))

  -- ---- Names

  pub gathered_none : record { set = 0; clear = 0; dead = false } ≡ gathered setting []
  unfolding gathered
  gathered_none = rw mask_none

  -- a name listed so, and others
  joined : (b : Bool) (n : ListedName) (f : ℕ → Bool)
      → bit_or (cond b (bits_of setting n.keysyms) 0) (mask f) ≡ mask (λ k. (b && has_bit setting n k) || f k)
  joined b n f =
      ap (λ (m : ℕ). bit_or m (mask f)) (sym (bits_if b (has_bit setting n) ∙ ap (λ (m : ℕ). cond b m 0) (name_bits n)))
      ∙ sym (mask_or (λ k. b && has_bit setting n k) f)

  unmet : (n : ListedName) → n.set && eqb (bits_of setting n.keysyms) 0 ≡ is_unmet setting n
  unfolding is_unmet
  unmet n =
      ap (λ (b : Bool). n.set && b)
      (ap (λ (m : ℕ). eqb m 0) (sym (name_bits n)) ∙ mask_zero (has_bit setting n))

  gathered_cons : (n : ListedName) (ns : List ListedName)
      → with_bits (gathered setting ns) (bits_of setting n.keysyms) n.set n.clear ≡ gathered setting (n ∷ ns)
  unfolding gathered with_bits
  gathered_cons n ns =
      rw (
        joined n.set n (λ k. any (λ m. m.set && has_bit setting m k) ns),
        joined n.clear n (λ k. any (λ m. m.clear && has_bit setting m k) ns),
        unmet n,
      )

  pub gathered_more : (n : ListedName) (ns : List ListedName) (so : Resolved) → so ≡ gathered setting ns
      → with_bits so (bits_of setting n.keysyms) n.set n.clear ≡ gathered setting (n ∷ ns)
  gathered_more n ns so e = ap (λ (r : Resolved). with_bits r (bits_of setting n.keysyms) n.set n.clear) e ∙ gathered_cons n ns

  -- a keysym after `@` more
  abbrev pub with_marked : Resolved → ℕ → Resolved
  with_marked so s = with_bits so (bits_of setting (marked_keysym s ∷ [])) (is_listed false s) (is_listed true s)

  pub gathered_keysyms : (a b c d : ℕ)
      → fold with_marked (record { set = 0; clear = 0; dead = false }) (d ∷ c ∷ b ∷ a ∷ [])
      ≡ gathered setting (named_keysym a ∷ named_keysym b ∷ named_keysym c ∷ named_keysym d ∷ [])
  gathered_keysyms a b c d =
      gathered_more (named_keysym a) _ _
      (gathered_more (named_keysym b) _ _
      (gathered_more (named_keysym c) _ _
      (gathered_more (named_keysym d) _ _ gathered_none)))

-- the multi-click time plays no part
timeless : (maps : List ℕ) (a b : ℕ) (ns : List ListedName) → gathered (lent_setting maps a) ns ≡ gathered (lent_setting maps b) ns
unfolding gathered is_unmet has_bit
timeless maps a b ns = refl

-- ---- The event

testable_mask_lem : (colon : Bool) → mask (λ k. not (colon && is_shift_or_lock k)) ≡ testable_mask colon
unfolding mask
testable_mask_lem true = refl
testable_mask_lem false = refl

module _ (setting : Setting) (e : KeptEvent) (hs : e.set < 8192) (hc : e.clear < 8192) where
  abbrev listed_bits : ℕ
  listed_bits = bit_or (bit_or e.set e.clear) (bit_or (mask (resolves_set setting e)) (mask (resolves_clear setting e)))

  within : (f : ℕ → Bool) → mask (λ k. is_testable e k && f k) ≡ bit_and (testable_mask e.colon) (mask f)
  within f = mask_and (is_testable e) f ∙ ap (λ (m : ℕ). bit_and m (mask f)) (testable_mask_lem e.colon)

  set_is : bit_or e.set (bit_and (testable_mask e.colon) (mask (resolves_set setting e))) ≡ mask (asks_bit_set setting e)
  unfolding asks_bit_set
  set_is =
      sym (mask_or (λ k. bit k e.set) (λ k. is_testable e k && resolves_set setting e k)
      ∙ ap₂ bit_or (mask_bits e.set hs) (within (resolves_set setting e)))

  listed_is : mask (λ k. asks_bit e k || resolves setting e k) ≡ listed_bits
  listed_is =
      mask_or (asks_bit e) (resolves setting e)
      ∙ ap₂ bit_or
      (mask_or (λ k. bit k e.set) (λ k. bit k e.clear) ∙ ap₂ bit_or (mask_bits e.set hs) (mask_bits e.clear hc))
      (mask_or (resolves_set setting e) (resolves_clear setting e))

  others_are : mask (λ k. e.bang && is_unlisted setting e k) ≡ other_bits e.bang listed_bits
  others_are =
      bits_if e.bang (is_unlisted setting e)
      ∙ ap (λ (m : ℕ). cond e.bang m 0)
      (same_mask (is_unlisted setting e) (λ k. not (asks_bit e k || resolves setting e k)) (λ k h. grind arith)
      ∙ mask_not (λ k. asks_bit e k || resolves setting e k)
      ∙ ap (λ (m : ℕ). 8191 - m) listed_is)

  clear_is :
      bit_or e.clear (bit_and (testable_mask e.colon) (bit_or (mask (resolves_clear setting e)) (other_bits e.bang listed_bits)))
      ≡ mask (asks_bit_clear setting e)
  unfolding asks_bit_clear
  clear_is =
      sym (mask_or (λ k. bit k e.clear) (λ k. is_testable e k && (resolves_clear setting e k || (e.bang && is_unlisted setting e k)))
      ∙ ap₂ bit_or (mask_bits e.clear hc)
      (within (λ k. resolves_clear setting e k || (e.bang && is_unlisted setting e k))
      ∙ ap (bit_and (testable_mask e.colon))
      (mask_or (resolves_clear setting e) (λ k. e.bang && is_unlisted setting e k)
      ∙ ap (bit_or (mask (resolves_clear setting e))) others_are)))

  tested_names : tested e.set e.clear e.colon e.bang (gathered setting (names_of e)) ≡ resolved_test (asked setting e)
  unfolding tested gathered asked resolves_set resolves_clear
  tested_names = rw (set_is, clear_is)

pub tested_asked : (maps : List ℕ) (e : KeptEvent) (by : Resolved) (limit : ℕ) → e.set < 8192 → e.clear < 8192
    → by ≡ gathered (lent_setting maps 0) (names_of e)
    → tested e.set e.clear e.colon e.bang by ≡ resolved_test (asked (lent_setting maps limit) e)
tested_asked maps e by limit hs hc g =
    ap (tested e.set e.clear e.colon e.bang) (g ∙ timeless maps 0 limit (names_of e))
    ∙ tested_names (lent_setting maps limit) e hs hc

pub gathered_below : (setting : Setting) (ns : List ListedName) (by : Resolved) → by ≡ gathered setting ns → (by.set < 8192) × (by.clear < 8192)
unfolding gathered
gathered_below setting ns by e = (
  rw (ap (λ (r : Resolved). r.set) e) (mask_below (λ k. any (λ n. n.set && has_bit setting n k) ns)),
  rw (ap (λ (r : Resolved). r.clear) e) (mask_below (λ k. any (λ n. n.clear && has_bit setting n k) ns)),
)

pub asked_below : (setting : Setting) (e : KeptEvent) (by : Resolved) → by ≡ resolved_test (asked setting e) → (by.set < 8192) × (by.clear < 8192)
unfolding asked
asked_below setting e by q = (
  rw (ap (λ (r : Resolved). r.set) q) (mask_below (asks_bit_set setting e)),
  rw (ap (λ (r : Resolved). r.clear) q) (mask_below (asks_bit_clear setting e)),
)

-- ---- An event without names

abbrev names_from : ℕ → Keysyms → List ListedName
names_from names k = names_of (record { code = 0; set = 0; clear = 0; colon = false; clause = false; detail = Detail.Unspecified; count = 0; bang = false; names = names; keysyms = k })

names_from_lem : (e : KeptEvent) → names_of e ≡ names_from e.names e.keysyms
unfolding names_of
names_from_lem e = refl

module _ (setting : Setting) where
  none_set : (k : ℕ) → any (λ n. n.set && has_bit setting n k) (names_from 0 no_keysyms) ≡ false
  unfolding names_of
  none_set k = refl

  none_clear : (k : ℕ) → any (λ n. n.clear && has_bit setting n k) (names_from 0 no_keysyms) ≡ false
  unfolding names_of
  none_clear k = refl

  none_unmet : any (is_unmet setting) (names_from 0 no_keysyms) ≡ false
  unfolding names_of is_unmet
  none_unmet = refl

module _ (setting : Setting) (e : KeptEvent) (hs : e.set < 8192) (hc : e.clear < 8192)
    (plain : e.bang ≡ false) (unnamed : e.names ≡ 0) (bare : e.keysyms ≡ no_keysyms) where
  no_names : names_of e ≡ names_from 0 no_keysyms
  no_names = names_from_lem e ∙ ap₂ names_from unnamed bare

  no_set : (k : ℕ) → resolves_set setting e k ≡ false
  unfolding resolves_set
  no_set k = ap (any (λ n. n.set && has_bit setting n k)) no_names ∙ none_set setting k

  no_clear : (k : ℕ) → resolves_clear setting e k ≡ false
  unfolding resolves_clear
  no_clear k = ap (any (λ n. n.clear && has_bit setting n k)) no_names ∙ none_clear setting k

  plain_set : mask (asks_bit_set setting e) ≡ e.set
  unfolding asks_bit_set
  plain_set = same_mask (asks_bit_set setting e) (λ k. bit k e.set) (λ k h. grind (arith, no_set k)) ∙ mask_bits e.set hs

  plain_clear : mask (asks_bit_clear setting e) ≡ e.clear
  unfolding asks_bit_clear
  plain_clear = same_mask (asks_bit_clear setting e) (λ k. bit k e.clear) (λ k h. grind (arith, no_clear k)) ∙ mask_bits e.clear hc

  -- it asks its own bits, whatever the maps
  pub asked_plain : asked setting e ≡ record { set = e.set; clear = e.clear; clause = e.clause; dead = false }
  unfolding asked
  asked_plain = rw (plain_set, plain_clear, no_names, none_unmet)
