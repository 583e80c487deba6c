-- Modifier lists: `!`, `:`, the modifiers up to the `<`, or `None` or `Any` alone.
use Prim.Native.Nat.{ℕ, ◌+◌, ◌≤◌}
use Prim.Native.Char.{code}
use native.Mathlib.Omega.{arith}
use mathlib.Core.Path.{◌≡◌, refl, sym, ap, ◌∙◌}
use mathlib.Core.Bool.{Bool, true, false, not, ◌&&◌, ◌||◌, false≢true}
use Rattle.std.specs.Prelude.{Option, None, Some}
use mathlib.Core.List.{List, [], ◌∷◌}
use lib.Dec.{eqb}
use lib.ListN.{length}
use borrow.Author.Tests.{eqb-true}
use Rattle.model.specs.Lists.{bytes, same, any}
use Rattle.model.specs.Bytes.{skip}
use Rattle.model.specs.Events as Written
use Rattle.model.specs.Events.{lead_colon, lead_from, lead_at, modifiers_at, has_tilde, is_none_or_any, stands_alone, lone_list, list_of}
use Rattle.model.specs.declared.scan.Lead.{Lead}
use Rattle.model.proofs.Sameness.{same_eq}
use Rattle.grammar.specs.Bytes.{letter_or_digit}
use Rattle.grammar.specs.Tokens.{Word, Blanks, Sign, Optional}
use Rattle.grammar.specs.Modifiers as Grammar
use Rattle.grammar.proofs.Places.{At, SignView, is, isnt, view, first, past, at_byte, at_next, at_skip, past_blanks, blanks_none, blanks_same, word_first, and_right, blanks_length, word_length, optional_length}
use Rattle.grammar.proofs.Modifiers.{modifiers_complete, modifiers_length, one_complete}

module _ (l : List ℕ) where
  -- ---- `!` and `:`

  data ColonRead (bang : Bool) (k : List ℕ) : Lead → Type 0 where
    colon_read : {m : List ℕ} {c : Bool} {n : ℕ} → Optional ":" k c m → At l n m
        → ColonRead bang k (record { bang = bang; colon = c; next = n })

  colon_view : (bang : Bool) {k s : List ℕ} (p : ℕ) → At l p s → Blanks k s → SignView (code ":") s → ColonRead bang k (lead_colon l bang p)
  unfolding lead_colon
  colon_view bang {k} {s} p x y (is {r = m}) =
      rw (at_byte l p s x) (colon_read (Optional.there (record { before = y })) (at_next l p (code ":") m x))
  colon_view bang {k} {s} p x y (isnt e) =
      rw (at_byte l p s x, e) (colon_read (Optional.missing y) x)

  colon_sound : (bang : Bool) {k s : List ℕ} (p : ℕ) → At l p s → Blanks k s → ColonRead bang k (lead_colon l bang p)
  colon_sound bang {k} {s} p x y = colon_view bang p x y (view (code ":") refl s)

  pub data LeadRead (r : List ℕ) : Lead → Type 0 where
    lead : {k m : List ℕ} {b c : Bool} {n : ℕ} → Optional "!" r b k → Optional ":" k c m → At l n m
        → LeadRead r (record { bang = b; colon = c; next = n })

  lead_colon_lem : {r k : List ℕ} {b : Bool} {x : Lead} → Optional "!" r b k → ColonRead b k x → LeadRead r x
  lead_colon_lem o (colon_read c x) = lead o c x

  lead_view : {r s : List ℕ} (p : ℕ) → At l p s → Blanks r s → SignView (code "!") s → LeadRead r (lead_from l p)
  unfolding lead_from
  lead_view {r} {s} p x y (is {r = m}) =
      let z = past m in
      rw (at_byte l p s x)
      (lead_colon_lem (Optional.there (record { before = y }))
      (colon_sound true (skip l (p + 1)) (at_skip l (p + 1) (at_next l p (code "!") m x) z.blanks) z.blanks))
  lead_view {r} {s} p x y (isnt e) =
      rw (at_byte l p s x, e)
      (lead_colon_lem (Optional.missing y) (colon_sound false p x (past_blanks y)))

  pub lead_sound : {r : List ℕ} (p : ℕ) → At l p r → LeadRead r (lead_at l p)
  unfolding lead_at
  lead_sound {r} p x = let y = past r in lead_view (skip l p) (at_skip l p x y.blanks) y.blanks (view (code "!") refl y.rest)

  record LeadGot (x : Lead) (b c : Bool) (m : List ℕ) : Type 0 where
    next : ℕ
    reads : x ≡ record { bang = b; colon = c; next = next }
    at : At l next m

  -- past its blanks a list does not begin with a sign
  record Without (c : ℕ) (r : List ℕ) : Type 0 where
    from : List ℕ
    blanks : Blanks r from
    no_sign : eqb (first from) c ≡ false

  without_first : {c : ℕ} {r s : List ℕ} → Blanks r s → Without c s → eqb (first s) c ≡ false
  without_first {c} {r} {s} y w = rw (blanks_none w.blanks y.run.longest) w.no_sign

  -- neither `!` nor `:` begins a modifier, or stands for the `<`
  module _ (c : ℕ) (no_name : letter_or_digit c ≡ false) (no_at : eqb (code "@") c ≡ false) (no_tilde : eqb (code "~") c ≡ false)
      (no_less : eqb (code "<") c ≡ false) where
    name_without : {tilde : Bool} {r k : List ℕ} {m : Written.Modifier} → Grammar.DerivesModifierName tilde r m k → Without c r
    name_without (Grammar.DerivesModifierName.keysym {m = s} y word) = record { from = code "@" ∷ s; blanks = y.before; no_sign = no_at }
    name_without (Grammar.DerivesModifierName.name {m = s} y word) = record { from = s; blanks = y; no_sign = word_first word c no_name }

    modifier_without : {r k : List ℕ} {m : Written.Modifier} → Grammar.DerivesModifier r m k → Without c r
    modifier_without (Grammar.DerivesModifier.plain d) = name_without d
    modifier_without (Grammar.DerivesModifier.tilde {k = k} s d) = record { from = code "~" ∷ k; blanks = s.before; no_sign = no_tilde }

    modifiers_without : {r k m : List ℕ} {ms : List Written.Modifier} → Grammar.DerivesModifiers r ms k → Sign "<" k m → Without c r
    modifiers_without {m = m} Grammar.DerivesModifiers.none s = record { from = code "<" ∷ m; blanks = s.before; no_sign = no_less }
    modifiers_without (Grammar.DerivesModifiers.more d e ds) s = modifier_without d

  colon_complete :
      (bang : Bool) {k m s : List ℕ} {c : Bool} (p : ℕ) → At l p s → Blanks k s → Optional ":" k c m → Without (code ":") m
      → LeadGot (lead_colon l bang p) bang c m
  unfolding lead_colon
  colon_complete bang {k} {m} {s} p x y (Optional.there t) n =
      let x1 : At l p (code ":" ∷ m) = rw (blanks_same y t.before) at x in
      record { next = p + 1; reads = rw (at_byte l p (code ":" ∷ m) x1); at = at_next l p (code ":") m x1 }
  colon_complete bang {k} {m} {s} p x y (Optional.missing z) n =
      let x1 : At l p m = rw (blanks_same y z) at x in
      record { next = p; reads = rw (at_byte l p m x1, without_first z n); at = x1 }

  colon_without : {k m : List ℕ} {c : Bool} → Optional ":" k c m → Without (code "!") m → Without (code "!") k
  colon_without {k} {m} (Optional.there t) n = record { from = code ":" ∷ m; blanks = t.before; no_sign = refl }
  colon_without {k} {m} (Optional.missing z) n = record { from = m; blanks = z; no_sign = without_first z n }

  lead_complete :
      {r k m : List ℕ} {b c : Bool} (p : ℕ) → At l p r → Optional "!" r b k → Optional ":" k c m → Without (code "!") m
      → Without (code ":") m → LeadGot (lead_at l p) b c m
  unfolding lead_at lead_from
  lead_complete {r} {k} p x (Optional.there t) o n i =
      let z = past k in
      let x1 = at_skip l p x t.before in
      rw (at_byte l (skip l p) (code "!" ∷ k) x1)
      (colon_complete true (skip l (skip l p + 1)) (at_skip l (skip l p + 1) (at_next l (skip l p) (code "!") k x1) z.blanks) z.blanks o i)
  lead_complete {r} {k} p x (Optional.missing y) o n i =
      let x1 = at_skip l p x y in
      rw (at_byte l (skip l p) k x1, without_first y (colon_without o n)) (colon_complete false (skip l p) x1 (past_blanks y) o i)

  -- ---- `None` and `Any` stand alone

  alone_same : (ms : List Written.Modifier) → any is_none_or_any ms ≡ any Grammar.is_lone_name ms
  alone_same [] = refl
  alone_same (Written.Modifier.name t w ∷ ms) = ap (λ b. same w (bytes "None") || same w (bytes "Any") || b) (alone_same ms)
  alone_same (Written.Modifier.keysym t w ∷ ms) = alone_same ms

  pub data ListRead (r j : List ℕ) : Option Written.ModifierList → Type 0 where
    refused : ListRead r j None
    list : {ml : Written.ModifierList} → Grammar.DerivesModifierList r ml j → ListRead r j (Some ml)

  or_second : (a b : Bool) → (a || b || false) ≡ true → a ≡ false → b ≡ true
  or_second true b e f = absurd (false≢true (sym f))
  or_second false true e f = refl
  or_second false false e f = e

  lone_word :
      {r s w j : List ℕ} → Blanks r s → Word letter_or_digit s w j → any is_none_or_any (Written.Modifier.name false w ∷ []) ≡ true
      → (t : Bool) → same w (bytes "None") ≡ t → Grammar.DerivesModifierList r (lone_list (Written.Modifier.name false w ∷ [])) j
  lone_word {r} {s} {w} {j} y word a true e =
      let i : w ≡ bytes "None" = same_eq w (bytes "None") e in
      rw e (Grammar.DerivesModifierList.none y (rw i at word))
  lone_word {r} {s} {w} {j} y word a false e =
      let i : w ≡ bytes "Any" = same_eq w (bytes "Any") (or_second (same w (bytes "None")) (same w (bytes "Any")) a e) in
      rw e (Grammar.DerivesModifierList.any y (rw i at word))

  lone_modifier :
      {r s j : List ℕ} {x : Written.Modifier} → Blanks r s → Grammar.DerivesModifier s x j → any is_none_or_any (x ∷ []) ≡ true → has_tilde x ≡ false
      → Grammar.DerivesModifierList r (lone_list (x ∷ [])) j
  lone_modifier y (Grammar.DerivesModifier.plain (Grammar.DerivesModifierName.name {w = w} z word)) a t =
      lone_word (rw (sym (blanks_none z y.run.longest)) y) word a (same w (bytes "None")) refl
  lone_modifier y (Grammar.DerivesModifier.plain (Grammar.DerivesModifierName.keysym z word)) a t = absurd (false≢true a)
  lone_modifier y (Grammar.DerivesModifier.tilde u (Grammar.DerivesModifierName.name z word)) a t = absurd (false≢true (sym t))
  lone_modifier y (Grammar.DerivesModifier.tilde u (Grammar.DerivesModifierName.keysym z word)) a t = absurd (false≢true a)

  and_left_not : (a b : Bool) → (not (a || false) && b) ≡ true → a ≡ false
  and_left_not true b e = absurd (false≢true e)
  and_left_not false b e = refl

  lone :
      (bang colon : Bool) {r k m j : List ℕ} (ms : List Written.Modifier) → Optional "!" r bang k → Optional ":" k colon m
      → Grammar.DerivesModifiers m ms j → any is_none_or_any ms ≡ true → stands_alone bang colon ms ≡ true
      → Grammar.DerivesModifierList r (lone_list ms) j
  lone true colon ms o c d a s = absurd (false≢true s)
  lone false true ms o c d a s = absurd (false≢true s)
  lone false false [] o c d a s = absurd (false≢true a)
  lone false false (x ∷ []) (Optional.missing y) (Optional.missing z) (Grammar.DerivesModifiers.more d p Grammar.DerivesModifiers.none) a s =
      lone_modifier (rw (blanks_none z y.run.longest) at y) d a (and_left_not (has_tilde x) (eqb 1 1) s)
  lone false false (x ∷ v ∷ ms) o c d a s =
      let i : length (x ∷ v ∷ ms) ≡ 1 = eqb-true (length (x ∷ v ∷ ms)) 1 (and_right (not (any has_tilde (x ∷ v ∷ ms))) (eqb (length (x ∷ v ∷ ms)) 1) s) in
      absurd (omega arith)

  list_view :
      {bang colon : Bool} {r k m j : List ℕ} {ms : List Written.Modifier} → Optional "!" r bang k → Optional ":" k colon m
      → Grammar.DerivesModifiers m ms j → (t u : Bool) → any is_none_or_any ms ≡ t → stands_alone bang colon ms ≡ u
      → ListRead r j (list_of bang colon ms)
  unfolding list_of
  list_view {bang} {colon} {ms = ms} o c d false u e f = rw e (list (Grammar.DerivesModifierList.listed o c d (sym (alone_same ms) ∙ e)))
  list_view {bang} {colon} {ms = ms} o c d true false e f = rw (e, f) refused
  list_view {bang} {colon} {ms = ms} o c d true true e f = rw (e, f) (list (lone bang colon ms o c d e f))

  pub list_sound :
      {bang colon : Bool} {r k m j : List ℕ} {ms : List Written.Modifier} → Optional "!" r bang k → Optional ":" k colon m
      → Grammar.DerivesModifiers m ms j → ListRead r j (list_of bang colon ms)
  list_sound {bang} {colon} {ms = ms} o c d = list_view o c d (any is_none_or_any ms) (stands_alone bang colon ms) refl refl

  -- a list that the grammar derives is read, up to its `<`
  pub record ListGot (p : ℕ) (ml : Written.ModifierList) (m : List ℕ) : Type 0 where
    pub lead : Lead
    pub ms : List Written.Modifier
    pub next : ℕ
    pub leads : lead_at l p ≡ lead
    pub reads : modifiers_at l lead.next ≡ Written.Modifiers.modifiers ms next
    pub lists : list_of lead.bang lead.colon ms ≡ Some ml
    pub at : At l next (code "<" ∷ m)

  lone_complete :
      (word : List ℕ) (ml : Written.ModifierList) → list_of false false (Written.Modifier.name false word ∷ []) ≡ Some ml
      → {r s j m : List ℕ} (p : ℕ) → At l p r → Blanks r s → Word letter_or_digit s word j → Sign "<" j m → ListGot p ml m
  unfolding lead_at lead_from lead_colon
  lone_complete word ml e {r} {s} {j} {m} p x y w t =
      let x1 = at_skip l p x y in
      let g = one_complete l (length l + 1) (skip l p) (omega (arith, x1.len)) x1 (Grammar.DerivesModifier.plain (Grammar.DerivesModifierName.name (past_blanks y) w)) t in
      record {
        lead = record { bang = false; colon = false; next = skip l p };
        ms = Written.Modifier.name false word ∷ [];
        next = g.next;
        leads = rw (at_byte l (skip l p) s x1, word_first w (code "!") refl, word_first w (code ":") refl);
        reads = g.reads;
        lists = e;
        at = g.at;
      }

  pub list_complete : {r j m : List ℕ} {ml : Written.ModifierList} (p : ℕ) → At l p r → Grammar.DerivesModifierList r ml j → Sign "<" j m → ListGot p ml m
  unfolding list_of
  list_complete p x (Grammar.DerivesModifierList.listed {bang = bang} {colon = colon} {ms = ms} o c d e) t =
      let g = lead_complete p x o c (modifiers_without (code "!") refl refl refl refl d t) (modifiers_without (code ":") refl refl refl refl d t) in
      let h = modifiers_complete l (length l + 1) g.next (omega (arith, g.at.len)) g.at d t in
      record {
        lead = record { bang = bang; colon = colon; next = g.next };
        ms = ms;
        next = h.next;
        leads = g.reads;
        reads = h.reads;
        lists = rw (alone_same ms ∙ e);
        at = h.at;
      }
  list_complete p x (Grammar.DerivesModifierList.none y w) t = lone_complete (bytes "None") Written.ModifierList.no_modifier refl p x y w t
  list_complete p x (Grammar.DerivesModifierList.any y w) t = lone_complete (bytes "Any") Written.ModifierList.any_modifier refl p x y w t

  pub list_length : {r j : List ℕ} {ml : Written.ModifierList} → Grammar.DerivesModifierList r ml j → length j ≤ length r
  list_length (Grammar.DerivesModifierList.listed o c d e) = omega (arith, optional_length o, optional_length c, modifiers_length l d)
  list_length (Grammar.DerivesModifierList.none y w) = omega (arith, blanks_length y, word_length w)
  list_length (Grammar.DerivesModifierList.any y w) = omega (arith, blanks_length y, word_length w)
