-- Modifiers before a `<`: what is read at a position is what the grammar derives there.
use Prim.Native.Nat.{ℕ, zero, suc, ◌+◌, ◌≤◌, ◌<◌}
use Prim.Native.Char.{code}
use native.Mathlib.Omega.{arith}
use mathlib.Core.Path.{◌≡◌, refl, sym, ◌∙◌}
use mathlib.Core.Bool.{Bool, true, false, ◌||◌, false≢true}
use mathlib.Core.List.{List, [], ◌∷◌}
use lib.Dec.{eqb}
use lib.ListN.{length}
use Rattle.model.specs.Lists.{part}
use Rattle.model.specs.Bytes.{is_code, run_end, skip}
use Rattle.model.specs.Events as Written
use Rattle.model.specs.Events.{keysym_from, name_from, modifier_name_at, modifier_from, modifier_at, one_more, modifiers_next, modifiers_from}
use Rattle.model.specs.declared.scan.Class.{Class}
use Rattle.model.specs.declared.scan.ModifierRead.{ModifierRead}
use Rattle.grammar.specs.Bytes.{blank, letter_or_digit, keysym_byte}
use Rattle.grammar.specs.Tokens.{begins_with, Run, Blanks, Sign}
use Rattle.grammar.specs.Modifiers as Grammar
use Rattle.grammar.proofs.Places.{At, Ran, SignView, is, isnt, view, first, front, past, at_byte, at_next, at_run, at_skip, ran_some, same_name, same_keysym, word_first, word_begins, kind_not, past_or_blank, blanks_length, sign_length, word_length}

-- a modifier's run has ended, and no `@` stands directly after it
pub record Unjoined (r : List ℕ) : Type 0 where
  pub no_at : eqb (first r) (code "@") ≡ false
  pub no_name : begins_with letter_or_digit r ≡ false

keysym_end : (r : List ℕ) → begins_with keysym_byte r ≡ false → begins_with letter_or_digit r ≡ false
keysym_end [] e = refl
keysym_end (b ∷ r) e = go (letter_or_digit b) (is_code b "_") e
  where
    go : (x y : Bool) → (x || y) ≡ false → x ≡ false
    go true y f = f
    go false y f = refl

module _ (l : List ℕ) where
  -- ---- A name, or `@` with its run

  data NamedRead (tilde : Bool) (r : List ℕ) : ModifierRead → Type 0 where
    broken : NamedRead tilde r ModifierRead.Broken
    name : {k : List ℕ} {a b : ℕ} → Grammar.DerivesModifierName tilde r (Written.Modifier.name tilde (part l a b)) k → At l b k → Unjoined k
        → NamedRead tilde r (ModifierRead.Name tilde a b)
    keysym : {k : List ℕ} {a b : ℕ} → Grammar.DerivesModifierName tilde r (Written.Modifier.keysym tilde (part l a b)) k → At l b k → Unjoined k
        → NamedRead tilde r (ModifierRead.Keysym tilde a b)

  keysym_run :
      (tilde : Bool) {r m : List ℕ} (p : ℕ) → Sign "@" r m → (w k : List ℕ) → Run keysym_byte m w k → Ran l Class.Keysym p w k
      → SignView (code "@") k → NamedRead tilde r (keysym_from tilde l p (run_end Class.Keysym l p))
  unfolding keysym_from
  keysym_run tilde p s [] k run ran v = rw (ran_some l ran) broken
  keysym_run tilde p s (b ∷ w) k run ran is = rw (ran_some l ran, at_byte l (run_end Class.Keysym l p) k ran.next) broken
  keysym_run tilde {r} {m} p s (b ∷ w) k run ran (isnt f) =
      let d : Grammar.DerivesModifierName tilde r (Written.Modifier.keysym tilde (part l p (run_end Class.Keysym l p))) k
      = rw ran.word (Grammar.DerivesModifierName.keysym s (record { run = run; some = refl })) in
      rw (ran_some l ran, at_byte l (run_end Class.Keysym l p) k ran.next, f)
      (keysym d ran.next (record { no_at = f; no_name = keysym_end k run.longest }))

  name_run :
      (tilde : Bool) {r s : List ℕ} (p : ℕ) → At l p s → Blanks r s → (w k : List ℕ) → Run letter_or_digit s w k → Ran l Class.Name p w k
      → SignView (code "@") s → SignView (code "@") k → NamedRead tilde r (name_from tilde l p (run_end Class.Name l p))
  unfolding name_from
  name_run tilde {r} {s} p x y [] k run ran (is {r = m}) v =
      let f = front keysym_byte m in
      let n = at_next l p (code "@") m x in
      rw (ran_some l ran, at_byte l p s x)
      (keysym_run tilde (p + 1) (record { before = y }) f.word f.rest f.run (at_run l same_keysym (p + 1) n f.run)
      (view (code "@") refl f.rest))
  name_run tilde {r} {s} p x y [] k run ran (isnt e) v = rw (ran_some l ran, at_byte l p s x, e) broken
  name_run tilde p x y (b ∷ w) k run ran v is = rw (ran_some l ran, at_byte l (run_end Class.Name l p) k ran.next) broken
  name_run tilde {r} {s} p x y (b ∷ w) k run ran v (isnt f) =
      let d : Grammar.DerivesModifierName tilde r (Written.Modifier.name tilde (part l p (run_end Class.Name l p))) k
      = rw ran.word (Grammar.DerivesModifierName.name y (record { run = run; some = refl })) in
      rw (ran_some l ran, at_byte l (run_end Class.Name l p) k ran.next, f)
      (name d ran.next (record { no_at = f; no_name = run.longest }))

  named_sound : (tilde : Bool) {r s : List ℕ} (p : ℕ) → At l p s → Blanks r s → NamedRead tilde r (modifier_name_at tilde l p)
  unfolding modifier_name_at
  named_sound tilde {r} {s} p x y =
      let f = front letter_or_digit s in
      name_run tilde p x y f.word f.rest f.run (at_run l same_name p x f.run) (view (code "@") refl s) (view (code "@") refl f.rest)

  -- ---- One modifier, or the `<`

  data ModifierView (r : List ℕ) : ModifierRead → Type 0 where
    broken : ModifierView r ModifierRead.Broken
    end : {m : List ℕ} {n : ℕ} → Sign "<" r m → At l n (code "<" ∷ m) → ModifierView r (ModifierRead.End n)
    name : {k : List ℕ} {t : Bool} {a b : ℕ} → Grammar.DerivesModifier r (Written.Modifier.name t (part l a b)) k → At l b k → Unjoined k
        → ModifierView r (ModifierRead.Name t a b)
    keysym : {k : List ℕ} {t : Bool} {a b : ℕ} → Grammar.DerivesModifier r (Written.Modifier.keysym t (part l a b)) k → At l b k → Unjoined k
        → ModifierView r (ModifierRead.Keysym t a b)

  by_plain : {r : List ℕ} {x : ModifierRead} → NamedRead false r x → ModifierView r x
  by_plain broken = broken
  by_plain (name d x u) = name (Grammar.DerivesModifier.plain d) x u
  by_plain (keysym d x u) = keysym (Grammar.DerivesModifier.plain d) x u

  by_tilde : {r k : List ℕ} {x : ModifierRead} → Sign "~" r k → NamedRead true k x → ModifierView r x
  by_tilde s broken = broken
  by_tilde s (name d x u) = name (Grammar.DerivesModifier.tilde s d) x u
  by_tilde s (keysym d x u) = keysym (Grammar.DerivesModifier.tilde s d) x u

  modifier_signs :
      {r s : List ℕ} (p : ℕ) → At l p s → Blanks r s → SignView (code "<") s → SignView (code "~") s → ModifierView r (modifier_from l p)
  unfolding modifier_from
  modifier_signs {r} {s} p x y (is {r = m}) v = rw (at_byte l p s x) (end (record { before = y }) x)
  modifier_signs {r} {s} p x y (isnt e) (is {r = m}) =
      let z = past m in
      rw (at_byte l p s x)
      (by_tilde (record { before = y }) (named_sound true (skip l (p + 1)) (at_skip l (p + 1) (at_next l p (code "~") m x) z.blanks) z.blanks))
  modifier_signs {r} {s} p x y (isnt e) (isnt f) = rw (at_byte l p s x, e, f) (by_plain (named_sound false p x y))

  modifier_sound_lem : {r : List ℕ} (p : ℕ) → At l p r → ModifierView r (modifier_at l p)
  unfolding modifier_at
  modifier_sound_lem {r} p x =
      let y = past r in
      modifier_signs (skip l p) (at_skip l p x y.blanks) y.blanks (view (code "<") refl y.rest) (view (code "~") refl y.rest)

  -- what is read is a modifier, and reading goes on past it
  record ModifierGot (x : ModifierRead) (m : Written.Modifier) (k : List ℕ) : Type 0 where
    next : ℕ
    steps : (rest : ℕ → Written.Modifiers) → modifiers_next l x rest ≡ one_more m (rest next)
    at : At l next k

  -- a modifier's name that the grammar derives, past its blanks
  record NameStart (tilde : Bool) (r : List ℕ) (m : Written.Modifier) (k : List ℕ) : Type 0 where
    from : List ℕ
    blanks : Blanks r from
    no_less : eqb (first from) (code "<") ≡ false
    no_tilde : eqb (first from) (code "~") ≡ false
    got : (p : ℕ) → At l p from → ModifierGot (modifier_name_at tilde l p) m k

  named_complete :
      (tilde : Bool) {r k : List ℕ} {m : Written.Modifier} → eqb (first k) (code "@") ≡ false → Grammar.DerivesModifierName tilde r m k → NameStart tilde r m k
  unfolding modifier_name_at name_from keysym_from
  named_complete tilde {r} {k} u (Grammar.DerivesModifierName.name {m = s} {w = w} y word) =
      record {
        from = s;
        blanks = y;
        no_less = word_first word (code "<") refl;
        no_tilde = word_first word (code "~") refl;
        got = λ p x.
            let ran = at_run l same_name p x word.run in
            let e = run_end Class.Name l p in
            let q : name_from tilde l p e ≡ ModifierRead.Name tilde p e = rw (ran_some l ran, word.some, at_byte l e k ran.next, u) in
            record { next = e; steps = λ rest. rw (q, ran.word); at = ran.next };
      }
  named_complete tilde {r} {k} u (Grammar.DerivesModifierName.keysym {m = s} {w = w} y word) =
      record {
        from = code "@" ∷ s;
        blanks = y.before;
        no_less = refl;
        no_tilde = refl;
        got = λ p x.
            let none : Run letter_or_digit (code "@" ∷ s) [] (code "@" ∷ s) = record { split = refl; within = refl; longest = refl } in
            let empty = at_run l same_name p x none in
            let x1 = at_next l p (code "@") s x in
            let ran = at_run l same_keysym (p + 1) x1 word.run in
            let e = run_end Class.Keysym l (p + 1) in
            let q : name_from tilde l p (run_end Class.Name l p) ≡ ModifierRead.Keysym tilde (p + 1) e
            = rw (ran_some l empty, at_byte l p (code "@" ∷ s) x, ran_some l ran, word.some, at_byte l e k ran.next, u) in
            record { next = e; steps = λ rest. rw (q, ran.word); at = ran.next };
      }

  modifier_complete :
      {r k : List ℕ} {m : Written.Modifier} (p : ℕ) → At l p r → eqb (first k) (code "@") ≡ false → Grammar.DerivesModifier r m k
      → ModifierGot (modifier_at l p) m k
  unfolding modifier_at modifier_from
  modifier_complete {r} {k} p x u (Grammar.DerivesModifier.plain d) =
      let n = named_complete false u d in
      let x1 = at_skip l p x n.blanks in
      rw (at_byte l (skip l p) n.from x1, n.no_less, n.no_tilde) (n.got (skip l p) x1)
  modifier_complete {r} {k} p x u (Grammar.DerivesModifier.tilde {k = j} s d) =
      let n = named_complete true u d in
      let x1 = at_skip l p x s.before in
      let x2 = at_skip l (skip l p + 1) (at_next l (skip l p) (code "~") j x1) n.blanks in
      rw (at_byte l (skip l p) (code "~" ∷ j) x1) (n.got (skip l (skip l p + 1)) x2)

  -- ---- All modifiers of a list

  pub data ModifiersRead (r : List ℕ) : Written.Modifiers → Type 0 where
    broken : ModifiersRead r Written.Modifiers.broken
    modifiers : {k m : List ℕ} {ms : List Written.Modifier} {n : ℕ} → Grammar.DerivesModifiers r ms k → Sign "<" k m → At l n (code "<" ∷ m)
        → ModifiersRead r (Written.Modifiers.modifiers ms n)

  parts_blank : (b : ℕ) → blank b ≡ true → Grammar.parts b ≡ true
  parts_blank b e = rw e

  parted_name : {tilde : Bool} {r k : List ℕ} {m : Written.Modifier} → Unjoined r → Grammar.DerivesModifierName tilde r m k → begins_with Grammar.parts r ≡ true
  parted_name {tilde} {r} u (Grammar.DerivesModifierName.keysym y word) =
      past_or_blank Grammar.parts y.before parts_blank
      (λ q. let z : true ≡ false = rw q at u.no_at in absurd (false≢true (sym z)))
  parted_name {tilde} {r} u (Grammar.DerivesModifierName.name y word) =
      past_or_blank Grammar.parts y parts_blank
      (λ q. let z : begins_with letter_or_digit r ≡ true = rw q (word_begins word) in absurd (false≢true (sym u.no_name ∙ z)))

  parted_one : {r k : List ℕ} {m : Written.Modifier} → Unjoined r → Grammar.DerivesModifier r m k → begins_with Grammar.parts r ≡ true
  parted_one u (Grammar.DerivesModifier.plain d) = parted_name u d
  parted_one u (Grammar.DerivesModifier.tilde s d) = past_or_blank Grammar.parts s.before parts_blank (λ q. rw q)

  parted : {r k m : List ℕ} {ms : List Written.Modifier} → Unjoined r → Grammar.DerivesModifiers r ms k → Sign "<" k m → begins_with Grammar.parts r ≡ true
  parted u Grammar.DerivesModifiers.none s = past_or_blank Grammar.parts s.before parts_blank (λ q. rw q)
  parted u (Grammar.DerivesModifiers.more d e ds) s = parted_one u d

  modifiers_more :
      {r k : List ℕ} {m : Written.Modifier} {x : Written.Modifiers} → Grammar.DerivesModifier r m k → Unjoined k → ModifiersRead k x
      → ModifiersRead r (one_more m x)
  modifiers_more d u broken = broken
  modifiers_more d u (modifiers ds s x) = modifiers (Grammar.DerivesModifiers.more d (parted u ds s) ds) s x

  modifiers_next_lem :
      {r : List ℕ} {x : ModifierRead} (rest : ℕ → Written.Modifiers) → ((n : ℕ) (m : List ℕ) → At l n m → ModifiersRead m (rest n))
      → ModifierView r x → ModifiersRead r (modifiers_next l x rest)
  modifiers_next_lem rest ih broken = broken
  modifiers_next_lem rest ih (end s x) = modifiers Grammar.DerivesModifiers.none s x
  modifiers_next_lem rest ih (name {k = k} {b = b} d x u) = modifiers_more d u (ih b k x)
  modifiers_next_lem rest ih (keysym {k = k} {b = b} d x u) = modifiers_more d u (ih b k x)

  pub modifiers_sound : (fuel p : ℕ) (r : List ℕ) → At l p r → ModifiersRead r (modifiers_from fuel l p)
  unfolding modifiers_from
  modifiers_sound zero p r x = broken
  modifiers_sound (suc fuel) p r x = modifiers_next_lem (λ q. modifiers_from fuel l q) (λ n m y. modifiers_sound fuel n m y) (modifier_sound_lem p x)

  parts_no_at : (r : List ℕ) → begins_with Grammar.parts r ≡ true → eqb (first r) (code "@") ≡ false
  parts_no_at [] e = refl
  parts_no_at (b ∷ r) e = kind_not Grammar.parts (code "@") refl b e

  name_length : {tilde : Bool} {r k : List ℕ} {m : Written.Modifier} → Grammar.DerivesModifierName tilde r m k → length k < length r
  name_length (Grammar.DerivesModifierName.keysym y word) = omega (arith, sign_length y, word_length word)
  name_length (Grammar.DerivesModifierName.name y word) = omega (arith, blanks_length y, word_length word)

  modifier_length : {r k : List ℕ} {m : Written.Modifier} → Grammar.DerivesModifier r m k → length k < length r
  modifier_length (Grammar.DerivesModifier.plain d) = name_length d
  modifier_length (Grammar.DerivesModifier.tilde s d) = omega (arith, sign_length s, name_length d)

  pub modifiers_length : {r k : List ℕ} {ms : List Written.Modifier} → Grammar.DerivesModifiers r ms k → length k ≤ length r
  modifiers_length Grammar.DerivesModifiers.none = omega arith
  modifiers_length (Grammar.DerivesModifiers.more d e ds) = omega (arith, modifier_length d, modifiers_length ds)

  pub record ModifiersGot (x : Written.Modifiers) (ms : List Written.Modifier) (m : List ℕ) : Type 0 where
    pub next : ℕ
    pub reads : x ≡ Written.Modifiers.modifiers ms next
    pub at : At l next m

  modifier_end : {r m : List ℕ} (p : ℕ) → At l p r → Sign "<" r m → modifier_at l p ≡ ModifierRead.End (skip l p)
  unfolding modifier_at modifier_from
  modifier_end {r} {m} p x s = rw (at_byte l (skip l p) (code "<" ∷ m) (at_skip l p x s.before))

  pub modifiers_complete :
      {r k m : List ℕ} {ms : List Written.Modifier} (fuel p : ℕ) → length r < fuel → At l p r → Grammar.DerivesModifiers r ms k → Sign "<" k m
      → ModifiersGot (modifiers_from fuel l p) ms (code "<" ∷ m)
  unfolding modifiers_from
  modifiers_complete zero p f x d s = absurd (omega arith)
  modifiers_complete (suc fuel) p f x Grammar.DerivesModifiers.none s =
      record { next = skip l p; reads = rw (modifier_end p x s); at = at_skip l p x s.before }
  modifiers_complete (suc fuel) p f x (Grammar.DerivesModifiers.more {k = k} d e ds) s =
      let g = modifier_complete p x (parts_no_at k e) d in
      let h = modifiers_complete fuel g.next (omega (arith, modifier_length d)) g.at ds s in
      record { next = h.next; reads = rw (g.steps (λ q. modifiers_from fuel l q), h.reads); at = h.at }

  -- a modifier, with the `<` after it
  pub one_complete :
      {r k m : List ℕ} {x : Written.Modifier} (fuel p : ℕ) → length r < fuel → At l p r → Grammar.DerivesModifier r x k → Sign "<" k m
      → ModifiersGot (modifiers_from fuel l p) (x ∷ []) (code "<" ∷ m)
  one_complete {r} {k} {m} {x} fuel p f a d s =
      modifiers_complete fuel p f a
      (Grammar.DerivesModifiers.more d (past_or_blank Grammar.parts s.before parts_blank (λ q. rw q)) Grammar.DerivesModifiers.none) s
