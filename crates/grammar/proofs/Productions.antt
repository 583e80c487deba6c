-- A line: what is read of it is what the grammar derives from it.
use Prim.Native.Nat.{ℕ, zero, suc, ◌+◌, ◌<◌}
use Prim.Native.Char.{Char, code}
use native.Mathlib.Omega.{arith}
use native.Mathlib.Nat.{add-zero}
use mathlib.Core.Path.{◌≡◌, refl, ◌∙◌}
use mathlib.Core.Bool.{true, false}
use mathlib.Core.List.{List, [], ◌∷◌}
use lib.Dec.{eqb}
use lib.ListN.{length}
use Rattle.model.specs.Lists.{all}
use Rattle.model.specs.Bytes.{run_end, skip}
use Rattle.model.specs.Events as Written
use Rattle.model.specs.Events.{WrittenEvent, EventsRead, lead_at, lead_from, lead_colon, modifiers_from, modifier_at, modifier_from, modifier_name_at, name_from, plain_event_at, events_from, events_at, after_event_from, after_event_at, join_events, after_events, left_next, left_from, left_side}
use Rattle.model.specs.Calls.{WrittenCall, CallsRead}
use Rattle.model.specs.Compiling.{LineRead, with_calls, with_events, line_read}
use Rattle.model.specs.declared.scan.Class.{Class}
use Rattle.model.specs.declared.scan.ModifierRead.{ModifierRead}
use Rattle.model.specs.declared.scan.AfterEvent.{AfterEvent}
use Rattle.grammar.specs.Bytes.{blank, line_byte, letter_or_digit}
use Rattle.grammar.specs.Tokens.{begins_with, Run, Blanks, Sign}
use Rattle.grammar.specs.KeySequences.{Keyseq}
use Rattle.grammar.specs.Productions as Grammar
use Rattle.grammar.proofs.Places.{At, SignView, is, isnt, view, first, past, at_start, at_byte, at_next, at_run, at_skip, ran_some, same_blank, same_name, no_blanks, sign_length}
use Rattle.grammar.proofs.KeySequences.{KeyseqRead, keyseq_sound, keyseq_complete, keychars_length}
use Rattle.grammar.proofs.Events.{EventRead, event_sound, EventGot, event_complete, event_length_lem}
use Rattle.grammar.proofs.Calls.{RhsRead, rhs_sound, rhs_complete}

-- bytes with which no event begins
pub record Dead (r : List ℕ) : Type 0 where
  pub no_blank : begins_with blank r ≡ false
  pub no_bang : eqb (first r) (code "!") ≡ false
  pub no_colon : eqb (first r) (code ":") ≡ false
  pub no_less : eqb (first r) (code "<") ≡ false
  pub no_tilde : eqb (first r) (code "~") ≡ false
  pub no_at : eqb (first r) (code "@") ≡ false
  pub no_name : begins_with letter_or_digit r ≡ false

dead_quote : (m : List ℕ) → Dead (code "\"" ∷ m)
dead_quote m =
    record { no_blank = refl; no_bang = refl; no_colon = refl; no_less = refl; no_tilde = refl; no_at = refl; no_name = refl }

module _ (l : List ℕ) where
  -- ---- An event or a key sequence

  skip_skip : {r : List ℕ} (p : ℕ) → At l p r → skip l (skip l p) ≡ skip l p
  unfolding skip
  skip_skip {r} p x =
      let y = past r in
      let none : Run blank y.rest [] y.rest = record { split = refl; within = refl; longest = y.blanks.run.longest } in
      (at_run l same_blank (run_end Class.Blank l p) (at_run l same_blank p x y.blanks.run).next none).stop ∙ add-zero (run_end Class.Blank l p)

  plain_skip : {r : List ℕ} (p : ℕ) → At l p r → plain_event_at l (skip l p) ≡ plain_event_at l p
  unfolding plain_event_at lead_at
  plain_skip p x = rw (skip_skip p x)

  -- no event begins with such bytes
  module _ {r : List ℕ} (d : Dead r) where
    dead_modifier : (p : ℕ) → At l p r → modifier_at l p ≡ ModifierRead.Broken
    unfolding modifier_at modifier_from modifier_name_at name_from
    dead_modifier p x =
        let x1 = at_skip l p x (no_blanks r d.no_blank) in
        let none : Run letter_or_digit r [] r = record { split = refl; within = refl; longest = d.no_name } in
        rw (at_byte l (skip l p) r x1, d.no_less, d.no_tilde, ran_some l (at_run l same_name (skip l p) x1 none), d.no_at)

    dead_modifiers : (fuel p : ℕ) → At l p r → modifiers_from fuel l p ≡ Written.Modifiers.broken
    unfolding modifiers_from
    dead_modifiers zero p x = refl
    dead_modifiers (suc fuel) p x = rw (dead_modifier p x)

    dead_event : (p : ℕ) → At l (skip l p) r → plain_event_at l p ≡ EventsRead.broken
    unfolding plain_event_at lead_at lead_from lead_colon
    dead_event p x = rw (at_byte l (skip l p) r x, d.no_bang, d.no_colon, dead_modifiers (length l + 1) (skip l p) x)

  data ItemRead (r : List ℕ) : EventsRead → Type 0 where
    broken : ItemRead r EventsRead.broken
    item : {m : List ℕ} {es : List WrittenEvent} {n : ℕ} → Grammar.Item r es m → At l n m → ItemRead r (EventsRead.events es n)

  by_event : {r : List ℕ} {x : EventsRead} → EventRead l r x → ItemRead r x
  by_event EventRead.broken = broken
  by_event (EventRead.event d x) = item (Grammar.Item.event d) x

  by_keys : {r : List ℕ} {x : EventsRead} → KeyseqRead l r x → ItemRead r x
  by_keys KeyseqRead.broken = broken
  by_keys (KeyseqRead.keyseq d x) = item (Grammar.Item.keyseq d) x

  item_view : {r s : List ℕ} (p : ℕ) → At l p r → At l (skip l p) s → Blanks r s → SignView (code "\"") s → ItemRead r (events_from l (skip l p))
  unfolding events_from
  item_view {r} {s} p x x1 y (is {r = m}) =
      rw (at_byte l (skip l p) s x1)
      (by_keys (keyseq_sound l (skip l p + 1) (record { before = y }) (at_next l (skip l p) (code "\"") m x1)))
  item_view {r} {s} p x x1 y (isnt e) = rw (at_byte l (skip l p) s x1, e, plain_skip p x) (by_event (event_sound l p x))

  item_sound : {r : List ℕ} (p : ℕ) → At l p r → ItemRead r (events_at l p)
  unfolding events_at
  item_sound {r} p x = let y = past r in item_view p x (at_skip l p x y.blanks) y.blanks (view (code "\"") refl y.rest)

  record ItemGot (x : EventsRead) (es : List WrittenEvent) (m : List ℕ) : Type 0 where
    next : ℕ
    reads : x ≡ EventsRead.events es next
    at : At l next m

  item_event :
      {r s m : List ℕ} {e : Written.Written} (p : ℕ) → At l p r → At l (skip l p) s → SignView (code "\"") s → EventGot l p e m
      → ItemGot (events_from l (skip l p)) (WrittenEvent.event e ∷ []) m
  unfolding events_from
  item_event p x x1 (is {r = m}) g = let z : ◌≡◌ {A = ℕ} 0 1 = cc (dead_event (dead_quote m) p x1, g.reads) in absurd (omega arith)
  item_event {s = s} p x x1 (isnt f) g =
      record { next = g.next; reads = rw (at_byte l (skip l p) s x1, f, plain_skip p x) g.reads; at = g.at }

  item_keys : {r m : List ℕ} {ks : List WrittenEvent} (p : ℕ) → At l p r → Keyseq r ks m → ItemGot (events_from l (skip l p)) ks m
  unfolding events_from
  item_keys p x (Keyseq.keyseq {m = k} s d e) =
      let x1 = at_skip l p x s.before in
      let g = keyseq_complete l (skip l p + 1) (at_next l (skip l p) (code "\"") k x1) d e in
      record { next = g.next; reads = rw (at_byte l (skip l p) (code "\"" ∷ k) x1) g.reads; at = g.at }

  item_complete : {r m : List ℕ} {es : List WrittenEvent} (p : ℕ) → At l p r → Grammar.Item r es m → ItemGot (events_at l p) es m
  unfolding events_at
  item_complete {r} p x (Grammar.Item.event d) =
      let y = past r in item_event p x (at_skip l p x y.blanks) (view (code "\"") refl y.rest) (event_complete l p x d)
  item_complete p x (Grammar.Item.keyseq d) = item_keys p x d

  keyseq_length : {r m : List ℕ} {ks : List WrittenEvent} → Keyseq r ks m → length m < length r
  keyseq_length (Keyseq.keyseq s d e) = omega (arith, sign_length s, keychars_length l d)

  item_length : {r m : List ℕ} {es : List WrittenEvent} → Grammar.Item r es m → length m < length r
  item_length (Grammar.Item.event d) = event_length_lem l d
  item_length (Grammar.Item.keyseq d) = keyseq_length d

  -- ---- The comma or the colon after it

  data AfterRead (r : List ℕ) : AfterEvent → Type 0 where
    broken : AfterRead r AfterEvent.Broken
    comma : {m : List ℕ} {n : ℕ} → Sign "," r m → At l n m → AfterRead r (AfterEvent.Comma n)
    colon : {m : List ℕ} {n : ℕ} → Sign ":" r m → At l n m → AfterRead r (AfterEvent.Colon n)

  after_view : {r s : List ℕ} (p : ℕ) → At l p s → Blanks r s → SignView (code ",") s → SignView (code ":") s → AfterRead r (after_event_from l p)
  unfolding after_event_from
  after_view {r} {s} p x y (is {r = m}) v = rw (at_byte l p s x) (comma (record { before = y }) (at_next l p (code ",") m x))
  after_view {r} {s} p x y (isnt e) (is {r = m}) = rw (at_byte l p s x) (colon (record { before = y }) (at_next l p (code ":") m x))
  after_view {r} {s} p x y (isnt e) (isnt f) = rw (at_byte l p s x, e, f) broken

  after_sound : {r : List ℕ} (p : ℕ) → At l p r → AfterRead r (after_event_at l p)
  unfolding after_event_at
  after_sound {r} p x =
      let y = past r in
      after_view (skip l p) (at_skip l p x y.blanks) y.blanks (view (code ",") refl y.rest) (view (code ":") refl y.rest)

  comma_after : {r m : List ℕ} (p : ℕ) → At l p r → Sign "," r m → after_event_at l p ≡ AfterEvent.Comma (skip l p + 1)
  unfolding after_event_at after_event_from
  comma_after {r} {m} p x s = rw (at_byte l (skip l p) (code "," ∷ m) (at_skip l p x s.before))

  colon_after : {r m : List ℕ} (p : ℕ) → At l p r → Sign ":" r m → after_event_at l p ≡ AfterEvent.Colon (skip l p + 1)
  unfolding after_event_at after_event_from
  colon_after {r} {m} p x s = rw (at_byte l (skip l p) (code ":" ∷ m) (at_skip l p x s.before))

  past_sign : {c : Char} {r m : List ℕ} (p : ℕ) → At l p r → Sign c r m → At l (skip l p + 1) m
  past_sign {c} {r} {m} p x s = at_next l (skip l p) (code c) m (at_skip l p x s.before)

  -- ---- The events of a line, to past the colon

  data LhsRead (r : List ℕ) : EventsRead → Type 0 where
    broken : LhsRead r EventsRead.broken
    lhs : {k m : List ℕ} {es : List WrittenEvent} {n : ℕ} → Grammar.Lhs r es k → Sign ":" k m → At l n m → LhsRead r (EventsRead.events es n)

  lhs_join :
      {r k m : List ℕ} {es : List WrittenEvent} {x : EventsRead} → Grammar.Item r es k → Sign "," k m → LhsRead m x
      → LhsRead r (join_events es x)
  lhs_join d c broken = broken
  lhs_join d c (lhs ds s x) = lhs (Grammar.Lhs.more d c ds) s x

  lhs_after :
      {r k : List ℕ} {es : List WrittenEvent} {x : AfterEvent} (rest : ℕ → EventsRead)
      → ((n : ℕ) (m : List ℕ) → At l n m → LhsRead m (rest n)) → Grammar.Item r es k → AfterRead k x → LhsRead r (after_events es x rest)
  lhs_after rest ih d broken = broken
  lhs_after rest ih d (comma {m = m} {n = n} c x) = lhs_join d c (ih n m x)
  lhs_after rest ih d (colon c x) = lhs (Grammar.Lhs.one d) c x

  lhs_next :
      {r : List ℕ} {x : EventsRead} (rest : ℕ → EventsRead) → ((n : ℕ) (m : List ℕ) → At l n m → LhsRead m (rest n)) → ItemRead r x
      → LhsRead r (left_next l x rest)
  lhs_next rest ih broken = broken
  lhs_next rest ih (item {n = n} d x) = lhs_after rest ih d (after_sound n x)

  lhs_sound : (fuel p : ℕ) (r : List ℕ) → At l p r → LhsRead r (left_from fuel l p)
  unfolding left_from
  lhs_sound zero p r x = broken
  lhs_sound (suc fuel) p r x = lhs_next (λ q. left_from fuel l q) (λ n m y. lhs_sound fuel n m y) (item_sound p x)

  lhs_complete :
      {r k m : List ℕ} {es : List WrittenEvent} (fuel p : ℕ) → length r < fuel → At l p r → Grammar.Lhs r es k → Sign ":" k m
      → ItemGot (left_from fuel l p) es m
  unfolding left_from
  lhs_complete zero p f x d s = absurd (omega arith)
  lhs_complete (suc fuel) p f x (Grammar.Lhs.one d) s =
      let g = item_complete p x d in
      record {
        next = skip l g.next + 1;
        reads = rw (g.reads, colon_after g.next g.at s);
        at = past_sign g.next g.at s;
      }
  lhs_complete (suc fuel) p f x (Grammar.Lhs.more d c ds) s =
      let g = item_complete p x d in
      let h = lhs_complete fuel (skip l g.next + 1) (omega (arith, item_length d, sign_length c)) (past_sign g.next g.at c) ds s in
      record {
        next = h.next;
        reads = rw (g.reads, comma_after g.next g.at c, h.reads);
        at = h.at;
      }

  -- ---- The whole line

  pub data LineView : LineRead → Type 0 where
    broken : LineView LineRead.broken
    production : {es : List WrittenEvent} {cs : List WrittenCall} → Grammar.DerivesProduction l es cs → LineView (LineRead.production es cs)

  line_calls :
      {k m : List ℕ} {es : List WrittenEvent} {x : CallsRead} → Grammar.Lhs l es k → Sign ":" k m → RhsRead l m x → LineView (with_calls es x)
  line_calls d s RhsRead.broken = broken
  line_calls d s (RhsRead.calls c) = production (Grammar.DerivesProduction.production d s c)

  line_events : all line_byte l ≡ true → {x : EventsRead} → LhsRead l x → LineView (with_events l x)
  line_events clean broken = broken
  line_events clean (lhs {m = m} {n = n} d s x) = line_calls d s (rhs_sound l clean n m x)

  -- what is read of a line is derived from it
  pub line_sound : all line_byte l ≡ true → LineView (line_read l)
  unfolding line_read left_side
  line_sound clean = line_events clean (lhs_sound (length l + 1) 0 l (at_start l))

  -- what is derived from a line is read of it
  pub line_complete : {es : List WrittenEvent} {cs : List WrittenCall} → Grammar.DerivesProduction l es cs → line_read l ≡ LineRead.production es cs
  unfolding line_read left_side
  line_complete (Grammar.DerivesProduction.production d s c) =
      let g = lhs_complete (length l + 1) 0 (omega arith) (at_start l) d s in
      rw (g.reads, rhs_complete l g.next g.at c)

  -- a line that begins, past its blanks, with bytes with which neither an event nor a key sequence begins
  module _ {r : List ℕ} (y : Blanks l r) (d : Dead r) (q : eqb (first r) (code "\"") ≡ false) where
    dead_item : events_at l 0 ≡ EventsRead.broken
    unfolding events_at events_from
    dead_item =
        let x = at_start l in
        let x1 = at_skip l 0 x y in
        rw (at_byte l (skip l 0) r x1, q) (plain_skip 0 x ∙ dead_event d 0 x1)

    dead_left : (fuel : ℕ) → left_from fuel l 0 ≡ EventsRead.broken
    unfolding left_from
    dead_left zero = refl
    dead_left (suc fuel) = rw dead_item

    pub dead_line : line_read l ≡ LineRead.broken
    unfolding line_read left_side
    dead_line = rw (dead_left (length l + 1))
