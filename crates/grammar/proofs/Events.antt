-- An event: modifiers, `<type>`, count and detail, read exactly as the grammar derives it.
use Prim.Native.Nat.{ℕ, ◌+◌, ◌≤◌, ◌<◌}
use Prim.Native.Char.{code}
use native.Mathlib.Omega.{arith}
use mathlib.Core.Path.{◌≡◌, refl, sym, ◌∙◌}
use mathlib.Core.Bool.{Bool, true, false}
use Rattle.std.specs.Prelude.{Option, None, Some}
use mathlib.Core.List.{List, [], ◌∷◌}
use lib.ListN.{length}
use Rattle.model.specs.Lists.{part}
use Rattle.model.specs.Bytes.{run_end, skip}
use Rattle.model.specs.Events as Written
use Rattle.model.specs.Events.{EventsRead, type_from, type_run, type_name, type_at, count_close, count_plus, count_run, count_digits, count_from, count_at, with_detail, with_count, with_type, with_list, with_modifiers, modifiers_at, plain_event_at}
use Rattle.model.specs.declared.scan.Class.{Class}
use Rattle.model.specs.declared.scan.Lead.{Lead}
use Rattle.model.specs.declared.scan.TypeRead.{TypeRead}
use Rattle.model.specs.declared.scan.CountRead.{CountRead}
use Rattle.grammar.specs.Bytes.{letter_or_digit, is_digit_sign, detail_byte}
use Rattle.grammar.specs.Tokens.{Run, Word, Blanks, Sign, Optional}
use Rattle.grammar.specs.Modifiers as Modifiers
use Rattle.grammar.specs.Events as Grammar
use Rattle.grammar.proofs.Places.{At, Ran, SignView, is, isnt, view, front, past, begins_sign, at_byte, at_next, at_run, at_skip, ran_some, same_name, same_digit, same_detail_lem, past_blanks, blanks_none, blanks_same, blanks_length, sign_length, word_length, run_shorter, optional_length}
use Rattle.grammar.proofs.Modifiers.{ModifiersRead, modifiers_sound}
use Rattle.grammar.proofs.ModifierLists.{LeadRead, lead_sound, ListRead, list_sound, list_complete, list_length}

module _ (l : List ℕ) where
  -- ---- `<type>`

  data TypeView (r : List ℕ) : TypeRead → Type 0 where
    broken : TypeView r TypeRead.Broken
    type : {m : List ℕ} {a b n : ℕ} → Grammar.DerivesEventType r (part l a b) m → At l n m → TypeView r (TypeRead.Type a b n)

  type_run_lem :
      {r m s j : List ℕ} (p : ℕ) → Sign "<" r m → Blanks m s → (w k : List ℕ) → Run letter_or_digit s w k → Ran l Class.Name p w k
      → Blanks k j → SignView (code ">") j → TypeView r (type_run l p (run_end Class.Name l p))
  unfolding type_run type_from
  type_run_lem p t y [] k run ran z v = rw (ran_some l ran) broken
  type_run_lem {r} {m} {s} {j} p t y (b ∷ w) k run ran z (is {r = q}) =
      let e = run_end Class.Name l p in
      let x = at_skip l e ran.next z in
      let d : Grammar.DerivesEventType r (part l p e) q
      = rw ran.word (Grammar.DerivesEventType.event_type t y (record { run = run; some = refl }) (record { before = z })) in
      rw (ran_some l ran, at_byte l (skip l e) j x) (type d (at_next l (skip l e) (code ">") q x))
  type_run_lem {r} {m} {s} {j} p t y (b ∷ w) k run ran z (isnt f) =
      let e = run_end Class.Name l p in
      rw (ran_some l ran, at_byte l (skip l e) j (at_skip l e ran.next z), f) broken

  type_sound_lem : {r m : List ℕ} (p : ℕ) → Sign "<" r m → At l p (code "<" ∷ m) → TypeView r (type_at l p)
  unfolding type_at type_name
  type_sound_lem {r} {m} p t x =
      let y = past m in
      let x1 = at_skip l (p + 1) (at_next l p (code "<") m x) y.blanks in
      let f = front letter_or_digit y.rest in
      let z = past f.rest in
      type_run_lem (skip l (p + 1)) t y.blanks f.word f.rest f.run (at_run l same_name (skip l (p + 1)) x1 f.run) z.blanks
      (view (code ">") refl z.rest)

  record TypeGot (p : ℕ) (w m : List ℕ) : Type 0 where
    a : ℕ
    b : ℕ
    next : ℕ
    reads : type_at l p ≡ TypeRead.Type a b next
    word : part l a b ≡ w
    at : At l next m

  -- the position is that of the `<`
  type_complete :
      {m n k w r : List ℕ} (p : ℕ) → At l p (code "<" ∷ m) → Blanks m n → Word letter_or_digit n w k → Sign ">" k r → TypeGot p w r
  unfolding type_at type_name type_run type_from
  type_complete {m} {n} {k} {w} {r} p x y word z =
      let q = skip l (p + 1) in
      let x1 = at_skip l (p + 1) (at_next l p (code "<") m x) y in
      let ran = at_run l same_name q x1 word.run in
      let e = run_end Class.Name l q in
      let x2 = at_skip l e ran.next z.before in
      record {
        a = q;
        b = e;
        next = skip l e + 1;
        reads = rw (ran_some l ran, word.some, at_byte l (skip l e) (code ">" ∷ r) x2);
        word = ran.word;
        at = at_next l (skip l e) (code ">") r x2;
      }

  -- ---- `(count)`

  data CountView (r : List ℕ) : CountRead → Type 0 where
    broken : CountView r CountRead.Broken
    absent : {m : List ℕ} {n : ℕ} → Grammar.OptionalCount r None m → At l n m → CountView r (CountRead.Absent n)
    digits : {m : List ℕ} {a b n : ℕ} {plus : Bool} → Grammar.OptionalCount r (Some (record { digits = part l a b; plus = plus })) m → At l n m
        → CountView r (CountRead.Digits a b plus n)

  -- up to the digits
  record Opened (r : List ℕ) (a b : ℕ) (k : List ℕ) : Type 0 where
    m : List ℕ
    s : List ℕ
    sign : Sign "(" r m
    blanks : Blanks m s
    word : Word is_digit_sign s (part l a b) k

  count_close_lem :
      {r k j s : List ℕ} {a b : ℕ} {plus : Bool} (p : ℕ) → Opened r a b k → Optional "+" k plus j → At l p s → Blanks j s
      → SignView (code ")") s → CountView r (count_close l a b plus p)
  unfolding count_close
  count_close_lem {s = s} p o t x y (is {r = q}) =
      rw (at_byte l p s x)
      (digits (Grammar.OptionalCount.present o.sign o.blanks o.word t (record { before = y })) (at_next l p (code ")") q x))
  count_close_lem {s = s} p o t x y (isnt f) = rw (at_byte l p s x, f) broken

  count_plus_lem :
      {r k s : List ℕ} {a b : ℕ} (p : ℕ) → Opened r a b k → At l p s → Blanks k s → SignView (code "+") s → CountView r (count_plus l a b p)
  unfolding count_plus
  count_plus_lem {s = s} p o x y (is {r = q}) =
      let z = past q in
      rw (at_byte l p s x)
      (count_close_lem (skip l (p + 1)) o (Optional.there (record { before = y }))
      (at_skip l (p + 1) (at_next l p (code "+") q x) z.blanks) z.blanks (view (code ")") refl z.rest))
  count_plus_lem {s = s} p o x y (isnt f) =
      rw (at_byte l p s x, f)
      (count_close_lem p o (Optional.missing y) x (past_blanks y) (view (code ")") refl s))

  count_run_lem :
      {r m s j : List ℕ} (p : ℕ) → Sign "(" r m → Blanks m s → (w k : List ℕ) → Run is_digit_sign s w k → Ran l Class.Digit p w k
      → Blanks k j → CountView r (count_run l p (run_end Class.Digit l p))
  unfolding count_run
  count_run_lem p t y [] k run ran z = rw (ran_some l ran) broken
  count_run_lem {r} {m} {s} {j} p t y (b ∷ w) k run ran z =
      let e = run_end Class.Digit l p in
      let o : Opened r p e k = record { m = m; s = s; sign = t; blanks = y; word = rw ran.word (record { run = run; some = refl }) } in
      rw (ran_some l ran) (count_plus_lem (skip l e) o (at_skip l e ran.next z) z (view (code "+") refl j))

  count_view : {r s : List ℕ} (p : ℕ) → At l p s → Blanks r s → SignView (code "(") s → CountView r (count_from l p)
  unfolding count_from count_digits
  count_view {r} {s} p x y (is {r = m}) =
      let z = past m in
      let q = skip l (p + 1) in
      let x1 = at_skip l (p + 1) (at_next l p (code "(") m x) z.blanks in
      let f = front is_digit_sign z.rest in
      let v = past f.rest in
      rw (at_byte l p s x)
      (count_run_lem q (record { before = y }) z.blanks f.word f.rest f.run (at_run l same_digit q x1 f.run) v.blanks)
  count_view {r} {s} p x y (isnt f) =
      rw (at_byte l p s x, f) (absent (Grammar.OptionalCount.absent y (sym (begins_sign (code "(") refl s) ∙ f)) x)

  count_sound : {r : List ℕ} (p : ℕ) → At l p r → CountView r (count_at l p)
  unfolding count_at
  count_sound {r} p x = let y = past r in count_view (skip l p) (at_skip l p x y.blanks) y.blanks (view (code "(") refl y.rest)

  -- ---- An event

  pub data EventRead (r : List ℕ) : EventsRead → Type 0 where
    broken : EventRead r EventsRead.broken
    event : {m : List ℕ} {e : Written.Written} {n : ℕ} → Grammar.DerivesEvent r e m → At l n m
        → EventRead r (EventsRead.events (Written.WrittenEvent.event e ∷ []) n)

  detail_sound_lem :
      {r k m s : List ℕ} {ml : Written.ModifierList} {w : List ℕ} {count : Option Written.Count} (p : ℕ) → At l p s
      → Modifiers.DerivesModifierList r ml k → Grammar.DerivesEventType k w m → Grammar.OptionalCount m count s
      → EventRead r (with_detail l ml w count (skip l p))
  detail_sound_lem {s = s} p x ml t c =
      let y = past s in
      let q = skip l p in
      let f = front detail_byte y.rest in
      let ran = at_run l same_detail_lem q (at_skip l p x y.blanks) f.run in
      let d : Grammar.DerivesDetail s (part l q (run_end Class.Detail l q)) f.rest = rw ran.word (Grammar.DerivesDetail.detail y.blanks f.run) in
      event (Grammar.DerivesEvent.event ml t c d) ran.next

  event_count :
      {r k m : List ℕ} {ml : Written.ModifierList} {w : List ℕ} {x : CountRead} → Modifiers.DerivesModifierList r ml k → Grammar.DerivesEventType k w m
      → CountView m x → EventRead r (with_count l ml w x)
  event_count ml t broken = broken
  event_count ml t (absent {n = n} c x) = detail_sound_lem n x ml t c
  event_count ml t (digits {n = n} c x) = detail_sound_lem n x ml t c

  event_type_lem :
      {r k : List ℕ} {ml : Written.ModifierList} {x : TypeRead} → Modifiers.DerivesModifierList r ml k → TypeView k x → EventRead r (with_type l ml x)
  event_type_lem ml broken = broken
  event_type_lem ml (type {n = n} t x) = event_count ml t (count_sound n x)

  event_list :
      {r k m : List ℕ} {x : Option Written.ModifierList} (n : ℕ) → Sign "<" k m → At l n (code "<" ∷ m) → ListRead l r k x
      → EventRead r (with_list l x n)
  event_list n s a ListRead.refused = broken
  event_list n s a (ListRead.list ml) = event_type_lem ml (type_sound_lem n s a)

  event_modifiers :
      {r k m : List ℕ} {b c : Bool} {x : Written.Modifiers} (q : ℕ) → Optional "!" r b k → Optional ":" k c m
      → ModifiersRead l m x → EventRead r (with_modifiers l (record { bang = b; colon = c; next = q }) x)
  event_modifiers q o c ModifiersRead.broken = broken
  event_modifiers q o c (ModifiersRead.modifiers {n = n} ds s a) = event_list n s a (list_sound l o c ds)

  event_lead : {r : List ℕ} {x : Lead} → LeadRead l r x → EventRead r (with_modifiers l x (modifiers_at l x.next))
  event_lead (LeadRead.lead {m = m} {n = n} o c a) = event_modifiers n o c (modifiers_sound l (length l + 1) n m a)

  pub event_sound : {r : List ℕ} (p : ℕ) → At l p r → EventRead r (plain_event_at l p)
  unfolding plain_event_at
  event_sound p x = event_lead (lead_sound l p x)

  -- ---- The other way

  record CountGot (ml : Written.ModifierList) (v : List ℕ) (p : ℕ) (count : Option Written.Count) (m : List ℕ) : Type 0 where
    next : ℕ
    reads : with_count l ml v (count_at l p) ≡ with_detail l ml v count (skip l next)
    at : At l next m

  close_complete : {r : List ℕ} (a b p : ℕ) (plus : Bool) → At l p (code ")" ∷ r) → count_close l a b plus p ≡ CountRead.Digits a b plus (p + 1)
  unfolding count_close
  close_complete {r} a b p plus x = rw (at_byte l p (code ")" ∷ r) x)

  record PlusGot (a b p : ℕ) (plus : Bool) (m : List ℕ) : Type 0 where
    next : ℕ
    reads : count_plus l a b p ≡ CountRead.Digits a b plus next
    at : At l next m

  plus_complete :
      {k j r s : List ℕ} {plus : Bool} (a b p : ℕ) → At l p s → Blanks k s → Optional "+" k plus j → Sign ")" j r
      → PlusGot a b p plus r
  unfolding count_plus
  plus_complete {k} {j} {r} {s} a b p x y (Optional.there t) z =
      let x1 : At l p (code "+" ∷ j) = rw (blanks_same y t.before) at x in
      let x2 = at_skip l (p + 1) (at_next l p (code "+") j x1) z.before in
      record {
        next = skip l (p + 1) + 1;
        reads = rw (at_byte l p (code "+" ∷ j) x1) (close_complete a b (skip l (p + 1)) true x2);
        at = at_next l (skip l (p + 1)) (code ")") r x2;
      }
  plus_complete {k} {j} {r} {s} a b p x y (Optional.missing t) z =
      let x1 : At l p j = rw (blanks_same y t) at x in
      let x2 : At l p (code ")" ∷ r) = rw (blanks_none z.before t.run.longest) at x1 in
      record {
        next = p + 1;
        reads = rw (at_byte l p (code ")" ∷ r) x2) (close_complete a b p false x2);
        at = at_next l p (code ")") r x2;
      }

  count_complete :
      (ml : Written.ModifierList) (v : List ℕ) {r m : List ℕ} {count : Option Written.Count} (p : ℕ) → At l p r → Grammar.OptionalCount r count m
      → CountGot ml v p count m
  unfolding count_at count_from count_digits count_run
  count_complete ml v {r} {m} p x (Grammar.OptionalCount.absent y e) =
      let x1 = at_skip l p x y in
      record { next = skip l p; reads = rw (at_byte l (skip l p) m x1, begins_sign (code "(") refl m, e); at = x1 }
  count_complete ml v {r} {m} p x (Grammar.OptionalCount.present {m = k} {n = n} {k = j} {w = w} t y word o z) =
      let x1 = at_skip l p x t.before in
      let q = skip l (skip l p + 1) in
      let x2 = at_skip l (skip l p + 1) (at_next l (skip l p) (code "(") k x1) y in
      let ran = at_run l same_digit q x2 word.run in
      let e = run_end Class.Digit l q in
      let u = past j in
      let g = plus_complete q e (skip l e) (at_skip l e ran.next u.blanks) u.blanks o z in
      record {
        next = g.next;
        reads = rw (at_byte l (skip l p) (code "(" ∷ k) x1, ran_some l ran, word.some, g.reads, ran.word);
        at = g.at;
      }

  pub record EventGot (p : ℕ) (e : Written.Written) (m : List ℕ) : Type 0 where
    pub next : ℕ
    pub reads : plain_event_at l p ≡ EventsRead.events (Written.WrittenEvent.event e ∷ []) next
    pub at : At l next m

  detail_complete :
      (ml : Written.ModifierList) (v : List ℕ) (count : Option Written.Count) {s w m : List ℕ} (p : ℕ) → At l p s → Grammar.DerivesDetail s w m
      → (with_detail l ml v count (skip l p)
      ≡ EventsRead.events (Written.WrittenEvent.event (record { list = ml; type_name = v; count = count; detail = w }) ∷ []) (run_end Class.Detail l (skip l p)))
      × At l (run_end Class.Detail l (skip l p)) m
  detail_complete ml v count p x (Grammar.DerivesDetail.detail y run) =
      let ran = at_run l same_detail_lem (skip l p) (at_skip l p x y) run in
      (rw ran.word, ran.next)

  event_typed :
      {r k n m q d : List ℕ} {w : List ℕ} {ml : Written.ModifierList} {count : Option Written.Count} (p : ℕ) → At l p r
      → Modifiers.DerivesModifierList r ml k → Grammar.DerivesEventType k w n → Grammar.OptionalCount n count q → Grammar.DerivesDetail q d m
      → EventGot p (record { list = ml; type_name = w; count = count; detail = d }) m
  unfolding plain_event_at
  event_typed {w = w} {ml = ml} {count = count} p x dl (Grammar.DerivesEventType.event_type {m = m1} s y word z) dc dd =
      let g = list_complete l p x dl s in
      let h = type_complete g.next g.at y word z in
      let i = count_complete ml w h.next h.at dc in
      let j = detail_complete ml w count i.next i.at dd in
      record {
        next = run_end Class.Detail l (skip l i.next);
        reads = rw (g.leads, g.reads, g.lists, h.reads, h.word, i.reads, j.0);
        at = j.1;
      }

  pub event_complete : {r m : List ℕ} {e : Written.Written} (p : ℕ) → At l p r → Grammar.DerivesEvent r e m → EventGot p e m
  event_complete p x (Grammar.DerivesEvent.event dl dt dc dd) = event_typed p x dl dt dc dd

  type_length : {r w m : List ℕ} → Grammar.DerivesEventType r w m → length m < length r
  type_length (Grammar.DerivesEventType.event_type s y word z) = omega (arith, sign_length s, blanks_length y, word_length word, sign_length z)

  count_length : {r m : List ℕ} {count : Option Written.Count} → Grammar.OptionalCount r count m → length m ≤ length r
  count_length (Grammar.OptionalCount.absent y e) = blanks_length y
  count_length (Grammar.OptionalCount.present s y word o z) =
      omega (arith, sign_length s, blanks_length y, word_length word, optional_length o, sign_length z)

  detail_length : {r w m : List ℕ} → Grammar.DerivesDetail r w m → length m ≤ length r
  detail_length (Grammar.DerivesDetail.detail y run) = omega (arith, blanks_length y, run_shorter run)

  pub event_length_lem : {r m : List ℕ} {e : Written.Written} → Grammar.DerivesEvent r e m → length m < length r
  event_length_lem (Grammar.DerivesEvent.event dl dt dc dd) =
      omega (arith, list_length l dl, type_length dt, count_length dc, detail_length dd)
