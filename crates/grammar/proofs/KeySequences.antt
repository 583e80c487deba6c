-- Key sequences: what is read at a position is what the grammar derives there.
use Prim.Native.Nat.{ℕ, zero, suc, ◌+◌, ◌<◌}
use Prim.Native.Char.{code}
use native.Mathlib.Omega.{arith}
use mathlib.Core.Path.{◌≡◌, refl, sym}
use mathlib.Core.Bool.{Bool, true, false, ◌||◌, false≢true}
use mathlib.Core.List.{List, [], ◌∷◌}
use lib.Dec.{eqb}
use lib.ListN.{length}
use Rattle.model.specs.Bytes.{is_code, is_tab}
use Rattle.model.specs.Events.{KeyChar, WrittenEvent, EventsRead, marked_key, key_at, one_more_key, keys_next, keys_from, key_sequence_at}
use Rattle.model.specs.declared.scan.KeyMark.{KeyMark}
use Rattle.model.specs.declared.scan.KeyRead.{KeyRead}
use Rattle.grammar.specs.Tokens.{is_some, Sign}
use Rattle.grammar.specs.KeySequences as Grammar
use Rattle.grammar.proofs.Places.{At, SignView, is, isnt, view, first, at_byte, at_past, at_within, at_next, nor_left, nor_right}

module _ (l : List ℕ) where
  -- ---- The byte that a mark takes

  data MarkedRead (mark : KeyMark) : List ℕ → KeyRead → Type 0 where
    broken : {r : List ℕ} → MarkedRead mark r KeyRead.Broken
    marked : {b n : ℕ} {r : List ℕ} → is_tab b ≡ false → At l n r → MarkedRead mark (b ∷ r) (KeyRead.Key mark b n)

  marked_byte : (mark : KeyMark) (p b : ℕ) (r : List ℕ) (t : Bool) → is_tab b ≡ t → At l p (b ∷ r) → MarkedRead mark (b ∷ r) (marked_key l mark p)
  unfolding marked_key
  marked_byte mark p b r true e x = rw (at_within l p b r x, at_byte l p (b ∷ r) x, e) broken
  marked_byte mark p b r false e x = rw (at_within l p b r x, at_byte l p (b ∷ r) x, e) (marked e (at_next l p b r x))

  marked_sound : (mark : KeyMark) (p : ℕ) (r : List ℕ) → At l p r → MarkedRead mark r (marked_key l mark p)
  unfolding marked_key
  marked_sound mark p [] x = rw (at_past l p x) broken
  marked_sound mark p (b ∷ r) x = marked_byte mark p b r (is_tab b) refl x

  marked_complete : (mark : KeyMark) (p b : ℕ) (r : List ℕ) → At l p (b ∷ r) → is_tab b ≡ false → marked_key l mark p ≡ KeyRead.Key mark b (p + 1)
  unfolding marked_key
  marked_complete mark p b r x e = rw (at_within l p b r x, at_byte l p (b ∷ r) x, e)

  -- ---- One character

  data KeyView (r : List ℕ) : KeyRead → Type 0 where
    broken : KeyView r KeyRead.Broken
    end : {m : List ℕ} {n : ℕ} → r ≡ code "\"" ∷ m → At l n m → KeyView r (KeyRead.End n)
    key : {m : List ℕ} {mark : KeyMark} {b n : ℕ} → Grammar.Keychar r (record { mark = mark; byte = b }) m → At l n m
        → KeyView r (KeyRead.Key mark b n)

  by_control : {r : List ℕ} {x : KeyRead} → MarkedRead KeyMark.Control r x → KeyView (code "^" ∷ r) x
  by_control broken = broken
  by_control (marked e x) = key (Grammar.Keychar.control e) x

  by_quoted : {r : List ℕ} {x : KeyRead} → MarkedRead KeyMark.Quoted r x → KeyView (code "\\" ∷ r) x
  by_quoted broken = broken
  by_quoted (marked e x) = key (Grammar.Keychar.quoted e) x

  by_meta : {r : List ℕ} {x : KeyRead} → MarkedRead KeyMark.Meta r x → KeyView (code "$" ∷ r) x
  by_meta broken = broken
  by_meta (marked e x) = key (Grammar.Keychar.meta e) x

  by_plain : {b : ℕ} {r : List ℕ} {x : KeyRead} → Grammar.plain_byte b ≡ true → MarkedRead KeyMark.Plain (b ∷ r) x → KeyView (b ∷ r) x
  by_plain e broken = broken
  by_plain e (marked f x) = key (Grammar.Keychar.plain e f) x

  key_signs :
      (p b : ℕ) (r : List ℕ) → At l p (b ∷ r) → SignView (code "\"") (b ∷ r) → SignView (code "^") (b ∷ r) → SignView (code "\\") (b ∷ r)
      → SignView (code "$") (b ∷ r) → KeyView (b ∷ r) (key_at l p)
  unfolding key_at
  key_signs p b r x is v w z = rw (at_within l p b r x, at_byte l p (b ∷ r) x) (end refl (at_next l p b r x))
  key_signs p b r x (isnt e) is w z =
      rw (at_within l p b r x, at_byte l p (b ∷ r) x) (by_control (marked_sound KeyMark.Control (p + 1) r (at_next l p b r x)))
  key_signs p b r x (isnt e) (isnt f) is z =
      rw (at_within l p b r x, at_byte l p (b ∷ r) x) (by_quoted (marked_sound KeyMark.Quoted (p + 1) r (at_next l p b r x)))
  key_signs p b r x (isnt e) (isnt f) (isnt g) is =
      rw (at_within l p b r x, at_byte l p (b ∷ r) x) (by_meta (marked_sound KeyMark.Meta (p + 1) r (at_next l p b r x)))
  key_signs p b r x (isnt e) (isnt f) (isnt g) (isnt h) =
      rw (at_within l p b r x, at_byte l p (b ∷ r) x, e, f, g, h)
      (by_plain (rw (e, f, g, h)) (marked_sound KeyMark.Plain p (b ∷ r) x))

  key_sound : (p : ℕ) (r : List ℕ) → At l p r → KeyView r (key_at l p)
  unfolding key_at
  key_sound p [] x = rw (at_past l p x) broken
  key_sound p (b ∷ r) x =
      key_signs p b r x (view (code "\"") refl (b ∷ r)) (view (code "^") refl (b ∷ r)) (view (code "\\") refl (b ∷ r)) (view (code "$") refl (b ∷ r))

  record KeyGot (p : ℕ) (k : KeyChar) (m : List ℕ) : Type 0 where
    next : ℕ
    reads : key_at l p ≡ KeyRead.Key k.mark k.byte next
    at : At l next m

  key_complete : {r m : List ℕ} {k : KeyChar} (p : ℕ) → At l p r → Grammar.Keychar r k m → KeyGot p k m
  unfolding key_at
  key_complete p x (Grammar.Keychar.plain {b = b} {r = r} e f) =
      let h1 = nor_left (is_code b "\"" || is_code b "^" || is_code b "\\") (is_code b "$") e in
      let h2 = nor_left (is_code b "\"" || is_code b "^") (is_code b "\\") h1 in
      let e1 : is_code b "\"" ≡ false = nor_right false (is_code b "\"") (nor_left (is_code b "\"") (is_code b "^") h2) in
      let e2 : is_code b "^" ≡ false = nor_right (is_code b "\"") (is_code b "^") h2 in
      let e3 : is_code b "\\" ≡ false = nor_right (is_code b "\"" || is_code b "^") (is_code b "\\") h1 in
      let e4 : is_code b "$" ≡ false = nor_right (is_code b "\"" || is_code b "^" || is_code b "\\") (is_code b "$") e in
      record {
        next = p + 1;
        reads = rw (at_within l p b r x, at_byte l p (b ∷ r) x, e1, e2, e3, e4) (marked_complete KeyMark.Plain p b r x f);
        at = at_next l p b r x;
      }
  key_complete p x (Grammar.Keychar.control {b = b} {r = r} f) =
      let y = at_next l p (code "^") (b ∷ r) x in
      record {
        next = p + 1 + 1;
        reads = rw (at_within l p (code "^") (b ∷ r) x, at_byte l p (code "^" ∷ b ∷ r) x) (marked_complete KeyMark.Control (p + 1) b r y f);
        at = at_next l (p + 1) b r y;
      }
  key_complete p x (Grammar.Keychar.quoted {b = b} {r = r} f) =
      let y = at_next l p (code "\\") (b ∷ r) x in
      record {
        next = p + 1 + 1;
        reads = rw (at_within l p (code "\\") (b ∷ r) x, at_byte l p (code "\\" ∷ b ∷ r) x) (marked_complete KeyMark.Quoted (p + 1) b r y f);
        at = at_next l (p + 1) b r y;
      }
  key_complete p x (Grammar.Keychar.meta {b = b} {r = r} f) =
      let y = at_next l p (code "$") (b ∷ r) x in
      record {
        next = p + 1 + 1;
        reads = rw (at_within l p (code "$") (b ∷ r) x, at_byte l p (code "$" ∷ b ∷ r) x) (marked_complete KeyMark.Meta (p + 1) b r y f);
        at = at_next l (p + 1) b r y;
      }

  key_length : {r m : List ℕ} {k : KeyChar} → Grammar.Keychar r k m → length m < length r
  key_length (Grammar.Keychar.plain e f) = omega arith
  key_length (Grammar.Keychar.control f) = omega arith
  key_length (Grammar.Keychar.quoted f) = omega arith
  key_length (Grammar.Keychar.meta f) = omega arith

  -- ---- The characters of a sequence

  data KeysRead (r : List ℕ) : EventsRead → Type 0 where
    broken : KeysRead r EventsRead.broken
    keys : {m : List ℕ} {ks : List WrittenEvent} {n : ℕ} → Grammar.Keychars r ks m → At l n m → KeysRead r (EventsRead.events ks n)

  keys_more : {r m : List ℕ} {k : KeyChar} {x : EventsRead} → Grammar.Keychar r k m → KeysRead m x → KeysRead r (one_more_key k x)
  keys_more c broken = broken
  keys_more c (keys d n) = keys (Grammar.Keychars.more c d) n

  keys_next_lem :
      {r : List ℕ} {x : KeyRead} (rest : ℕ → EventsRead) → ((n : ℕ) (m : List ℕ) → At l n m → KeysRead m (rest n)) → KeyView r x
      → KeysRead r (keys_next x rest)
  keys_next_lem rest ih broken = broken
  keys_next_lem rest ih (end e x) = rw e (keys Grammar.Keychars.none x)
  keys_next_lem rest ih (key {m = m} {n = n} c x) = keys_more c (ih n m x)

  keys_from_lem : (fuel p : ℕ) (r : List ℕ) → At l p r → KeysRead r (keys_from fuel l p)
  unfolding keys_from
  keys_from_lem zero p r x = broken
  keys_from_lem (suc fuel) p r x = keys_next_lem (λ q. keys_from fuel l q) (λ n m y. keys_from_lem fuel n m y) (key_sound p r x)

  pub record KeysGot (x : EventsRead) (ks : List WrittenEvent) (m : List ℕ) : Type 0 where
    pub next : ℕ
    pub reads : x ≡ EventsRead.events ks next
    pub at : At l next m

  key_end : (p : ℕ) (m : List ℕ) → At l p (code "\"" ∷ m) → key_at l p ≡ KeyRead.End (p + 1)
  unfolding key_at
  key_end p m x = rw (at_within l p (code "\"") m x, at_byte l p (code "\"" ∷ m) x)

  keys_complete :
      {r m : List ℕ} {ks : List WrittenEvent} (fuel p : ℕ) → length r < fuel → At l p r → Grammar.Keychars r ks m → KeysGot (keys_from fuel l p) ks m
  unfolding keys_from
  keys_complete zero p f x d = absurd (omega arith)
  keys_complete (suc fuel) p f x (Grammar.Keychars.none {r = m}) =
      record { next = p + 1; reads = rw (key_end p m x); at = at_next l p (code "\"") m x }
  keys_complete (suc fuel) p f x (Grammar.Keychars.more c d) =
      let g = key_complete p x c in
      let h = keys_complete fuel g.next (omega (arith, key_length c)) g.at d in
      record { next = h.next; reads = rw (g.reads, h.reads); at = h.at }

  -- ---- One or more

  pub data KeyseqRead (r : List ℕ) : EventsRead → Type 0 where
    broken : KeyseqRead r EventsRead.broken
    keyseq : {m : List ℕ} {ks : List WrittenEvent} {n : ℕ} → Grammar.Keyseq r ks m → At l n m → KeyseqRead r (EventsRead.events ks n)

  some_keys_lem : {r m : List ℕ} {ks : List WrittenEvent} → eqb (first r) (code "\"") ≡ false → Grammar.Keychars r ks m → is_some ks ≡ true
  some_keys_lem e Grammar.Keychars.none = sym e
  some_keys_lem e (Grammar.Keychars.more c d) = refl

  keyseq_keys :
      {r m : List ℕ} {x : EventsRead} → Sign "\"" r m → eqb (first m) (code "\"") ≡ false → KeysRead m x → KeyseqRead r x
  keyseq_keys s e broken = broken
  keyseq_keys s e (keys d n) = keyseq (Grammar.Keyseq.keyseq s d (cc (some_keys_lem e d))) n

  keyseq_view : {r m : List ℕ} (p : ℕ) → Sign "\"" r m → At l p m → SignView (code "\"") m → KeyseqRead r (key_sequence_at l p)
  unfolding key_sequence_at
  keyseq_view {r} {m} p s x is = rw (at_byte l p m x) broken
  keyseq_view {r} {m} p s x (isnt e) = rw (at_byte l p m x, e) (keyseq_keys s e (keys_from_lem (length l + 1) p m x))

  pub keyseq_sound : {r m : List ℕ} (p : ℕ) → Sign "\"" r m → At l p m → KeyseqRead r (key_sequence_at l p)
  keyseq_sound {r} {m} p s x = keyseq_view p s x (view (code "\"") refl m)

  plain_no_quote : (b : ℕ) → Grammar.plain_byte b ≡ true → is_code b "\"" ≡ false
  plain_no_quote b e =
      nor_right false (is_code b "\"")
      (nor_left (is_code b "\"") (is_code b "^")
      (nor_left (is_code b "\"" || is_code b "^") (is_code b "\\")
      (nor_left (is_code b "\"" || is_code b "^" || is_code b "\\") (is_code b "$") e)))

  no_quote : {r m : List ℕ} {k : KeyChar} → Grammar.Keychar r k m → eqb (first r) (code "\"") ≡ false
  no_quote (Grammar.Keychar.plain {b = b} e f) = plain_no_quote b e
  no_quote (Grammar.Keychar.control f) = refl
  no_quote (Grammar.Keychar.quoted f) = refl
  no_quote (Grammar.Keychar.meta f) = refl

  keys_no_quote : {r m : List ℕ} {ks : List WrittenEvent} → is_some ks ≡ true → Grammar.Keychars r ks m → eqb (first r) (code "\"") ≡ false
  keys_no_quote e Grammar.Keychars.none = absurd (false≢true e)
  keys_no_quote e (Grammar.Keychars.more c d) = no_quote c

  pub keyseq_complete :
      {m k : List ℕ} {ks : List WrittenEvent} (p : ℕ) → At l p m → Grammar.Keychars m ks k → is_some ks ≡ true → KeysGot (key_sequence_at l p) ks k
  unfolding key_sequence_at
  keyseq_complete {m} {k} p x d e =
      let g = keys_complete (length l + 1) p (omega (arith, x.len)) x d in
      record { next = g.next; reads = rw (at_byte l p m x, keys_no_quote e d) g.reads; at = g.at }

  pub keychars_length : {r m : List ℕ} {ks : List WrittenEvent} → Grammar.Keychars r ks m → length m < length r
  keychars_length Grammar.Keychars.none = omega arith
  keychars_length (Grammar.Keychars.more c d) = omega (arith, key_length c, keychars_length d)
