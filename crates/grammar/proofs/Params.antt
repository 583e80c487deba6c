-- Parameters: what is read at a position is what the grammar derives there.
use Prim.Native.Nat.{ℕ, zero, suc, ◌+◌, ◌≤◌, ◌<◌}
use Prim.Native.Char.{Char, code}
use native.Mathlib.Omega.{arith}
use mathlib.Core.Path.{◌≡◌, refl, sym, ◌∙◌}
use mathlib.Core.Bool.{true, false, ◌||◌}
use mathlib.Core.List.{List, [], ◌∷◌, ◌++◌}
use lib.Dec.{eqb}
use lib.ListN.{length}
use borrow.Author.Tests.{eqb-true}
use Rattle.model.specs.Lists.{all}
use Rattle.model.specs.Bytes.{is_code, is_newline, run_end, skip}
use Rattle.model.specs.Calls.{span, parameter_end, quoted_from, unquoted_from, parameter_from, parameter_at, Parameters, one_parameter_more, parameters_next, parameters_from, parameters_past, parameters_at}
use Rattle.model.specs.declared.scan.Class.{Class}
use Rattle.model.specs.declared.scan.Span.{Span}
use Rattle.model.specs.declared.scan.ParameterRead.{ParameterRead}
use Rattle.grammar.specs.Bytes.{blank, line_byte, quoted_byte, unquoted_byte}
use Rattle.grammar.specs.Tokens.{begins_with, Run, Blanks, Sign}
use Rattle.grammar.specs.Calls as Grammar
use Rattle.grammar.proofs.Places.{At, Ran, SignView, is, isnt, view, first, front, past, at_byte, at_past, at_within, at_next, at_run, at_skip, at_all, ran_stands, stands_span, same_quoted, same_unquoted, and_left, run_shorter, blanks_length, sign_length, nor_left, nor_right, or_first, blanks_none, begins_sign}

module _ (l : List ℕ) where
  -- ---- What follows a parameter

  data Ended (r : List ℕ) (a b : ℕ) : ParameterRead → Type 0 where
    broken : Ended r a b ParameterRead.Broken
    more : {m : List ℕ} {n : ℕ} → Sign "," r m → At l n m → Ended r a b (ParameterRead.More a b n)
    last : {m : List ℕ} {n : ℕ} → Sign ")" r m → At l n m → Ended r a b (ParameterRead.Last a b n)

  ended_by :
      {r s : List ℕ} (p a b : ℕ) → At l p s → Blanks r s → SignView (code ",") s → SignView (code ")") s
      → Ended r a b (parameter_end l a b p)
  unfolding parameter_end
  ended_by {r} {s} p a b x y (is {r = m}) v = rw (at_byte l p s x) (more (record { before = y }) (at_next l p (code ",") m x))
  ended_by {r} {s} p a b x y (isnt e) (is {r = m}) = rw (at_byte l p s x) (last (record { before = y }) (at_next l p (code ")") m x))
  ended_by {r} {s} p a b x y (isnt e) (isnt f) = rw (at_byte l p s x, e, f) broken

  ended : {r : List ℕ} (p a b : ℕ) → At l p r → Ended r a b (parameter_end l a b (skip l p))
  ended {r} p a b x =
      let y = past r in
      ended_by (skip l p) a b (at_skip l p x y.blanks) y.blanks (view (code ",") refl y.rest) (view (code ")") refl y.rest)

  comma_next : {s : List ℕ} (p a b : ℕ) → At l p (code "," ∷ s) → parameter_end l a b p ≡ ParameterRead.More a b (p + 1)
  unfolding parameter_end
  comma_next {s} p a b x = rw (at_byte l p (code "," ∷ s) x)

  close_next : {s : List ℕ} (p a b : ℕ) → At l p (code ")" ∷ s) → parameter_end l a b p ≡ ParameterRead.Last a b (p + 1)
  unfolding parameter_end
  close_next {s} p a b x = rw (at_byte l p (code ")" ∷ s) x)

  -- ---- One parameter, with what follows it

  data Read (r : List ℕ) : ParameterRead → Type 0 where
    broken : Read r ParameterRead.Broken
    more : {k m : List ℕ} {a b n : ℕ} → Grammar.String l r (span a b) k → Sign "," k m → At l n m → Read r (ParameterRead.More a b n)
    last : {k m : List ℕ} {a b n : ℕ} → Grammar.String l r (span a b) k → Sign ")" k m → At l n m → Read r (ParameterRead.Last a b n)

  string_ended : {r k : List ℕ} {a b : ℕ} {x : ParameterRead} → Grammar.String l r (span a b) k → Ended k a b x → Read r x
  string_ended s broken = broken
  string_ended s (more c n) = more s c n
  string_ended s (last c n) = last s c n

  module _ (clean : all line_byte l ≡ true) where
    quoted_rest :
        {r m : List ℕ} (p : ℕ) → Blanks r (code "\"" ∷ m) → At l p m → (w s : List ℕ) → Run quoted_byte m w s → Ran l Class.Quoted p w s
        → Read r (quoted_from l p (run_end Class.Quoted l p))
    unfolding quoted_from
    quoted_rest {r} {m} p y x w [] run ran = rw (at_past l (run_end Class.Quoted l p) ran.next) broken
    quoted_rest {r} {m} p y x w (b ∷ s) run ran =
        let e = run_end Class.Quoted l p in
        let i : line_byte b ≡ true = and_left (line_byte b) (all line_byte s) (at_all line_byte l clean e (b ∷ s) ran.next) in
        let q : b ≡ code "\"" = eqb-true b (code "\"") (or_first (is_code b "\"") _ run.longest i) in
        let run2 : Run quoted_byte m w (code "\"" ∷ s) = rw q at run in
        let str : Grammar.String l r (span p e) s = Grammar.String.quoted (record { before = y }) run2 (ran_stands l x ran) in
        rw (at_within l e b s ran.next)
        (string_ended str (ended (e + 1) p e (at_next l e b s ran.next)))

    read_from :
        {r s : List ℕ} (p : ℕ) → At l p s → Blanks r s → SignView (code "\"") s → Read r (parameter_from l p)
    unfolding parameter_from unquoted_from
    read_from {r} {s} p x y (is {r = m}) =
        let f = front quoted_byte m in
        let n = at_next l p (code "\"") m x in
        rw (at_byte l p s x) (quoted_rest (p + 1) y n f.word f.rest f.run (at_run l same_quoted (p + 1) n f.run))
    read_from {r} {s} p x y (isnt e) =
        let f = front unquoted_byte s in
        let ran = at_run l same_unquoted p x f.run in
        let stop = run_end Class.Unquoted l p in
        let str : Grammar.String l r (span p stop) f.rest = Grammar.String.unquoted y f.run (ran_stands l x ran) in
        rw (at_byte l p s x, e) (string_ended str (ended stop p stop ran.next))

    read : {r : List ℕ} (p : ℕ) → At l p r → Read r (parameter_at l p)
    unfolding parameter_at
    read {r} p x = let y = past r in read_from (skip l p) (at_skip l p x y.blanks) y.blanks (view (code "\"") refl y.rest)

  -- a parameter that the grammar derives is read, up to what follows it
  record StringRead (p : ℕ) (s : Span) (k : List ℕ) : Type 0 where
    a : ℕ
    b : ℕ
    q : ℕ
    reads : parameter_at l p ≡ parameter_end l a b q
    spans : span a b ≡ s
    next : At l q k

  unquoted_no_quote : (b : ℕ) → unquoted_byte b ≡ true → is_code b "\"" ≡ false
  unquoted_no_quote b h =
      nor_right (blank b || is_code b ",") (is_code b "\"")
      (nor_left (blank b || is_code b "," || is_code b "\"") (is_code b ")")
      (nor_left (blank b || is_code b "," || is_code b "\"" || is_code b ")") (is_newline b) h))

  unquoted_first : (c : Char) → eqb (code c) (code "\"") ≡ false → {r m w k n : List ℕ}
      → Blanks r m → Run unquoted_byte m w k → Blanks k (code c ∷ n) → eqb (first m) (code "\"") ≡ false
  unquoted_first c ne {r} {m} {w} {k} {n} y run z = go w run.split run.within
    where
      go : (w : List ℕ) → m ≡ w ++ k → all unquoted_byte w ≡ true → eqb (first m) (code "\"") ≡ false
      go [] e a =
          let i : begins_with blank k ≡ false = rw e at y.run.longest in
          let j : k ≡ code c ∷ n = blanks_none z i in
          rw (e, j) ne
      go (b ∷ w) e a = rw e (unquoted_no_quote b (and_left (unquoted_byte b) (all unquoted_byte w) a))

  string_read :
      (c : Char) → eqb (code c) (code "\"") ≡ false → {r k n : List ℕ} {s : Span} (p : ℕ) → At l p r → Grammar.String l r s k → Blanks k (code c ∷ n)
      → StringRead p s (code c ∷ n)
  unfolding parameter_at parameter_from quoted_from unquoted_from
  string_read c ne {r} {k} {n} {s} p x (Grammar.String.quoted {m = m} {w = w} y run st) z =
      let x1 = at_skip l p x y.before in
      let x2 = at_next l (skip l p) (code "\"") m x1 in
      let ran = at_run l same_quoted (skip l p + 1) x2 run in
      let e = run_end Class.Quoted l (skip l p + 1) in
      record {
        a = skip l p + 1;
        b = e;
        q = skip l (e + 1);
        reads = rw (at_byte l (skip l p) (code "\"" ∷ m) x1, at_within l e (code "\"") k ran.next);
        spans = stands_span l x2 ran st;
        next = at_skip l (e + 1) (at_next l e (code "\"") k ran.next) z;
      }
  string_read c ne {r} {k} {n} {s} p x (Grammar.String.unquoted {m = m} {w = w} y run st) z =
      let x1 = at_skip l p x y in
      let ran = at_run l same_unquoted (skip l p) x1 run in
      let e = run_end Class.Unquoted l (skip l p) in
      record {
        a = skip l p;
        b = e;
        q = skip l e;
        reads = rw (at_byte l (skip l p) m x1, unquoted_first c ne y run z);
        spans = stands_span l x1 ran st;
        next = at_skip l e ran.next z;
      }

  -- ---- Several parameters

  data ParamsRead (r : List ℕ) : Parameters → Type 0 where
    broken : ParamsRead r Parameters.broken
    params : {m : List ℕ} {ss : List Span} {n : ℕ} → Grammar.Params l r ss m → At l n m → ParamsRead r (Parameters.parameters ss n)

  params_more :
      {r k m : List ℕ} {s : Span} {x : Parameters} → Grammar.String l r s k → Sign "," k m → ParamsRead m x → ParamsRead r (one_parameter_more s x)
  params_more s c broken = broken
  params_more s c (params d n) = params (Grammar.Params.more s c d) n

  params_next :
      {r : List ℕ} {x : ParameterRead} (rest : ℕ → Parameters) → ((n : ℕ) (m : List ℕ) → At l n m → ParamsRead m (rest n))
      → Read r x → ParamsRead r (parameters_next x rest)
  params_next rest ih broken = broken
  params_next rest ih (more {m = m} {n = n} s c x) = params_more s c (ih n m x)
  params_next rest ih (last s c x) = params (Grammar.Params.last s c) x

  params_sound : all line_byte l ≡ true → (fuel p : ℕ) (r : List ℕ) → At l p r → ParamsRead r (parameters_from fuel l p)
  unfolding parameters_from
  params_sound clean zero p r x = broken
  params_sound clean (suc fuel) p r x =
      params_next (λ q. parameters_from fuel l q) (λ n m y. params_sound clean fuel n m y) (read clean p x)

  string_length : {r k : List ℕ} {s : Span} → Grammar.String l r s k → length k ≤ length r
  string_length (Grammar.String.quoted y run st) = omega (arith, sign_length y, run_shorter run)
  string_length (Grammar.String.unquoted y run st) = omega (arith, blanks_length y, run_shorter run)

  pub record Got (x : Parameters) (ss : List Span) (r : List ℕ) : Type 0 where
    pub next : ℕ
    pub reads : x ≡ Parameters.parameters ss next
    pub at : At l next r

  params_complete :
      {r m : List ℕ} {ss : List Span} (fuel p : ℕ) → length r < fuel → At l p r → Grammar.Params l r ss m
      → Got (parameters_from fuel l p) ss m
  unfolding parameters_from
  params_complete zero p f x d = absurd (omega arith)
  params_complete (suc fuel) p f x (Grammar.Params.last {m = k} {r = m} s c) =
      let g = string_read ")" refl p x s c.before in
      record {
        next = g.q + 1;
        reads = rw (g.reads, close_next g.q g.a g.b g.next, g.spans);
        at = at_next l g.q (code ")") m g.next;
      }
  params_complete (suc fuel) p f x (Grammar.Params.more {m = k} {n = n} s c d) =
      let g = string_read "," refl p x s c.before in
      let h = params_complete fuel (g.q + 1) (omega (arith, string_length s, sign_length c)) (at_next l g.q (code ",") n g.next) d in
      record {
        next = h.next;
        reads = rw (g.reads, comma_next g.q g.a g.b g.next, h.reads, g.spans);
        at = h.at;
      }

  -- ---- What stands in the brackets

  pub data BracketedRead (r : List ℕ) : Parameters → Type 0 where
    broken : BracketedRead r Parameters.broken
    bracketed : {m : List ℕ} {ss : List Span} {n : ℕ} → Grammar.Bracketed l r ss m → At l n m → BracketedRead r (Parameters.parameters ss n)

  bracketed_present :
      {r s : List ℕ} {x : Parameters} → Blanks r s → begins_with (λ b. is_code b ")") s ≡ false → ParamsRead s x → BracketedRead r x
  bracketed_present y e broken = broken
  bracketed_present y e (params d n) = bracketed (Grammar.Bracketed.present y e d) n

  bracketed_past :
      all line_byte l ≡ true → {r s : List ℕ} (p : ℕ) → At l p s → Blanks r s → SignView (code ")") s → BracketedRead r (parameters_past l p)
  unfolding parameters_past
  bracketed_past clean {r} {s} p x y (is {r = m}) =
      rw (at_byte l p s x) (bracketed (Grammar.Bracketed.absent (record { before = y })) (at_next l p (code ")") m x))
  bracketed_past clean {r} {s} p x y (isnt e) =
      rw (at_byte l p s x, e)
      (bracketed_present y (sym (begins_sign (code ")") refl s) ∙ e) (params_sound clean (length l + 1) p s x))

  pub bracketed_sound : all line_byte l ≡ true → {r : List ℕ} (p : ℕ) → At l p r → BracketedRead r (parameters_at l p)
  unfolding parameters_at
  bracketed_sound clean {r} p x =
      let y = past r in bracketed_past clean (skip l p) (at_skip l p x y.blanks) y.blanks (view (code ")") refl y.rest)

  pub bracketed_complete :
      {r m : List ℕ} {ss : List Span} (p : ℕ) → At l p r → Grammar.Bracketed l r ss m → Got (parameters_at l p) ss m
  unfolding parameters_at parameters_past
  bracketed_complete {r} {m} p x (Grammar.Bracketed.absent c) =
      let x1 = at_skip l p x c.before in
      record {
        next = skip l p + 1;
        reads = rw (at_byte l (skip l p) (code ")" ∷ m) x1);
        at = at_next l (skip l p) (code ")") m x1;
      }
  bracketed_complete {r} {m} p x (Grammar.Bracketed.present {m = k} y e d) =
      let x1 = at_skip l p x y in
      let g = params_complete (length l + 1) (skip l p) (omega (arith, x1.len)) x1 d in
      record {
        next = g.next;
        reads = rw (at_byte l (skip l p) k x1, begins_sign (code ")") refl k ∙ e) g.reads;
        at = g.at;
      }

  params_length : {r m : List ℕ} {ss : List Span} → Grammar.Params l r ss m → length m ≤ length r
  params_length (Grammar.Params.last s c) = omega (arith, string_length s, sign_length c)
  params_length (Grammar.Params.more s c d) = omega (arith, string_length s, sign_length c, params_length d)

  pub bracketed_length : {r m : List ℕ} {ss : List Span} → Grammar.Bracketed l r ss m → length m ≤ length r
  bracketed_length (Grammar.Bracketed.absent c) = omega (arith, sign_length c)
  bracketed_length (Grammar.Bracketed.present y e d) = omega (arith, blanks_length y, params_length d)
