-- Calls: what is read to the end of a line is what the grammar derives there.
use Prim.Native.Nat.{ℕ, zero, suc, ◌+◌, ◌<◌}
use Prim.Native.Char.{code}
use native.Mathlib.Omega.{arith}
use mathlib.Core.Path.{◌≡◌, refl}
use mathlib.Core.Bool.{true}
use mathlib.Core.List.{List, [], ◌∷◌}
use lib.ListN.{length}
use Rattle.model.specs.Lists.{all}
use Rattle.model.specs.Bytes.{run_end, skip}
use Rattle.model.specs.Calls.{WrittenCall, span, Parameters, call_name_from, call_from, call_at, CallsRead, one_more_call, with_parameters, calls_next, calls_from, right_side}
use Rattle.model.specs.declared.scan.Class.{Class}
use Rattle.model.specs.declared.scan.Span.{Span}
use Rattle.model.specs.declared.scan.CallRead.{CallRead}
use Rattle.grammar.specs.Bytes.{line_byte, namechar}
use Rattle.grammar.specs.Tokens.{Run, Blanks}
use Rattle.grammar.specs.Calls as Grammar
use Rattle.grammar.proofs.Places.{At, Ran, SignView, is, isnt, view, front, past, at_byte, at_past, at_within, at_inside, at_next, at_run, at_skip, ran_stands, stands_span, ran_some, same_call, blanks_length, word_length}
use Rattle.grammar.proofs.Params.{BracketedRead, bracketed_sound, bracketed_complete, bracketed_length}

module _ (l : List ℕ) where
  -- ---- A name and its bracket

  data NameRead (r : List ℕ) : CallRead → Type 0 where
    broken : NameRead r CallRead.Broken
    end : Blanks r [] → NameRead r CallRead.End
    name : {m : List ℕ} {a b : ℕ} → Grammar.Name l r (span a b) m → At l (b + 1) m → NameRead r (CallRead.Name a b)

  name_run :
      {r s : List ℕ} (p : ℕ) → At l p s → Blanks r s → (w k : List ℕ) → Run namechar s w k → Ran l Class.Call p w k → SignView (code "(") k
      → NameRead r (call_name_from l p (run_end Class.Call l p))
  unfolding call_name_from
  name_run p x y [] k run ran v = rw (ran_some l ran) broken
  name_run {r} {s} p x y (b ∷ w) k run ran (is {r = m}) =
      let e = run_end Class.Call l p in
      let n : Grammar.Name l r (span p e) m = Grammar.Name.name y (record { run = run; some = refl }) (ran_stands l x ran) in
      rw (ran_some l ran, at_byte l e k ran.next) (name n (at_next l e (code "(") m ran.next))
  name_run p x y (b ∷ w) k run ran (isnt f) = rw (ran_some l ran, at_byte l (run_end Class.Call l p) k ran.next, f) broken

  name_from_lem : {r : List ℕ} (p : ℕ) (s : List ℕ) → At l p s → Blanks r s → NameRead r (call_from l p)
  unfolding call_from
  name_from_lem p [] x y = rw (at_past l p x) (end y)
  name_from_lem p (b ∷ s) x y =
      let f = front namechar (b ∷ s) in
      rw (at_within l p b s x)
      (name_run p x y f.word f.rest f.run (at_run l same_call p x f.run) (view (code "(") refl f.rest))

  name_sound : {r : List ℕ} (p : ℕ) → At l p r → NameRead r (call_at l p)
  unfolding call_at
  name_sound {r} p x = let y = past r in name_from_lem (skip l p) y.rest (at_skip l p x y.blanks) y.blanks

  record NameGot (p : ℕ) (n : Span) (m : List ℕ) : Type 0 where
    a : ℕ
    b : ℕ
    reads : call_at l p ≡ CallRead.Name a b
    spans : span a b ≡ n
    next : At l (b + 1) m

  name_complete : {r m : List ℕ} {n : Span} (p : ℕ) → At l p r → Grammar.Name l r n m → NameGot p n m
  unfolding call_at call_from call_name_from
  name_complete {r} {m} p x (Grammar.Name.name {m = k} {w = w} y word st) =
      let x1 = at_skip l p x y in
      let ran = at_run l same_call (skip l p) x1 word.run in
      let e = run_end Class.Call l (skip l p) in
      record {
        a = skip l p;
        b = e;
        reads = rw (at_inside l (skip l p) k x1 (omega (arith, word_length word)), ran_some l ran, word.some, at_byte l e (code "(" ∷ m) ran.next);
        spans = stands_span l x1 ran st;
        next = at_next l e (code "(") m ran.next;
      }

  name_length : {r m : List ℕ} {n : Span} → Grammar.Name l r n m → length m < length r
  name_length (Grammar.Name.name y word st) = omega (arith, blanks_length y, word_length word)

  -- ---- The calls of a line

  pub data RhsRead (r : List ℕ) : CallsRead → Type 0 where
    broken : RhsRead r CallsRead.broken
    calls : {cs : List WrittenCall} → Grammar.Rhs l r cs → RhsRead r (CallsRead.calls cs)

  rhs_more :
      {r m k : List ℕ} {n : Span} {ss : List Span} {x : CallsRead} → Grammar.Name l r n m → Grammar.Bracketed l m ss k → RhsRead k x
      → RhsRead r (one_more_call (record { name = n; parameters = ss }) x)
  rhs_more n b broken = broken
  rhs_more n b (calls d) = calls (Grammar.Rhs.call n b d)

  rhs_params :
      {r m : List ℕ} {n : Span} {x : Parameters} (rest : ℕ → CallsRead) → ((n : ℕ) (m : List ℕ) → At l n m → RhsRead m (rest n))
      → Grammar.Name l r n m → BracketedRead l m x → RhsRead r (with_parameters n x rest)
  rhs_params rest ih n BracketedRead.broken = broken
  rhs_params rest ih n (BracketedRead.bracketed {m = k} {n = q} b x) = rhs_more n b (ih q k x)

  rhs_next :
      all line_byte l ≡ true → {r : List ℕ} {x : CallRead} (rest : ℕ → CallsRead)
      → ((n : ℕ) (m : List ℕ) → At l n m → RhsRead m (rest n)) → NameRead r x → RhsRead r (calls_next l x rest)
  rhs_next clean rest ih broken = broken
  rhs_next clean rest ih (end y) = calls (Grammar.Rhs.none y)
  rhs_next clean rest ih (name {b = b} n x) = rhs_params rest ih n (bracketed_sound l clean (b + 1) x)

  rhs_from : all line_byte l ≡ true → (fuel p : ℕ) (r : List ℕ) → At l p r → RhsRead r (calls_from fuel l p)
  unfolding calls_from
  rhs_from clean zero p r x = broken
  rhs_from clean (suc fuel) p r x = rhs_next clean (λ q. calls_from fuel l q) (λ n m y. rhs_from clean fuel n m y) (name_sound p x)

  pub rhs_sound : all line_byte l ≡ true → (p : ℕ) (r : List ℕ) → At l p r → RhsRead r (right_side l p)
  unfolding right_side
  rhs_sound clean p r x = rhs_from clean (length l + 1) p r x

  calls_end : {r : List ℕ} (p : ℕ) → At l p r → Blanks r [] → call_at l p ≡ CallRead.End
  unfolding call_at call_from
  calls_end p x y = rw (at_past l (skip l p) (at_skip l p x y))

  calls_complete :
      {r : List ℕ} {cs : List WrittenCall} (fuel p : ℕ) → length r < fuel → At l p r → Grammar.Rhs l r cs
      → calls_from fuel l p ≡ CallsRead.calls cs
  unfolding calls_from
  calls_complete zero p f x d = absurd (omega arith)
  calls_complete (suc fuel) p f x (Grammar.Rhs.none y) = rw (calls_end p x y)
  calls_complete (suc fuel) p f x (Grammar.Rhs.call n b d) =
      let g = name_complete p x n in
      let h = bracketed_complete l (g.b + 1) g.next b in
      let i = calls_complete fuel h.next (omega (arith, name_length n, bracketed_length l b)) h.at d in
      rw (g.reads, h.reads, i, g.spans)

  pub rhs_complete : {r : List ℕ} {cs : List WrittenCall} (p : ℕ) → At l p r → Grammar.Rhs l r cs → right_side l p ≡ CallsRead.calls cs
  unfolding right_side
  rhs_complete p x d = calls_complete (length l + 1) p (omega (arith, x.len)) x d
