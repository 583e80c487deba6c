-- Reading at a position of a line depends on the bytes from there on alone.
use Prim.Native.Nat.{ℕ, zero, suc, ◌+◌, ◌-◌, ◌≤◌, ◌<◌}
use Prim.Native.Char.{Char}
use native.Mathlib.Omega.{arith}
use mathlib.Core.Path.{◌≡◌, refl, sym, ap, ◌∙◌}
use mathlib.Core.Bool.{Bool, true, false, not, ◌&&◌, ◌||◌, false≢true}
use mathlib.Core.List.{List, [], ◌∷◌, ◌++◌}
use lib.Dec.{leb, eqb}
use lib.ListN.{length, get_or, take, drop, length-append, take-append-drop}
use lib.Seq.{length-take-le, drop-drop, get_or-drop, drop-append_seam, take-append_seam}
use borrow.Author.Tests.{eqb-true, eq-eqb, ne_eqb, le-leb, lt-leb}
use Rattle.model.specs.Lists.{all, part}
use Rattle.model.specs.Bytes.{is_blank, is_letter, is_digit, belongs, leading, run_end, skip, byte_at}
use Rattle.model.specs.Calls.{span}
use Rattle.model.specs.declared.scan.Class.{Class}
use Rattle.model.specs.declared.scan.Span.{Span}
use Rattle.grammar.specs.Bytes.{blank, letter_or_digit, keysym_byte, is_digit_sign, detail_byte, namechar, unquoted_byte, quoted_byte, line_byte}
use Rattle.grammar.specs.Tokens.{begins_with, Run, is_some, Word, Blanks, Sign, Optional, Stands}

-- ---- Tests

pub and_left : (a b : Bool) → (a && b) ≡ true → a ≡ true
and_left true b e = refl
and_left false b e = e

pub and_right : (a b : Bool) → (a && b) ≡ true → b ≡ true
and_right true b e = e
and_right false b e = absurd (false≢true e)

-- neither of two
pub nor_left : (a b : Bool) → not (a || b) ≡ true → not a ≡ true
nor_left true b e = e
nor_left false b e = refl

pub nor_right : (a b : Bool) → not (a || b) ≡ true → b ≡ false
nor_right true b e = absurd (false≢true e)
nor_right false true e = absurd (false≢true e)
nor_right false false e = refl

-- one of two, and not the second
pub or_first : (a b : Bool) → not (a || b) ≡ false → not b ≡ true → a ≡ true
or_first true b e f = refl
or_first false true e f = f
or_first false false e f = sym e

-- ---- Runs of a list

leading_stop : (test : ℕ → Bool) (r : List ℕ) → begins_with test r ≡ false → leading test r ≡ 0
leading_stop test [] e = refl
leading_stop test (b ∷ bs) e = rw e

leading_run : (test : ℕ → Bool) (w r : List ℕ) → all test w ≡ true → begins_with test r ≡ false → leading test (w ++ r) ≡ length w
leading_run test [] r a e = leading_stop test r e
leading_run test (b ∷ w) r a e = rw (and_left (test b) (all test w) a, leading_run test w r (and_right (test b) (all test w) a) e)

leading_same : (f g : ℕ → Bool) → ((b : ℕ) → f b ≡ g b) → (r : List ℕ) → leading f r ≡ leading g r
leading_same f g e [] = refl
leading_same f g e (b ∷ bs) = rw (e b, leading_same f g e bs)

-- the longest run that stands at the front
pub record Front (kind : ℕ → Bool) (l : List ℕ) : Type 0 where
  pub word : List ℕ
  pub rest : List ℕ
  pub run : Run kind l word rest

pub front : (kind : ℕ → Bool) (l : List ℕ) → Front kind l
front kind [] = record { word = []; rest = []; run = record { split = refl; within = refl; longest = refl } }
front kind (b ∷ bs) = go (kind b) refl (front kind bs)
  where
    go : (t : Bool) → kind b ≡ t → Front kind bs → Front kind (b ∷ bs)
    go true e f =
        record {
          word = b ∷ f.word;
          rest = f.rest;
          run = record { split = ap {B = List ℕ} (λ x. b ∷ x) f.run.split; within = rw e f.run.within; longest = f.run.longest };
        }
    go false e f = record { word = []; rest = b ∷ bs; run = record { split = refl; within = refl; longest = e } }

pub run_length : {kind : ℕ → Bool} {l w r : List ℕ} → Run kind l w r → length l ≡ length w + length r
run_length {kind} {l} {w} {r} x = ap length x.split ∙ length-append w r

-- ---- Positions

-- the class of a run, in the model and in the grammar
abbrev pub Same : Class → (ℕ → Bool) → Type 0
Same c kind = (b : ℕ) → belongs c b ≡ kind b

pub same_blank : Same Class.Blank blank
unfolding belongs is_blank
same_blank b = refl

pub same_name : Same Class.Name letter_or_digit
unfolding belongs is_letter is_digit
same_name b = refl

pub same_keysym : Same Class.Keysym keysym_byte
unfolding belongs is_letter is_digit
same_keysym b = refl

pub same_digit : Same Class.Digit is_digit_sign
unfolding belongs is_digit
same_digit b = refl

pub same_detail_lem : Same Class.Detail detail_byte
unfolding belongs is_blank
same_detail_lem b = refl

pub same_call : Same Class.Call namechar
unfolding belongs is_letter is_digit
same_call b = refl

pub same_unquoted : Same Class.Unquoted unquoted_byte
unfolding belongs is_blank
same_unquoted b = refl

pub same_quoted : Same Class.Quoted quoted_byte
unfolding belongs
same_quoted b = refl

pub same_line : Same Class.Line line_byte
unfolding belongs
same_line b = refl

-- the first byte, 0 where there is none
abbrev pub first : List ℕ → ℕ
first [] = 0
first (b ∷ bs) = b

module _ (l : List ℕ) where
  -- the bytes from a position of the line on
  pub record At (p : ℕ) (r : List ℕ) : Type 0 where
    pub rest : drop p l ≡ r
    pub len : p + length r ≡ length l

  pub at_start : At 0 l
  at_start = record { rest = refl; len = omega arith }

  pub at_byte : (p : ℕ) (r : List ℕ) → At p r → byte_at l p ≡ first r
  at_byte p r a = ap (λ n. get_or l n 0) (let z : p ≡ p + 0 = omega arith in z) ∙ sym (get_or-drop p l 0 0) ∙ ap (λ x. get_or x 0 0) a.rest ∙ go r
    where
      go : (x : List ℕ) → get_or x 0 0 ≡ first x
      go [] = refl
      go (b ∷ bs) = refl

  pub at_past : (p : ℕ) → At p [] → leb (length l) p ≡ true
  at_past p a = le-leb (length l) p (omega (arith, a.len))

  pub at_within : (p b : ℕ) (r : List ℕ) → At p (b ∷ r) → leb (length l) p ≡ false
  at_within p b r a = lt-leb (length l) p (omega (arith, a.len))

  pub at_next : (p b : ℕ) (r : List ℕ) → At p (b ∷ r) → At (p + 1) r
  at_next p b r a =
      record { rest = sym (drop-drop 1 p l) ∙ ap (λ x. drop 1 x) a.rest; len = omega (arith, a.len) }

  -- a run at a position
  pub record Ran (c : Class) (p : ℕ) (w r : List ℕ) : Type 0 where
    pub stop : run_end c l p ≡ p + length w
    pub next : At (run_end c l p) r
    pub word : part l p (run_end c l p) ≡ w

  pub at_run : {c : Class} {kind : ℕ → Bool} {w r s : List ℕ} → Same c kind → (p : ℕ) → At p r → Run kind r w s → Ran c p w s
  unfolding run_end
  at_run {c} {kind} {w} {r} {s} same p a x =
      let lead : leading (belongs c) (drop p l) ≡ length w
      = leading_same (belongs c) kind same (drop p l) ∙ ap (leading kind) (a.rest ∙ x.split) ∙ leading_run kind w s x.within x.longest in
      let stop : p + leading (belongs c) (drop p l) ≡ p + length w = ap (λ n. p + n) lead in
      record {
        stop = stop;
        next = record {
          rest = sym (drop-drop (leading (belongs c) (drop p l)) p l)
              ∙ ap (λ n. drop n (drop p l)) lead ∙ ap (drop (length w)) (a.rest ∙ x.split) ∙ drop-append_seam w s;
          len = omega (arith, a.len, lead, run_length x);
        };
        word = ap (λ n. take n (drop p l)) (let z : p + leading (belongs c) (drop p l) - p ≡ length w = omega (arith, lead) in z)
            ∙ ap (take (length w)) (a.rest ∙ x.split) ∙ take-append_seam w s;
      }

  pub at_skip : {r s : List ℕ} (p : ℕ) → At p r → Blanks r s → At (skip l p) s
  unfolding skip
  at_skip p a x = (at_run same_blank p a x.run).next

  -- whether a run has bytes
  pub ran_some : {c : Class} {p : ℕ} {w r : List ℕ} → Ran c p w r → eqb (run_end c l p) p ≡ not (is_some w)
  ran_some {c} {p} {w} {r} x = go w x.stop
    where
      go : (v : List ℕ) → run_end c l p ≡ p + length v → eqb (run_end c l p) p ≡ not (is_some v)
      go [] e = eq-eqb (run_end c l p) p (omega arith)
      go (b ∷ v) e = ne_eqb (run_end c l p) p (λ (q : run_end c l p ≡ p). omega arith)

  -- the span that is read of a run is where the run stands
  pub ran_stands : {c : Class} {p : ℕ} {w r s : List ℕ} → At p r → Ran c p w s → Stands l r w (span p (run_end c l p))
  ran_stands {c} {p} {w} {r} {s} a x =
      let i : length (take p l) ≡ p = length-take-le p l (omega (arith, a.len)) in
      let j : run_end c l p - p ≡ length w = omega (arith, x.stop) in
      record { before = take p l; split = sym (ap (λ y. take p l ++ y) (sym a.rest) ∙ take-append-drop p l); place = cc }

  pub stands_span : {c : Class} {p : ℕ} {w r t : List ℕ} {s : Span} → At p r → Ran c p w t → Stands l r w s → span p (run_end c l p) ≡ s
  stands_span {c} {p} {w} {r} {t} {s} a x st =
      let i : p ≡ length st.before = omega (arith, a.len, length-append st.before r, ap length st.split) in
      let j : run_end c l p - p ≡ length w = omega (arith, x.stop) in
      let k : span p (run_end c l p) ≡ record { start = length st.before; len = length w } = cc in
      k ∙ sym st.place

-- ---- Signs and blanks

-- a sign at the front, or not
pub data SignView (c : ℕ) : List ℕ → Type 0 where
  is : {r : List ℕ} → SignView c (c ∷ r)
  isnt : {r : List ℕ} → eqb (first r) c ≡ false → SignView c r

pub view : (c : ℕ) → eqb 0 c ≡ false → (r : List ℕ) → SignView c r
view c z [] = isnt z
view c z (b ∷ bs) = go (eqb b c) refl
  where
    go : (t : Bool) → eqb b c ≡ t → SignView c (b ∷ bs)
    go true e = rw (eqb-true b c e) is
    go false e = isnt e

pub begins_sign : (c : ℕ) → eqb 0 c ≡ false → (r : List ℕ) → eqb (first r) c ≡ begins_with (λ b. eqb b c) r
begins_sign c z [] = z
begins_sign c z (b ∷ bs) = refl

-- the blanks that stand at the front
pub record Past (l : List ℕ) : Type 0 where
  pub rest : List ℕ
  pub blanks : Blanks l rest

pub past : (l : List ℕ) → Past l
past l = let f = front blank l in record { rest = f.rest; blanks = record { blanks = f.word; run = f.run } }

-- a list that does not begin with a blank
pub no_blanks : (l : List ℕ) → begins_with blank l ≡ false → Blanks l l
no_blanks l e = record { blanks = []; run = record { split = refl; within = refl; longest = e } }

-- all blanks are taken already
pub blanks_none : {l r : List ℕ} → Blanks l r → begins_with blank l ≡ false → l ≡ r
blanks_none {l} {r} x e = go x.blanks x.run.split x.run.within
  where
    go : (w : List ℕ) → l ≡ w ++ r → all blank w ≡ true → l ≡ r
    go [] s a = s
    go (b ∷ w) s a =
        let i : blank b ≡ false = rw s at e in
        absurd (false≢true (sym i ∙ and_left (blank b) (all blank w) a))

pub past_blanks : {l r : List ℕ} → Blanks l r → Blanks r r
past_blanks {l} {r} x = no_blanks r x.run.longest

pub blanks_length : {l r : List ℕ} → Blanks l r → length r ≤ length l
blanks_length x = omega (arith, run_length x.run)

pub sign_length : {c : Char} {l r : List ℕ} → Sign c l r → length r < length l
sign_length x = omega (arith, blanks_length x.before)

pub optional_length : {c : Char} {l r : List ℕ} {b : Bool} → Optional c l b r → length r ≤ length l
optional_length (Optional.there s) = omega (arith, sign_length s)
optional_length (Optional.missing y) = blanks_length y

pub run_shorter : {kind : ℕ → Bool} {l w r : List ℕ} → Run kind l w r → length r ≤ length l
run_shorter x = omega (arith, run_length x)

all_drop : (test : ℕ → Bool) (n : ℕ) (l : List ℕ) → all test l ≡ true → all test (drop n l) ≡ true
all_drop test zero l e = e
all_drop test (suc n) [] e = refl
all_drop test (suc n) (b ∷ bs) e = all_drop test n bs (and_right (test b) (all test bs) e)

-- every byte of a line is one
pub at_all : (test : ℕ → Bool) (l : List ℕ) → all test l ≡ true → (p : ℕ) (r : List ℕ) → At l p r → all test r ≡ true
at_all test l e p r a = rw a.rest at (all_drop test p l e)

pub some_length : {A : Type 0} (w : List A) → is_some w ≡ true → 0 < length w
some_length [] e = absurd (false≢true e)
some_length (b ∷ w) e = omega arith

pub word_length : {kind : ℕ → Bool} {l w r : List ℕ} → Word kind l w r → length r < length l
word_length {kind} {l} {w} {r} x = omega (arith, run_length x.run, some_length w x.some)

pub at_inside : (l : List ℕ) (p : ℕ) (r : List ℕ) → At l p r → 0 < length r → leb (length l) p ≡ false
at_inside l p r a h = lt-leb (length l) p (omega (arith, a.len))

-- a byte of a kind is no byte that is not of it
pub kind_not : (kind : ℕ → Bool) (c : ℕ) → kind c ≡ false → (b : ℕ) → kind b ≡ true → eqb b c ≡ false
kind_not kind c n b y = go (eqb b c) refl
  where
    go : (t : Bool) → eqb b c ≡ t → eqb b c ≡ false
    go true e = absurd (false≢true (sym n ∙ ap kind (sym (eqb-true b c e)) ∙ y))
    go false e = e

-- the first byte of a word
pub word_first : {kind : ℕ → Bool} {l w r : List ℕ} → Word kind l w r → (c : ℕ) → kind c ≡ false → eqb (first l) c ≡ false
word_first {kind} {l} {w} {r} x c n = go w x.run.split x.run.within x.some
  where
    go : (w : List ℕ) → l ≡ w ++ r → all kind w ≡ true → is_some w ≡ true → eqb (first l) c ≡ false
    go [] s a e = absurd (false≢true e)
    go (b ∷ w) s a e = rw s (kind_not kind c n b (and_left (kind b) (all kind w) a))

pub word_begins : {kind : ℕ → Bool} {l w r : List ℕ} → Word kind l w r → begins_with kind l ≡ true
word_begins {kind} {l} {w} {r} x = go w x.run.split x.run.within x.some
  where
    go : (w : List ℕ) → l ≡ w ++ r → all kind w ≡ true → is_some w ≡ true → begins_with kind l ≡ true
    go [] s a e = absurd (false≢true e)
    go (b ∷ w) s a e = rw s (and_left (kind b) (all kind w) a)

-- what holds of the blanks at the front, and of what follows them where there are none, holds
pub past_or_blank :
    {l r : List ℕ} (test : ℕ → Bool) → Blanks l r → ((b : ℕ) → blank b ≡ true → test b ≡ true) → (l ≡ r → begins_with test l ≡ true) → begins_with test l ≡ true
past_or_blank {l} {r} test x f g = go x.blanks x.run.split x.run.within
  where
    go : (w : List ℕ) → l ≡ w ++ r → all blank w ≡ true → begins_with test l ≡ true
    go [] s a = g s
    go (b ∷ w) s a = rw s (f b (and_left (blank b) (all blank w) a))

-- a run at the front is taken in one way
pub record SameRun (w v r s : List ℕ) : Type 0 where
  pub word : w ≡ v
  pub rest : r ≡ s

pub run_same : {kind : ℕ → Bool} (w v : List ℕ) {l r s : List ℕ} → Run kind l w r → Run kind l v s → SameRun w v r s
run_same [] [] x y = record { word = refl; rest = sym x.split ∙ y.split }
run_same {kind} [] (b ∷ v) {l} {r} x y =
    let i : kind b ≡ false = rw (sym x.split ∙ y.split) at x.longest in
    absurd (false≢true (sym i ∙ and_left (kind b) (all kind v) y.within))
run_same {kind} (b ∷ w) [] {l} {r} {s} x y =
    let i : kind b ≡ false = rw (sym y.split ∙ x.split) at y.longest in
    absurd (false≢true (sym i ∙ and_left (kind b) (all kind w) x.within))
run_same {kind} (b ∷ w) (c ∷ v) {l} {r} {s} x y =
    let i : b ∷ (w ++ r) ≡ c ∷ (v ++ s) = sym x.split ∙ y.split in
    let h : b ≡ c = cc in
    let j : w ++ r ≡ v ++ s = cc in
    let k
    = run_same w v
    (record { split = refl; within = and_right (kind b) (all kind w) x.within; longest = x.longest })
    (record { split = j; within = and_right (kind c) (all kind v) y.within; longest = y.longest }) in
    let m : w ≡ v = k.word in
    record { word = cc; rest = k.rest }

pub blanks_same : {l r s : List ℕ} → Blanks l r → Blanks l s → r ≡ s
blanks_same x y = (run_same x.blanks y.blanks x.run y.run).rest
