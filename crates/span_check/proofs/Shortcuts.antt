-- Where a table is not merged, one loop over its parameters does for two; in a merged table, a loop for each text does.
use Prim.Native.Nat.{ℕ, zero, suc, ◌+◌, ◌-◌, ◌≤◌, ◌<◌}
use native.Mathlib.Omega.{arith}
use native.Mathlib.Nat.{zero-add}
use mathlib.Core.Path.{◌≡◌, refl, sym, ap, ◌∙◌}
use mathlib.Core.List.{List}
use mathlib.Core.Bool.{true}
use Rattle.words.specs.Words.{word_at}
use Rattle.words.specs.Runs.{every, total, low_at}
use Rattle.words.proofs.RunLaws.{every_at, every_add, total_add, total_le, all_zeros, all_full, low_total}
use Rattle.tables.specs.Layout.{marks_at, call_parameters_at}
use Rattle.span_check.specs.Spans.{length_of_text, call_ok, parameter_ok, parameters_ok, in_turn}
use Rattle.span_check.proofs.CallWords.{CallWordFacts, call_word_facts}

-- the parameters of calls of one mark that stand in a row
flat_run : (l : List ℕ) (mark from n : ℕ) → ((i : ℕ) → i < n → word_at l (marks_at + (from + i)) ≡ mark)
    → every (parameters_ok l) from n
    ≡ every (parameter_ok l (length_of_text mark (word_at l 2) (word_at l 3))) (total (word_at l) call_parameters_at from) (total (word_at l) (call_parameters_at + from) n)
unfolding every total parameters_ok
flat_run l mark from zero m = refl
flat_run l mark from (suc n) m =
    let e : call_parameters_at + (from + n) ≡ call_parameters_at + from + n = omega arith in
    rw (flat_run l mark from n (λ i h. m i (omega arith)), m n (omega arith), total_add (word_at l) call_parameters_at from n, e)
    (sym (every_add (parameter_ok l (length_of_text mark (word_at l 2) (word_at l 3))) (total (word_at l) call_parameters_at from) (total (word_at l) (call_parameters_at + from) n) (word_at l (call_parameters_at + from + n))))

-- the same from the first call on
flat_first : (l : List ℕ) (mark n : ℕ) → ((i : ℕ) → i < n → word_at l (marks_at + i) ≡ mark)
    → every (parameters_ok l) 0 n ≡ every (parameter_ok l (length_of_text mark (word_at l 2) (word_at l 3))) 0 (total (word_at l) call_parameters_at n)
unfolding total
flat_first l mark n m = flat_run l mark 0 n (λ i h. rw zero-add (m i h))

pub plain_parameters : (l : List ℕ) (n : ℕ) → word_at l 1 ≡ 0 → every (call_ok l) 0 n ≡ true
    → every (parameters_ok l) 0 n ≡ every (parameter_ok l (word_at l 2)) 0 (total (word_at l) call_parameters_at n)
unfolding length_of_text
plain_parameters l n z ok =
    flat_first l 0 n (λ i h. unmarked i (call_word_facts l i (rw zero-add at (every_at (call_ok l) 0 n i ok h))))
  where
    unmarked : (i : ℕ) → CallWordFacts l i → word_at l (marks_at + i) ≡ 0
    unmarked i f = let m = f.mark in omega arith

-- k calls of one mark, then r of another
two_runs : (l : List ℕ) (a b k r : ℕ) → ((i : ℕ) → i < k → word_at l (marks_at + i) ≡ a) → ((i : ℕ) → i < r → word_at l (marks_at + (k + i)) ≡ b)
    → every (parameters_ok l) 0 (k + r)
    ≡ in_turn l (length_of_text a (word_at l 2) (word_at l 3)) (length_of_text b (word_at l 2) (word_at l 3)) (total (word_at l) call_parameters_at k) (total (word_at l) call_parameters_at (k + r))
unfolding in_turn
two_runs l a b k r f g =
    let t = total_add (word_at l) call_parameters_at k r in
    let e : total (word_at l) call_parameters_at (k + r) - total (word_at l) call_parameters_at k ≡ total (word_at l) (call_parameters_at + k) r = omega (arith, t) in
    every_add (parameters_ok l) 0 k r ∙ rw (zero-add k, flat_first l a k f, flat_run l b k r g, e)

module _ (l : List ℕ) (n : ℕ) (ok : every (call_ok l) 0 n ≡ true) (few : word_at l 1 ≤ 1) where
  call_at_lem : (i : ℕ) → i < n → CallWordFacts l i
  call_at_lem i h = call_word_facts l i (rw zero-add at (every_at (call_ok l) 0 n i ok h))

  mark_le : (i : ℕ) → i < n → word_at l (marks_at + i) ≤ 1
  mark_le i h = omega (arith, (call_at_lem i h).mark)

  low_marks : (k : ℕ) → k ≤ n → total (low_at l) marks_at k ≡ total (word_at l) marks_at k
  low_marks k b = low_total l marks_at k (λ i h. small i (mark_le i (omega arith)))
    where
      small : (i : ℕ) → word_at l (marks_at + i) ≤ 1 → word_at l (marks_at + i) < 256
      small i h = omega arith

  low_first : (k : ℕ) → k ≤ n → total (low_at l) call_parameters_at k ≡ total (word_at l) call_parameters_at k
  low_first k b = low_total l call_parameters_at k (λ i h. small i (call_at_lem i (omega arith)))
    where
      small : (i : ℕ) → CallWordFacts l i → word_at l (call_parameters_at + i) < 256
      small i f = omega arith

  pub seconds_le : total (low_at l) marks_at n ≤ n
  seconds_le = rw (low_marks n (omega arith)) (total_le (word_at l) marks_at n mark_le)

  pub first_parameters : (k : ℕ) → k ≤ n → total (low_at l) call_parameters_at k ≤ total (word_at l) call_parameters_at n
  first_parameters k b =
      let e : n ≡ k + (n - k) = omega arith in
      rw (low_first k b, e) (omega (arith, total_add (word_at l) call_parameters_at k (n - k)))

  -- the sum of the marks after the first k
  marks_after : (k : ℕ) → k ≤ n → total (low_at l) marks_at n ≡ total (low_at l) marks_at k + total (word_at l) (marks_at + k) (n - k)
  marks_after k b =
      let e : n ≡ k + (n - k) = omega arith in
      low_marks n (omega arith) ∙ ap (total (word_at l) marks_at) e ∙ total_add (word_at l) marks_at k (n - k) ∙ rw (low_marks k b)

  mark_after_le : (k i : ℕ) → i < n - k → word_at l (marks_at + k + i) ≤ 1
  mark_after_le k i h = let e : marks_at + k + i ≡ marks_at + (k + i) = omega arith in rw e (mark_le (k + i) (omega arith))

  split : (k a b : ℕ) → k ≤ n → ((i : ℕ) → i < k → word_at l (marks_at + i) ≡ a) → ((i : ℕ) → i < n - k → word_at l (marks_at + k + i) ≡ b)
      → in_turn l (length_of_text a (word_at l 2) (word_at l 3)) (length_of_text b (word_at l 2) (word_at l 3)) (total (low_at l) call_parameters_at k) (total (word_at l) call_parameters_at n)
      ≡ every (parameters_ok l) 0 n
  split k a b h f g =
      let e : k + (n - k) ≡ n = omega arith in
      rw (low_first k h) (sym (rw e at (two_runs l a b k (n - k) f (λ i q. shifted i (g i q)))))
    where
      shifted : (i : ℕ) → word_at l (marks_at + k + i) ≡ b → word_at l (marks_at + (k + i)) ≡ b
      shifted i q = let e : marks_at + (k + i) ≡ marks_at + k + i = omega arith in rw e q

  -- the calls of the second text stand first
  pub second_first : (k : ℕ) → total (low_at l) marks_at n ≡ k → total (low_at l) marks_at k ≡ k
      → in_turn l (word_at l 3) (word_at l 2) (total (low_at l) call_parameters_at k) (total (word_at l) call_parameters_at n) ≡ every (parameters_ok l) 0 n
  unfolding length_of_text
  second_first k e p =
      let h : k ≤ n = omega (arith, seconds_le) in
      let q : total (word_at l) marks_at k ≡ k = sym (low_marks k h) ∙ p in
      let r : total (word_at l) (marks_at + k) (n - k) ≡ 0 = omega (arith, marks_after k h, e, p) in
      split k 1 0 h
      (λ i b. all_full (word_at l) marks_at k i q (λ j d. mark_le j (omega arith)) b)
      (λ i b. all_zeros (word_at l) (marks_at + k) (n - k) i r b)

  -- the calls of the first text stand first
  pub first_first : (s k : ℕ) → total (low_at l) marks_at n ≡ s → n - s ≡ k → total (low_at l) marks_at k ≡ 0
      → in_turn l (word_at l 2) (word_at l 3) (total (low_at l) call_parameters_at k) (total (word_at l) call_parameters_at n) ≡ every (parameters_ok l) 0 n
  unfolding length_of_text
  first_first s k e w p =
      let h : k ≤ n = omega arith in
      let q : total (word_at l) marks_at k ≡ 0 = sym (low_marks k h) ∙ p in
      let r : total (word_at l) (marks_at + k) (n - k) ≡ n - k = omega (arith, marks_after k h, e, p, seconds_le) in
      split k 0 1 h
      (λ i b. all_zeros (word_at l) marks_at k i q b)
      (λ i b. all_full (word_at l) (marks_at + k) (n - k) i r (mark_after_le k) b)

-- ---- Lower bytes

pub low_parameters : (l : List ℕ) (n : ℕ) → every (call_ok l) 0 n ≡ true → total (low_at l) call_parameters_at n ≡ total (word_at l) call_parameters_at n
low_parameters l n ok = low_total l call_parameters_at n (λ i h. small i (call_word_facts l i (rw zero-add at (every_at (call_ok l) 0 n i ok h))))
  where
    small : (i : ℕ) → CallWordFacts l i → word_at l (call_parameters_at + i) < 256
    small i f = omega arith
