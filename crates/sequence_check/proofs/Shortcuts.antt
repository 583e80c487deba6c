-- Where few events are counted, no production has to be measured.
use Prim.Native.Nat.{ℕ, zero, suc, ◌+◌, ◌-◌, ◌*◌, ◌≤◌, ◌<◌}
use native.Mathlib.Omega.{arith}
use native.Mathlib.Nat.{zero-add}
use mathlib.Core.Path.{◌≡◌, refl, sym}
use mathlib.Core.List.{List, [], ◌∷◌}
use mathlib.Core.Bool.{Bool, true, false, ◌&&◌, ◌||◌, and-true}
use lib.Dec.{leb, eqb}
use borrow.Author.Tests.{le-leb, leb-true, leb-false, ltb-true, eqb-true}
use Rattle.words.specs.Words.{word_at}
use Rattle.words.specs.Runs.{every, total, low_at}
use Rattle.words.proofs.Bools.{chain_parts, chain_all}
use Rattle.words.proofs.RunLaws.{every_at, every_all, total_add, total_part, total_bound, low_total}
use Rattle.tables.specs.Layout.{production_events_at, production_calls_at, codes_at, counts_at, sets_at, clears_at, flags_at, lows_at, highs_at}
use Rattle.event_check.specs.Events.{event_ok, few_at}
use Rattle.counts.proofs.Elements.{count_at_most}
use Rattle.counts.specs.Elements.{releases, element_count}
use Rattle.sequence_check.specs.Sequences.{size_at, production_ok, plain_ok, least_events, most_events, sequences_ok}
use Rattle.event_check.proofs.EventTests.{EventFacts, event_facts}

-- ---- Events

-- how much more an event of count c stands for
size_more : (c n : ℕ) → 1 ≤ n → element_count c n ≤ 1 + 3 * (n - 1)
unfolding element_count releases
size_more c n h = go (leb n 1) refl (eqb c 3 || eqb c 5) refl
  where
    go : (a : Bool) → leb n 1 ≡ a → (b : Bool) → (eqb c 3 || eqb c 5) ≡ b → element_count c n ≤ 1 + 3 * (n - 1)
    go true p b q = rw p (omega arith)
    go false p true q = let m = leb-false n 1 p in rw (p, q) (omega arith)
    go false p false q = let m = leb-false n 1 p in rw (p, q) (omega arith)

pub size_most : (c n : ℕ) → n ≤ 9 → element_count c n ≤ 18
size_most c n h = count_at_most c n 9 h (omega arith)

-- what an event's count has above 1
abbrev spare_at : List ℕ → ℕ → ℕ
spare_at l i = word_at l (counts_at + i) - 1

spare_total : (l : List ℕ) (n : ℕ) → ((i : ℕ) → i < n → 1 ≤ word_at l (counts_at + i)) → total (spare_at l) 0 n + n ≡ total (word_at l) counts_at n
unfolding total
spare_total l zero b = refl
spare_total l (suc n) b =
    let a = spare_total l n (λ i h. b i (omega arith)) in
    let m = b n (omega arith) in
    rw zero-add (omega arith)

-- events in range, from one on
module _ (l : List ℕ) (from n : ℕ) (ok : every (event_ok l) from n ≡ true) (i : ℕ) (h : i < n) where
  event_at : EventFacts (word_at l (codes_at + (from + i))) (word_at l (counts_at + (from + i))) (word_at l (sets_at + (from + i))) (word_at l (clears_at + (from + i))) (word_at l (flags_at + (from + i))) (word_at l (lows_at + (from + i))) (word_at l (highs_at + (from + i)))
  unfolding event_ok
  event_at =
      event_facts (word_at l (codes_at + (from + i))) (word_at l (counts_at + (from + i))) (word_at l (sets_at + (from + i))) (word_at l (clears_at + (from + i))) (word_at l (flags_at + (from + i))) (word_at l (lows_at + (from + i))) (word_at l (highs_at + (from + i)))
      (every_at (event_ok l) from n i ok h)

  pub count_low_from : 1 ≤ word_at l (counts_at + (from + i))
  count_low_from = event_at.count_low

  pub count_high_from : word_at l (counts_at + (from + i)) ≤ 9
  count_high_from = event_at.count_high

module _ (l : List ℕ) (n : ℕ) (ok : every (event_ok l) 0 n ≡ true) where
  pub count_low : (i : ℕ) → i < n → 1 ≤ word_at l (counts_at + i)
  count_low i h = rw zero-add at (count_low_from l 0 n ok i h)

  pub count_high_lem : (i : ℕ) → i < n → word_at l (counts_at + i) ≤ 9
  count_high_lem i h = rw zero-add at (count_high_from l 0 n ok i h)

  pub low_counts : total (low_at l) counts_at n ≡ total (word_at l) counts_at n
  low_counts = low_total l counts_at n (λ i h. small i (count_high_lem i h))
    where
      small : (i : ℕ) → word_at l (counts_at + i) ≤ 9 → word_at l (counts_at + i) < 256
      small i h = omega arith

  spare_counts : total (spare_at l) 0 n + n ≡ total (word_at l) counts_at n
  spare_counts = spare_total l n count_low

  pub counts_ge : n ≤ total (word_at l) counts_at n
  counts_ge = omega (arith, spare_counts)

  sizes_more : (from m : ℕ) → from + m ≤ n → total (size_at l) from m ≤ m + 3 * total (spare_at l) from m
  unfolding total size_at
  sizes_more from zero h = omega arith
  sizes_more from (suc m) h =
      let a = sizes_more from m (omega arith) in
      let b = size_more (word_at l (codes_at + (from + m))) (word_at l (counts_at + (from + m))) (count_low (from + m) (omega arith)) in
      omega arith

  spare_part : (from m : ℕ) → from + m ≤ n → total (spare_at l) from m ≤ total (spare_at l) 0 n
  spare_part from m h =
      let e : n ≡ from + m + (n - (from + m)) = omega arith in
      let a = total_add (spare_at l) 0 (from + m) (n - (from + m)) in
      let b = total_add (spare_at l) 0 from m in
      rw e (omega (arith, a, rw zero-add at b))

  -- n events stand for at most three times as many more as their counts have above 1
  pub sizes_extra : (from m : ℕ) → from + m ≤ n → total (size_at l) from m ≤ m + 3 * (total (word_at l) counts_at n - n)
  sizes_extra from m h = omega (arith, sizes_more from m h, spare_part from m h, spare_counts)

  size_any : (from m i : ℕ) → from + m ≤ n → i < m → size_at l (from + i) ≤ 18
  unfolding size_at
  size_any from m i h b =
      count_at_most (word_at l (codes_at + (from + i))) (word_at l (counts_at + (from + i))) 9 (count_high_lem (from + i) (omega arith)) (omega arith)

  few_at_lem : (i : ℕ) → every (few_at l) 0 n ≡ true → i < n → word_at l (counts_at + i) < 4
  unfolding few_at
  few_at_lem i e h = ltb-true (word_at l (counts_at + i)) 4 (rw zero-add at (every_at (few_at l) 0 n i e h))

  size_low : (from m i : ℕ) → every (few_at l) 0 n ≡ true → from + m ≤ n → i < m → size_at l (from + i) ≤ 6
  unfolding size_at
  size_low from m i e h b =
      let f = few_at_lem (from + i) e (omega arith) in
      count_at_most (word_at l (codes_at + (from + i))) (word_at l (counts_at + (from + i))) 3 (omega arith) (omega arith)

  -- so many events stand for at most 24, whichever they are
  sizes_least : (few : Bool) → few ≡ every (few_at l) 0 n → (from m : ℕ) → from + m ≤ n → m ≤ least_events few → total (size_at l) from m ≤ 24
  unfolding least_events
  sizes_least true e from m h b = omega (arith, total_bound (size_at l) from m 6 (λ i q. size_low from m i (sym e) h q))
  sizes_least false e from m h b = omega (arith, total_bound (size_at l) from m 18 (λ i q. size_any from m i h q))

-- ---- Productions

pub least_below : (few : Bool) → least_events few ≤ 24
unfolding least_events
least_below true = omega arith
least_below false = omega arith

most_below : (e k : ℕ) → k ≤ 24 → most_events e k ≤ 24
unfolding most_events
most_below e k h = go (leb (e + k) 24) refl
  where
    go : (t : Bool) → leb (e + k) 24 ≡ t → most_events e k ≤ 24
    go true q = rw q (omega arith)
    go false q = rw q h

record PlainFacts (l : List ℕ) (most p : ℕ) : Type 0 where
  events : 1 ≤ word_at l (production_events_at + p)
  calls : word_at l (production_calls_at + p) ≤ 8
  within : word_at l (production_events_at + p) ≤ most

plain_facts : (l : List ℕ) (most p : ℕ) → plain_ok l most p ≡ true → PlainFacts l most p
unfolding plain_ok
plain_facts l most p e =
    let r = chain_parts (leb 1 (word_at l (production_events_at + p))) (leb (word_at l (production_calls_at + p)) 8 ∷ leb (word_at l (production_events_at + p)) most ∷ []) e in
    record {
      events = leb-true 1 (word_at l (production_events_at + p)) r.0;
      calls = leb-true (word_at l (production_calls_at + p)) 8 r.1.0;
      within = leb-true (word_at l (production_events_at + p)) most r.1.1.0;
    }

module _ (l : List ℕ) (n : ℕ) (ok : every (event_ok l) 0 n ≡ true) (extra : ℕ) (all : extra ≡ 3 * (total (word_at l) counts_at n - n)) where
  -- the whole table within its limit, by the counts alone
  pub sizes_table : n + extra ≤ 256 → leb (total (size_at l) 0 n) 256 ≡ true
  sizes_table b = le-leb (total (size_at l) 0 n) 256 (omega (arith, sizes_extra l n ok 0 n (omega arith)))

module _ (l : List ℕ) (n : ℕ) (ok : every (event_ok l) 0 n ≡ true) (extra : ℕ) (all : extra ≡ 3 * (total (word_at l) counts_at n - n)) (few : Bool) (low : few ≡ every (few_at l) 0 n) where
  sizes_within : (from m : ℕ) → from + m ≤ n → m ≤ most_events extra (least_events few) → total (size_at l) from m ≤ 24
  unfolding most_events
  sizes_within from m h b = go (leb (extra + least_events few) 24) refl
    where
      go : (t : Bool) → leb (extra + least_events few) 24 ≡ t → total (size_at l) from m ≤ 24
      go true q =
          let c : m ≤ 24 - extra = rw q at b in
          let d = leb-true (extra + least_events few) 24 q in
          omega (arith, sizes_extra l n ok from m h)
      go false q = sizes_least l n ok few low from m h (rw q at b)

  module _ (k : ℕ) (plain : every (plain_ok l (most_events extra (least_events few))) 0 k ≡ true) where
    plain_at : (p : ℕ) → p < k → PlainFacts l (most_events extra (least_events few)) p
    plain_at p h = plain_facts l (most_events extra (least_events few)) p (rw zero-add at (every_at (plain_ok l (most_events extra (least_events few))) 0 k p plain h))

    production_within : (p : ℕ) → total (word_at l) production_events_at k ≡ n → p < k → production_ok l p ≡ true
    unfolding production_ok
    production_within p e h =
        let f : PlainFacts l (most_events extra (least_events few)) p = plain_at p h in
        chain_all (leb 1 (word_at l (production_events_at + p))) (leb (word_at l (production_calls_at + p)) 8 ∷ leb (total (size_at l) (total (word_at l) production_events_at p) (word_at l (production_events_at + p))) 24 ∷ []) (
          le-leb 1 (word_at l (production_events_at + p)) f.events,
          (
            le-leb (word_at l (production_calls_at + p)) 8 f.calls,
            (
              le-leb (total (size_at l) (total (word_at l) production_events_at p) (word_at l (production_events_at + p))) 24
                  (sizes_within (total (word_at l) production_events_at p) (word_at l (production_events_at + p)) (omega (arith, total_part (word_at l) production_events_at p k h, e)) f.within),
              tt,
            ),
          ),
        )

    low_events : total (low_at l) production_events_at k ≡ total (word_at l) production_events_at k
    low_events = low_total l production_events_at k (λ p h. small p (plain_at p h))
      where
        small : (p : ℕ) → PlainFacts l (most_events extra (least_events few)) p → word_at l (production_events_at + p) < 256
        small p f = omega (arith, most_below extra (least_events few) (least_below few))

    low_calls : total (low_at l) production_calls_at k ≡ total (word_at l) production_calls_at k
    low_calls = low_total l production_calls_at k (λ p h. small p (plain_at p h))
      where
        small : (p : ℕ) → PlainFacts l (most_events extra (least_events few)) p → word_at l (production_calls_at + p) < 256
        small p f = omega arith

    -- where no production can pass its limit, only the sums and the table's own limit are left to be tested
    pub plain_sequences : (calls : ℕ)
        → (eqb (total (low_at l) production_events_at k) n && eqb (total (low_at l) production_calls_at k) calls && leb (total (size_at l) 0 n) 256) ≡ sequences_ok l k n calls
    unfolding sequences_ok
    plain_sequences calls = rw (low_events, low_calls) (go (eqb (total (word_at l) production_events_at k) n) refl)
      where
        go : (t : Bool) → eqb (total (word_at l) production_events_at k) n ≡ t
            → (eqb (total (word_at l) production_events_at k) n && eqb (total (word_at l) production_calls_at k) calls && leb (total (size_at l) 0 n) 256)
            ≡ (eqb (total (word_at l) production_events_at k) n && eqb (total (word_at l) production_calls_at k) calls && every (production_ok l) 0 k && leb (total (size_at l) 0 n) 256)
        go true q =
            let e = eqb-true (total (word_at l) production_events_at k) n q in
            let pr : every (production_ok l) 0 k ≡ true = every_all (production_ok l) 0 k (λ p h. rw zero-add (production_within p e h)) in
            rw (q, pr, and-true (eqb (total (word_at l) production_calls_at k) calls))
        go false q = rw q
