-- How many events an event stands for, as the code counts them.
use Prim.Native.Nat.{ℕ, zero, suc, ◌+◌, ◌*◌, ◌-◌, ◌≤◌, ◌<◌}
use native.Mathlib.Omega.{arith}
use mathlib.Core.Path.{◌≡◌, sym}
use mathlib.Core.Bool.{Bool, true, false, cond}
use lib.Dec.{leb}
use lib.ListN.{length, length-append}
use Rattle.words.specs.Runs.{run}
use Rattle.words.proofs.RunLaws.{length_run, get_d_run}
use Rattle.words.proofs.Bools.{and_left, and_right}
use Rattle.model.specs.Lists.{all}
use Rattle.model.specs.Counts.{elements_of, expanded}
use Rattle.model.specs.declared.events.KeptEvent.{KeptEvent}
use Rattle.counts.specs.Elements.{releases, element_count}
use Rattle.tables.specs.Fitting.{event_in_range}
use Rattle.tables.proofs.Lists.{all_at}
use Rattle.tables.proofs.Sizes.{length_elements}
use Rattle.tables.proofs.EventWords.{range_facts}
use Rattle.tables.proofs.Encoded.{no_event}

pub element_size : (e : KeptEvent) → element_count e.code e.count ≡ length (elements_of e)
element_size e = sym (length_elements e)

pub count_small : (code n : ℕ) → n ≤ 9 → element_count code n ≤ 18
unfolding element_count
count_small code n h = go (leb n 1) (releases code)
  where
    go : (a b : Bool) → cond a 1 (cond b (2 * n) (2 * n - 1)) ≤ 18
    go true b = omega arith
    go false true = omega arith
    go false false = omega arith

-- an event of a run of events in range
pub range_at : (f : ℕ → KeptEvent) (s n i : ℕ) → all event_in_range (run f s n) ≡ true → i < n → (f (s + i)).count ≤ 9
range_at f s n i e h =
    let q : i < length (run f s n) = omega (arith, length_run f s n) in
    let r : event_in_range (f (s + i)) ≡ true = rw (get_d_run f s n i no_event h) at (all_at event_in_range (run f s n) i no_event e q) in
    (range_facts (f (s + i)) r).count_high

-- events in range stand for at most 18 each
pub size_below : (f : ℕ → KeptEvent) (s n : ℕ) → all event_in_range (run f s n) ≡ true → length (expanded (run f s n)) ≤ 18 * n
unfolding run expanded
size_below f s zero e = omega arith
size_below f s (suc n) e =
    let a = and_left (event_in_range (f s)) (all event_in_range (run f (suc s) n)) e in
    let b = and_right (event_in_range (f s)) (all event_in_range (run f (suc s) n)) e in
    omega (
      arith,
      length-append (elements_of (f s)) (expanded (run f (suc s) n)),
      element_size (f s),
      count_small (f s).code (f s).count (range_facts (f s) a).count_high,
      size_below f (suc s) n b,
    )
