-- A key sequence, one character at a time: how many there are, and where it ends.
use Prim.Native.Nat.{ℕ, zero, suc, pred, ◌+◌, ◌≤◌, ◌<◌}
use native.Mathlib.Omega.{arith}
use native.Mathlib.Nat.{zero-add, add-zero}
use mathlib.Core.Path.{◌≡◌, refl, sym}
use mathlib.Core.List.{List, []}
use lib.ListN.{length}
use Rattle.model.specs.Events.{KeyChar, EventsRead, events, one_more_key, key_at, keys_next, keys_from}
use Rattle.model.specs.declared.scan.KeyRead.{KeyRead}
use Rattle.event_scanner.specs.declared.keys.KeysRead.{KeysRead}
use Rattle.event_scanner.specs.Spans.{keyed}
use Rattle.scanner.proofs.Ranges.{KeyIn, key_in}

pub keys_step : (f : ℕ) (l : List ℕ) (at : ℕ) (r : KeyRead) → 0 < f → key_at l at ≡ r
    → keys_from f l at ≡ keys_next r (λ p. keys_from (pred f) l p)
unfolding keys_from
keys_step zero l at r h e = absurd (omega arith)
keys_step (suc f) l at r h e = rw e

-- the count after n characters
abbrev pub keyed_from : ℕ → EventsRead → KeysRead
keyed_from n EventsRead.broken = KeysRead.Broken
keyed_from n (events ks next) = KeysRead.Keys (n + length ks) next

pub keyed_start : (r : EventsRead) → keyed r ≡ keyed_from 0 r
keyed_start EventsRead.broken = refl
keyed_start (events ks next) = λ i. KeysRead.Keys (sym (zero-add (length ks)) i) next

pub keyed_end : (n next : ℕ) → keyed_from n (events [] next) ≡ KeysRead.Keys n next
keyed_end n next = λ i. KeysRead.Keys (add-zero n i) next

pub keyed_more : (n : ℕ) (k : KeyChar) (rest : EventsRead) → keyed_from n (one_more_key k rest) ≡ keyed_from (n + 1) rest
keyed_more n k EventsRead.broken = refl
keyed_more n k (events ks next) =
    let e : n + suc (length ks) ≡ n + 1 + length ks = omega arith in
    λ i. KeysRead.Keys (e i) next

-- ---- Where it ends: past as many bytes as it has characters

abbrev pub KeysIn : ℕ → ℕ → EventsRead → Type 0
KeysIn n at EventsRead.broken = Unit
KeysIn n at (events ks next) = (at + length ks < next) × (next ≤ n)

more_in : (n at p : ℕ) (k : KeyChar) (rest : EventsRead) → at < p → KeysIn n p rest → KeysIn n at (one_more_key k rest)
more_in n at p k EventsRead.broken h r = tt
more_in n at p k (events ks next) h r = (omega (arith, r.0), r.1)

next_in : (n at : ℕ) (r : KeyRead) (rest : ℕ → EventsRead) → KeyIn n at r → ((p : ℕ) → KeysIn n p (rest p))
    → KeysIn n at (keys_next r rest)
next_in n at KeyRead.Broken rest h k = tt
next_in n at (KeyRead.End next) rest h k = (omega (arith, h.0), h.1)
next_in n at (KeyRead.Key mark b next) rest h k =
    more_in n at next (record { mark = mark; byte = b }) (rest next) h.0 (k next)

pub keys_in : (f : ℕ) (l : List ℕ) (at : ℕ) → KeysIn (length l) at (keys_from f l at)
unfolding keys_from
keys_in zero l at = tt
keys_in (suc f) l at = next_in (length l) at (key_at l at) (λ p. keys_from f l p) (key_in l at) (λ p. keys_in f l p)
