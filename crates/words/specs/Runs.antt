-- What holds, adds up or is listed over a run of numbers: n of them, from s on.
use Rattle.std.specs.Prelude.{ℕ, zero, suc, ◌+◌, ◌-◌, ◌%◌, Bool, true, ◌&&◌, List, [], ◌∷◌, eqb}
use Rattle.std.specs.List.{list_all}
use Rattle.words.specs.Words.{word_at}

-- the test passes at every number of the run
unfoldable pub every : (ℕ → Bool) → ℕ → ℕ → Bool
every test s zero = true
every test s (suc n) = every test s n && test (s + n)

-- the sum of a measure over the run
unfoldable pub total : (ℕ → ℕ) → ℕ → ℕ → ℕ
total measure s zero = 0
total measure s (suc n) = total measure s n + measure (s + n)

module _ {A : Type 0} where
  -- what a function gives at the numbers of the run, in order
  unfoldable pub run : (ℕ → A) → ℕ → ℕ → List A
  run f s zero = []
  run f s (suc n) = f s ∷ run f (suc s) n

-- word k is 0
unfoldable pub is_zero : List ℕ → ℕ → Bool
is_zero l k = eqb (word_at l k) 0

-- the words from number `from` up to `to` past a place are 0
unfoldable pub zero_between : List ℕ → (place from to : ℕ) → Bool
zero_between l place from to = every (is_zero l) (place + from) (to - from)

-- past each of these places
unfoldable pub zero_in : List ℕ → (places : List ℕ) → (from to : ℕ) → Bool
zero_in l places from to = list_all (λ place. zero_between l place from to) places

-- the lower byte of word k
unfoldable pub low_at : List ℕ → ℕ → ℕ
low_at l k = word_at l k % 256
