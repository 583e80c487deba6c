-- The elements of a counted event by their place, the same as model's `elements_at` (proofs/Elements).
use Rattle.std.specs.Prelude.{ℕ, ◌+◌, ◌-◌, ◌*◌, ◌%◌, Bool, false, cond, ◌==◌, nat_le, nat_lt}
use Rattle.model.specs.Counts.{is_release}

-- a key or button release
unfoldable pub releases : ℕ → Bool
releases code = is_release code

-- how many there are
unfoldable pub element_count : ℕ → ℕ → ℕ
element_count code count = cond (nat_le count 1) 1 (cond (releases code) (2 * count) (2 * count - 1))

-- the code of element k: presses and releases take turns
unfoldable pub element_code : ℕ → ℕ → ℕ → ℕ
element_code code count k =
    cond (nat_le count 1) code
    (cond (releases code) (cond (k % 2 == 0) (code - 1) code) (cond (k % 2 == 0) code (code + 1)))

-- element k is of the counted kind, and not the first of it
unfoldable pub is_timed : ℕ → ℕ → ℕ → Bool
is_timed code count k = cond (nat_lt k 2) false (element_code code count k == code)
