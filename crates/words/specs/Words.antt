-- Words of 16 bits in a list of bytes: two bytes each, the lower first.
use Rattle.std.specs.Prelude.{ℕ, ◌+◌, ◌*◌, ◌/◌, ◌%◌, List, [], ◌∷◌, ◌++◌, get_or, set, drop, replicate}

-- the bytes of words
unfoldable pub word_bytes : List ℕ → List ℕ
word_bytes [] = []
word_bytes (w ∷ ws) = w % 256 ∷ w / 256 % 256 ∷ word_bytes ws

-- word k of bytes
unfoldable pub word_at : List ℕ → ℕ → ℕ
word_at l k = get_or l (2 * k) 0 + 256 * get_or l (2 * k + 1) 0

-- the bytes with word k replaced
unfoldable pub put_word : List ℕ → ℕ → ℕ → List ℕ
put_word l k w = set (set l (2 * k) (w % 256)) (2 * k + 1) (w / 256 % 256)

unfoldable pub zeros : ℕ → List ℕ
zeros n = replicate n 0

-- the bytes with the first n set to 0
unfoldable pub cleared : ℕ → List ℕ → List ℕ
cleared n l = zeros n ++ drop n l
