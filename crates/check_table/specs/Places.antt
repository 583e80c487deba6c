-- Places in a text.
use Rattle.std.specs.Prelude.{ℕ, ◌+◌, ◌==◌, List, take, count_by}

-- the number of the line that the byte at a place stands in, from 1 on: that of a place past the end is the last line's
unfoldable pub line_number : List ℕ → ℕ → ℕ
line_number l place = count_by (λ b. b == 10) (take place l) + 1
