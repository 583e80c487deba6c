-- Each answer as one number of 64 bits, for callers in C: document 01's number in the lowest byte, and its values above it.
use Rattle.std.specs.Prelude.{ℕ, ◌+◌, ◌*◌, cond}
use Rattle.model.specs.Numbers.{compiled_number, compiled_place, merged_number, written_number, written_length, counted_number, counted_count, located_number, located_in_second, located_start, located_length}
use Rattle.model.specs.declared.answers.Compiled.{Compiled}
use Rattle.model.specs.declared.answers.Merged.{Merged}
use Rattle.model.specs.declared.answers.Written.{Written}
use Rattle.model.specs.declared.answers.Counted.{Counted}
use Rattle.model.specs.declared.answers.Located.{Located}

-- number + 256 × place
unfoldable pub compiled_word : Compiled → ℕ
compiled_word a = compiled_number a + 256 * compiled_place a

-- number
unfoldable pub merged_word : Merged → ℕ
merged_word a = merged_number a

-- number + 256 × length
unfoldable pub written_word : Written → ℕ
written_word a = written_number a + 256 * written_length a

-- number + 256 × count
unfoldable pub counted_word : Counted → ℕ
counted_word a = counted_number a + 256 * counted_count a

-- number + 256 × (0 first, 1 second text) + 65,536 × start + 2^32 × length
unfoldable pub located_word : Located → ℕ
located_word a = located_number a + 256 * cond (located_in_second a) 1 0 + 65536 * located_start a + 4294967296 * located_length a
