-- The answer of the search for a byte that is not allowed, as the model's.
use Rattle.std.specs.Prelude.{ℕ, Option, None, Some}
use Rattle.scanner.specs.declared.lines.BadByte.{BadByte}

abbrev pub bad_byte_of : BadByte → Option ℕ
bad_byte_of BadByte.Absent = None
bad_byte_of (BadByte.At i) = Some i
