-- Document 01, "The text": lines and the directive.
use Rattle.std.specs.Prelude.{ℕ, Bool, cond, List, eqb, length, Option, None, Some}
use Rattle.model.specs.Lists.{bytes, same, part}
use Rattle.model.specs.Bytes.{run_end, skip}
use Rattle.model.specs.declared.scan.Class.{Class}
use Rattle.model.specs.declared.events.Directive.{Directive}

-- "A line ends at a newline or at the end of the text."
unfoldable pub line_end : List ℕ → ℕ → ℕ
line_end text at = run_end Class.Line text at

-- the line that begins at a position, without its newline
unfoldable pub line_at : List ℕ → ℕ → List ℕ
line_at text at = part text at (line_end text at)

-- "Lines of blanks are skipped."; a line of no bytes is one
unfoldable pub is_blank_line : List ℕ → Bool
is_blank_line line = eqb (skip line 0) (length line)

-- "`#replace`, `#override` or `#augment` may stand as the whole first line"
unfoldable pub directive_of : List ℕ → Option Directive
directive_of line =
    cond (same line (bytes "#replace")) (Some Directive.Replace)
    (cond (same line (bytes "#override")) (Some Directive.Override)
    (cond (same line (bytes "#augment")) (Some Directive.Augment) None))

-- "from byte 0"
unfoldable pub directive_at : List ℕ → ℕ → Option Directive
directive_at text at = cond (eqb at 0) (directive_of (line_at text 0)) None
