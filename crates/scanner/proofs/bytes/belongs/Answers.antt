use Rattle.model.specs.Bytes.{belongs}
use Rattle.scanner.proofs.bytes.belongs.Goals as goal

pub returns-in-Blank : goal.returns-in-Blank
unfolding belongs
returns-in-Blank c = rw (c.in-Blank.is, c.is_blank.ensures)

pub returns-in-Name : goal.returns-in-Name
unfolding belongs
returns-in-Name c = rw (c.in-Name.is, c.is_letter.ensures, c.is_digit.ensures)

pub returns-in-Keysym : goal.returns-in-Keysym
unfolding belongs
returns-in-Keysym c = rw (c.in-Keysym.is, c.is_letter-in-Keysym.ensures, c.is_digit-in-Keysym.ensures)

pub returns-in-Digit : goal.returns-in-Digit
unfolding belongs
returns-in-Digit c = rw (c.in-Digit.is, c.is_digit-in-Digit.ensures)

pub returns-in-Detail : goal.returns-in-Detail
unfolding belongs
returns-in-Detail c = rw (c.in-Detail.is, c.is_blank-in-Detail.ensures)

pub returns-in-Call : goal.returns-in-Call
unfolding belongs
returns-in-Call c = rw (c.in-Call.is, c.is_letter-in-Call.ensures, c.is_digit-in-Call.ensures)

pub returns-in-Unquoted : goal.returns-in-Unquoted
unfolding belongs
returns-in-Unquoted c = rw (c.in-Unquoted.is, c.is_blank-in-Unquoted.ensures)

pub returns-in-Quoted : goal.returns-in-Quoted
unfolding belongs
returns-in-Quoted c = rw c.in-Quoted.is

pub returns-in-Line : goal.returns-in-Line
unfolding belongs
returns-in-Line c = rw c.in-Line.is
