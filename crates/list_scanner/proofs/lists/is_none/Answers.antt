use Rattle.list_scanner.proofs.Words.{word_of_four}
use Rattle.list_scanner.proofs.lists.is_none.Goals as goal

pub returns : goal.returns
returns c = rw (c.byte_at.ensures, c.byte_at-2.ensures, c.byte_at-3.ensures, c.byte_at-4.ensures) (word_of_four c.args.w.now 78 111 110 101)
