use Rattle.list_scanner.proofs.Words.{word_of_three}
use Rattle.list_scanner.proofs.lists.is_any.Goals as goal

pub returns : goal.returns
returns c = rw (c.byte_at.ensures, c.byte_at-2.ensures, c.byte_at-3.ensures) (word_of_three c.args.w.now 65 110 121)
