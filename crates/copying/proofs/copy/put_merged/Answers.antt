-- `copying::copy::put_merged` meets its contract.
use borrow.Author.Rules.{rules}
use native.Mathlib.Omega.{arith}
use Rattle.tally.proofs.WholeFacts as facts
use Rattle.copying.specs.Copying.{put_merged}
use Rattle.copying.proofs.copy.put_merged.Goals as goal

pub first_length-first-requires : goal.first_length-first-requires
first_length-first-requires c = facts.long c.args.old.now c.requires.0.0

pub first_length-second-requires : goal.first_length-second-requires
first_length-second-requires c = facts.long c.args.new.now c.requires.0.1

pub put_texts-requires : goal.put_texts-requires
put_texts-requires c =
    let a = facts.first_short c.args.old.now c.requires.0.0 in
    let b = facts.first_short c.args.new.now c.requires.0.1 in
    (search rules, (omega (arith, c.first_length-first.ensures), omega (arith, c.first_length-second.ensures)))

pub returns : goal.returns
unfolding put_merged
returns c = rw (c.put_counts.ensures, c.put_texts.ensures, c.copy_merged-t.ensures.1, c.copy_merged-t.ensures.0, c.first_length-second.ensures, c.first_length-first.ensures)
