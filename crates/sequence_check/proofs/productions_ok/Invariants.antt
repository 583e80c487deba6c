-- `sequence_check::productions_ok` meets its contract.
use Rattle.std.proofs.Common.{◌≡◌}
use Rattle.words.specs.Words.{word_at}
use Rattle.words.specs.Runs.{every, total}
use Rattle.tables.specs.Layout.{production_events_at}
use Rattle.sequence_check.specs.Sequences.{production_ok}
use Rattle.sequence_check.proofs.productions_ok.Given as goal

abbrev pub invariant-loop-p : goal.invariant-loop-p
invariant-loop-p l = record {
  from : l.from ≡ total (word_at l.l) production_events_at l.p;
  ok : l.ok ≡ every (production_ok l.l) 0 l.p;
}
