-- `fields::names_at` meets its contract.
use Rattle.fields.proofs.TableFacts.{TableFacts, table_facts, first_mark}
use Rattle.tables.specs.Reading.{event_from_words, event_entry}
use native.Mathlib.Omega.{arith}
use Rattle.fields.proofs.names_at.Goals as goal

pub returns : goal.returns
unfolding event_entry event_from_words
returns c =
    let f : TableFacts c.args.table.now = table_facts c.args.table.now c.requires.0 in
    let m = first_mark c.args.table.now (λ k. omega (arith, c.type_inv.table k)) c.args.i (f.entry c.args.i c.requires.1) in
    rw (c.is_flag.ensures, c.word_at-flags.ensures, c.word_at-high.ensures, m)
