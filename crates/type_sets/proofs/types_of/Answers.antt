-- `type_sets::types_of` meets its contract.
use Rattle.fields.proofs.TableFacts.{table_facts}
use Rattle.type_sets.proofs.Gathered.{gathered_types}
use Rattle.type_sets.proofs.types_of.Goals as goal

pub returns : goal.returns
returns c =
    let l = c.args.table.now in
    rw (c.gather.ensures, c.event_count.ensures) (gathered_types l (table_facts l c.requires))
