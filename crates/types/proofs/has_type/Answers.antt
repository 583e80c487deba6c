-- `types::has_type` meets its contract.
use Rattle.fields.proofs.TableFacts.{table_facts}
use Rattle.types.proofs.TypeLaws.{code_type, either_type}
use Rattle.types.proofs.has_type.Goals as goal

pub returns-then-code-gt5 : goal.returns-then-code-gt5
returns-then-code-gt5 c =
    let l = c.args.table.now in
    rw (c.has_code.ensures, c.from.ensures, c.event_count-n.ensures) (code_type c.args.code l (table_facts l c.requires) c.if-code-gt5.true)

pub returns : goal.returns
returns c =
    let l = c.args.table.now in
    rw (c.has_either.ensures, c.from-2.ensures, c.from-3.ensures, c.other_code.ensures, c.event_count-n.ensures)
    (either_type c.args.code l (table_facts l c.requires))
