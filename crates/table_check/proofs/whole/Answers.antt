-- `table_check::whole` meets its contract.
use borrow.Author.Rules.{rules}
use Rattle.table_check.proofs.Exact.{checks_exact}
use Rattle.table_check.proofs.Stops.{checks_short, checks_header, checks_last}
use Rattle.header_check.proofs.HeaderFacts.{HeaderFacts, header_facts}
use mathlib.Core.Path.{sym, ◌∙◌}
use native.Mathlib.Omega.{arith}
use Rattle.table_check.proofs.whole.Goals as goal

pub returns-then-l-lt-TABLE_LENGTH : goal.returns-then-l-lt-TABLE_LENGTH
returns-then-l-lt-TABLE_LENGTH c = sym (checks_short c.args.l.now (omega arith)) ∙ checks_exact c.args.l.now (λ i. omega (arith, c.type_inv.l i))

pub returns-then-not-header_ok : goal.returns-then-not-header_ok
returns-then-not-header_ok c = sym (checks_header c.args.l.now (omega arith) (sym c.header_ok.ensures ∙ c.if-not-header_ok.true)) ∙ checks_exact c.args.l.now (λ i. omega (arith, c.type_inv.l i))

pub unused_ok-requires : goal.unused_ok-requires
unused_ok-requires c =
    let h : HeaderFacts c.args.l.now = header_facts c.args.l.now (sym c.header_ok.ensures ∙ c.if-not-header_ok.false) in
    (search rules, (h.productions, h.events, h.calls, h.parameters))

pub slots_ok-requires : goal.slots_ok-requires
slots_ok-requires c =
    let h : HeaderFacts c.args.l.now = header_facts c.args.l.now (sym c.header_ok.ensures ∙ c.if-not-header_ok.false) in
    (search rules, omega (arith, h.events, c.from-events.ensures, c.word_at.ensures))

pub entries_ok-requires : goal.entries_ok-requires
entries_ok-requires c =
    let h : HeaderFacts c.args.l.now = header_facts c.args.l.now (sym c.header_ok.ensures ∙ c.if-not-header_ok.false) in
    ((search rules, h.merged), (h.productions, h.events, h.calls, h.parameters))

pub returns : goal.returns
returns c =
    rw (c.unused_ok.ensures, c.slots_ok.ensures, c.entries_ok.ensures, c.from-events.ensures, c.word_at.ensures)
    (sym (checks_last c.args.l.now (omega arith) (sym c.header_ok.ensures ∙ c.if-not-header_ok.false)) ∙ checks_exact c.args.l.now (λ i. omega (arith, c.type_inv.l i)))
