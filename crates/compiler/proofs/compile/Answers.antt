use mathlib.Core.Path.{◌≡◌, sym, ap, ◌∙◌}
use Prim.Native.Nat.{ℕ}
use mathlib.Core.List.{List, ◌++◌}
use Rattle.std.specs.Prelude.{None, Some}
use lib.ListN.{drop}
use Rattle.model.specs.Bytes.{first_bad_byte}
use Rattle.model.specs.Compiling.{outcome_answer}
use Rattle.scanner.specs.BadByte.{bad_byte_of}
use Rattle.tables.specs.Layout.{table_length}
use Rattle.compiler.specs.Compile.{image_of}
use Rattle.compiler.proofs.Outcomes.{answered, short_outcome, short_bytes, long_outcome, long_bytes, cleared_bytes, too_long, bad_byte_lem, good_bytes}
use Rattle.compiler.proofs.compile.Goals as goal

pub returns-then-table-lt-TABLE_LENGTH : goal.returns-then-table-lt-TABLE_LENGTH
returns-then-table-lt-TABLE_LENGTH c =
    let a = c.args in
    let t =
    answered a.text.now a.table.now _ _
    (ap outcome_answer (sym (short_outcome a.text.now a.table.now c.if-table-lt-TABLE_LENGTH.true)))
    (sym (short_bytes a.text.now a.table.now c.if-table-lt-TABLE_LENGTH.true)) in
    record { answer = t.0; bytes = t.1.0; number = t.1.1.0; place = t.1.1.1 }

pub returns-then-text-gt8192 : goal.returns-then-text-gt8192
returns-then-text-gt8192 c =
    let text = c.args.text.now in
    let out = c.args.table.now in
    let h = c.if-table-lt-TABLE_LENGTH.false in
    let e = too_long text c.if-text-gt8192.true in
    let t =
    answered text out _ _
    (c.refuse.ensures.0 ∙ ap outcome_answer (sym (long_outcome text out h ∙ e)))
    (cleared_bytes text out c.refuse.new.table _ _ h e c.refuse.ensures.1) in
    record { answer = t.0; bytes = t.1.0; number = t.1.1.0; place = t.1.1.1 }

pub returns-in-At : goal.returns-in-At
returns-in-At c =
    let text = c.args.text.now in
    let out = c.args.table.now in
    let h = c.if-table-lt-TABLE_LENGTH.false in
    let p = c.in-At.place in
    let b : first_bad_byte text ≡ Some p = sym c.first_bad_byte.ensures ∙ ap bad_byte_of c.in-At.is in
    let e = bad_byte_lem text p c.if-text-gt8192.false b in
    let t =
    answered text out _ _
    (c.refuse-in-At.ensures.0 ∙ ap outcome_answer (sym (long_outcome text out h ∙ e)))
    (cleared_bytes text out c.refuse-in-At.new.table _ _ h e c.refuse-in-At.ensures.1) in
    record { answer = t.0; bytes = t.1.0; number = t.1.1.0; place = t.1.1.1 }

pub returns-in-Absent : goal.returns-in-Absent
returns-in-Absent c =
    let text = c.args.text.now in
    let out = c.args.table.now in
    let h = c.if-table-lt-TABLE_LENGTH.false in
    let b : first_bad_byte text ≡ None = sym c.first_bad_byte.ensures ∙ ap bad_byte_of c.in-Absent.is in
    let e = good_bytes text c.if-text-gt8192.false b in
    let x = c.compile_lines.ensures in
    let t =
    answered text out _ _
    (x.0 ∙ ap outcome_answer (sym (long_outcome text out h ∙ e)))
    (ap (λ (o : List ℕ). o ++ drop table_length out) (x.1 ∙ ap image_of (sym e)) ∙ sym (long_bytes text out h)) in
    record { answer = t.0; bytes = t.1.0; number = t.1.1.0; place = t.1.1.1 }
