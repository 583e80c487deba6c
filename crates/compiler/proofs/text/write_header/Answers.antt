use Prim.Native.Nat.{ℕ}
use mathlib.Core.Path.{ap, ◌∙◌}
use mathlib.Core.List.{List}
use Rattle.tables.specs.Writing.{put_counts}
use Rattle.compiler.specs.WholeLine.{put_header}
use Rattle.compiler.proofs.text.write_header.Goals as goal

pub returns : goal.returns
unfolding put_header
returns c =
    let t = c.args.s.totals in
    c.put_counts.ensures
    ∙ ap (λ (o : List ℕ). put_counts o t.productions t.events t.calls t.parameters) c.put_texts.ensures
