-- `judge::spans::alone` meets its contract.
use mathlib.Core.Path.{◌≡◌, sym}
use mathlib.Core.Bool.{Bool, true, false}
use Rattle.model.specs.Named.{no_keysyms}
use Rattle.list_masks.specs.Summary.{summary, summary_of}
use Rattle.judge.specs.Spans.{lone_list_of}
use Rattle.list_masks.proofs.Listed.{summary_none, summary_any}
use Rattle.judge.proofs.spans.alone.Goals as goal

lone : (none : Bool) → summary_of (lone_list_of none) ≡ summary true none false false false 0 0 0 no_keysyms false
lone true = summary_none
lone false = summary_any

pub returns : goal.returns
returns c = rw c.no_keysyms-keysyms.ensures (sym (lone c.args.none))
