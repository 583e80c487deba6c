-- `judge::spans::led` meets its contract.
use mathlib.Core.Path.{sym}
use Rattle.list_masks.proofs.Listed.{summary_empty}
use Rattle.judge.proofs.spans.led.Goals as goal

pub returns : goal.returns
returns c = rw c.no_keysyms-keysyms.ensures (sym (summary_empty c.args.bang c.args.colon))
