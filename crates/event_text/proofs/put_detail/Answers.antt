-- `event_text::put_detail` meets its contract.
use Rattle.std.proofs.Common.{rules}
use Rattle.writing.proofs.Laws.{put_none}
use Rattle.event_text.proofs.put_detail.Goals as goal

pub returns-in-Unspecified : goal.returns-in-Unspecified
returns-in-Unspecified c = (rw c.in-Unspecified.is (put_none _ _), search rules)
