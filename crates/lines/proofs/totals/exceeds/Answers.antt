use Rattle.lines.proofs.Sums.{exceeds_is}
use Rattle.lines.proofs.totals.exceeds.Goals as goal

pub returns : goal.returns
returns c = exceeds_is c.args.limit c.args.before c.args.more c.requires
