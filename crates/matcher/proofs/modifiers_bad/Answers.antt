-- `matcher::modifiers_bad` meets its contract.
use mathlib.Core.Path.{ap, ◌∙◌}
use Rattle.model.specs.Resolving.{is_bad_map}
use Rattle.matcher.proofs.MatchLaws.{no_modifiers_lem, rest_is}
use Rattle.matcher.proofs.modifiers_bad.Goals as goal

pub returns-then-maps-lt-MAP_BYTES : goal.returns-then-maps-lt-MAP_BYTES
returns-then-maps-lt-MAP_BYTES c = no_modifiers_lem c.args.maps.now c.if-maps-lt-MAP_BYTES.true

pub returns : goal.returns
returns c = c.is_bad_map.ensures ∙ ap is_bad_map (rest_is c.args.maps.now)
