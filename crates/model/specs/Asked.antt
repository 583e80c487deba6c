-- Document 01, "Modifier tests", and request R-1: the test that a kept event makes of a state under a setting. Whoever matches,
-- looks a key up or says which bits are tested goes through `asked`.
use Rattle.std.specs.Prelude.{ℕ, Bool, not, ◌&&◌, ◌||◌}
use Rattle.model.specs.Lists.{any}
use Rattle.model.specs.Setting.{Setting}
use Rattle.model.specs.Modifiers.{bit, mask, is_testable, asks_bit, state_meets}
use Rattle.model.specs.Resolving.{names_of, is_unmet, resolves_set, resolves_clear, resolves}
use Rattle.model.specs.declared.events.KeptEvent.{KeptEvent}

pub record Test : Type 0 where
  -- modifier bits asked set, and asked clear
  pub set : ℕ
  pub clear : ℕ
  -- at least one button is asked for
  pub clause : Bool
  -- nothing can meet the test, whatever it asks
  pub dead : Bool

-- "A listed name asks all its bits set"; "Beside a colon a resolved Shift or Lock isn't tested."
unfoldable pub asks_bit_set : Setting → KeptEvent → ℕ → Bool
asks_bit_set setting e k = bit k e.set || (is_testable e k && resolves_set setting e k)

-- "With `!`, the bits of a listed name count as listed."
abbrev pub is_unlisted : Setting → KeptEvent → ℕ → Bool
is_unlisted setting e k = not (asks_bit e k) && not (resolves setting e k)

-- "with `~`, all clear"; "`!` or `None` also asks every unlisted bit to be clear"
unfoldable pub asks_bit_clear : Setting → KeptEvent → ℕ → Bool
asks_bit_clear setting e k =
    bit k e.clear || (is_testable e k && (resolves_clear setting e k || (e.bang && is_unlisted setting e k)))

-- "A name with no bit, listed without `~`, makes its event match nothing."
unfoldable pub asked : Setting → KeptEvent → Test
asked setting e =
    record {
      set = mask (asks_bit_set setting e);
      clear = mask (asks_bit_clear setting e);
      clause = e.clause;
      dead = any (is_unmet setting) (names_of e);
    }

-- a state meets the test; "contradicting tests match nothing", since no state meets them
unfoldable pub test_met : Test → ℕ → Bool
test_met t state = not t.dead && state_meets t.set t.clear t.clause state

-- "the cared-for bits": those asked set or clear
abbrev pub cares_for : Test → ℕ → Bool
cares_for t k = bit k t.set || bit k t.clear
