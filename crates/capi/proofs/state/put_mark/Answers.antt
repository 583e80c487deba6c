-- `capi::state::put_mark` meets its contract.
use Prim.Native.Nat.{◌%◌, ◌/◌}
use native.Mathlib.Omega.{arith}
use mathlib.Core.Path.{◌≡◌, ◌∙◌}
use Rattle.words.specs.Words.{put_word}
use Rattle.capi.proofs.state.put_mark.Goals as goal

pub returns : goal.returns
unfolding put_word
returns c =
    let n = c.args.n in
    let low : n % 65536 % 256 ≡ n % 256 = omega arith in
    let high : n % 65536 / 256 % 256 ≡ n / 256 % 256 = omega arith in
    c.put_word.ensures ∙ rw (low, high)
