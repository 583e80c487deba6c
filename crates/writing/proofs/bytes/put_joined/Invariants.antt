-- `writing::bytes::put_joined` meets its contract.
use Rattle.std.proofs.Common.{ℕ, ◌+◌, ◌*◌, ◌≤◌, List, ◌∷◌, []}
use Rattle.words.specs.Runs.{run}
use Rattle.model.specs.Canonical.{joined_by}
use Rattle.writing.specs.Overlay.{Put}
use Rattle.writing.specs.Steps.{PutsEach}
use Rattle.writing.proofs.bytes.put_joined.Given as goal

abbrev pub invariant-loop-k : goal.invariant-loop-k
invariant-loop-k g l =
    (text : ℕ → List ℕ) → (width : ℕ) → PutsEach g.F.Fn l.step l.n text width
    → (Put l.initial.out l.out l.at l.next (joined_by (l.b ∷ []) (run text 0 l.k))) × (l.next ≤ l.at + (width + 1) * l.k)
