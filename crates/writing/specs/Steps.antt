-- A function that puts the k-th of several texts at a position and returns the position past it.
use Rattle.std.specs.Prelude.{ℕ, ◌+◌, ◌*◌, ◌≤◌, ◌<◌, List}
use Rattle.std.specs.Fn.{Shared}
use Rattle.std.specs.Borrow.{MutBor}
use Rattle.writing.specs.Overlay.{Put}

module _ {F : Type 0} (g : Shared F (MutBor (List ℕ) × (ℕ × (ℕ × Unit {0}))) (ℕ × (MutBor (List ℕ) × Unit {0}))) (step : F) (n : ℕ) where
  -- for each k below n a call puts the k-th text, of at most `width` bytes
  pub record PutsEach (text : ℕ → List ℕ) (width : ℕ) : Type 0 where
    pub puts : (out after : MutBor (List ℕ)) (at k next : ℕ) → k < n → g.post step (out, (at, (k, tt))) (next, (after, tt))
        → (Put out.now after.now at next (text k)) × (next ≤ at + width)

  -- and may be made wherever the texts and a byte before each lead to from a position
  pub record MayPut (at : ℕ) : Type 0 where
    pub text : ℕ → List ℕ
    pub width : ℕ
    pub each : PutsEach text width
    pub callable : (out : MutBor (List ℕ)) (i k : ℕ) → k < n → i ≤ at + (width + 1) * n → g.pre step (out, (i, (k, tt)))
    pub room : at + (width + 1) * n ≤ 9000000000
