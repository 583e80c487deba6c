-- Appendix B, lhs and production: one line.
--
-- One line and what is derived from it (Examples shows it):
--
--     s<Key>a, "^b": f(x) g()
--     0     6  9     15   20       places in the line
--
--     Lhs     Item, event     s<Key>a    the event { list = [s]; type_name = Key; count = none; detail = a }
--             ","
--             Item, keyseq    "^b"       the key { mark = Control; byte = b }, one for each character
--     ":"
--     Rhs     call            f(x)       the call { name at 15, of length 1; parameters = [at 17, of length 1] }
--             call            g()        the call { name at 20, of length 1; parameters = [] }
--
-- Each symbol takes the bytes from where the one before it ends, with the blanks before it: Lhs leaves `: f(x) g()`, ":" leaves ` f(x) g()`.
use Rattle.std.specs.Prelude.{ℕ, List, [], ◌∷◌, ◌++◌}
use Rattle.model.specs.Events.{Written, WrittenEvent}
use Rattle.model.specs.Calls.{WrittenCall}
use Rattle.grammar.specs.Tokens.{Sign}
use Rattle.grammar.specs.KeySequences.{Keyseq}
use Rattle.grammar.specs.Events.{DerivesEvent}
use Rattle.grammar.specs.Calls.{Rhs}

-- event | keyseq
pub data Item : List ℕ → List WrittenEvent → List ℕ → Type 0 where
  -- event
  event : {l r : List ℕ} {e : Written} → DerivesEvent l e r → Item l (WrittenEvent.event e ∷ []) r
  -- keyseq
  keyseq : {l r : List ℕ} {ks : List WrittenEvent} → Keyseq l ks r → Item l ks r

-- lhs = ( event | keyseq ) { "," (event | keyseq) }
pub data Lhs : List ℕ → List WrittenEvent → List ℕ → Type 0 where
  -- event | keyseq
  one : {l r : List ℕ} {es : List WrittenEvent} → Item l es r → Lhs l es r
  -- (event | keyseq) "," and what follows
  more : {l k m r : List ℕ} {es fs : List WrittenEvent} → Item l es k → Sign "," k m → Lhs m fs r → Lhs l (es ++ fs) r

-- production = lhs ":" rhs "\n"; the newline is no part of the line
pub data DerivesProduction : List ℕ → List WrittenEvent → List WrittenCall → Type 0 where
  -- "A production is events parted by commas, a colon, then zero or more calls."
  production : {l k m : List ℕ} {es : List WrittenEvent} {cs : List WrittenCall} → Lhs l es k → Sign ":" k m → Rhs l m cs → DerivesProduction l es cs
