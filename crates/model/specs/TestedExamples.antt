-- Document 01, "Selection", "A bit is tested by a table", and R-1: some texts, and the bits that their tables test.
-- That the definitions give them is proved in proofs/Tested.
use Rattle.std.specs.Prelude.{ℕ, ◌≡◌, List, [], ◌∷◌, map, Option, None, Some}
use Rattle.model.specs.Lists.{bytes, those}
use Rattle.model.specs.Modifiers.{bits, button_bits}
use Rattle.model.specs.Compiling.{Outcome, accepted, refused, compiled}
use Rattle.model.specs.Matching.{tests}
use Rattle.model.specs.Examples.{no_modifiers}
use Rattle.model.specs.NamedExamples.{rows, under}

-- the bits that a text's table tests under a modifier map, if it is accepted
abbrev pub tested_bits : List ℕ → Outcome → Option (List ℕ)
tested_bits modifiers (accepted t) = Some (those (tests (under modifiers) t) bits)
tested_bits modifiers (refused n place) = None

pub record TestedExample : Type 0 where
  pub text : List ℕ
  pub modifiers : List ℕ
  pub tested : List ℕ

-- where no name stands for a bit, the modifier map plays no part
abbrev pub plainly : (text tested : List ℕ) → TestedExample
plainly text tested = record { text = text; modifiers = no_modifiers; tested = tested }

unfoldable pub tested_examples : List TestedExample
tested_examples =
    -- "a kept button clause tests all buttons", and no other bit
    plainly (bytes "<BtnMotion>:x()") button_bits
    -- "isn't kept where a button is already asked set": that button alone
    ∷ plainly (bytes "Button1<BtnMotion>:x()") (8 ∷ [])
    -- "a colon with a key detail tests Shift and Lock"
    ∷ plainly (bytes ":<Key>a:x()") (0 ∷ 1 ∷ [])
    -- without a detail it tests none, and a detail without a colon none
    ∷ plainly (bytes ":<Key>:x()") []
    ∷ plainly (bytes "<Key>a:x()") []
    -- "some event asks for it set or clear"
    ∷ plainly (bytes "!<Key>:x()") bits
    ∷ plainly (bytes "Ctrl ~Mod1<Key>a,<Key>b:x()\nLock<Btn1Down>:y()") (1 ∷ 2 ∷ 3 ∷ [])
    -- R-1: "a bit that a name resolves to counts as tested": Meta on Mod1 and Mod4, with `~` too
    ∷ record { text = bytes "Meta<Key>a:x()"; modifiers = rows 50 0 64 108; tested = 3 ∷ 6 ∷ [] }
    ∷ record { text = bytes "~Meta<Key>a:x()"; modifiers = rows 50 0 64 0; tested = 3 ∷ [] }
    -- beside a colon too, where it is not tested in a match: Meta on Lock, no detail
    ∷ record { text = bytes ":Meta<Key>:x()"; modifiers = rows 50 64 0 0; tested = 1 ∷ [] }
    -- a name with no bit asks for none
    ∷ record { text = bytes "Hyper Ctrl<Key>a:x()"; modifiers = rows 50 0 64 0; tested = 2 ∷ [] }
    ∷ record { text = bytes "!Hyper<Key>a:x()"; modifiers = rows 50 0 64 0; tested = bits }
    ∷ []

abbrev pub AllTested : List TestedExample → Type 0
AllTested es = map (λ e. tested_bits e.modifiers (compiled e.text)) es ≡ map (λ e. Some e.tested) es
