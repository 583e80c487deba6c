-- Appendix B, modifier_list: what stands before the `<` of an event.
use Rattle.std.specs.Prelude.{ℕ, ◌≡◌, Bool, true, false, ◌||◌, List, [], ◌∷◌}
use Rattle.model.specs.Lists.{bytes, same}
use Rattle.model.specs.Lists as Lists
use Rattle.model.specs.Bytes.{is_code}
use Rattle.model.specs.Events as Written
use Rattle.grammar.specs.Bytes.{blank, letter_or_digit, keysym_byte}
use Rattle.grammar.specs.Tokens.{begins_with, Word, Blanks, Sign, Optional}

-- "`None` and `Any` stand alone"
abbrev pub is_lone_name : Written.Modifier → Bool
is_lone_name (Written.Modifier.name tilde w) = same w (bytes "None") || same w (bytes "Any")
is_lone_name (Written.Modifier.keysym tilde w) = false

-- modifier_name = "@" <keysym> | <see ModifierNames table below>
pub data DerivesModifierName (tilde : Bool) : List ℕ → Written.Modifier → List ℕ → Type 0 where
  -- "@" <keysym>: "`@` with a run of letters, digits or `_` directly after it"
  keysym : {l m w r : List ℕ} → Sign "@" l m → Word keysym_byte m w r → DerivesModifierName tilde l (Written.Modifier.keysym tilde w) r
  -- "A modifier name .. is the longest run of letters and digits"; whether the table has the name is judged later, by number 5
  name : {l m w r : List ℕ} → Blanks l m → Word letter_or_digit m w r → DerivesModifierName tilde l (Written.Modifier.name tilde w) r

-- modifier = ["~"] modifier_name
pub data DerivesModifier : List ℕ → Written.Modifier → List ℕ → Type 0 where
  -- modifier_name
  plain : {l r : List ℕ} {m : Written.Modifier} → DerivesModifierName false l m r → DerivesModifier l m r
  -- "~" modifier_name
  tilde : {l k r : List ℕ} {m : Written.Modifier} → Sign "~" l k → DerivesModifierName true k m r → DerivesModifier l m r

-- "two modifiers need a blank or `~` between them"; the `<` after the last one may follow directly
abbrev pub parts : ℕ → Bool
parts b = blank b || is_code b "~" || is_code b "<"

-- {modifier}
pub data DerivesModifiers : List ℕ → List Written.Modifier → List ℕ → Type 0 where
  -- no further modifier
  none : {l : List ℕ} → DerivesModifiers l [] l
  -- modifier and what follows
  more : {l k r : List ℕ} {m : Written.Modifier} {ms : List Written.Modifier} → DerivesModifier l m k → begins_with parts k ≡ true → DerivesModifiers k ms r
      → DerivesModifiers l (m ∷ ms) r

-- modifier_list = ( ["!"] [":"] {modifier} ) | "None"
pub data DerivesModifierList : List ℕ → Written.ModifierList → List ℕ → Type 0 where
  -- ["!"] [":"] {modifier}: "`!`, then `:`, may lead the list."; it may have no bytes, as [modifier_list] asks
  listed : {l k m r : List ℕ} {bang colon : Bool} {ms : List Written.Modifier} → Optional "!" l bang k → Optional ":" k colon m → DerivesModifiers m ms r
      → Lists.any is_lone_name ms ≡ false → DerivesModifierList l (Written.ModifierList.listed bang colon ms) r
  -- "None"
  none : {l m r : List ℕ} → Blanks l m → Word letter_or_digit m (bytes "None") r → DerivesModifierList l Written.ModifierList.no_modifier r
  -- "`None` and `Any` stand alone; `Any` tests nothing."
  any : {l m r : List ℕ} → Blanks l m → Word letter_or_digit m (bytes "Any") r → DerivesModifierList l Written.ModifierList.any_modifier r
