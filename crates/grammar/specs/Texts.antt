-- Appendix B, translationTable: a text, line by line.
use Rattle.std.specs.Prelude.{ℕ, ◌-◌, ◌≡◌, true, List, [], ◌∷◌, length, Option, None, Some}
use Rattle.model.specs.Lists.{bytes, all}
use Rattle.model.specs.Events.{WrittenEvent}
use Rattle.model.specs.Calls.{WrittenCall}
use Rattle.model.specs.declared.events.Directive as Model
use Rattle.grammar.specs.Bytes.{blank, line_byte}
use Rattle.grammar.specs.Tokens.{Run}
use Rattle.grammar.specs.Productions.{DerivesProduction}

-- "A line ends at a newline or at the end of the text.": l is the line w, its newline and then r; none where the text ends with w.
-- So the newline of `directive` and of `production` is this one, and the last line may lack it.
pub data Line : List ℕ → List ℕ → Option (List ℕ) → Type 0 where
  -- the end of the text
  last : {l w : List ℕ} → Run line_byte l w [] → Line l w None
  -- "\n"
  newline : {l w r : List ℕ} → Run line_byte l w (10 ∷ r) → Line l w (Some r)

-- directive = ( "#replace" | "#override" | "#augment" ) "\n"
-- "`#replace`, `#override` or `#augment` may stand as the whole first line, from byte 0"
pub data Directive : List ℕ → Model.Directive → Type 0 where
  -- "#replace"
  replace : Directive (bytes "#replace") Model.Directive.Replace
  -- "#override"
  override : Directive (bytes "#override") Model.Directive.Override
  -- "#augment"
  augment : Directive (bytes "#augment") Model.Directive.Augment

-- what is derived from a line of a text, and where the line begins
pub record Derived : Type 0 where
  pub start : ℕ
  pub events : List WrittenEvent
  pub calls : List WrittenCall

module _ (text : List ℕ) where
  -- where the text's end l begins
  abbrev pub start_in_text : List ℕ → ℕ
  start_in_text l = length text - length l

  -- { production }: the lines from l on, up to s; none stands for the end of the text
  pub data Lines : Option (List ℕ) → List Derived → Option (List ℕ) → Type 0 where
    -- no further line up to s
    done : {s : Option (List ℕ)} → Lines s [] s
    -- "Lines of blanks are skipped."
    blanks : {l w : List ℕ} {r s : Option (List ℕ)} {ds : List Derived} → Line l w r → all blank w ≡ true → Lines r ds s → Lines (Some l) ds s
    -- production and what follows
    production : {l w : List ℕ} {r s : Option (List ℕ)} {es : List WrittenEvent} {cs : List WrittenCall} {ds : List Derived}
        → Line l w r → DerivesProduction w es cs → Lines r ds s
        → Lines (Some l) (record { start = start_in_text l; events = es; calls = cs } ∷ ds) s

  -- translationTable = [ directive ] { production }, up to s; the whole text where s is none
  pub data TranslationTable : Model.Directive → List Derived → Option (List ℕ) → Type 0 where
    -- { production }: "none means replace"
    plain : {s : Option (List ℕ)} {ds : List Derived} → Lines (Some text) ds s → TranslationTable Model.Directive.Replace ds s
    -- directive { production }
    directed : {w : List ℕ} {r s : Option (List ℕ)} {d : Model.Directive} {ds : List Derived} → Line text w r → Directive w d → Lines r ds s
        → TranslationTable d ds s
