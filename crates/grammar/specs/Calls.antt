-- Appendix B, rhs: calls and their parameters.
use Rattle.std.specs.Prelude.{ℕ, ◌≡◌, false, List, [], ◌∷◌}
use Prim.Native.Char.{code}
use Rattle.model.specs.Bytes.{is_code}
use Rattle.model.specs.Calls.{WrittenCall}
use Rattle.model.specs.declared.scan.Span.{Span}
use Rattle.grammar.specs.Bytes.{namechar, quoted_byte, unquoted_byte}
use Rattle.grammar.specs.Tokens.{begins_with, Run, Word, Blanks, Sign, Stands}

-- in a line: what is derived of a name or a parameter is its place there, the parameter's without quotes
module _ (line : List ℕ) where
  -- string = quoted_string | unquoted_string
  pub data String : List ℕ → Span → List ℕ → Type 0 where
    -- quoted_string = """ {<Latin 1 character>} """
    -- "A quoted parameter runs to the next quote on the line"
    quoted : {l m w r : List ℕ} {s : Span} → Sign "\"" l m → Run quoted_byte m w (code "\"" ∷ r) → Stands line m w s → String l s r
    -- unquoted_string = {<Latin 1 character except space, tab, ",", newline, ")">}
    -- "an unquoted one may not hold blank, comma, quote or `)`"
    unquoted : {l m w r : List ℕ} {s : Span} → Blanks l m → Run unquoted_byte m w r → Stands line m w s → String l s r

  -- params = string {"," string}, with the ")" that ends them: "parameters parted by commas, `)`"
  pub data Params : List ℕ → List Span → List ℕ → Type 0 where
    -- string ")"
    last : {l m r : List ℕ} {s : Span} → String l s m → Sign ")" m r → Params l (s ∷ []) r
    -- string "," and what follows
    more : {l m n r : List ℕ} {s : Span} {ss : List Span} → String l s m → Sign "," m n → Params n ss r → Params l (s ∷ ss) r

  -- [params] ")"
  pub data Bracketed : List ℕ → List Span → List ℕ → Type 0 where
    -- "`f()` has no parameter"
    absent : {l r : List ℕ} → Sign ")" l r → Bracketed l [] r
    -- "`f("")` one, `f(,)` two empty ones": no bracket directly closes
    present : {l m r : List ℕ} {ss : List Span} → Blanks l m → begins_with (λ b. is_code b ")") m ≡ false → Params m ss r → Bracketed l ss r

  -- name "("
  pub data Name : List ℕ → Span → List ℕ → Type 0 where
    -- name = namechar { namechar }
    -- "A call is a name (letters, digits, `_`, `-`), `(` directly after it"
    name : {l m w r : List ℕ} {s : Span} → Blanks l m → Word namechar m w (code "(" ∷ r) → Stands line m w s → Name l s r

  -- rhs = { name "(" [params] ")" }, to the end of the line
  pub data Rhs : List ℕ → List WrittenCall → Type 0 where
    -- no further call: blanks alone may stand at the end
    none : {l : List ℕ} → Blanks l [] → Rhs l []
    -- name "(" [params] ")" and what follows
    call : {l m r : List ℕ} {n : Span} {ss : List Span} {cs : List WrittenCall} → Name l n m → Bracketed m ss r → Rhs r cs
        → Rhs l (record { name = n; parameters = ss } ∷ cs)
