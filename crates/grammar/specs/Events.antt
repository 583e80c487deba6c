-- Appendix B, event: modifiers, `<type>`, count and detail.
use Rattle.std.specs.Prelude.{ℕ, ◌≡◌, Bool, false, List, Option, None, Some}
use Rattle.model.specs.Bytes.{is_code}
use Rattle.model.specs.Events.{Count, Written}
use Rattle.model.specs.Events as Model
use Rattle.grammar.specs.Bytes.{letter_or_digit, is_digit_sign, detail_byte}
use Rattle.grammar.specs.Tokens.{begins_with, Run, Word, Blanks, Sign, Optional}
use Rattle.grammar.specs.Modifiers.{DerivesModifierList}

-- "<"event_type">"
pub data DerivesEventType : List ℕ → List ℕ → List ℕ → Type 0 where
  -- "a type is the longest run of letters and digits"; whether there is such a type is judged later, by number 5
  event_type : {l m n k r w : List ℕ} → Sign "<" l m → Blanks m n → Word letter_or_digit n w k → Sign ">" k r → DerivesEventType l w r

-- [ "(" count["+"] ")" ]
pub data OptionalCount : List ℕ → Option Count → List ℕ → Type 0 where
  -- no count: "After `>`, an opening bracket always begins a count"
  absent : {l r : List ℕ} → Blanks l r → begins_with (λ b. is_code b "(") r ≡ false → OptionalCount l None r
  -- "(" count["+"] ")", count = ("1" | "2" | "3" | "4" | ...): "at least one digit, then perhaps `+`"; its value is judged later, by number 6
  present : {l m n k j r w : List ℕ} {plus : Bool} → Sign "(" l m → Blanks m n → Word is_digit_sign n w k → Optional "+" k plus j → Sign ")" j r
      → OptionalCount l (Some (record { digits = w; plus = plus })) r

-- {detail}
pub data DerivesDetail : List ℕ → List ℕ → List ℕ → Type 0 where
  -- "A detail is the longest run without blank, comma, colon or newline."; a run of no bytes is no detail
  detail : {l m w r : List ℕ} → Blanks l m → Run detail_byte m w r → DerivesDetail l w r

-- event = [modifier_list] "<"event_type">" [ "(" count["+"] ")" ] {detail}
pub data DerivesEvent : List ℕ → Written → List ℕ → Type 0 where
  -- "An event is modifiers, `<type>`, optional `(count)`, optional detail."
  event : {l k m n r w d : List ℕ} {ml : Model.ModifierList} {count : Option Count}
      → DerivesModifierList l ml k → DerivesEventType k w m → OptionalCount m count n → DerivesDetail n d r
      → DerivesEvent l (record { list = ml; type_name = w; count = count; detail = d }) r
