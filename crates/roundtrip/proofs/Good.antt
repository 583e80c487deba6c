-- Contents that can be written and read again, and places that hold the bytes of calls.
use Prim.Native.Nat.{ℕ, ◌+◌}
use mathlib.Core.Path.{◌≡◌, refl, ap₂}
use mathlib.Core.Bool.{Bool, true, ◌&&◌}
use mathlib.Core.List.{List, [], ◌∷◌, ◌++◌, map}
use lib.ListN.{length, take, drop}
use Rattle.model.specs.Lists.{all}
use Rattle.model.specs.Compiling.{in_text, call_of}
use Rattle.model.specs.Calls.{WrittenCall}
use Rattle.model.specs.Merging.{mark_second}
use Rattle.model.specs.declared.scan.Span.{Span}
use Rattle.model.specs.declared.events.KeptEvent.{KeptEvent}
use Rattle.grammar.specs.Bytes.{allowed_byte, namechar, quoted_byte}
use Rattle.grammar.specs.Tokens.{is_some}
use Rattle.roundtrip.specs.Contents.{CallBytes, Content, call_bytes}
use Rattle.roundtrip.proofs.Holding.{Holds, holds_bytes, holds_in}
use Rattle.roundtrip.proofs.Kept.{KeptWell}

-- ---- What is good

abbrev pub AllKept : List KeptEvent → Type 0
AllKept [] = Unit
AllKept (e ∷ es) = KeptWell e × AllKept es

-- a parameter's byte: no quote, no newline, and allowed
abbrev pub parameter_byte : ℕ → Bool
parameter_byte b = quoted_byte b && allowed_byte b

pub record GoodCall (x : CallBytes) : Type 0 where
  pub some : is_some x.name ≡ true
  pub name : all namechar x.name ≡ true
  pub parameters : all (all parameter_byte) x.parameters ≡ true

abbrev pub AllGood : List CallBytes → Type 0
AllGood [] = Unit
AllGood (x ∷ xs) = GoodCall x × AllGood xs

pub record GoodContent (x : Content) : Type 0 where
  pub some : is_some x.events ≡ true
  pub kept : AllKept x.events
  pub calls : AllGood x.calls

abbrev pub GoodContents : List Content → Type 0
GoodContents [] = Unit
GoodContents (x ∷ xs) = GoodContent x × GoodContents xs

-- ---- What is held

module _ (line : List ℕ) where
  pub data ParametersHeld : List Span → List (List ℕ) → Type 0 where
    none : ParametersHeld [] []
    more : {s : Span} {ss : List Span} {w : List ℕ} {ws : List (List ℕ)} → Holds line s w → ParametersHeld ss ws
        → ParametersHeld (s ∷ ss) (w ∷ ws)

  pub data CallsHeld : List WrittenCall → List CallBytes → Type 0 where
    none : CallsHeld [] []
    more : {c : WrittenCall} {cs : List WrittenCall} {x : CallBytes} {xs : List CallBytes} → Holds line c.name x.name
        → ParametersHeld c.parameters x.parameters → CallsHeld cs xs → CallsHeld (c ∷ cs) (x ∷ xs)

-- a line of a text has the calls' bytes in the text, be it the first of two or, marked so, the second
module _ (line before after other : List ℕ) where
  abbrev text : List ℕ
  text = before ++ (line ++ after)

  parameters_bytes_lem : {ss : List Span} {ws : List (List ℕ)} → ParametersHeld line ss ws
      → map (λ (s : Span). take s.len (drop s.start text)) (map (in_text (length before)) ss) ≡ ws
  parameters_bytes_lem ParametersHeld.none = refl
  parameters_bytes_lem (ParametersHeld.more h hs) =
      ap₂ {C = List (List ℕ)} (λ x xs. x ∷ xs) (holds_bytes (holds_in before after h)) (parameters_bytes_lem hs)

  name_bytes_lem : {s : Span} {w : List ℕ} → Holds line s w → take s.len (drop (length before + s.start) text) ≡ w
  name_bytes_lem h = holds_bytes (holds_in before after h)

  pub calls_bytes : {cs : List WrittenCall} {xs : List CallBytes} → CallsHeld line cs xs
      → map (call_bytes text other) (map (call_of (length before)) cs) ≡ xs
  calls_bytes CallsHeld.none = refl
  calls_bytes (CallsHeld.more n ps hs) =
      let a = name_bytes_lem n in
      let b = parameters_bytes_lem ps in
      let d = calls_bytes hs in
      λ i. record { name = a i; parameters = b i } ∷ d i

  pub marked_bytes : {cs : List WrittenCall} {xs : List CallBytes} → CallsHeld line cs xs
      → map (call_bytes other text) (map mark_second (map (call_of (length before)) cs)) ≡ xs
  marked_bytes CallsHeld.none = refl
  marked_bytes (CallsHeld.more n ps hs) =
      let a = name_bytes_lem n in
      let b = parameters_bytes_lem ps in
      let d = marked_bytes hs in
      λ i. record { name = a i; parameters = b i } ∷ d i
