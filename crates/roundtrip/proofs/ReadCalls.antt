-- The calls that the grammar derives from a line of allowed bytes can be written.
use Prim.Native.Nat.{ℕ}
use Prim.Native.Char.{code}
use mathlib.Core.Path.{◌≡◌, refl, ap₂}
use mathlib.Core.Bool.{true, false, ◌&&◌, ◌||◌}
use mathlib.Core.List.{List, [], ◌∷◌, ◌++◌}
use Rattle.model.specs.Lists.{all}
use Rattle.model.specs.Bytes.{is_code, is_newline}
use Rattle.model.specs.Calls.{WrittenCall}
use Rattle.model.specs.declared.scan.Span.{Span}
use Rattle.modifiers.proofs.Below.{both_left, both_right}
use Rattle.grammar.specs.Bytes.{allowed_byte, blank, namechar, quoted_byte, unquoted_byte}
use Rattle.grammar.specs.Tokens.{is_some}
use Rattle.grammar.specs.Calls as Grammar
use Rattle.grammar.proofs.Places.{nor_left, nor_right}
use Rattle.roundtrip.specs.Contents.{CallBytes}
use Rattle.roundtrip.proofs.Lists.{all_mono, all_left, all_right}
use Rattle.roundtrip.proofs.Holding.{Holds, stands_holds}
use Rattle.roundtrip.proofs.Good.{parameter_byte, AllGood, ParametersHeld, CallsHeld}

all_both : (w : List ℕ) → all quoted_byte w ≡ true → all allowed_byte w ≡ true → all parameter_byte w ≡ true
all_both [] p q = refl
all_both (b ∷ w) p q =
    ap₂ ◌&&◌ (ap₂ ◌&&◌ (both_left (quoted_byte b) (all quoted_byte w) p) (both_left (allowed_byte b) (all allowed_byte w) q))
    (all_both w (both_right (quoted_byte b) (all quoted_byte w) p) (both_right (allowed_byte b) (all allowed_byte w) q))

unquoted_quoted : (b : ℕ) → unquoted_byte b ≡ true → quoted_byte b ≡ true
unquoted_quoted b e =
    let n : is_newline b ≡ false = nor_right (blank b || is_code b "," || is_code b "\"" || is_code b ")") (is_newline b) e in
    let q : is_code b "\"" ≡ false =
    nor_right (blank b || is_code b ",") (is_code b "\"")
    (nor_left (blank b || is_code b "," || is_code b "\"") (is_code b ")")
    (nor_left (blank b || is_code b "," || is_code b "\"" || is_code b ")") (is_newline b) e)) in
    rw (q, n)

module _ (line : List ℕ) (allowed : all allowed_byte line ≡ true) where
  held_allowed : {s : Span} {w : List ℕ} → Holds line s w → all allowed_byte w ≡ true
  held_allowed {s} {w} h =
      all_left allowed_byte w h.after (all_right allowed_byte h.before (w ++ h.after) (rw h.split at allowed))

  record StringSound (s : Span) : Type 0 where
    bytes : List ℕ
    held : Holds line s bytes
    good : all parameter_byte bytes ≡ true

  string_sound : {l r : List ℕ} {s : Span} → Grammar.String line l s r → StringSound s
  string_sound (Grammar.String.quoted {w = w} {r = r} q run x) =
      let h = stands_holds (code "\"" ∷ r) x run.split in
      record { bytes = w; held = h; good = all_both w run.within (held_allowed h) }
  string_sound (Grammar.String.unquoted {w = w} {r = r} b run x) =
      let h = stands_holds r x run.split in
      record { bytes = w; held = h; good = all_both w (all_mono unquoted_byte quoted_byte unquoted_quoted w run.within) (held_allowed h) }

  record ParametersSound (ss : List Span) : Type 0 where
    bytes : List (List ℕ)
    held : ParametersHeld line ss bytes
    good : all (all parameter_byte) bytes ≡ true

  parameters_sound : {l r : List ℕ} {ss : List Span} → Grammar.Params line l ss r → ParametersSound ss
  parameters_sound (Grammar.Params.last s c) =
      let g = string_sound s in
      record { bytes = g.bytes ∷ []; held = ParametersHeld.more g.held ParametersHeld.none; good = rw g.good }
  parameters_sound (Grammar.Params.more s c ps) =
      let g = string_sound s in
      let gs = parameters_sound ps in
      record { bytes = g.bytes ∷ gs.bytes; held = ParametersHeld.more g.held gs.held; good = rw (g.good, gs.good) }

  bracketed_sound : {l r : List ℕ} {ss : List Span} → Grammar.Bracketed line l ss r → ParametersSound ss
  bracketed_sound (Grammar.Bracketed.absent c) = record { bytes = []; held = ParametersHeld.none; good = refl }
  bracketed_sound (Grammar.Bracketed.present b e ps) = parameters_sound ps

  record NameSound (s : Span) : Type 0 where
    bytes : List ℕ
    held : Holds line s bytes
    some : is_some bytes ≡ true
    good : all namechar bytes ≡ true

  name_sound : {l r : List ℕ} {s : Span} → Grammar.Name line l s r → NameSound s
  name_sound (Grammar.Name.name {w = w} {r = r} b word x) =
      record { bytes = w; held = stands_holds (code "(" ∷ r) x word.run.split; some = word.some; good = word.run.within }

  pub record CallsSound (cs : List WrittenCall) : Type 0 where
    pub bytes : List CallBytes
    pub held : CallsHeld line cs bytes
    pub good : AllGood bytes

  pub calls_sound : {l : List ℕ} {cs : List WrittenCall} → Grammar.Rhs line l cs → CallsSound cs
  calls_sound (Grammar.Rhs.none b) = record { bytes = []; held = CallsHeld.none; good = tt }
  calls_sound (Grammar.Rhs.call n b d) =
      let name = name_sound n in
      let ps = bracketed_sound b in
      let rest = calls_sound d in
      record {
        bytes = record { name = name.bytes; parameters = ps.bytes } ∷ rest.bytes;
        held = CallsHeld.more name.held ps.held rest.held;
        good = (record { some = name.some; name = name.good; parameters = ps.good }, rest.good);
      }
