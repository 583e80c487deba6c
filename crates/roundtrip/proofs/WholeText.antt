-- The grammar derives the canonical text, line by line.
use Prim.Native.Nat.{ℕ}
use native.Mathlib.Omega.{arith}
use mathlib.Core.Path.{◌≡◌, refl, sym, ap, ◌∙◌}
use mathlib.Core.Bool.{true}
use Rattle.std.specs.Prelude.{None, Some}
use mathlib.Core.List.{List, [], ◌∷◌, ◌++◌, map, append_assoc}
use lib.ListN.{length, length-append}
use lib.Seq.{append_snoc}
use Rattle.model.specs.Lists.{all}
use Rattle.model.specs.Compiling.{call_of}
use Rattle.model.specs.Tables as Tables
use Rattle.modifiers.proofs.Below.{both_left, both_right}
use Rattle.grammar.specs.Bytes.{allowed_byte, line_byte}
use Rattle.grammar.specs.Texts.{Line, Derived, start_in_text, Lines}
use Rattle.grammar.specs.Compiling.{production_of, ProductionsKept}
use Rattle.roundtrip.specs.Contents.{Content, call_bytes, content}
use Rattle.roundtrip.proofs.Lists.{all_mono, all_append}
use Rattle.roundtrip.proofs.Joined.{run}
use Rattle.roundtrip.proofs.Good.{GoodContent, GoodContents, calls_bytes}
use Rattle.roundtrip.proofs.LineText.{line_text, written_events, events_kept, LineGot, derive_line}
use Rattle.roundtrip.proofs.Clean.{clean, line_clean}

-- the canonical text of contents: each line ended by a newline
abbrev pub text_of : List Content → List ℕ
text_of [] = []
text_of (x ∷ xs) = line_text x ++ (10 ∷ text_of xs)

pub text_allowed : (xs : List Content) → GoodContents xs → all allowed_byte (text_of xs) ≡ true
text_allowed [] g = refl
text_allowed (x ∷ xs) g =
    all_append allowed_byte (line_text x) (10 ∷ text_of xs)
    (all_mono clean allowed_byte (λ b q. both_left (allowed_byte b) (line_byte b) q) (line_text x) (line_clean x g.0))
    (text_allowed xs g.1)

pub record LinesGot (text l : List ℕ) (xs : List Content) : Type 0 where
  pub derived : List Derived
  pub lines : Lines text (Some l) derived None
  pub productions : List Tables.Production
  pub kept : ProductionsKept derived productions
  pub same : map (content text []) productions ≡ xs

module _ (text : List ℕ) where
  -- one line, and the lines behind it
  line_got : (b r : List ℕ) (x : Content) (xs : List Content) → GoodContent x → text ≡ b ++ (line_text x ++ (10 ∷ r)) → LinesGot text r xs
      → LinesGot text (line_text x ++ (10 ∷ r)) (x ∷ xs)
  line_got b r x xs g e rest =
      let l : List ℕ = line_text x ++ (10 ∷ r) in
      let got : LineGot x = derive_line x g in
      let c : all line_byte (line_text x) ≡ true =
      all_mono clean line_byte (λ b q. both_right (allowed_byte b) (line_byte b) q) (line_text x) (line_clean x g) in
      let s : start_in_text text l ≡ length b = omega (arith, ap length e ∙ length-append b l) in
      let m : map (call_bytes text []) (map (call_of (start_in_text text l)) got.calls) ≡ x.calls =
      (λ i. map (call_bytes (e i) []) (map (call_of (s i)) got.calls)) ∙ calls_bytes (line_text x) b (10 ∷ r) [] got.held in
      record {
        derived = record { start = start_in_text text l; events = written_events x.events; calls = got.calls } ∷ rest.derived;
        lines = Lines.production (Line.newline (run line_byte (line_text x) (10 ∷ r) c refl)) got.derived rest.lines;
        productions = production_of (start_in_text text l) x.events got.calls ∷ rest.productions;
        kept = ProductionsKept.more (events_kept x.events g.kept) rest.kept;
        same = λ i. record { events = x.events; calls = m i } ∷ rest.same i;
      }

  pub lines_got : (xs : List Content) (b : List ℕ) → GoodContents xs → text ≡ b ++ text_of xs → LinesGot text (text_of xs) xs
  lines_got [] b g e =
      record {
        derived = [];
        lines = Lines.blanks (Line.last (run line_byte [] [] refl refl)) refl Lines.done;
        productions = [];
        kept = ProductionsKept.nothing;
        same = refl;
      }
  lines_got (x ∷ xs) b g e =
      let e1 : text ≡ (b ++ (line_text x ++ (10 ∷ []))) ++ text_of xs =
      e ∙ ap {B = List ℕ} (λ y. b ++ y) (sym (append_snoc (line_text x) 10 (text_of xs))) ∙ sym (append_assoc b (line_text x ++ (10 ∷ [])) (text_of xs)) in
      line_got b (text_of xs) x xs g.0 e (lines_got xs (b ++ (line_text x ++ (10 ∷ []))) g.1 e1)
