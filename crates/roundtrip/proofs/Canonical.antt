-- The canonical text of a table is that of its contents.
use Prim.Native.Nat.{ℕ}
use Prim.Native.Char.{code}
use mathlib.Core.Path.{◌≡◌, refl, sym, ap, ap₂, ◌∙◌}
use mathlib.Core.Bool.{Bool}
use mathlib.Core.List.{List, [], ◌∷◌, ◌++◌, map, append_assoc}
use lib.Seq.{append_snoc}
use Rattle.model.specs.Lists.{bytes}
use Rattle.model.specs.Asking.{part_bytes}
use Rattle.model.specs.Tables.{Call, Production, Table}
use Rattle.model.specs.Canonical as Model
use Rattle.model.specs.declared.scan.Span.{Span}
use Rattle.roundtrip.specs.Contents.{call_bytes, content, contents}
use Rattle.roundtrip.proofs.CallText.{parameter_bytes, call_text, calls_text}
use Rattle.roundtrip.proofs.LineText.{events_text, line_text}
use Rattle.roundtrip.proofs.WholeText.{text_of}

module _ (first second : List ℕ) where
  parameters_same : (mark : Bool) (ss : List Span)
      → Model.each (Model.parameter_text first second mark) ss ≡ Model.each parameter_bytes (map (part_bytes first second mark) ss)
  unfolding Model.parameter_text
  parameters_same mark [] = refl
  parameters_same mark (s ∷ ss) =
      ap {B = List (List ℕ)} (λ x. parameter_bytes (part_bytes first second mark s) ∷ x) (parameters_same mark ss)

  call_same : (c : Call) → Model.call_text first second c ≡ call_text (call_bytes first second c)
  unfolding Model.call_text
  call_same c =
      ap {B = List ℕ}
      (λ x. part_bytes first second c.second c.name ++ (code "(" ∷ (Model.joined_by (bytes ",") x ++ (code ")" ∷ []))))
      (parameters_same c.second c.parameters)

  calls_same : (cs : List Call) → Model.each (Model.call_text first second) cs ≡ Model.each call_text (map (call_bytes first second) cs)
  calls_same [] = refl
  calls_same (c ∷ cs) = ap₂ {C = List (List ℕ)} (λ x xs. x ∷ xs) (call_same c) (calls_same cs)

  production_same : (p : Production) (r : List ℕ) → Model.production_text first second p ++ r ≡ line_text (content first second p) ++ (10 ∷ r)
  unfolding Model.production_text
  production_same p r =
      let j : List ℕ = Model.joined_by (bytes " ") (Model.each (Model.call_text first second) p.calls) in
      append_assoc (events_text p.events) (code ":" ∷ (j ++ (10 ∷ []))) r
      ∙ ap {B = List ℕ} (λ x. events_text p.events ++ (code ":" ∷ x)) (append_snoc j 10 r)
      ∙ ap {B = List ℕ} (λ x. events_text p.events ++ (code ":" ∷ (Model.joined_by (bytes " ") x ++ (10 ∷ r)))) (calls_same p.calls)
      ∙ sym (append_assoc (events_text p.events) (code ":" ∷ calls_text (content first second p).calls) (10 ∷ r))

  productions_same : (ps : List Production) → Model.productions_text first second ps ≡ text_of (map (content first second) ps)
  unfolding Model.productions_text
  productions_same [] = refl
  productions_same (p ∷ ps) =
      ap {B = List ℕ} (λ x. Model.production_text first second p ++ x) (productions_same ps)
      ∙ production_same p (text_of (map (content first second) ps))

  pub canonical_text_lem : (t : Table) → Model.canonical_text first second t ≡ text_of (contents first second t)
  unfolding Model.canonical_text
  canonical_text_lem t = productions_same t.productions
