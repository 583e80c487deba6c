-- The grammar derives the canonical text of calls, with the places of their names and parameters.
use Prim.Native.Nat.{ℕ}
use Prim.Native.Char.{code}
use mathlib.Core.Path.{◌≡◌, refl, sym, ap, ap₂, ◌∙◌}
use mathlib.Core.Bool.{true, false, ◌||◌, false≢true}
use mathlib.Core.List.{List, [], ◌∷◌, ◌++◌, append_assoc}
use lib.ListN.{length}
use lib.Seq.{append_snoc}
use Rattle.model.specs.Lists.{bytes, all}
use Rattle.model.specs.Bytes.{is_code}
use Rattle.model.specs.Calls.{WrittenCall}
use Rattle.model.specs.Canonical.{joined_by, each}
use Rattle.model.specs.declared.scan.Span.{Span}
use Rattle.modifiers.proofs.Below.{both_left, both_right}
use Rattle.grammar.specs.Bytes.{allowed_byte, blank, namechar, quoted_byte}
use Rattle.grammar.specs.Tokens.{begins_with, Stands, is_some}
use Rattle.grammar.specs.Calls as Grammar
use Rattle.grammar.proofs.Places.{kind_not}
use Rattle.roundtrip.specs.Contents.{CallBytes}
use Rattle.roundtrip.proofs.Lists.{all_mono}
use Rattle.roundtrip.proofs.Holding.{Holds, stands_holds}
use Rattle.roundtrip.proofs.Joined.{behind, joined_behind, joined_none, run, word, no_blanks, sign}
use Rattle.roundtrip.proofs.Good.{parameter_byte, GoodCall, AllGood, ParametersHeld, CallsHeld}

-- ---- Texts of calls by their bytes

abbrev pub parameter_bytes : List ℕ → List ℕ
parameter_bytes w = code "\"" ∷ (w ++ (code "\"" ∷ []))

abbrev pub parameters_bytes : List (List ℕ) → List ℕ
parameters_bytes ws = joined_by (bytes ",") (each parameter_bytes ws)

abbrev pub call_text : CallBytes → List ℕ
call_text x = x.name ++ (code "(" ∷ (parameters_bytes x.parameters ++ (code ")" ∷ [])))

abbrev pub calls_text : List CallBytes → List ℕ
calls_text xs = joined_by (bytes " ") (each call_text xs)

-- one parameter, and what stands behind it
parameter_text_lem : (w r : List ℕ) → parameter_bytes w ++ r ≡ code "\"" ∷ (w ++ (code "\"" ∷ r))
parameter_text_lem w r = ap {B = List ℕ} (λ x. code "\"" ∷ x) (append_snoc w (code "\"") r)

parameters_one : (w r : List ℕ) → parameters_bytes (w ∷ []) ++ r ≡ code "\"" ∷ (w ++ (code "\"" ∷ r))
unfolding joined_by
parameters_one w r = parameter_text_lem w r

parameters_more : (w v : List ℕ) (ws : List (List ℕ)) (r : List ℕ)
    → parameters_bytes (w ∷ v ∷ ws) ++ r ≡ code "\"" ∷ (w ++ (code "\"" ∷ (code "," ∷ (parameters_bytes (v ∷ ws) ++ r))))
unfolding joined_by
parameters_more w v ws r =
    append_assoc (parameter_bytes w) (code "," ∷ parameters_bytes (v ∷ ws)) r ∙ parameter_text_lem w (code "," ∷ (parameters_bytes (v ∷ ws) ++ r))

call_text_lem : (x : CallBytes) (r : List ℕ) → call_text x ++ r ≡ x.name ++ (code "(" ∷ (parameters_bytes x.parameters ++ (code ")" ∷ r)))
call_text_lem x r =
    append_assoc x.name (code "(" ∷ (parameters_bytes x.parameters ++ (code ")" ∷ []))) r
    ∙ ap {B = List ℕ} (λ y. x.name ++ (code "(" ∷ y)) (append_snoc (parameters_bytes x.parameters) (code ")") r)

-- ---- Bytes

parameter_quoted : (w : List ℕ) → all parameter_byte w ≡ true → all quoted_byte w ≡ true
parameter_quoted w p = all_mono parameter_byte quoted_byte (λ b q. both_left (quoted_byte b) (allowed_byte b) q) w p

namechar_blank : (b : ℕ) → namechar b ≡ true → blank b ≡ false
namechar_blank b p = ap₂ ◌||◌ (kind_not namechar 32 refl b p) (kind_not namechar 9 refl b p)

module _ (line : List ℕ) where
  -- ---- Parameters

  -- a quoted string, and its place
  abbrev string_span : (b w : List ℕ) → Span
  string_span b w = record { start = length (b ++ (code "\"" ∷ [])); len = length w }

  string_stands : (b w r : List ℕ) → line ≡ b ++ (code "\"" ∷ (w ++ (code "\"" ∷ r)))
      → Stands line (w ++ (code "\"" ∷ r)) w (string_span b w)
  string_stands b w r e =
      record { before = b ++ (code "\"" ∷ []); split = e ∙ sym (append_snoc b (code "\"") (w ++ (code "\"" ∷ r))); place = refl }

  derive_string : (b w r : List ℕ) → line ≡ b ++ (code "\"" ∷ (w ++ (code "\"" ∷ r))) → all parameter_byte w ≡ true
      → Grammar.String line (code "\"" ∷ (w ++ (code "\"" ∷ r))) (string_span b w) r
  derive_string b w r e p =
      Grammar.String.quoted (sign "\"" (w ++ (code "\"" ∷ r)) refl) (run quoted_byte w (code "\"" ∷ r) (parameter_quoted w p) refl)
      (string_stands b w r e)

  hold_string : (b w r : List ℕ) → line ≡ b ++ (code "\"" ∷ (w ++ (code "\"" ∷ r))) → Holds line (string_span b w) w
  hold_string b w r e = stands_holds (code "\"" ∷ r) (string_stands b w r e) refl

  pub record ParametersGot (l : List ℕ) (ws : List (List ℕ)) (r : List ℕ) : Type 0 where
    pub spans : List Span
    pub derived : Grammar.Params line l spans r
    pub held : ParametersHeld line spans ws

  -- the place behind a quoted string
  past_string : (b w r : List ℕ) → line ≡ b ++ (code "\"" ∷ (w ++ (code "\"" ∷ r))) → line ≡ (b ++ (code "\"" ∷ (w ++ (code "\"" ∷ [])))) ++ r
  past_string b w r e =
      e ∙ ap {B = List ℕ} (λ x. b ++ x) (sym (parameter_text_lem w r)) ∙ sym (append_assoc b (parameter_bytes w) r)

  last_got : (b w r : List ℕ) → line ≡ b ++ (code "\"" ∷ (w ++ (code "\"" ∷ (code ")" ∷ r)))) → all parameter_byte w ≡ true
      → ParametersGot (code "\"" ∷ (w ++ (code "\"" ∷ (code ")" ∷ r)))) (w ∷ []) r
  last_got b w r e a =
      record {
        spans = string_span b w ∷ [];
        derived = Grammar.Params.last (derive_string b w (code ")" ∷ r) e a) (sign ")" r refl);
        held = ParametersHeld.more (hold_string b w (code ")" ∷ r) e) ParametersHeld.none;
      }

  more_got : (b w m r : List ℕ) (ws : List (List ℕ)) → line ≡ b ++ (code "\"" ∷ (w ++ (code "\"" ∷ (code "," ∷ m)))) → all parameter_byte w ≡ true
      → ParametersGot m ws r → ParametersGot (code "\"" ∷ (w ++ (code "\"" ∷ (code "," ∷ m)))) (w ∷ ws) r
  more_got b w m r ws e a g =
      record {
        spans = string_span b w ∷ g.spans;
        derived = Grammar.Params.more (derive_string b w (code "," ∷ m) e a) (sign "," m refl) g.derived;
        held = ParametersHeld.more (hold_string b w (code "," ∷ m) e) g.held;
      }

  derive_parameters : (w : List ℕ) (ws : List (List ℕ)) (b r : List ℕ) → all (all parameter_byte) (w ∷ ws) ≡ true
      → line ≡ b ++ (parameters_bytes (w ∷ ws) ++ (code ")" ∷ r)) → ParametersGot (parameters_bytes (w ∷ ws) ++ (code ")" ∷ r)) (w ∷ ws) r
  derive_parameters w [] b r p e =
      let t : parameters_bytes (w ∷ []) ++ (code ")" ∷ r) ≡ code "\"" ∷ (w ++ (code "\"" ∷ (code ")" ∷ r))) = parameters_one w (code ")" ∷ r) in
      rw t (last_got b w r (e ∙ ap {B = List ℕ} (λ x. b ++ x) t) (both_left (all parameter_byte w) true p))
  derive_parameters w (v ∷ ws) b r p e =
      let m : List ℕ = parameters_bytes (v ∷ ws) ++ (code ")" ∷ r) in
      let t : parameters_bytes (w ∷ v ∷ ws) ++ (code ")" ∷ r) ≡ code "\"" ∷ (w ++ (code "\"" ∷ (code "," ∷ m))) =
      parameters_more w v ws (code ")" ∷ r) in
      let e1 : line ≡ b ++ (code "\"" ∷ (w ++ (code "\"" ∷ (code "," ∷ m)))) = e ∙ ap {B = List ℕ} (λ x. b ++ x) t in
      let b1 : List ℕ = b ++ (code "\"" ∷ (w ++ (code "\"" ∷ []))) in
      let e2 : line ≡ (b1 ++ (code "," ∷ [])) ++ m = past_string b w (code "," ∷ m) e1 ∙ sym (append_snoc b1 (code ",") m) in
      rw t
      (more_got b w m r (v ∷ ws) e1 (both_left (all parameter_byte w) (all (all parameter_byte) (v ∷ ws)) p)
      (derive_parameters v ws (b1 ++ (code "," ∷ [])) r (both_right (all parameter_byte w) (all (all parameter_byte) (v ∷ ws)) p) e2))

  -- ---- In brackets

  pub record BracketedGot (l : List ℕ) (ws : List (List ℕ)) (r : List ℕ) : Type 0 where
    pub spans : List Span
    pub derived : Grammar.Bracketed line l spans r
    pub held : ParametersHeld line spans ws

  no_bracket : (w : List ℕ) (ws : List (List ℕ)) (r : List ℕ) → begins_with (λ b. is_code b ")") (parameters_bytes (w ∷ ws) ++ r) ≡ false
  no_bracket w [] r = rw (parameters_one w r)
  no_bracket w (v ∷ ws) r = rw (parameters_more w v ws r)

  no_blank_lem : (w : List ℕ) (ws : List (List ℕ)) (r : List ℕ) → begins_with blank (parameters_bytes (w ∷ ws) ++ r) ≡ false
  no_blank_lem w [] r = rw (parameters_one w r)
  no_blank_lem w (v ∷ ws) r = rw (parameters_more w v ws r)

  derive_bracketed : (ws : List (List ℕ)) (b r : List ℕ) → all (all parameter_byte) ws ≡ true
      → line ≡ b ++ (parameters_bytes ws ++ (code ")" ∷ r)) → BracketedGot (parameters_bytes ws ++ (code ")" ∷ r)) ws r
  derive_bracketed [] b r p e =
      rw (joined_none (bytes ","))
      (let g : BracketedGot (code ")" ∷ r) [] r = record { spans = []; derived = Grammar.Bracketed.absent (sign ")" r refl); held = ParametersHeld.none } in g)
  derive_bracketed (w ∷ ws) b r p e =
      let g : ParametersGot (parameters_bytes (w ∷ ws) ++ (code ")" ∷ r)) (w ∷ ws) r = derive_parameters w ws b r p e in
      record {
        spans = g.spans;
        derived =
            Grammar.Bracketed.present (no_blanks (parameters_bytes (w ∷ ws) ++ (code ")" ∷ r)) (no_blank_lem w ws (code ")" ∷ r)))
            (no_bracket w ws (code ")" ∷ r)) g.derived;
        held = g.held;
      }

  -- ---- Calls

  pub record CallsGot (l : List ℕ) (xs : List CallBytes) : Type 0 where
    pub calls : List WrittenCall
    pub derived : Grammar.Rhs line l calls
    pub held : CallsHeld line calls xs

  name_begins : (w r : List ℕ) → all namechar w ≡ true → is_some w ≡ true → begins_with blank (w ++ r) ≡ false
  name_begins [] r p s = absurd (false≢true s)
  name_begins (c ∷ w) r p s = namechar_blank c (both_left (namechar c) (all namechar w) p)

  -- one call behind blanks
  call_got : (bs w m r : List ℕ) (ws : List (List ℕ)) (xs : List CallBytes) (b : List ℕ) → all blank bs ≡ true → all namechar w ≡ true
      → is_some w ≡ true → line ≡ b ++ (bs ++ (w ++ (code "(" ∷ m))) → BracketedGot m ws r → CallsGot r xs
      → CallsGot (bs ++ (w ++ (code "(" ∷ m))) (record { name = w; parameters = ws } ∷ xs)
  call_got bs w m r ws xs b z p s e g rest =
      let n : Span = record { start = length (b ++ bs); len = length w } in
      let x : Stands line (w ++ (code "(" ∷ m)) w n =
      record { before = b ++ bs; split = e ∙ sym (append_assoc b bs (w ++ (code "(" ∷ m))); place = refl } in
      record {
        calls = record { name = n; parameters = g.spans } ∷ rest.calls;
        derived =
            Grammar.Rhs.call
            (Grammar.Name.name
            (record { blanks = bs; run = run blank bs (w ++ (code "(" ∷ m)) z (name_begins w (code "(" ∷ m) p s) })
            (word namechar w (code "(" ∷ m) p s refl) x)
            g.derived rest.derived;
        held = CallsHeld.more (stands_holds (code "(" ∷ m) x refl) g.held rest.held;
      }

  derive_call : (bs b r : List ℕ) (x : CallBytes) (xs : List CallBytes) → all blank bs ≡ true → GoodCall x
      → line ≡ b ++ (bs ++ (call_text x ++ r)) → CallsGot r xs → CallsGot (bs ++ (call_text x ++ r)) (x ∷ xs)
  derive_call bs b r x xs z g e rest =
      let m : List ℕ = parameters_bytes x.parameters ++ (code ")" ∷ r) in
      let t : call_text x ++ r ≡ x.name ++ (code "(" ∷ m) = call_text_lem x r in
      let e1 : line ≡ b ++ (bs ++ (x.name ++ (code "(" ∷ m))) = e ∙ ap {B = List ℕ} (λ y. b ++ (bs ++ y)) t in
      let b1 : List ℕ = b ++ (bs ++ (x.name ++ (code "(" ∷ []))) in
      let e2 : line ≡ b1 ++ m =
      e1
      ∙ ap {B = List ℕ} (λ y. b ++ (bs ++ y)) (sym (append_snoc x.name (code "(") m))
      ∙ ap {B = List ℕ} (λ y. b ++ y) (sym (append_assoc bs (x.name ++ (code "(" ∷ [])) m))
      ∙ sym (append_assoc b (bs ++ (x.name ++ (code "(" ∷ []))) m) in
      rw t
      (call_got bs x.name m r x.parameters xs b z g.name g.some e1
      (derive_bracketed x.parameters b1 r g.parameters e2) rest)

  -- those behind the first
  derive_behind : (xs : List CallBytes) (b : List ℕ) → AllGood xs → line ≡ b ++ behind (bytes " ") (each call_text xs)
      → CallsGot (behind (bytes " ") (each call_text xs)) xs
  derive_behind [] b g e = record { calls = []; derived = Grammar.Rhs.none (no_blanks [] refl); held = CallsHeld.none }
  derive_behind (x ∷ xs) b g e =
      let r : List ℕ = behind (bytes " ") (each call_text xs) in
      let e1 : line ≡ (b ++ (bytes " " ++ call_text x)) ++ r =
      e ∙ ap {B = List ℕ} (λ y. b ++ y) (sym (append_assoc (bytes " ") (call_text x) r)) ∙ sym (append_assoc b (bytes " " ++ call_text x) r) in
      derive_call (bytes " ") b r x xs refl g.0 e (derive_behind xs (b ++ (bytes " " ++ call_text x)) g.1 e1)

  pub derive_calls : (xs : List CallBytes) (b : List ℕ) → AllGood xs → line ≡ b ++ calls_text xs → CallsGot (calls_text xs) xs
  derive_calls [] b g e =
      rw (joined_none (bytes " "))
      (let k : CallsGot [] [] = record { calls = []; derived = Grammar.Rhs.none (no_blanks [] refl); held = CallsHeld.none } in k)
  derive_calls (x ∷ xs) b g e =
      let r : List ℕ = behind (bytes " ") (each call_text xs) in
      let t : calls_text (x ∷ xs) ≡ call_text x ++ r = joined_behind (bytes " ") (call_text x) (each call_text xs) in
      let e1 : line ≡ b ++ (call_text x ++ r) = e ∙ ap {B = List ℕ} (λ y. b ++ y) t in
      rw t (derive_call [] b r x xs refl g.0 e1 (derive_behind xs (b ++ call_text x) g.1 (e1 ∙ sym (append_assoc b (call_text x) r))))
