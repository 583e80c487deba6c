-- Lines of a text: where they end, blank lines, directives.
use Prim.Native.Nat.{ℕ, ◌+◌, ◌<◌}
use Prim.Native.Char.{code}
use native.Mathlib.Omega.{arith}
use mathlib.Core.Path.{◌≡◌, refl, sym, ◌∙◌}
use mathlib.Core.Bool.{Bool, true, false, and-false, false≢true}
use Rattle.std.specs.Prelude.{Option, None, Some}
use mathlib.Core.List.{List, [], ◌∷◌, ◌++◌, append-nil}
use lib.Dec.{eqb}
use lib.ListN.{length}
use borrow.Author.Tests.{eqb-true, eq-eqb, ne_eqb, not-false}
use Rattle.model.specs.Lists.{bytes, same, all}
use Rattle.model.specs.Bytes.{is_newline, run_end, skip}
use Rattle.model.specs.Lines.{line_end, line_at, is_blank_line, directive_of}
use Rattle.model.specs.Events.{WrittenEvent}
use Rattle.model.specs.Calls.{WrittenCall}
use Rattle.model.specs.Tables.{Production}
use Rattle.model.specs.Compiling.{LineRead, line_read, Outcome, accepted, table_of, go_on}
use Rattle.model.specs.declared.scan.Class.{Class}
use Rattle.model.specs.declared.events.Directive as Model
use Rattle.model.proofs.Sameness.{same_eq}
use Rattle.grammar.specs.Bytes.{blank, line_byte}
use Rattle.grammar.specs.Tokens.{Run, Blanks}
use Rattle.grammar.specs.Productions as Grammar
use Rattle.grammar.specs.Texts.{Line, Directive, start_in_text}
use Rattle.grammar.proofs.Places.{At, front, no_blanks, at_start, at_past, at_within, at_next, at_run, same_blank, same_line, run_length}
use Rattle.grammar.proofs.Productions.{Dead, dead_line, line_complete}

-- ---- Where a line ends

pub record CutOff (l : List ℕ) : Type 0 where
  pub line : List ℕ
  pub rest : Option (List ℕ)
  pub cut : Line l line rest

-- every list of bytes begins with a line
pub cut_off : (l : List ℕ) → CutOff l
cut_off l = let f = front line_byte l in go f.word f.rest f.run
  where
    go : (w r : List ℕ) → Run line_byte l w r → CutOff l
    go w [] run = record { line = w; rest = None; cut = Line.last run }
    go w (b ∷ r) run =
        let q : b ≡ 10 = eqb-true b 10 (not-false (is_newline b) run.longest) in
        record { line = w; rest = Some r; cut = Line.newline (rw q at run) }

pub line_clean : {l w : List ℕ} {r : Option (List ℕ)} → Line l w r → all line_byte w ≡ true
line_clean (Line.last run) = run.within
line_clean (Line.newline run) = run.within

module _ (text : List ℕ) where
  pub at_line : {l w : List ℕ} {r : Option (List ℕ)} (p : ℕ) → At text p l → Line l w r → line_at text p ≡ w
  unfolding line_at line_end
  at_line p x (Line.last run) = (at_run text same_line p x run).word
  at_line p x (Line.newline run) = (at_run text same_line p x run).word

  pub go_on_last :
      {l w : List ℕ} (p : ℕ) (d : Model.Directive) (ps : List Production) (rest : ℕ → Model.Directive → List Production → Outcome)
      → At text p l → Run line_byte l w [] → go_on text (line_end text p) d ps rest ≡ accepted (table_of text d ps)
  unfolding line_end
  go_on_last p d ps rest x run = rw (at_past text (run_end Class.Line text p) (at_run text same_line p x run).next)

  pub go_on_next :
      {l w r : List ℕ} (p : ℕ) (d : Model.Directive) (ps : List Production) (rest : ℕ → Model.Directive → List Production → Outcome)
      → At text p l → Run line_byte l w (10 ∷ r) → go_on text (line_end text p) d ps rest ≡ rest (line_end text p + 1) d ps
  unfolding line_end
  go_on_next {l} {w} {r} p d ps rest x run = rw (at_within text (run_end Class.Line text p) 10 r (at_run text same_line p x run).next)

  pub at_next_line : {l w r : List ℕ} (p : ℕ) → At text p l → Run line_byte l w (10 ∷ r) → At text (line_end text p + 1) r
  unfolding line_end
  at_next_line {l} {w} {r} p x run = at_next text (run_end Class.Line text p) 10 r (at_run text same_line p x run).next

  pub at_place : {l : List ℕ} (p : ℕ) → At text p l → p ≡ start_in_text text l
  at_place p x = omega (arith, x.len)

pub line_shorter : {l w r : List ℕ} → Run line_byte l w (10 ∷ r) → length r < length l
line_shorter run = omega (arith, run_length run)

-- ---- Lines of blanks

all_append_false : (test : ℕ → Bool) (w : List ℕ) (b : ℕ) (r : List ℕ) → test b ≡ false → all test (w ++ b ∷ r) ≡ false
all_append_false test [] b r e = rw e
all_append_false test (c ∷ w) b r e = rw (all_append_false test w b r e) (and-false (test c))

pub blank_line : (w : List ℕ) → is_blank_line w ≡ all blank w
unfolding is_blank_line skip
blank_line w = let f = front blank w in go f.word f.rest f.run
  where
    go : (v r : List ℕ) → Run blank w v r → eqb (run_end Class.Blank w 0) (length w) ≡ all blank w
    go v [] run =
        let ran = at_run w same_blank 0 (at_start w) run in
        eq-eqb (run_end Class.Blank w 0) (length w) (omega (arith, ran.stop, run_length run))
        ∙ sym (rw (run.split ∙ append-nil v) run.within)
    go v (b ∷ r) run =
        let ran = at_run w same_blank 0 (at_start w) run in
        ne_eqb (run_end Class.Blank w 0) (length w) (λ (q : run_end Class.Blank w 0 ≡ length w). omega (arith, ran.stop, run_length run))
        ∙ sym (rw run.split (all_append_false blank v b r run.longest))

-- ---- Directives

pub directive_complete : {w : List ℕ} {d : Model.Directive} → Directive w d → directive_of w ≡ Some d
unfolding directive_of
directive_complete Directive.replace = refl
directive_complete Directive.override = refl
directive_complete Directive.augment = refl

pub data DirectiveView (w : List ℕ) : Option Model.Directive → Type 0 where
  absent : ((d : Model.Directive) → Directive w d → ⊥) → DirectiveView w None
  present : {d : Model.Directive} → Directive w d → DirectiveView w (Some d)

directive_tests :
    (w : List ℕ) (a b c : Bool) → same w (bytes "#replace") ≡ a → same w (bytes "#override") ≡ b → same w (bytes "#augment") ≡ c
    → DirectiveView w (directive_of w)
unfolding directive_of
directive_tests w true b c e f g =
    let q : w ≡ bytes "#replace" = same_eq w (bytes "#replace") e in
    let x : Directive w Model.Directive.Replace = rw q Directive.replace in
    rw e (present x)
directive_tests w false true c e f g =
    let q : w ≡ bytes "#override" = same_eq w (bytes "#override") f in
    let x : Directive w Model.Directive.Override = rw q Directive.override in
    rw (e, f) (present x)
directive_tests w false false true e f g =
    let q : w ≡ bytes "#augment" = same_eq w (bytes "#augment") g in
    let x : Directive w Model.Directive.Augment = rw q Directive.augment in
    rw (e, f, g) (present x)
directive_tests w false false false e f g =
    let n : directive_of w ≡ None = rw (e, f, g) in
    rw (e, f, g) (absent (λ d x. let z : ◌≡◌ {A = ℕ} 0 1 = cc (n, directive_complete x) in absurd (omega arith)))

pub directive_view : (w : List ℕ) → DirectiveView w (directive_of w)
directive_view w = directive_tests w (same w (bytes "#replace")) (same w (bytes "#override")) (same w (bytes "#augment")) refl refl refl

-- ---- No line is of two kinds

dead_hash : (m : List ℕ) → Dead (code "#" ∷ m)
dead_hash m =
    record { no_blank = refl; no_bang = refl; no_colon = refl; no_less = refl; no_tilde = refl; no_at = refl; no_name = refl }

hash_line : (m : List ℕ) → line_read (code "#" ∷ m) ≡ LineRead.broken
hash_line m = dead_line (code "#" ∷ m) (no_blanks (code "#" ∷ m) refl) (dead_hash m) refl

no_production_lem : {w : List ℕ} {es : List WrittenEvent} {cs : List WrittenCall} → line_read w ≡ LineRead.broken → Grammar.DerivesProduction w es cs → ⊥
no_production_lem {w} e d = let z : ◌≡◌ {A = ℕ} 0 1 = cc (e, line_complete w d) in omega arith

pub directive_no_production :
    {w : List ℕ} {d : Model.Directive} {es : List WrittenEvent} {cs : List WrittenCall} → Directive w d → Grammar.DerivesProduction w es cs → ⊥
directive_no_production Directive.replace d = no_production_lem (hash_line (bytes "replace")) d
directive_no_production Directive.override d = no_production_lem (hash_line (bytes "override")) d
directive_no_production Directive.augment d = no_production_lem (hash_line (bytes "augment")) d

pub directive_no_blanks : {w : List ℕ} {d : Model.Directive} → Directive w d → all blank w ≡ true → ⊥
directive_no_blanks Directive.replace e = false≢true e
directive_no_blanks Directive.override e = false≢true e
directive_no_blanks Directive.augment e = false≢true e

dead_end : Dead []
dead_end = record { no_blank = refl; no_bang = refl; no_colon = refl; no_less = refl; no_tilde = refl; no_at = refl; no_name = refl }

pub blanks_no_production :
    {w : List ℕ} {es : List WrittenEvent} {cs : List WrittenCall} → all blank w ≡ true → Grammar.DerivesProduction w es cs → ⊥
blanks_no_production {w} e d =
    let y : Blanks w [] = record { blanks = w; run = record { split = sym (append-nil w); within = e; longest = refl } } in
    no_production_lem (dead_line w y dead_end refl) d
