-- What a table that is lent with its texts says of their parts: each lies within the text that its mark names, and is short.
use Prim.Native.Nat.{ℕ, ◌+◌, ◌≤◌, ◌<◌}
use native.Mathlib.Omega.{arith}
use mathlib.Core.Path.{◌≡◌, refl, ◌∙◌}
use mathlib.Core.List.{List, [], ◌∷◌, ◌++◌}
use Rattle.words.specs.Runs.{run}
use Rattle.writing.proofs.Joined.{run_each}
use Rattle.model.specs.Lists.{bytes}
use Rattle.model.specs.Canonical.{each, parameter_text}
use mathlib.Core.Bool.{Bool, true, false, cond}
use lib.ListN.{length, take, drop}
use Rattle.model.specs.Asking.{part_bytes}
use Rattle.model.specs.declared.scan.Span.{Span}
use Rattle.tables.specs.Reading.{first_length_in, second_length_in, call_total, call_parameters, first_parameter, parameter_entry, mark_entry, name_entry}
use Rattle.table_check.proofs.WholeFacts.{WholeFacts, facts_of_whole}
use Rattle.call_text.specs.declared.Lent.{Lent}

-- a part of a text, of at most 8,192 bytes
pub record Within (text : List ℕ) (s : Span) : Type 0 where
  pub ends : s.start + s.len ≤ length text
  pub short : s.len ≤ 8192

within_of : (mark : Bool) (s : Span) (first second : List ℕ) (a b : ℕ) → s.start + s.len ≤ cond mark b a
    → a ≤ length first → b ≤ length second → a ≤ 8192 → b ≤ 8192 → Within (cond mark second first) s
within_of true s first second a b h p q x y = record { ends = omega arith; short = omega arith }
within_of false s first second a b h p q x y = record { ends = omega arith; short = omega arith }

-- a part of a text in quotes
abbrev pub quoted : List ℕ → Span → List ℕ
quoted text s = bytes "\"" ++ (take s.len (drop s.start text) ++ bytes "\"")

-- a part of the text that a mark names is what the model says
part_is : (mark : Bool) (first second : List ℕ) (s : Span) → take s.len (drop s.start (cond mark second first)) ≡ part_bytes first second mark s
part_is true first second s = refl
part_is false first second s = refl

quoted_is : (mark : Bool) (first second : List ℕ) (s : Span) → quoted (cond mark second first) s ≡ parameter_text first second mark s
unfolding parameter_text
quoted_is mark first second s = rw (part_is mark first second s)

each_quoted : (mark : Bool) (first second : List ℕ) (ss : List Span) → each (quoted (cond mark second first)) ss ≡ each (parameter_text first second mark) ss
each_quoted mark first second [] = refl
each_quoted mark first second (s ∷ ss) = rw (quoted_is mark first second s, each_quoted mark first second ss)

module _ (t : Lent) where
  abbrev l : List ℕ
  l = t.table.now

  -- the text that call i's mark names
  abbrev pub text_at : ℕ → List ℕ
  text_at i = cond (mark_entry l i) t.second.now t.first.now

  lent_facts : WholeFacts l
  lent_facts = facts_of_whole l t.is_whole

  within_at : (i : ℕ) (s : Span) → s.start + s.len ≤ cond (mark_entry l i) (second_length_in l) (first_length_in l) → Within (text_at i) s
  within_at i s h =
      within_of (mark_entry l i) s t.first.now t.second.now (first_length_in l) (second_length_in l) h t.first_long t.second_long lent_facts.first lent_facts.second

  pub parameter_within : (i k : ℕ) → i < call_total l → k < call_parameters l i → Within (text_at i) (parameter_entry l (first_parameter l i + k))
  parameter_within i k h b = within_at i (parameter_entry l (first_parameter l i + k)) (lent_facts.parameter_within i k h b)

  -- call i's name
  pub name_is : (i : ℕ) (mark : Bool) (text : List ℕ) (s : Span) → mark ≡ mark_entry l i → text ≡ cond mark t.second.now t.first.now → s ≡ name_entry l i
      → take s.len (drop s.start text) ≡ part_bytes t.first.now t.second.now (mark_entry l i) (name_entry l i)
  name_is i mark text s em et es = rw (et, em, es) (part_is (mark_entry l i) t.first.now t.second.now (name_entry l i))

  -- call i's parameters, quoted, by the text that its mark names
  pub parameters_quoted : (i from n : ℕ) (mark : Bool) (text : List ℕ) → mark ≡ mark_entry l i → text ≡ cond mark t.second.now t.first.now
      → from ≡ first_parameter l i → n ≡ call_parameters l i
      → run (λ k. quoted text (parameter_entry l (from + k))) 0 n
      ≡ each (parameter_text t.first.now t.second.now (mark_entry l i)) (run (parameter_entry l) (first_parameter l i) (call_parameters l i))
  parameters_quoted i from n mark text em et ef en =
      rw (et, em, ef, en)
      (run_each (quoted (text_at i)) (parameter_entry l) (first_parameter l i) (call_parameters l i)
      ∙ each_quoted (mark_entry l i) t.first.now t.second.now (run (parameter_entry l) (first_parameter l i) (call_parameters l i)))
