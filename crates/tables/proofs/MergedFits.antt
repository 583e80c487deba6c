-- The merge of two tables that fit, neither itself merged, fits where no limit is passed.
use mathlib.Core.Path.{◌≡◌, refl}
use mathlib.Core.List.{List, [], ◌∷◌, map}
use mathlib.Core.Bool.{Bool, true, false, cond, not, ◌||◌}
use borrow.Author.Tests.{not-true}
use Rattle.words.proofs.Bools.{and_left, and_right, and_both}
use Rattle.model.specs.Lists.{all, those}
use Rattle.model.specs.Tables.{Call, Production, Table}
use Rattle.model.specs.Merging.{is_among, without, merged_productions, mark_second, from_second, merged_table, merge_passes_limit}
use Rattle.model.specs.declared.events.Directive.{Directive}
use Rattle.tables.specs.Layout.{flat}
use Rattle.tables.specs.Fitting.{event_in_range, call_in_range, has_event, fitting}
use Rattle.tables.proofs.Lists.{all_append, all_append_left, all_append_right, all_weaker, all_flat}
use Rattle.tables.proofs.Facts.{FitFacts, fit_facts, facts_fit, TextFacts, text_facts, facts_text, CallFacts, call_facts, facts_call}

module _ {A : Type 0} where
  those_cond : (test keep : A → Bool) (x : A) (xs : List A) (k : Bool) → keep x ≡ k → test x ≡ true → all test (those keep xs) ≡ true
      → all test (cond (keep x) (x ∷ those keep xs) (those keep xs)) ≡ true
  those_cond test keep x xs true q e f = rw q (and_both (test x) (all test (those keep xs)) e f)
  those_cond test keep x xs false q e f = rw q f

  pub all_those : (test keep : A → Bool) (xs : List A) → all test xs ≡ true → all test (those keep xs) ≡ true
  all_those test keep [] e = refl
  all_those test keep (x ∷ xs) e =
      those_cond test keep x xs (keep x) refl (and_left (test x) (all test xs) e)
      (all_those test keep xs (and_right (test x) (all test xs) e))

pub all_map : {A B : Type 0} (test : B → Bool) (f : A → B) (xs : List A) → all (λ x. test (f x)) xs ≡ true → all test (map f xs) ≡ true
all_map test f [] e = refl
all_map test f (x ∷ xs) e =
    and_both (test (f x)) (all test (map f xs)) (and_left (test (f x)) (all (λ y. test (f y)) xs) e)
    (all_map test f xs (and_right (test (f x)) (all (λ y. test (f y)) xs) e))

-- a test of every element of joined lists, list by list
pub flat_all : {A B : Type 0} (test : B → Bool) (f : A → List B) (xs : List A) → all test (flat f xs) ≡ true → all (λ x. all test (f x)) xs ≡ true
unfolding flat
flat_all test f [] e = refl
flat_all test f (x ∷ xs) e =
    and_both (all test (f x)) (all (λ y. all test (f y)) xs) (all_append_left test (f x) (flat f xs) e)
    (flat_all test f xs (all_append_right test (f x) (flat f xs) e))

-- what every production of both tables passes, every production of the merge passes
pub all_merged : (test : Production → Bool) (d : Directive) (old new : List Production) → all test old ≡ true → all test new ≡ true
    → all test (merged_productions d old new) ≡ true
unfolding merged_productions without
all_merged test Directive.Replace old new e f = f
all_merged test Directive.Override old new e f =
    all_append test new (those (λ p. not (is_among new p)) old) f (all_those test (λ p. not (is_among new p)) old e)
all_merged test Directive.Augment old new e f =
    all_append test old (those (λ p. not (is_among old p)) new) e (all_those test (λ p. not (is_among old p)) new f)

-- a call of a table that is not merged is of its first text
unmarked : (merged second : Bool) → merged ≡ false → (merged || not second) ≡ true → second ≡ false
unmarked merged second m e = not-true second (rw m at e)

module _ (old new : Table) (fo : fitting old ≡ true) (fn : fitting new ≡ true) (mo : old.merged ≡ false) (mn : new.merged ≡ false) where
  abbrev m : Table
  m = merged_table old new

  old_call : (c : Call) → call_in_range old c ≡ true → call_in_range (merged_table old new) c ≡ true
  unfolding merged_table
  old_call c e =
      let f : CallFacts old c = call_facts old c e in
      let s : c.second ≡ false = unmarked old.merged c.second mo f.mark in
      facts_call (merged_table old new) c
      (record {
        mark = refl;
        name = rw s (rw s at f.name);
        parameters = rw s (rw s at f.parameters);
      })

  new_call : (c : Call) → call_in_range new c ≡ true → call_in_range (merged_table old new) (mark_second c) ≡ true
  unfolding merged_table
  new_call c e =
      let f : CallFacts new c = call_facts new c e in
      let s : c.second ≡ false = unmarked new.merged c.second mn f.mark in
      facts_call (merged_table old new) (mark_second c)
      (record {
        mark = refl;
        name = rw s at f.name;
        parameters = rw s at f.parameters;
      })

  -- a test of productions, shown for the old table's and for the new one's with their calls marked
  each : (test : Production → Bool) → all test old.productions ≡ true → all (λ (p : Production). test (from_second p)) new.productions ≡ true
      → all test (merged_table old new).productions ≡ true
  unfolding merged_table
  each test e f = all_merged test new.directive old.productions (map from_second new.productions) e (all_map test from_second new.productions f)

  old_facts : FitFacts old
  old_facts = fit_facts old fo

  new_facts : FitFacts new
  new_facts = fit_facts new fn

  calls_marked : (p : Production) → all (call_in_range new) p.calls ≡ true → all (call_in_range (merged_table old new)) (map mark_second p.calls) ≡ true
  calls_marked p e =
      all_map (call_in_range (merged_table old new)) mark_second p.calls
      (all_weaker (call_in_range new) (λ (c : Call). call_in_range (merged_table old new) (mark_second c)) p.calls new_call e)

  texts_fit : TextFacts (merged_table old new)
  unfolding merged_table
  texts_fit =
      record {
        first = (text_facts old old_facts.texts).first;
        second = (text_facts new new_facts.texts).first;
        unused = refl;
      }

  pub merged_fits : merge_passes_limit old new ≡ false → fitting (merged_table old new) ≡ true
  unfolding merge_passes_limit
  merged_fits e =
      facts_fit (merged_table old new)
      (record {
        texts = facts_text (merged_table old new) texts_fit;
        has_events = each has_event old_facts.has_events new_facts.has_events;
        events =
            all_flat event_in_range (λ (p : Production). p.events) (merged_table old new).productions
            (each (λ (p : Production). all event_in_range p.events)
            (flat_all event_in_range (λ (p : Production). p.events) old.productions old_facts.events)
            (flat_all event_in_range (λ (p : Production). p.events) new.productions new_facts.events));
        calls =
            all_flat (call_in_range (merged_table old new)) (λ (p : Production). p.calls) (merged_table old new).productions
            (each (λ (p : Production). all (call_in_range (merged_table old new)) p.calls)
            (all_weaker (λ (p : Production). all (call_in_range old) p.calls) (λ (p : Production). all (call_in_range (merged_table old new)) p.calls) old.productions
            (λ p q. all_weaker (call_in_range old) (call_in_range (merged_table old new)) p.calls old_call q)
            (flat_all (call_in_range old) (λ (p : Production). p.calls) old.productions old_facts.calls))
            (all_weaker (λ (p : Production). all (call_in_range new) p.calls) (λ (p : Production). all (call_in_range (merged_table old new)) (map mark_second p.calls)) new.productions
            calls_marked
            (flat_all (call_in_range new) (λ (p : Production). p.calls) new.productions new_facts.calls)));
        limit = e;
      })
