-- A modifier list read from a position on: what was read so far, with what is left, is the whole.
use Prim.Native.Nat.{ℕ, pred, ◌+◌, ◌≤◌, ◌<◌}
use native.Mathlib.Omega.{arith}
use mathlib.Core.Path.{◌≡◌, refl, sym, ap, subst, ◌∙◌}
use mathlib.Core.Bool.{Bool}
use mathlib.Core.List.{List, [], ◌∷◌, ◌++◌, append_assoc, append-nil}
use lib.ListN.{length}
use Rattle.model.specs.Lists.{part}
use Rattle.model.specs.Events.{Modifier, name, keysym, listed, Modifiers, modifiers, one_more, modifier_at, modifiers_next, modifiers_from, modifiers_at}
use Rattle.model.specs.Bytes.{byte_at}
use Rattle.model.specs.Names.{modifier_named}
use Rattle.model.specs.Details.{key_detail}
use Rattle.model.specs.declared.scan.ModifierRead.{ModifierRead}
use Rattle.list_scanner.specs.ModifierLists.{modifiers_in}
use Rattle.scanner.proofs.Ranges.{ModifierIn, modifier_in_lem}
use Rattle.list_scanner.proofs.ListSteps.{modifiers_step}
use Rattle.list_masks.specs.declared.lists.ListSummary.{ListSummary}
use Rattle.list_masks.specs.Summary.{summary_of, with_name, with_keysym_read, SummaryIn}
use Rattle.list_masks.proofs.Listed.{summary_name, summary_keysym, summary_in}
use Rattle.judge.specs.Ranges.{WordsIn}
use Rattle.judge.proofs.Words.{keysym_in, list_rising, words_rising, words_last, part_in}

-- the modifiers of the whole, after those read so far
abbrev after_all : List Modifier → Modifiers → List Modifier
after_all ms Modifiers.broken = []
after_all ms (modifiers ns end) = ms ++ ns

after_none : (m : Modifiers) → modifiers_in m ≡ after_all [] m
after_none Modifiers.broken = refl
after_none (modifiers ns end) = refl

after_more : (ms : List Modifier) (m : Modifier) (rest : Modifiers)
    → after_all ms (one_more m rest) ≡ after_all (ms ++ (m ∷ [])) rest
after_more ms m Modifiers.broken = refl
after_more ms m (modifiers ns end) = sym (append_assoc ms (m ∷ []) ns)

-- where the modifier that is read stands
pub read_place : (l : List ℕ) (i : ℕ) (m : ModifierRead) → i ≤ length l → modifier_at l i ≡ m → ModifierIn (length l) i m
read_place l i m h e = subst (ModifierIn (length l) i) e (modifier_in_lem l i h)

-- at position i, s is the value of the modifiers read so far
pub record Read (l : List ℕ) (bang colon : Bool) (at : ℕ) (s : ListSummary) (i : ℕ) : Type 0 where
  pub fuel : ℕ
  pub past : List Modifier
  pub enough : length l < fuel + i
  pub inside : i ≤ length l
  pub words : WordsIn past
  pub value : s ≡ summary_of (listed bang colon past)
  pub whole : modifiers_in (modifiers_at l at) ≡ after_all past (modifiers_from fuel l i)

module _ (l : List ℕ) (bang colon : Bool) (at : ℕ) where
  abbrev whole_summary : ListSummary
  whole_summary = summary_of (listed bang colon (modifiers_in (modifiers_at l at)))

  pub read_start : (s : ListSummary) → at ≤ length l → s ≡ summary_of (listed bang colon []) → Read l bang colon at s at
  read_start s h e =
      record {
        fuel = length l + 1;
        past = [];
        enough = omega arith;
        inside = h;
        words = tt;
        value = e;
        whole = after_none (modifiers_at l at);
      }

  module _ (s : ListSummary) (i : ℕ) (r : Read l bang colon at s i) where
    pub read_value_in : SummaryIn s
    read_value_in =
        rw r.value
        (summary_in (listed bang colon r.past) (list_rising (listed bang colon r.past) r.words))

    step : (m : ModifierRead) → modifier_at l i ≡ m
        → modifiers_in (modifiers_at l at) ≡ after_all r.past (modifiers_next l m (λ p. modifiers_from (pred r.fuel) l p))
    step m e =
        r.whole
        ∙ ap (after_all r.past) (modifiers_step r.fuel l i m (omega (arith, r.enough, r.inside)) e)

    pub read_broken : modifier_at l i ≡ ModifierRead.Broken → summary_of (listed bang colon []) ≡ whole_summary
    read_broken e = ap (λ (ms : List Modifier). summary_of (listed bang colon ms)) (sym (step ModifierRead.Broken e))

    pub read_end : (p : ℕ) → modifier_at l i ≡ ModifierRead.End p → s ≡ whole_summary
    read_end p e =
        r.value
        ∙ ap (λ (ms : List Modifier). summary_of (listed bang colon ms)) (sym (step (ModifierRead.End p) e ∙ append-nil r.past))

    pub read_name : (tilde : Bool) (start end : ℕ) (t : ListSummary) → modifier_at l i ≡ ModifierRead.Name tilde start end
        → t ≡ with_name s tilde (modifier_named (part l start end)) → i < end → end ≤ length l → Read l bang colon at t end
    read_name tilde start end t e q h k =
        record {
          fuel = pred r.fuel;
          past = r.past ++ (name tilde (part l start end) ∷ []);
          enough = omega (arith, r.enough);
          inside = k;
          words = words_last r.past (name tilde (part l start end)) r.words tt;
          value =
              q
              ∙ ap (λ (x : ListSummary). with_name x tilde (modifier_named (part l start end))) r.value
              ∙ sym (summary_name bang colon r.past tilde (part l start end));
          whole =
              step (ModifierRead.Name tilde start end) e
              ∙ after_more r.past (name tilde (part l start end)) (modifiers_from (pred r.fuel) l end);
        }

    pub read_keysym : (tilde : Bool) (start end : ℕ) (t : ListSummary) → modifier_at l i ≡ ModifierRead.Keysym tilde start end
        → t ≡ with_keysym_read s tilde (key_detail (part l start end)) → i < end → end ≤ length l → byte_at l start < 256
        → Read l bang colon at t end
    read_keysym tilde start end t e q h k b =
        let w : byte_at (part l start end) 0 < 256 = part_in l start end b in
        record {
          fuel = pred r.fuel;
          past = r.past ++ (keysym tilde (part l start end) ∷ []);
          enough = omega (arith, r.enough);
          inside = k;
          words = words_last r.past (keysym tilde (part l start end)) r.words w;
          value =
              q
              ∙ ap (λ (x : ListSummary). with_keysym_read x tilde (key_detail (part l start end))) r.value
              ∙ sym (summary_keysym bang colon r.past tilde (part l start end) (words_rising [] r.past tt r.words) (keysym_in (part l start end) w));
          whole =
              step (ModifierRead.Keysym tilde start end) e
              ∙ after_more r.past (keysym tilde (part l start end)) (modifiers_from (pred r.fuel) l end);
        }
