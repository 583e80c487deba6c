-- A line judged by counts, the same as the model's outcome.
use Prim.Native.Nat.{ℕ, ◌+◌}
use mathlib.Core.Path.{◌≡◌, refl, sym, ap, ◌∙◌}
use mathlib.Core.Bool.{Bool, true, false, cond, ◌||◌}
use mathlib.Core.List.{List, [], ◌∷◌, ◌++◌, map}
use lib.Dec.{ltb}
use lib.ListN.{length, length-map}
use Rattle.model.specs.Lists.{any, in_all}
use Rattle.model.specs.Limits.{sequence_limit, calls_of_production_limit, parameters_of_call_limit}
use Rattle.model.specs.Numbers.{not_grammar, past_limit}
use Rattle.model.specs.Tables.{Call, Production}
use Rattle.model.specs.Counts.{sequence, expanded}
use Rattle.model.specs.Events.{WrittenEvent, EventsRead, events, left_side}
use Rattle.model.specs.Calls.{WrittenCall, CallsRead, calls, right_side}
use Rattle.model.specs.Compiling.{production_passes, passes_limit, with_calls, with_events, line_read, EventsJudged, keep, crowded, judged_all, call_of, LineOutcome, add, within_limits, line_judged, line_from, line_outcome}
use Rattle.model.specs.declared.events.KeptEvent.{KeptEvent}
use Rattle.event_scanner.specs.LeftSide.{left_of}
use Rattle.call_scanner.specs.RightSide.{right_of, parameter_number, most_of}
use Rattle.event_scanner.specs.declared.left.LeftRead.{LeftRead}
use Rattle.call_scanner.proofs.RightSide.{most_passes}
use Rattle.lines.specs.declared.totals.Totals.{Totals}
use Rattle.lines.specs.declared.totals.Line.{Line}
use Rattle.lines.specs.declared.left.LeftJudged.{LeftJudged}
use Rattle.lines.specs.declared.line.LineJudged.{LineJudged}
use Rattle.lines.specs.Totals.{parameters_in, totals_of, held_line, with_line}
use Rattle.lines.specs.Left.{IsRead, kept_counts, side_judged}
use Rattle.lines.specs.Line.{calls_found, calls_start, judged_of, line_passes, all_pass, limited, left_verdict, right_verdict, sides_verdict}
use Rattle.lines.proofs.Sums.{passes_more}

-- ---- A production by its counts

module _ {A B : Type 0} where
  any_map : (test : B → Bool) (f : A → B) (xs : List A) → any test (map f xs) ≡ any (λ x. test (f x)) xs
  any_map test f [] = refl
  any_map test f (x ∷ xs) = ap (λ (b : Bool). test (f x) || b) (any_map test f xs)

  sum_map : (measure : B → ℕ) (f : A → B) (xs : List A) → in_all measure (map f xs) ≡ in_all (λ x. measure (f x)) xs
  sum_map measure f [] = refl
  sum_map measure f (x ∷ xs) = ap (λ (n : ℕ). measure (f x) + n) (sum_map measure f xs)

abbrev pub production_of : ℕ → List KeptEvent → List WrittenCall → Production
production_of base ks cs = record { events = ks; calls = map (call_of base) cs }

module _ (base : ℕ) (ks : List KeptEvent) (cs : List WrittenCall) where
  calls_count : length (map (call_of base) cs) ≡ length cs
  calls_count = length-map cs (call_of base)

  parameters_shifted : (c : WrittenCall) → length (call_of base c).parameters ≡ parameter_number c
  parameters_shifted c = length-map c.parameters _

  parameters_count : parameters_in (production_of base ks cs) ≡ in_all parameter_number cs
  parameters_count = sum_map (λ (c : Call). length c.parameters) (call_of base) cs ∙ each cs
    where
      each : (ds : List WrittenCall) → in_all (λ d. length (call_of base d).parameters) ds ≡ in_all parameter_number ds
      each [] = refl
      each (d ∷ ds) = λ i. parameters_shifted d i + each ds i

  counts_of : (right : ℕ)
      → held_line right (production_of base ks cs)
      ≡ record { events = length ks; elements = length (expanded ks); calls = length cs; parameters = in_all parameter_number cs; right = right }
  unfolding held_line sequence
  counts_of right = λ i.
      record {
        events = length ks;
        elements = length (expanded ks);
        calls = calls_count i;
        parameters = parameters_count i;
        right = right;
      }

  parameters_pass :
      any (λ (c : Call). ltb parameters_of_call_limit (length c.parameters)) (map (call_of base) cs) ≡ ltb parameters_of_call_limit (most_of cs)
  parameters_pass =
      any_map (λ (c : Call). ltb parameters_of_call_limit (length c.parameters)) (call_of base) cs
      ∙ each cs
      ∙ most_passes parameters_of_call_limit cs
    where
      each : (ds : List WrittenCall)
          → any (λ d. ltb parameters_of_call_limit (length (call_of base d).parameters)) ds
          ≡ any (λ d. ltb parameters_of_call_limit (length d.parameters)) ds
      each [] = refl
      each (d ∷ ds) = λ i. ltb parameters_of_call_limit (parameters_shifted d i) || each ds i

  line_passes_lem : (right : ℕ) → production_passes (production_of base ks cs) ≡ line_passes (held_line right (production_of base ks cs)) (most_of cs)
  unfolding production_passes line_passes held_line
  line_passes_lem right = λ i.
      ltb sequence_limit (length (sequence (production_of base ks cs)))
      || ltb calls_of_production_limit (length (map (call_of base) cs))
      || parameters_pass i

-- ---- The two verdicts are the same

-- the limits: in the model, of all productions with this one
module _ (ps : List Production) (kept : passes_limit ps ≡ false) (base right : ℕ) (ks : List KeptEvent) (cs : List WrittenCall) where
  passes : passes_limit (ps ++ (production_of base ks cs ∷ []))
      ≡ line_passes (held_line right (production_of base ks cs)) (most_of cs)
      || all_pass (with_line (totals_of ps) (held_line right (production_of base ks cs)))
  passes =
      passes_more ps (production_of base ks cs) right kept
      ∙ ap (λ (b : Bool). b || all_pass (with_line (totals_of ps) (held_line right (production_of base ks cs)))) (line_passes_lem base ks cs right)

  limits : left_verdict (totals_of ps) right (length cs) (in_all parameter_number cs) (most_of cs) (kept_counts (keep ks))
      ≡ judged_of right (within_limits ps (production_of base ks cs))
  unfolding limited
  limits =
      ap (λ (line : Line). limited (totals_of ps) line (most_of cs)) (sym (counts_of base ks cs right))
      ∙ ap (λ (b : Bool). cond b (LineJudged.Refuse past_limit) (LineJudged.Add (held_line right (production_of base ks cs)))) (sym passes)
      ∙ pick (passes_limit (ps ++ (production_of base ks cs ∷ [])))
    where
      pick : (b : Bool)
          → cond b (LineJudged.Refuse past_limit) (LineJudged.Add (held_line right (production_of base ks cs)))
          ≡ judged_of right (cond b (LineOutcome.refuse past_limit) (add (production_of base ks cs)))
      pick true = refl
      pick false = refl

module _ (ps : List Production) (kept : passes_limit ps ≡ false) (base : ℕ) where
  judged_same : (right : ℕ) (j : EventsJudged) (cs : List WrittenCall)
      → left_verdict (totals_of ps) right (length cs) (in_all parameter_number cs) (most_of cs) (kept_counts j)
      ≡ judged_of right (line_judged ps base j cs)
  judged_same right (keep ks) cs = limits ps kept base right ks cs
  judged_same right crowded cs = refl
  judged_same right (EventsJudged.refuse n) cs = refl

  calls_same : (right : ℕ) (es : List WrittenEvent) (r : CallsRead)
      → right_verdict (totals_of ps) right (kept_counts (judged_all es)) (right_of r) ≡ judged_of right (line_from ps base (with_calls es r))
  calls_same right es CallsRead.broken = refl
  calls_same right es (calls cs) = judged_same right (judged_all es) cs

  pub verdict : (l : List ℕ)
      → sides_verdict (totals_of ps) l (side_judged (left_side l)) (left_of (left_side l)) ≡ judged_of (calls_start l) (line_outcome ps base l)
  unfolding calls_start line_outcome line_read
  verdict l = go (left_side l)
    where
      go : (r : EventsRead)
          → sides_verdict (totals_of ps) l (side_judged r) (left_of r) ≡ judged_of (calls_found r) (line_from ps base (with_events l r))
      go EventsRead.broken = refl
      go (events es next) = calls_same next es (right_side l next)

-- ---- The ways through the code

-- an answer that is the verdict on the totals is the model's for all productions that have them
abbrev pub Answers : List ℕ → Totals → LineJudged → Type 0
Answers l t r =
    (ps : List Production) (base : ℕ) → t ≡ totals_of ps → passes_limit ps ≡ false → r ≡ judged_of (calls_start l) (line_outcome ps base l)

module _ (l : List ℕ) (t : Totals) where
  answered : (r : LineJudged) → r ≡ sides_verdict t l (side_judged (left_side l)) (left_of (left_side l)) → Answers l t r
  answered r e ps base q h =
      e ∙ ap (λ (s : Totals). sides_verdict s l (side_judged (left_side l)) (left_of (left_side l))) q ∙ verdict ps h base l

  pub no_left : left_of (left_side l) ≡ LeftRead.Broken → Answers l t (LineJudged.Refuse not_grammar)
  no_left e = answered (LineJudged.Refuse not_grammar) (ap (sides_verdict t l (side_judged (left_side l))) (sym e))

  -- the left side is read to its end
  pub with_left : (next : ℕ) (j : LeftJudged) (r : LineJudged) → left_of (left_side l) ≡ LeftRead.Left next → side_judged (left_side l) ≡ j
      → r ≡ right_verdict t next j (right_of (right_side l next)) → Answers l t r
  with_left next j r e s q =
      answered r
      (q
      ∙ ap (λ (k : LeftJudged). right_verdict t next k (right_of (right_side l next))) (sym s)
      ∙ ap (sides_verdict t l (side_judged (left_side l))) (sym e))

  -- it is read to an event that is refused, where it is in the grammar at all
  pub without_left : (j : LeftJudged) (r : LineJudged) → (IsRead (left_side l) → side_judged (left_side l) ≡ j)
      → r ≡ sides_verdict t l j (left_of (left_side l)) → Answers l t r
  without_left j r s q = answered r (q ∙ go (left_side l) s)
    where
      go : (x : EventsRead) → (IsRead x → side_judged x ≡ j) → sides_verdict t l j (left_of x) ≡ sides_verdict t l (side_judged x) (left_of x)
      go EventsRead.broken h = refl
      go (events es next) h = ap (λ (k : LeftJudged). right_verdict t next k (right_of (right_side l next))) (sym (h tt))
