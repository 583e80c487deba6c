-- The right side of a production, one call, and one parameter, at a time.
use Prim.Native.Nat.{ℕ, zero, suc, pred, ◌+◌, ◌≤◌, ◌<◌, max}
use native.Mathlib.Omega.{arith}
use native.Mathlib.Nat.{zero-add, add-zero}
use mathlib.Core.Path.{◌≡◌, refl, sym, ap, ◌∙◌}
use mathlib.Core.List.{List, [], ◌∷◌}
use mathlib.Core.Bool.{Bool, true, false, cond, ◌||◌}
use lib.ListN.{length}
use lib.Dec.{ltb}
use borrow.Author.Tests.{lt-ltb, le-ltb, ltb-true, ltb-false}
use Rattle.model.specs.Lists.{any, in_all}
use Rattle.model.specs.Bytes.{skip, sign_at}
use Rattle.model.specs.Calls.{WrittenCall, span, Parameters, parameters, one_parameter_more, parameter_at, parameters_next, parameters_from, parameters_past, parameters_at, call_at, CallsRead, calls, one_more_call, with_parameters, calls_next, calls_from}
use Rattle.model.specs.declared.scan.Span.{Span}
use Rattle.model.specs.declared.scan.CallRead.{CallRead}
use Rattle.model.specs.declared.scan.ParameterRead.{ParameterRead}
use Rattle.call_scanner.specs.declared.right.ParametersOpen.{ParametersOpen}
use Rattle.call_scanner.specs.declared.right.ParametersRead.{ParametersRead}
use Rattle.call_scanner.specs.declared.right.CallSpans.{CallSpans}
use Rattle.call_scanner.specs.declared.right.RightRead.{RightRead}
use Rattle.call_scanner.specs.RightSide.{open_from, open_at, parameters_counted, call_counted, call_spans, parameter_number, most_of, right_of}
use Rattle.scanner.proofs.Runs.{skip_from, skip_in, sign_in}
use Rattle.scanner.proofs.Ranges.{cond_in, ParameterIn, parameter_in, CallIn, call_in_lem}

-- ---- Parameters

pub parameters_step : (f : ℕ) (l : List ℕ) (at : ℕ) (r : ParameterRead) → 0 < f → parameter_at l at ≡ r
    → parameters_from f l at ≡ parameters_next r (λ p. parameters_from (pred f) l p)
unfolding parameters_from
parameters_step zero l at r h e = absurd (omega arith)
parameters_step (suc f) l at r h e = rw e

-- the count after n parameters
abbrev pub counted_from : ℕ → Parameters → ParametersRead
counted_from n Parameters.broken = ParametersRead.Broken
counted_from n (parameters ss next) = ParametersRead.Parameters (n + length ss) next

pub counted_start : (r : Parameters) → parameters_counted r ≡ counted_from 0 r
counted_start Parameters.broken = refl
counted_start (parameters ss next) = λ i. ParametersRead.Parameters (sym (zero-add (length ss)) i) next

pub counted_more : (n : ℕ) (s : Span) (rest : Parameters) → counted_from n (one_parameter_more s rest) ≡ counted_from (n + 1) rest
counted_more n s Parameters.broken = refl
counted_more n s (parameters ss next) =
    let e : n + suc (length ss) ≡ n + 1 + length ss = omega arith in
    λ i. ParametersRead.Parameters (e i) next

-- where the parameters of a call begin
abbrev pub opened : List ℕ → ParametersOpen → Parameters
opened l (ParametersOpen.Empty next) = parameters [] next
opened l (ParametersOpen.First at) = parameters_from (length l + 1) l at

pub opened_is : (l : List ℕ) (at : ℕ) → opened l (open_at l at) ≡ parameters_at l at
unfolding open_at open_from parameters_at parameters_past
opened_is l at = go (sign_at l (skip l at) ")")
  where
    go : (t : Bool)
        → opened l (cond t (ParametersOpen.Empty (skip l at + 1)) (ParametersOpen.First (skip l at)))
        ≡ cond t (parameters [] (skip l at + 1)) (parameters_from (length l + 1) l (skip l at))
    go true = refl
    go false = refl

abbrev pub OpenIn : ℕ → ℕ → ParametersOpen → Type 0
OpenIn n at (ParametersOpen.Empty next) = (at < next) × (next ≤ n)
OpenIn n at (ParametersOpen.First first) = (at ≤ first) × (first ≤ n)

pub open_in : (l : List ℕ) (at : ℕ) → at ≤ length l → OpenIn (length l) at (open_at l at)
unfolding open_at open_from
open_in l at h =
    let s = skip_from l at in
    cond_in (OpenIn (length l) at) (sign_at l (skip l at) ")")
    (λ e.
    let k = sign_in l (skip l at) 41 (omega arith) e in
    (omega arith, omega arith))
    (λ e. (s, skip_in l at h))

-- reading goes on past as many bytes as there are parameters
abbrev pub ParametersIn : ℕ → ℕ → Parameters → Type 0
ParametersIn n at Parameters.broken = Unit
ParametersIn n at (parameters ss next) = (at + length ss ≤ next) × (at < next) × (next ≤ n)

one_more_in : (n at p : ℕ) (s : Span) (rest : Parameters) → at < p → ParametersIn n p rest → ParametersIn n at (one_parameter_more s rest)
one_more_in n at p s Parameters.broken h k = tt
one_more_in n at p s (parameters ss next) h k = (omega (arith, k.0), omega (arith, k.1), k.2)

next_in : (n at : ℕ) (r : ParameterRead) (rest : ℕ → Parameters) → ParameterIn n at r → ((p : ℕ) → ParametersIn n p (rest p))
    → ParametersIn n at (parameters_next r rest)
next_in n at ParameterRead.Broken rest h k = tt
next_in n at (ParameterRead.More start end next) rest h k =
    one_more_in n at next (span start end) (rest next) (omega (arith, h.0, h.1, h.2)) (k next)
next_in n at (ParameterRead.Last start end next) rest h k =
    (omega (arith, h.0, h.1, h.2), omega (arith, h.0, h.1, h.2), h.3)

pub parameters_in_lem : (f : ℕ) (l : List ℕ) (at : ℕ) → ParametersIn (length l) at (parameters_from f l at)
unfolding parameters_from
parameters_in_lem zero l at = tt
parameters_in_lem (suc f) l at =
    next_in (length l) at (parameter_at l at) (λ p. parameters_from f l p) (parameter_in l at) (λ p. parameters_in_lem f l p)

opened_in : (l : List ℕ) (at : ℕ) (r : ParametersOpen) → OpenIn (length l) at r → ParametersIn (length l) at (opened l r)
opened_in l at (ParametersOpen.Empty next) h = (omega (arith, h.0), h.0, h.1)
opened_in l at (ParametersOpen.First first) h = go (parameters_from (length l + 1) l first) (parameters_in_lem (length l + 1) l first)
  where
    go : (r : Parameters) → ParametersIn (length l) first r → ParametersIn (length l) at r
    go Parameters.broken k = tt
    go (parameters ss next) k = (omega (arith, h.0, k.0), omega (arith, h.0, k.1), k.2)

pub parameters_at_in : (l : List ℕ) (at : ℕ) → at ≤ length l → ParametersIn (length l) at (parameters_at l at)
parameters_at_in l at h = rw (← opened_is l at) (opened_in l at (open_at l at) (open_in l at h))

-- ---- Calls

abbrev pub CallSpansIn : ℕ → ℕ → CallSpans → Type 0
CallSpansIn n at CallSpans.Broken = Unit
CallSpansIn n at CallSpans.End = Unit
CallSpansIn n at (CallSpans.Call start end count next) = (at ≤ start) × (start < end) × (end + count < next) × (next ≤ n)

call_counted_in : (n at start end : ℕ) (r : Parameters) → at ≤ start → start < end → ParametersIn n (end + 1) r
    → CallSpansIn n at (call_counted start end (parameters_counted r))
call_counted_in n at start end Parameters.broken a b h = tt
call_counted_in n at start end (parameters ss next) a b h = (a, b, omega (arith, h.0), h.2)

call_spans_of_in : (l : List ℕ) (at : ℕ) (r : CallRead) → CallIn (length l) at r → CallSpansIn (length l) at (call_spans l r)
call_spans_of_in l at CallRead.Broken h = tt
call_spans_of_in l at CallRead.End h = tt
call_spans_of_in l at (CallRead.Name start end) h =
    call_counted_in (length l) at start end (parameters_at l (end + 1)) h.0 h.1 (parameters_at_in l (end + 1) (omega (arith, h.2)))

pub call_spans_in : (l : List ℕ) (at : ℕ) → CallSpansIn (length l) at (call_spans l (call_at l at))
call_spans_in l at = call_spans_of_in l at (call_at l at) (call_in_lem l at)

-- what is kept of calls, after n of them with p parameters, at most m each
abbrev pub right_from : ℕ → ℕ → ℕ → CallsRead → RightRead
right_from n p m CallsRead.broken = RightRead.Broken
right_from n p m (calls cs) = RightRead.Right (n + length cs) (p + in_all parameter_number cs) (max m (most_of cs))

max_zero : (m : ℕ) → max m 0 ≡ m
max_zero m = omega arith

zero_max : (m : ℕ) → m ≡ max 0 m
zero_max m = omega arith

max_assoc : (a b c : ℕ) → max a (max b c) ≡ max (max a b) c
max_assoc a b c = omega arith

pub right_start : (r : CallsRead) → right_of r ≡ right_from 0 0 0 r
right_start CallsRead.broken = refl
right_start (calls cs) =
    λ i. RightRead.Right (sym (zero-add (length cs)) i) (sym (zero-add (in_all parameter_number cs)) i) (zero_max (most_of cs) i)

abbrev pub right_step : ℕ → ℕ → ℕ → CallSpans → (ℕ → ℕ → ℕ → ℕ → RightRead) → RightRead
right_step n p m CallSpans.Broken rest = RightRead.Broken
right_step n p m CallSpans.End rest = RightRead.Right n p m
right_step n p m (CallSpans.Call start end count next) rest = rest (n + 1) (p + count) (max m count) next

module _ (n p m : ℕ) where
  one_more_right : (c : WrittenCall) (rest : CallsRead)
      → right_from n p m (one_more_call c rest) ≡ right_from (n + 1) (p + parameter_number c) (max m (parameter_number c)) rest
  one_more_right c CallsRead.broken = refl
  one_more_right c (calls cs) =
      let a : n + suc (length cs) ≡ n + 1 + length cs = omega arith in
      let b : p + (parameter_number c + in_all parameter_number cs) ≡ p + parameter_number c + in_all parameter_number cs = omega arith in
      λ i. RightRead.Right (a i) (b i) (max_assoc m (parameter_number c) (most_of cs) i)

  parameters_right : (start end : ℕ) (r : Parameters) (rest : ℕ → CallsRead)
      → right_from n p m (with_parameters (span start end) r rest)
      ≡ right_step n p m (call_counted start end (parameters_counted r)) (λ n p m q. right_from n p m (rest q))
  parameters_right start end Parameters.broken rest = refl
  parameters_right start end (parameters ss next) rest =
      one_more_right (record { name = span start end; parameters = ss }) (rest next)

  next_right : (l : List ℕ) (r : CallRead) (rest : ℕ → CallsRead)
      → right_from n p m (calls_next l r rest) ≡ right_step n p m (call_spans l r) (λ n p m q. right_from n p m (rest q))
  next_right l CallRead.Broken rest = refl
  next_right l CallRead.End rest = λ i. RightRead.Right (add-zero n i) (add-zero p i) (max_zero m i)
  next_right l (CallRead.Name start end) rest = parameters_right start end (parameters_at l (end + 1)) rest

  pub right_step_lem : (f : ℕ) (l : List ℕ) (at : ℕ) (r : CallSpans) → 0 < f → call_spans l (call_at l at) ≡ r
      → right_from n p m (calls_from f l at) ≡ right_step n p m r (λ n p m q. right_from n p m (calls_from (pred f) l q))
  unfolding calls_from
  right_step_lem zero l at r h e = absurd (omega arith)
  right_step_lem (suc f) l at r h e =
      next_right l (call_at l at) (λ q. calls_from f l q)
      ∙ ap (λ (s : CallSpans). right_step n p m s (λ n p m q. right_from n p m (calls_from f l q))) e

-- ---- Limits

pub calls_step : (f : ℕ) (l : List ℕ) (at : ℕ) (r : CallRead) → 0 < f → call_at l at ≡ r
    → calls_from f l at ≡ calls_next l r (λ p. calls_from (pred f) l p)
unfolding calls_from
calls_step zero l at r h e = absurd (omega arith)
calls_step (suc f) l at r h e = rw e

ltb_max : (k a b : ℕ) → ltb k (max a b) ≡ ltb k a || ltb k b
ltb_max k a b = go (ltb k a) (ltb k b) refl refl
  where
    go : (s t : Bool) → ltb k a ≡ s → ltb k b ≡ t → ltb k (max a b) ≡ s || t
    go true t p q = let h : k < a = ltb-true k a p in lt-ltb k (max a b) (omega arith)
    go false true p q = let h : k < b = ltb-true k b q in lt-ltb k (max a b) (omega arith)
    go false false p q =
        let h : a ≤ k = ltb-false k a p in
        let j : b ≤ k = ltb-false k b q in
        le-ltb k (max a b) (omega arith)

-- some call has more than k parameters: the most that one has is more than k
pub most_passes : (k : ℕ) (cs : List WrittenCall) → any (λ c. ltb k (length c.parameters)) cs ≡ ltb k (most_of cs)
most_passes k [] = sym (le-ltb k 0 (omega arith))
most_passes k (c ∷ cs) =
    ap (λ (b : Bool). ltb k (length c.parameters) || b) (most_passes k cs) ∙ sym (ltb_max k (length c.parameters) (most_of cs))
