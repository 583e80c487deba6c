-- The calls of a line: their names and parameters are parts of it.
use Prim.Native.Nat.{ℕ, zero, suc, ◌+◌, ◌≤◌, ◌<◌}
use native.Mathlib.Omega.{arith}
use mathlib.Core.Path.{◌≡◌}
use mathlib.Core.List.{List, [], ◌∷◌}
use mathlib.Core.Bool.{cond}
use lib.Dec.{eqb, leb}
use lib.ListN.{length}
use Rattle.model.specs.Bytes.{sign_at, run_end, skip}
use Rattle.model.specs.Calls.{WrittenCall, span, parameter_end, quoted_from, unquoted_from, parameter_from, parameter_at, Parameters, parameters, parameters_next, parameters_from, parameters_past, parameters_at, call_name_from, call_from, call_at, CallsRead, calls, one_more_call, with_parameters, calls_next, calls_from, right_side}
use Rattle.model.specs.declared.scan.Class.{Class}
use Rattle.model.specs.declared.scan.Span.{Span}
use Rattle.model.specs.declared.scan.CallRead.{CallRead}
use Rattle.model.specs.declared.scan.ParameterRead.{ParameterRead}
use Rattle.tables.proofs.Positions.{cond_both, run_from, run_within, skip_within, sign_within}

abbrev pub Within : ℕ → Span → Type 0
Within n s = s.start + s.len ≤ n

abbrev pub AllWithin : ℕ → List Span → Type 0
AllWithin n [] = Unit
AllWithin n (s ∷ ss) = Within n s × AllWithin n ss

abbrev pub CallWithin : ℕ → WrittenCall → Type 0
CallWithin n c = Within n c.name × AllWithin n c.parameters

abbrev pub CallsWithin : ℕ → List WrittenCall → Type 0
CallsWithin n [] = Unit
CallsWithin n (c ∷ cs) = CallWithin n c × CallsWithin n cs

-- ---- Parameters

abbrev ParameterGood : ℕ → ParameterRead → Type 0
ParameterGood n ParameterRead.Broken = Unit
ParameterGood n (ParameterRead.More start end next) = (start ≤ end) × (end ≤ n) × (next ≤ n)
ParameterGood n (ParameterRead.Last start end next) = (start ≤ end) × (end ≤ n) × (next ≤ n)

end_good : (l : List ℕ) (start end at : ℕ) → start ≤ end → end ≤ length l → ParameterGood (length l) (parameter_end l start end at)
unfolding parameter_end
end_good l start end at p q =
    cond_both (ParameterGood (length l)) (sign_at l at ",") (ParameterRead.More start end (at + 1)) (cond (sign_at l at ")") (ParameterRead.Last start end (at + 1)) ParameterRead.Broken)
    (λ e. let h = sign_within l at 43 e in (p, q, omega arith))
    (λ _. cond_both (ParameterGood (length l)) (sign_at l at ")") (ParameterRead.Last start end (at + 1)) ParameterRead.Broken
    (λ e. let h = sign_within l at 40 e in (p, q, omega arith)) (λ _. tt))

parameter_good : (l : List ℕ) (at : ℕ) → at ≤ length l → ParameterGood (length l) (parameter_from l at)
unfolding parameter_from quoted_from unquoted_from
parameter_good l at h =
    cond_both (ParameterGood (length l)) (sign_at l at "\"") (quoted_from l (at + 1) (run_end Class.Quoted l (at + 1))) (unquoted_from l at (run_end Class.Unquoted l at))
    (λ e. let q = sign_within l at 33 e in
    let b : at + 1 ≤ length l = omega arith in
    cond_both (ParameterGood (length l)) (leb (length l) (run_end Class.Quoted l (at + 1))) ParameterRead.Broken (parameter_end l (at + 1) (run_end Class.Quoted l (at + 1)) (skip l (run_end Class.Quoted l (at + 1) + 1)))
    (λ _. tt)
    (λ _. end_good l (at + 1) (run_end Class.Quoted l (at + 1)) (skip l (run_end Class.Quoted l (at + 1) + 1)) (run_from Class.Quoted l (at + 1)) (run_within Class.Quoted l (at + 1) b)))
    (λ _. end_good l at (run_end Class.Unquoted l at) (skip l (run_end Class.Unquoted l at)) (run_from Class.Unquoted l at) (run_within Class.Unquoted l at h))

abbrev ParametersGood : ℕ → Parameters → Type 0
ParametersGood n Parameters.broken = Unit
ParametersGood n (parameters ss next) = AllWithin n ss

more_good : (n start end : ℕ) (r : Parameters) → start ≤ end → end ≤ n → ParametersGood n r → ParametersGood n (parameters_next (ParameterRead.More start end 0) (λ p. r))
more_good n start end Parameters.broken p q g = tt
more_good n start end (parameters ss next) p q g = (omega arith, g)

next_good_lem : (n : ℕ) (r : ParameterRead) (rest : ℕ → Parameters) → ParameterGood n r → ((p : ℕ) → p ≤ n → ParametersGood n (rest p)) → ParametersGood n (parameters_next r rest)
next_good_lem n ParameterRead.Broken rest g f = tt
next_good_lem n (ParameterRead.More start end next) rest g f = more_good n start end (rest next) g.0 g.1 (f next g.2)
next_good_lem n (ParameterRead.Last start end next) rest g f = let p = g.0 in let q = g.1 in (omega arith, tt)

parameters_good : (fuel : ℕ) (l : List ℕ) (at : ℕ) → at ≤ length l → ParametersGood (length l) (parameters_from fuel l at)
unfolding parameters_from parameter_at
parameters_good zero l at h = tt
parameters_good (suc fuel) l at h =
    next_good_lem (length l) (parameter_at l at) (λ p. parameters_from fuel l p) (parameter_good l (skip l at) (skip_within l at h)) (λ p q. parameters_good fuel l p q)

list_good : (l : List ℕ) (at : ℕ) → at ≤ length l → ParametersGood (length l) (parameters_at l at)
unfolding parameters_at parameters_past
list_good l at h =
    cond_both (ParametersGood (length l)) (sign_at l (skip l at) ")") (parameters [] (skip l at + 1)) (parameters_from (length l + 1) l (skip l at))
    (λ _. tt) (λ _. parameters_good (length l + 1) l (skip l at) (skip_within l at h))

-- ---- Calls

abbrev NameGood : ℕ → CallRead → Type 0
NameGood n CallRead.Broken = Unit
NameGood n CallRead.End = Unit
NameGood n (CallRead.Name start end) = (start ≤ end) × (end < n)

name_good : (l : List ℕ) (at : ℕ) → NameGood (length l) (call_from l at)
unfolding call_from call_name_from
name_good l at =
    cond_both (NameGood (length l)) (leb (length l) at) CallRead.End (call_name_from l at (run_end Class.Call l at))
    (λ _. tt)
    (λ e. cond_both (NameGood (length l)) (eqb (run_end Class.Call l at) at) CallRead.Broken (cond (sign_at l (run_end Class.Call l at) "(") (CallRead.Name at (run_end Class.Call l at)) CallRead.Broken)
    (λ _. tt)
    (λ _. cond_both (NameGood (length l)) (sign_at l (run_end Class.Call l at) "(") (CallRead.Name at (run_end Class.Call l at)) CallRead.Broken
    (λ q. (run_from Class.Call l at, sign_within l (run_end Class.Call l at) 39 q)) (λ _. tt)))

abbrev pub CallsGood : ℕ → CallsRead → Type 0
CallsGood n CallsRead.broken = Unit
CallsGood n (calls cs) = CallsWithin n cs

one_call : (n start end : ℕ) (ss : List Span) (r : CallsRead) → start ≤ end → end < n → AllWithin n ss → CallsGood n r
    → CallsGood n (one_more_call (record { name = span start end; parameters = ss }) r)
one_call n start end ss CallsRead.broken p q a g = tt
one_call n start end ss (calls cs) p q a g = ((omega arith, a), g)

with_good : (n start end : ℕ) (r : Parameters) (rest : ℕ → CallsRead) → start ≤ end → end < n → ParametersGood n r → ((p : ℕ) → CallsGood n (rest p))
    → CallsGood n (with_parameters (span start end) r rest)
with_good n start end Parameters.broken rest p q g f = tt
with_good n start end (parameters ss next) rest p q g f = one_call n start end ss (rest next) p q g (f next)

call_good : (l : List ℕ) (r : CallRead) (rest : ℕ → CallsRead) → NameGood (length l) r → ((p : ℕ) → CallsGood (length l) (rest p)) → CallsGood (length l) (calls_next l r rest)
call_good l CallRead.Broken rest g f = tt
call_good l CallRead.End rest g f = tt
call_good l (CallRead.Name start end) rest g f =
    let q = g.1 in
    let b : end + 1 ≤ length l = omega arith in
    with_good (length l) start end (parameters_at l (end + 1)) rest g.0 g.1 (list_good l (end + 1) b) f

pub calls_good : (fuel : ℕ) (l : List ℕ) (at : ℕ) → CallsGood (length l) (calls_from fuel l at)
unfolding calls_from call_at
calls_good zero l at = tt
calls_good (suc fuel) l at = call_good l (call_at l at) (λ p. calls_from fuel l p) (name_good l (skip l at)) (λ p. calls_good fuel l p)

-- the calls that a line ends with are parts of the line
pub right_good : (l : List ℕ) (at : ℕ) (cs : List WrittenCall) → right_side l at ≡ calls cs → CallsWithin (length l) cs
unfolding right_side
right_good l at cs e = rw e at (calls_good (length l + 1) l at)
