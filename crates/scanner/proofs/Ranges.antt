-- Where the positions that a reader gives can lie: past where it began, and within the line.
use Prim.Native.Nat.{ℕ, ◌+◌, ◌≤◌, ◌<◌}
use native.Mathlib.Omega.{arith}
use mathlib.Core.Path.{◌≡◌, refl}
use mathlib.Core.List.{List}
use mathlib.Core.Bool.{Bool, true, false, cond}
use lib.ListN.{length, get_or}
use lib.Dec.{eqb, leb}
use borrow.Author.Tests.{eqb-false, leb-false}
use Rattle.model.specs.Bytes.{run_end, skip, sign_at}
use Rattle.model.specs.Events.{lead_colon, lead_from, lead_at, keysym_from, name_from, modifier_name_at, modifier_from, modifier_at, type_from, type_run, type_name, type_at, count_close, count_plus, count_run, count_digits, count_from, count_at, marked_key, key_at, after_event_from, after_event_at}
use Rattle.model.specs.Calls.{parameter_end, quoted_from, unquoted_from, parameter_from, parameter_at, call_name_from, call_from, call_at}
use Rattle.model.specs.declared.scan.Class.{Class}
use Rattle.model.specs.declared.scan.Lead.{Lead}
use Rattle.model.specs.declared.scan.ModifierRead.{ModifierRead}
use Rattle.model.specs.declared.scan.TypeRead.{TypeRead}
use Rattle.model.specs.declared.scan.CountRead.{CountRead}
use Rattle.model.specs.declared.scan.KeyMark.{KeyMark}
use Rattle.model.specs.declared.scan.KeyRead.{KeyRead}
use Rattle.model.specs.declared.scan.AfterEvent.{AfterEvent}
use Rattle.model.specs.declared.scan.CallRead.{CallRead}
use Rattle.model.specs.declared.scan.ParameterRead.{ParameterRead}
use Rattle.scanner.proofs.Runs.{run_from, run_in, skip_from, skip_in, sign_in}

-- what holds of both answers, each under its test, holds of the answer
pub cond_in : {A : Type 0} (P : A → Type 0) (t : Bool) {x y : A} → (t ≡ true → P x) → (t ≡ false → P y) → P (cond t x y)
cond_in P true f g = f refl
cond_in P false f g = g refl

-- ---- In a line of n bytes, read from a position on

abbrev pub LeadIn : ℕ → ℕ → Lead → Type 0
LeadIn n at r = (at ≤ r.next) × (r.next ≤ n)

abbrev pub ModifierIn : ℕ → ℕ → ModifierRead → Type 0
ModifierIn n at ModifierRead.Broken = Unit
ModifierIn n at (ModifierRead.End p) = (at ≤ p) × (p < n)
ModifierIn n at (ModifierRead.Name tilde start end) = (at ≤ start) × (start < end) × (end ≤ n)
ModifierIn n at (ModifierRead.Keysym tilde start end) = (at < start) × (start < end) × (end ≤ n)

abbrev pub TypeIn : ℕ → ℕ → TypeRead → Type 0
TypeIn n at TypeRead.Broken = Unit
TypeIn n at (TypeRead.Type start end next) = (at < start) × (start < end) × (end < next) × (next ≤ n)

abbrev pub CountIn : ℕ → ℕ → CountRead → Type 0
CountIn n at CountRead.Broken = Unit
CountIn n at (CountRead.Absent next) = (at ≤ next) × (next ≤ n)
CountIn n at (CountRead.Digits start end plus next) = (at < start) × (start < end) × (end < next) × (next ≤ n)

abbrev pub KeyIn : ℕ → ℕ → KeyRead → Type 0
KeyIn n at KeyRead.Broken = Unit
KeyIn n at (KeyRead.End next) = (at < next) × (next ≤ n)
KeyIn n at (KeyRead.Key mark b next) = (at < next) × (next ≤ n)

abbrev pub AfterIn : ℕ → ℕ → AfterEvent → Type 0
AfterIn n at AfterEvent.Broken = Unit
AfterIn n at (AfterEvent.Comma next) = (at < next) × (next ≤ n)
AfterIn n at (AfterEvent.Colon next) = (at < next) × (next ≤ n)

abbrev pub CallIn : ℕ → ℕ → CallRead → Type 0
CallIn n at CallRead.Broken = Unit
CallIn n at CallRead.End = Unit
CallIn n at (CallRead.Name start end) = (at ≤ start) × (start < end) × (end < n)

abbrev pub ParameterIn : ℕ → ℕ → ParameterRead → Type 0
ParameterIn n at ParameterRead.Broken = Unit
ParameterIn n at (ParameterRead.More start end next) = (at ≤ start) × (start ≤ end) × (end < next) × (next ≤ n)
ParameterIn n at (ParameterRead.Last start end next) = (at ≤ start) × (start ≤ end) × (end < next) × (next ≤ n)

-- ---- Modifiers

lead_colon_in : (l : List ℕ) (bang : Bool) (from at : ℕ) → from ≤ at → at ≤ length l → LeadIn (length l) from (lead_colon l bang at)
unfolding lead_colon
lead_colon_in l bang from at f h =
    cond_in (LeadIn (length l) from) (sign_at l at ":")
    (λ e. (omega arith, omega (arith, sign_in l at 58 (omega arith) e)))
    (λ e. (f, h))

lead_from_in : (l : List ℕ) (from at : ℕ) → from ≤ at → at ≤ length l → LeadIn (length l) from (lead_from l at)
unfolding lead_from
lead_from_in l from at f h =
    cond_in (LeadIn (length l) from) (sign_at l at "!")
    (λ e.
    let k = sign_in l at 33 (omega arith) e in
    let s = skip_from l (at + 1) in
    lead_colon_in l true from (skip l (at + 1)) (omega arith) (skip_in l (at + 1) (omega arith)))
    (λ e. lead_colon_in l false from at f h)

pub lead_in : (l : List ℕ) (at : ℕ) → at ≤ length l → LeadIn (length l) at (lead_at l at)
unfolding lead_at
lead_in l at h = lead_from_in l at (skip l at) (skip_from l at) (skip_in l at h)

-- a run that is not empty
run_past : (c : Class) (l : List ℕ) (at : ℕ) → eqb (run_end c l at) at ≡ false → at < run_end c l at
run_past c l at e =
    let n = eqb-false (run_end c l at) at e in
    let f = run_from c l at in
    omega arith

keysym_from_in : (tilde : Bool) (l : List ℕ) (from at : ℕ) → from < at → at ≤ length l
    → ModifierIn (length l) from (keysym_from tilde l at (run_end Class.Keysym l at))
unfolding keysym_from
keysym_from_in tilde l from at f h =
    cond_in (ModifierIn (length l) from) (eqb (run_end Class.Keysym l at) at)
    (λ e. tt)
    (λ e.
    cond_in (ModifierIn (length l) from) (sign_at l (run_end Class.Keysym l at) "@")
    (λ j. tt)
    (λ j. (f, run_past Class.Keysym l at e, run_in Class.Keysym l at h)))

modifier_name_in : (tilde : Bool) (l : List ℕ) (from at : ℕ) → from ≤ at → at ≤ length l
    → ModifierIn (length l) from (modifier_name_at tilde l at)
unfolding modifier_name_at name_from
modifier_name_in tilde l from at f h =
    cond_in (ModifierIn (length l) from) (eqb (run_end Class.Name l at) at)
    (λ e.
    cond_in (ModifierIn (length l) from) (sign_at l at "@")
    (λ j.
    let k = sign_in l at 64 (omega arith) j in
    keysym_from_in tilde l from (at + 1) (omega arith) (omega arith))
    (λ j. tt))
    (λ e.
    cond_in (ModifierIn (length l) from) (sign_at l (run_end Class.Name l at) "@")
    (λ j. tt)
    (λ j. (f, run_past Class.Name l at e, run_in Class.Name l at h)))

modifier_from_in : (l : List ℕ) (from at : ℕ) → from ≤ at → at ≤ length l → ModifierIn (length l) from (modifier_from l at)
unfolding modifier_from
modifier_from_in l from at f h =
    cond_in (ModifierIn (length l) from) (sign_at l at "<")
    (λ e. (f, sign_in l at 60 (omega arith) e))
    (λ e.
    cond_in (ModifierIn (length l) from) (sign_at l at "~")
    (λ j.
    let k = sign_in l at 126 (omega arith) j in
    let s = skip_from l (at + 1) in
    modifier_name_in true l from (skip l (at + 1)) (omega arith) (skip_in l (at + 1) (omega arith)))
    (λ j. modifier_name_in false l from at f h))

pub modifier_in_lem : (l : List ℕ) (at : ℕ) → at ≤ length l → ModifierIn (length l) at (modifier_at l at)
unfolding modifier_at
modifier_in_lem l at h = modifier_from_in l at (skip l at) (skip_from l at) (skip_in l at h)

-- ---- `<type>`, count, what stands after an event

pub type_in_lem : (l : List ℕ) (at : ℕ) → at < length l → TypeIn (length l) at (type_at l at)
unfolding type_at type_name type_run type_from
type_in_lem l at h =
    let start = skip l (at + 1) in
    let end = run_end Class.Name l start in
    let s = skip_from l (at + 1) in
    let s' = skip_in l (at + 1) (omega arith) in
    let r = run_in Class.Name l start s' in
    let k = skip_from l end in
    cond_in (TypeIn (length l) at) (eqb end start)
    (λ e. tt)
    (λ e.
    let p = run_past Class.Name l start e in
    cond_in (TypeIn (length l) at) (sign_at l (skip l end) ">")
    (λ j.
    let q = sign_in l (skip l end) 62 (omega arith) j in
    (omega arith, p, omega arith, omega arith))
    (λ j. tt))

count_close_in : (l : List ℕ) (from start end : ℕ) (plus : Bool) (close : ℕ) → from < start → start < end → end ≤ close
    → CountIn (length l) from (count_close l start end plus close)
unfolding count_close
count_close_in l from start end plus close f p q =
    cond_in (CountIn (length l) from) (sign_at l close ")")
    (λ e.
    let k = sign_in l close 41 (omega arith) e in
    (f, p, omega arith, omega arith))
    (λ e. tt)

count_digits_in : (l : List ℕ) (from start : ℕ) → from < start → start ≤ length l → CountIn (length l) from (count_digits l start)
unfolding count_digits count_run count_plus
count_digits_in l from start f h =
    let end = run_end Class.Digit l start in
    let s = skip_from l end in
    cond_in (CountIn (length l) from) (eqb end start)
    (λ e. tt)
    (λ e.
    let p = run_past Class.Digit l start e in
    cond_in (CountIn (length l) from) (sign_at l (skip l end) "+")
    (λ j.
    let k = skip_from l (skip l end + 1) in
    count_close_in l from start end true (skip l (skip l end + 1)) f p (omega arith))
    (λ j. count_close_in l from start end false (skip l end) f p s))

pub count_in_lem : (l : List ℕ) (at : ℕ) → at ≤ length l → CountIn (length l) at (count_at l at)
unfolding count_at count_from
count_in_lem l at h =
    let s = skip_from l at in
    cond_in (CountIn (length l) at) (sign_at l (skip l at) "(")
    (λ e.
    let k = sign_in l (skip l at) 40 (omega arith) e in
    let s' = skip_from l (skip l at + 1) in
    count_digits_in l at (skip l (skip l at + 1)) (omega arith) (skip_in l (skip l at + 1) (omega arith)))
    (λ e. (s, skip_in l at h))

pub after_in : (l : List ℕ) (at : ℕ) → AfterIn (length l) at (after_event_at l at)
unfolding after_event_at after_event_from
after_in l at =
    let s = skip_from l at in
    cond_in (AfterIn (length l) at) (sign_at l (skip l at) ",")
    (λ e.
    let k = sign_in l (skip l at) 44 (omega arith) e in
    (omega arith, omega arith))
    (λ e.
    cond_in (AfterIn (length l) at) (sign_at l (skip l at) ":")
    (λ j.
    let k = sign_in l (skip l at) 58 (omega arith) j in
    (omega arith, omega arith))
    (λ j. tt))

-- ---- Key sequences

marked_key_in : (l : List ℕ) (mark : KeyMark) (from at : ℕ) → from ≤ at → KeyIn (length l) from (marked_key l mark at)
unfolding marked_key
marked_key_in l mark from at f =
    cond_in (KeyIn (length l) from) (leb (length l) at)
    (λ e. tt)
    (λ e.
    let k = leb-false (length l) at e in
    cond_in (KeyIn (length l) from) (eqb (get_or l at 0) 9) (λ j. tt) (λ j. (omega arith, omega arith)))

pub key_in : (l : List ℕ) (at : ℕ) → KeyIn (length l) at (key_at l at)
unfolding key_at
key_in l at =
    cond_in (KeyIn (length l) at) (leb (length l) at)
    (λ e. tt)
    (λ e.
    let k = leb-false (length l) at e in
    cond_in (KeyIn (length l) at) (sign_at l at "\"")
    (λ j. (omega arith, omega arith))
    (λ j.
    cond_in (KeyIn (length l) at) (sign_at l at "^")
    (λ i. marked_key_in l KeyMark.Control at (at + 1) (omega arith))
    (λ i.
    cond_in (KeyIn (length l) at) (sign_at l at "\\")
    (λ i. marked_key_in l KeyMark.Quoted at (at + 1) (omega arith))
    (λ i.
    cond_in (KeyIn (length l) at) (sign_at l at "$")
    (λ i. marked_key_in l KeyMark.Meta at (at + 1) (omega arith))
    (λ i. marked_key_in l KeyMark.Plain at at (omega arith))))))

-- ---- Calls

pub call_in_lem : (l : List ℕ) (at : ℕ) → CallIn (length l) at (call_at l at)
unfolding call_at call_from call_name_from
call_in_lem l at =
    let s = skip_from l at in
    let end = run_end Class.Call l (skip l at) in
    cond_in (CallIn (length l) at) (leb (length l) (skip l at))
    (λ e. tt)
    (λ e.
    cond_in (CallIn (length l) at) (eqb end (skip l at))
    (λ j. tt)
    (λ j.
    cond_in (CallIn (length l) at) (sign_at l end "(")
    (λ i. (s, run_past Class.Call l (skip l at) j, sign_in l end 40 (omega arith) i))
    (λ i. tt)))

parameter_end_in : (l : List ℕ) (from start end at : ℕ) → from ≤ start → start ≤ end → end ≤ at
    → ParameterIn (length l) from (parameter_end l start end at)
unfolding parameter_end
parameter_end_in l from start end at f p q =
    cond_in (ParameterIn (length l) from) (sign_at l at ",")
    (λ e.
    let k = sign_in l at 44 (omega arith) e in
    (f, p, omega arith, omega arith))
    (λ e.
    cond_in (ParameterIn (length l) from) (sign_at l at ")")
    (λ j.
    let k = sign_in l at 41 (omega arith) j in
    (f, p, omega arith, omega arith))
    (λ j. tt))

pub parameter_in : (l : List ℕ) (at : ℕ) → ParameterIn (length l) at (parameter_at l at)
unfolding parameter_at parameter_from quoted_from unquoted_from
parameter_in l at =
    let s = skip_from l at in
    let quoted = run_end Class.Quoted l (skip l at + 1) in
    let plain = run_end Class.Unquoted l (skip l at) in
    cond_in (ParameterIn (length l) at) (sign_at l (skip l at) "\"")
    (λ e.
    cond_in (ParameterIn (length l) at) (leb (length l) quoted)
    (λ j. tt)
    (λ j.
    let r = run_from Class.Quoted l (skip l at + 1) in
    let k = skip_from l (quoted + 1) in
    parameter_end_in l at (skip l at + 1) quoted (skip l (quoted + 1)) (omega arith) r (omega arith)))
    (λ e. parameter_end_in l at (skip l at) plain (skip l plain) s (run_from Class.Unquoted l (skip l at)) (skip_from l plain))
