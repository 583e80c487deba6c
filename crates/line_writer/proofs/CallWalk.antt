-- The walk over a line's right side that reads and writes its calls: what is left to be read gives what is left to be written.
use Prim.Native.Nat.{ℕ, suc, pred, ◌+◌, ◌≤◌, ◌<◌, max}
use native.Mathlib.Nat.{add-zero}
use native.Mathlib.Omega.{arith}
use mathlib.Core.Path.{◌≡◌, refl, sym, ap, ◌∙◌, subst}
use mathlib.Core.List.{List, [], ◌∷◌, map}
use mathlib.Core.Bool.{false}
use lib.ListN.{length, length-map}
use Rattle.model.specs.Lists.{in_all}
use Rattle.model.specs.Calls.{WrittenCall, span, Parameters, parameters, one_parameter_more, parameters_next, parameter_at, parameters_from, parameters_at, CallsRead, calls, one_more_call, with_parameters, calls_next, call_at, calls_from, right_side}
use Rattle.model.specs.Compiling.{in_text, call_of}
use Rattle.model.specs.declared.scan.Span.{Span}
use Rattle.model.specs.declared.scan.ParameterRead.{ParameterRead}
use Rattle.model.specs.declared.scan.CallRead.{CallRead}
use Rattle.call_scanner.specs.declared.right.ParametersRead.{ParametersRead}
use Rattle.call_scanner.specs.declared.right.CallSpans.{CallSpans}
use Rattle.call_scanner.specs.declared.right.RightRead.{RightRead}
use Rattle.call_scanner.specs.RightSide.{parameters_counted, call_counted, call_spans, parameter_number, calls_in, right_of}
use Rattle.scanner.proofs.Ranges.{ParameterIn, parameter_in, CallIn, call_in_lem}
use Rattle.call_scanner.proofs.RightSide as scanner
use Rattle.call_scanner.proofs.RightSide.{parameters_step, counted_from, counted_start, counted_more, calls_step, ParametersIn, parameters_at_in, CallSpansIn, call_spans_in, right_from, right_step, right_step_lem}
use Rattle.tables.specs.Writing.{put_parameter, put_call}
use Rattle.line_writer.specs.Puts.{put_parameters, put_whole, put_calls}
use Rattle.line_writer.specs.Reads.{ParametersFit, spans_in, CallPut, CallsFit, CallsPut}

-- ---- Parameters

put_parameter_lem : (out : List ℕ) (k : ℕ) (s : Span) (ss : List Span)
    → put_parameters out k (s ∷ ss) ≡ put_parameters (put_parameter out k s) (k + 1) ss
unfolding put_parameters
put_parameter_lem out k s ss = refl

pub put_no_parameter : (out : List ℕ) (k : ℕ) → put_parameters out k [] ≡ out
unfolding put_parameters
put_no_parameter out k = refl

-- from position i on, parameter k is next; the target is the bytes at the end
pub record ParametersLeft (l : List ℕ) (base : ℕ) (target out : List ℕ) (k i : ℕ) : Type 0 where
  pub f : ℕ
  pub ss : List Span
  pub next : ℕ
  pub enough : length l < f + i
  pub inside : i ≤ length l
  pub read : parameters_from f l i ≡ parameters ss next
  pub room : k + length ss ≤ 256
  pub bytes : target ≡ put_parameters out k (map (in_text base) ss)

pub parameters_start : (l : List ℕ) (base : ℕ) (out : List ℕ) (k at : ℕ) → at ≤ length l
    → ParametersFit (parameters_from (length l + 1) l at) k
    → ParametersLeft l base (put_parameters out k (map (in_text base) (spans_in (parameters_from (length l + 1) l at)))) out k at
parameters_start l base out k at h fit = go (parameters_from (length l + 1) l at) refl fit
  where
    go : (r : Parameters) → parameters_from (length l + 1) l at ≡ r → ParametersFit r k
        → ParametersLeft l base (put_parameters out k (map (in_text base) (spans_in r))) out k at
    go Parameters.broken e b = absurd b
    go (parameters ss next) e b =
        record { f = length l + 1; ss = ss; next = next; enough = omega arith; inside = h; read = e; room = b; bytes = refl }

-- where the walk stands past what was read at i
abbrev pub AfterParameter : List ℕ → ℕ → List ℕ → List ℕ → ℕ → ParameterRead → Type 0
AfterParameter l base target out k ParameterRead.Broken = ⊥
AfterParameter l base target out k (ParameterRead.More start end next) =
    (k < 256) × ParametersLeft l base target (put_parameter out k (in_text base (span start end))) (k + 1) next
AfterParameter l base target out k (ParameterRead.Last start end next) =
    (k < 256) × (target ≡ put_parameter out k (in_text base (span start end)))

module _ (l : List ℕ) (base : ℕ) (target out : List ℕ) (k i : ℕ) (g : ParametersLeft l base target out k i) where
  parameter_more : (start end p : ℕ) (r : Parameters) → ParameterIn (length l) i (ParameterRead.More start end p)
      → parameters_from (pred g.f) l p ≡ r → one_parameter_more (span start end) r ≡ parameters g.ss g.next
      → AfterParameter l base target out k (ParameterRead.More start end p)
  parameter_more start end p Parameters.broken b e h = let z : ◌≡◌ {A = ℕ} 0 1 = cc in absurd (omega arith)
  parameter_more start end p (parameters ss n) b e h =
      let q : g.ss ≡ span start end ∷ ss = cc in
      let m : length g.ss ≡ suc (length ss) = ap length q in (
        omega (arith, g.room),
        record {
          f = pred g.f;
          ss = ss;
          next = n;
          enough = omega (arith, g.enough, g.inside, b.0, b.1, b.2);
          inside = b.3;
          read = e;
          room = omega (arith, g.room);
          bytes = g.bytes ∙ ap (λ (x : List Span). put_parameters out k (map (in_text base) x)) q ∙ put_parameter_lem out k (in_text base (span start end)) (map (in_text base) ss);
        },
      )

  parameter_after : (r : ParameterRead) → parameter_at l i ≡ r → ParameterIn (length l) i r → AfterParameter l base target out k r
  parameter_after ParameterRead.Broken e b =
      let s = parameters_step g.f l i ParameterRead.Broken (omega (arith, g.enough, g.inside)) e in
      let w : Parameters.broken ≡ parameters g.ss g.next = sym s ∙ g.read in
      let z : ◌≡◌ {A = ℕ} 0 1 = cc in
      omega arith
  parameter_after (ParameterRead.More start end p) e b =
      let s = parameters_step g.f l i (ParameterRead.More start end p) (omega (arith, g.enough, g.inside)) e in
      parameter_more start end p (parameters_from (pred g.f) l p) b refl (sym s ∙ g.read)
  parameter_after (ParameterRead.Last start end p) e b =
      let s = parameters_step g.f l i (ParameterRead.Last start end p) (omega (arith, g.enough, g.inside)) e in
      let w : parameters (span start end ∷ []) p ≡ parameters g.ss g.next = sym s ∙ g.read in
      let q : g.ss ≡ span start end ∷ [] = cc in
      let m : length g.ss ≡ 1 = ap length q in (
        omega (arith, g.room),
        g.bytes ∙ ap (λ (x : List Span). put_parameters out k (map (in_text base) x)) q
            ∙ put_parameter_lem out k (in_text base (span start end)) []
            ∙ put_no_parameter (put_parameter out k (in_text base (span start end))) (k + 1),
      )

  parameter_here : AfterParameter l base target out k (parameter_at l i)
  parameter_here = parameter_after (parameter_at l i) refl (parameter_in l i)

parameter_told : {l : List ℕ} {base : ℕ} {target out : List ℕ} {k i : ℕ} (g : ParametersLeft l base target out k i) {r : ParameterRead}
    → parameter_at l i ≡ r → AfterParameter l base target out k r
parameter_told {l} {base} {target} {out} {k} {i} g e = subst (AfterParameter l base target out k) e (parameter_here l base target out k i g)

-- at other bytes that are the same
parameters_same : {l : List ℕ} {base : ℕ} {target out new : List ℕ} {k i : ℕ} → ParametersLeft l base target out k i → new ≡ out
    → ParametersLeft l base target new k i
parameters_same {l} {base} {target} {out} {new} {k} {i} g e = subst (λ (o : List ℕ). ParametersLeft l base target o k i) (sym e) g

-- from position i on, after n parameters, whether or not they fit
pub record ParametersWalk (l : List ℕ) (at base first : ℕ) (before out : List ℕ) (i n : ℕ) : Type 0 where
  pub f : ℕ
  pub enough : length l < f + i
  pub inside : i ≤ length l
  pub few : n ≤ i
  pub counted : parameters_counted (parameters_from (length l + 1) l at) ≡ counted_from n (parameters_from f l i)
  pub put : ParametersFit (parameters_from (length l + 1) l at) first
      → ParametersLeft l base (put_parameters before first (map (in_text base) (spans_in (parameters_from (length l + 1) l at)))) out (first + n) i

pub walk_start : (l : List ℕ) (at base first : ℕ) (out : List ℕ) → at ≤ length l → ParametersWalk l at base first out out at 0
walk_start l at base first out h =
    record {
      f = length l + 1;
      enough = omega arith;
      inside = h;
      few = omega arith;
      counted = counted_start (parameters_from (length l + 1) l at);
      put = λ fit.
          subst
          (λ (k : ℕ).
          ParametersLeft l base (put_parameters out first (map (in_text base) (spans_in (parameters_from (length l + 1) l at)))) out k at)
          (sym (add-zero first))
          (parameters_start l base out first at h fit);
    }

module _ {l : List ℕ} {at base first : ℕ} {before out : List ℕ} {i n : ℕ} (g : ParametersWalk l at base first before out i n) where
  abbrev Read : ParametersRead → List ℕ → Type 0
  Read r new =
      (r ≡ parameters_counted (parameters_from (length l + 1) l at))
      × (ParametersFit (parameters_from (length l + 1) l at) first
      → new ≡ put_parameters before first (map (in_text base) (spans_in (parameters_from (length l + 1) l at))))

  stepped : (r : ParameterRead) → parameter_at l i ≡ r
      → parameters_counted (parameters_from (length l + 1) l at) ≡ counted_from n (parameters_next r (λ p. parameters_from (pred g.f) l p))
  stepped r e = g.counted ∙ ap (counted_from n) (parameters_step g.f l i r (omega (arith, g.enough, g.inside)) e)

  pub walk_broken : parameter_at l i ≡ ParameterRead.Broken → Read ParametersRead.Broken out
  walk_broken e = (sym (stepped ParameterRead.Broken e), λ h. absurd (parameter_told (g.put h) e))

  module _ {start end p : ℕ} {new : List ℕ} (w : first + n < 256 → new ≡ put_parameter out (first + n) (in_text base (span start end))) where
    pub walk_last : parameter_at l i ≡ ParameterRead.Last start end p → Read (ParametersRead.Parameters (n + 1) p) new
    walk_last e =
        (sym (stepped (ParameterRead.Last start end p) e), λ h. let x = parameter_told (g.put h) e in w x.0 ∙ sym x.1)

    pub walk_more : parameter_at l i ≡ ParameterRead.More start end p → ParametersWalk l at base first before new p (n + 1)
    walk_more e =
        let b = subst (ParameterIn (length l) i) e (parameter_in l i) in
        let s : first + n + 1 ≡ first + (n + 1) = omega arith in
        record {
          f = pred g.f;
          enough = omega (arith, g.enough, g.inside, b.0, b.1, b.2);
          inside = b.3;
          few = omega (arith, g.few, b.0, b.1, b.2);
          counted = stepped (ParameterRead.More start end p) e ∙ counted_more n (span start end) (parameters_from (pred g.f) l p);
          put = λ h.
              let x = parameter_told (g.put h) e in
              subst
              (λ (k : ℕ).
              ParametersLeft l base (put_parameters before first (map (in_text base) (spans_in (parameters_from (length l + 1) l at)))) new k p)
              s
              (parameters_same x.1 (w x.0));
        }

-- ---- Calls

-- a call, written after its parameters
abbrev pub put_read : ℕ → List ℕ → ℕ → ℕ → ℕ → ℕ → ℕ → Parameters → List ℕ
put_read base out n p start end count r =
    put_call (put_parameters out p (map (in_text base) (spans_in r))) n false (in_text base (span start end)) count

put_call_lem : (base : ℕ) (out : List ℕ) (n p start end next : ℕ) (ss : List Span) (cs : List WrittenCall)
    → put_calls out n p (map (call_of base) (record { name = span start end; parameters = ss } ∷ cs))
    ≡ put_calls (put_read base out n p start end (length ss) (parameters ss next)) (n + 1) (p + length ss) (map (call_of base) cs)
unfolding put_calls put_whole
put_call_lem base out n p start end next ss cs =
    ap
    (λ (m : ℕ).
    put_calls
    (put_call (put_parameters out p (map (in_text base) ss)) n false (in_text base (span start end)) m)
    (n + 1)
    (p + m)
    (map (call_of base) cs))
    (length-map ss (in_text base))

put_no_call : (out : List ℕ) (n p : ℕ) → put_calls out n p [] ≡ out
unfolding put_calls
put_no_call out n p = refl

pub record CallsLeft (l : List ℕ) (base : ℕ) (target out : List ℕ) (n p i : ℕ) : Type 0 where
  pub f : ℕ
  pub cs : List WrittenCall
  pub enough : length l < f + i
  pub inside : i ≤ length l
  pub read : calls_from f l i ≡ calls cs
  pub calls_room : n + length cs ≤ 128
  pub parameters_room : p + in_all parameter_number cs ≤ 256
  pub bytes : target ≡ put_calls out n p (map (call_of base) cs)

pub calls_start_lem : (l : List ℕ) (base : ℕ) (out : List ℕ) (n p at : ℕ) → at ≤ length l → CallsFit (right_side l at) n p
    → CallsLeft l base (put_calls out n p (map (call_of base) (calls_in (right_side l at)))) out n p at
unfolding right_side
calls_start_lem l base out n p at h fit = go (calls_from (length l + 1) l at) refl fit
  where
    go : (r : CallsRead) → calls_from (length l + 1) l at ≡ r → CallsFit r n p
        → CallsLeft l base (put_calls out n p (map (call_of base) (calls_in r))) out n p at
    go CallsRead.broken e b = absurd b
    go (calls cs) e b =
        record { f = length l + 1; cs = cs; enough = omega arith; inside = h; read = e; calls_room = b.0; parameters_room = b.1; bytes = refl }

-- a call that fits
pub record CallHere (l : List ℕ) (base : ℕ) (target out : List ℕ) (n p start end count next : ℕ) : Type 0 where
  pub room : n < 128
  pub fits : ParametersFit (parameters_at l (end + 1)) p
  pub left : CallsLeft l base target (put_read base out n p start end count (parameters_at l (end + 1))) (n + 1) (p + count) next

abbrev pub AfterCall : List ℕ → ℕ → List ℕ → List ℕ → ℕ → ℕ → CallSpans → Type 0
AfterCall l base target out n p CallSpans.Broken = ⊥
AfterCall l base target out n p CallSpans.End = target ≡ out
AfterCall l base target out n p (CallSpans.Call start end count next) = CallHere l base target out n p start end count next

module _ (l : List ℕ) (base : ℕ) (target out : List ℕ) (n p i : ℕ) (g : CallsLeft l base target out n p i) where
  module _ (start end : ℕ) (b : CallIn (length l) i (CallRead.Name start end)) where
    call_more : (ss : List Span) (next : ℕ) (r : CallsRead) → parameters_at l (end + 1) ≡ parameters ss next
        → ParametersIn (length l) (end + 1) (parameters ss next)
        → calls_from (pred g.f) l next ≡ r
        → one_more_call (record { name = span start end; parameters = ss }) r ≡ calls g.cs
        → CallHere l base target out n p start end (length ss) next
    call_more ss next CallsRead.broken q d e h = let z : ◌≡◌ {A = ℕ} 0 1 = cc in absurd (omega arith)
    call_more ss next (calls cs) q d e h =
        let c : WrittenCall = record { name = span start end; parameters = ss } in
        let w : g.cs ≡ c ∷ cs = cc in
        let m : length g.cs ≡ suc (length cs) = ap length w in
        let v : in_all parameter_number g.cs ≡ length ss + in_all parameter_number cs = ap (in_all parameter_number) w in
        record {
          room = omega (arith, g.calls_room);
          fits = subst (λ (r : Parameters). ParametersFit r p) (sym q) (let z : p + length ss ≤ 256 = omega (arith, g.parameters_room) in z);
          left = record {
            f = pred g.f;
            cs = cs;
            enough = omega (arith, g.enough, g.inside, b.0, b.1, d.1);
            inside = d.2;
            read = e;
            calls_room = omega (arith, g.calls_room);
            parameters_room = omega (arith, g.parameters_room);
            bytes = g.bytes ∙ ap (λ (x : List WrittenCall). put_calls out n p (map (call_of base) x)) w
                ∙ put_call_lem base out n p start end next ss cs
                ∙ ap (λ (r : Parameters). put_calls (put_read base out n p start end (length ss) r) (n + 1) (p + length ss) (map (call_of base) cs)) (sym q);
          };
        }

    call_parameters_lem : (r : Parameters) → parameters_at l (end + 1) ≡ r → ParametersIn (length l) (end + 1) r
        → with_parameters (span start end) r (λ q. calls_from (pred g.f) l q) ≡ calls g.cs
        → AfterCall l base target out n p (call_counted start end (parameters_counted r))
    call_parameters_lem Parameters.broken q d h = let z : ◌≡◌ {A = ℕ} 0 1 = cc in absurd (omega arith)
    call_parameters_lem (parameters ss next) q d h = call_more ss next (calls_from (pred g.f) l next) q d refl h

  call_after : (r : CallRead) → CallIn (length l) i r → calls_next l r (λ q. calls_from (pred g.f) l q) ≡ calls g.cs
      → AfterCall l base target out n p (call_spans l r)
  call_after CallRead.Broken b h = let z : ◌≡◌ {A = ℕ} 0 1 = cc in absurd (omega arith)
  call_after CallRead.End b h =
      let w : g.cs ≡ [] = cc in
      g.bytes ∙ ap (λ (x : List WrittenCall). put_calls out n p (map (call_of base) x)) w ∙ put_no_call out n p
  call_after (CallRead.Name start end) b h =
      call_parameters_lem start end b (parameters_at l (end + 1)) refl (parameters_at_in l (end + 1) (omega (arith, b.2))) h

  call_here : AfterCall l base target out n p (call_spans l (call_at l i))
  call_here =
      let s = calls_step g.f l i (call_at l i) (omega (arith, g.enough, g.inside)) refl in
      call_after (call_at l i) (call_in_lem l i) (sym s ∙ g.read)

call_told : {l : List ℕ} {base : ℕ} {target out : List ℕ} {n p i : ℕ} (g : CallsLeft l base target out n p i) {r : CallSpans}
    → call_spans l (call_at l i) ≡ r → AfterCall l base target out n p r
call_told {l} {base} {target} {out} {n} {p} {i} g e = subst (AfterCall l base target out n p) e (call_here l base target out n p i g)

calls_same : {l : List ℕ} {base : ℕ} {target out new : List ℕ} {n p i : ℕ} → CallsLeft l base target out n p i → new ≡ out
    → CallsLeft l base target new n p i
calls_same {l} {base} {target} {out} {new} {n} {p} {i} g e = subst (λ (o : List ℕ). CallsLeft l base target o n p i) (sym e) g

-- from position i on, after c calls with q parameters, at most m each, whether or not they fit
pub record CallsWalk (l : List ℕ) (at base n p : ℕ) (before out : List ℕ) (i c q m : ℕ) : Type 0 where
  pub f : ℕ
  pub enough : length l < f + i
  pub inside : i ≤ length l
  pub few_calls : c ≤ i
  pub few_parameters : q ≤ i
  pub whole : right_of (right_side l at) ≡ right_from c q m (calls_from f l i)
  pub put : CallsFit (right_side l at) n p
      → CallsLeft l base (put_calls before n p (map (call_of base) (calls_in (right_side l at)))) out (n + c) (p + q) i

pub right_start : (l : List ℕ) (at base n p : ℕ) (out : List ℕ) → at ≤ length l → CallsWalk l at base n p out out at 0 0 0
unfolding right_side
right_start l at base n p out h =
    let a : n ≡ n + 0 = omega arith in
    let b : p ≡ p + 0 = omega arith in
    record {
      f = length l + 1;
      enough = omega arith;
      inside = h;
      few_calls = omega arith;
      few_parameters = omega arith;
      whole = scanner.right_start (calls_from (length l + 1) l at);
      put = λ fit.
          subst (λ (k : ℕ). CallsLeft l base (put_calls out n p (map (call_of base) (calls_in (right_side l at)))) out k (p + 0) at) a
          (subst (λ (k : ℕ). CallsLeft l base (put_calls out n p (map (call_of base) (calls_in (right_side l at)))) out n k at) b
          (calls_start_lem l base out n p at h fit));
    }

module _ {l : List ℕ} {at base n p : ℕ} {before out : List ℕ} {i c q m : ℕ} (g : CallsWalk l at base n p before out i c q m) where
  turned : (r : CallSpans) → call_spans l (call_at l i) ≡ r
      → right_of (right_side l at) ≡ right_step c q m r (λ a b d k. right_from a b d (calls_from (pred g.f) l k))
  turned r e = g.whole ∙ right_step_lem c q m g.f l i r (omega (arith, g.enough, g.inside)) e

  pub right_broken : {new : List ℕ} → call_spans l (call_at l i) ≡ CallSpans.Broken
      → (RightRead.Broken ≡ right_of (right_side l at)) × CallsPut l base at n p before new
  right_broken e = (sym (turned CallSpans.Broken e), λ h. absurd (call_told (g.put h) e))

  pub right_end : {new : List ℕ} → call_spans l (call_at l i) ≡ CallSpans.End → new ≡ out
      → (RightRead.Right c q m ≡ right_of (right_side l at)) × CallsPut l base at n p before new
  right_end e w = (sym (turned CallSpans.End e), λ h. w ∙ sym (call_told (g.put h) e))

  module _ {start end count next : ℕ} (e : call_spans l (call_at l i) ≡ CallSpans.Call start end count next) where
    pub call_bounds : (i ≤ start) × (start < end) × (end + count < next) × (next ≤ length l)
    call_bounds = subst (CallSpansIn (length l) i) e (call_spans_in l i)

    pub right_more : {new : List ℕ} {d : ℕ} → CallPut l base (n + c) (p + q) out new (CallSpans.Call start end count next) → d ≡ max m count
        → CallsWalk l at base n p before new next (c + 1) (q + count) d
    right_more {new} {d} w k =
        let b = call_bounds in
        let s : n + c + 1 ≡ n + (c + 1) = omega arith in
        let t : p + q + count ≡ p + (q + count) = omega arith in
        record {
          f = pred g.f;
          enough = omega (arith, g.enough, g.inside, b.0, b.1, b.2);
          inside = b.3;
          few_calls = omega (arith, g.few_calls, b.0, b.1, b.2);
          few_parameters = omega (arith, g.few_parameters, b.0, b.1, b.2);
          whole =
              turned (CallSpans.Call start end count next) e
              ∙ ap (λ (x : ℕ). right_from (c + 1) (q + count) x (calls_from (pred g.f) l next)) (sym k);
          put = λ h.
              let x = call_told (g.put h) e in
              subst (λ (y : ℕ). CallsLeft l base (put_calls before n p (map (call_of base) (calls_in (right_side l at)))) new y (p + (q + count)) next) s
              (subst (λ (y : ℕ). CallsLeft l base (put_calls before n p (map (call_of base) (calls_in (right_side l at)))) new (n + c + 1) y next) t
              (calls_same x.left (w x.room x.fits)));
        }
