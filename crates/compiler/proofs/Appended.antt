-- Entries written one after the other into bytes that hold entries: they hold all of them.
use Prim.Native.Nat.{ℕ, ◌+◌, ◌≤◌, ◌<◌}
use native.Mathlib.Omega.{arith}
use mathlib.Core.Path.{◌≡◌, refl, sym, ap, ◌∙◌}
use mathlib.Core.List.{List, [], ◌∷◌, ◌++◌, append-nil, append_assoc, map-append}
use lib.ListN.{length, length-append}
use Rattle.model.specs.Events.{WrittenEvent}
use Rattle.model.specs.Judging.{judged}
use Rattle.model.specs.Compiling.{keep, judged_all}
use Rattle.model.specs.Tables.{Call, Production}
use Rattle.model.specs.declared.scan.Span.{Span}
use Rattle.model.specs.declared.events.KeptEvent.{KeptEvent}
use Rattle.model.specs.declared.answers.Judged.{Judged}
use Rattle.tables.specs.Layout.{Entries, flat, all_calls, all_parameters, image}
use Rattle.tables.specs.Writing.{put_event, put_call, put_parameter, with_event, with_call, with_parameter, with_production}
use Rattle.tables.proofs.Lists.{flat_append}
use Rattle.tables.proofs.Images.{Room}
use Rattle.tables.proofs.Written as written
use Rattle.line_writer.specs.Puts.{put_judged, put_written, put_parameters, put_whole, put_calls}
use Rattle.line_writer.proofs.AllKept.{kept_first, none_kept}
use Rattle.compiler.specs.Held.{so_far}

-- ---- Entries with more of them

abbrev pub more_events : Entries → List KeptEvent → Entries
more_events x es =
    record {
      header = x.header;
      production_events = x.production_events;
      production_calls = x.production_calls;
      events = x.events ++ es;
      calls = x.calls;
      parameters = x.parameters;
    }

abbrev pub more_parameters : Entries → List Span → Entries
more_parameters x ss =
    record {
      header = x.header;
      production_events = x.production_events;
      production_calls = x.production_calls;
      events = x.events;
      calls = x.calls;
      parameters = x.parameters ++ ss;
    }

abbrev pub more_calls : Entries → List Call → Entries
more_calls x cs =
    record {
      header = x.header;
      production_events = x.production_events;
      production_calls = x.production_calls;
      events = x.events;
      calls = x.calls ++ cs;
      parameters = x.parameters ++ all_parameters cs;
    }

-- ---- Events

put_first : (out : List ℕ) (i : ℕ) (e : WrittenEvent) (es : List WrittenEvent) (k : KeptEvent) → judged e ≡ Judged.Keep k
    → put_written out i (e ∷ es) ≡ put_written (put_event out i k) (i + 1) es
unfolding put_written
put_first out i e es k h = ap (λ (j : Judged). put_written (put_judged out i j) (i + 1) es) h

put_none : (out : List ℕ) (i : ℕ) → put_written out i [] ≡ out
unfolding put_written
put_none out i = refl

event_room : (x : Entries) (e : KeptEvent) → Room x → length x.events < 256 → Room (with_event x e)
event_room x e r h =
    record {
      header = r.header;
      production_events = r.production_events;
      production_calls = r.production_calls;
      events = omega (arith, length-append x.events (e ∷ []));
      calls = r.calls;
      parameters = r.parameters;
    }

pub put_events : (rest : List ℕ) (es : List WrittenEvent) (ks : List KeptEvent) (x : Entries) (i : ℕ) → Room x → judged_all es ≡ keep ks
    → i ≡ length x.events → i + length es ≤ 256 → put_written (image x ++ rest) i es ≡ image (more_events x ks) ++ rest
put_events rest [] ks x i r h q b =
    let n : x.events ++ ks ≡ x.events = ap (λ (l : List KeptEvent). x.events ++ l) (none_kept ks h) ∙ append-nil x.events in
    put_none (image x ++ rest) i
    ∙ ap (λ (l : List KeptEvent). image (record { header = x.header; production_events = x.production_events; production_calls = x.production_calls; events = l; calls = x.calls; parameters = x.parameters }) ++ rest) (sym n)
put_events rest (e ∷ es) ks x i r h q b =
    let f = kept_first e es ks h in
    let k = f.first in
    let y = with_event x k in
    let z : length x.events < 256 = omega arith in
    let n : x.events ++ (k ∷ []) ++ f.others ≡ x.events ++ ks =
    append_assoc x.events (k ∷ []) f.others ∙ ap (λ (l : List KeptEvent). x.events ++ l) (sym f.all) in
    put_first (image x ++ rest) i e es k f.is
    ∙ ap (λ (m : ℕ). put_written (put_event (image x ++ rest) m k) (i + 1) es) q
    ∙ ap (λ (l : List ℕ). put_written l (i + 1) es) (written.put_event_lem x rest r k z)
    ∙ put_events rest es f.others y (i + 1) (event_room x k r z) f.are (omega (arith, length-append x.events (k ∷ []))) (omega arith)
    ∙ ap (λ (l : List KeptEvent). image (record { header = x.header; production_events = x.production_events; production_calls = x.production_calls; events = l; calls = x.calls; parameters = x.parameters }) ++ rest) n

-- ---- Parameters

parameter_room : (x : Entries) (s : Span) → Room x → length x.parameters < 256 → Room (with_parameter x s)
parameter_room x s r h =
    record {
      header = r.header;
      production_events = r.production_events;
      production_calls = r.production_calls;
      events = r.events;
      calls = r.calls;
      parameters = omega (arith, length-append x.parameters (s ∷ []));
    }

abbrev with_spans : Entries → List Span → Entries
with_spans x ss =
    record {
      header = x.header;
      production_events = x.production_events;
      production_calls = x.production_calls;
      events = x.events;
      calls = x.calls;
      parameters = ss;
    }

pub put_parameters_lem : (rest : List ℕ) (ss : List Span) (x : Entries) (i : ℕ) → Room x → i ≡ length x.parameters
    → i + length ss ≤ 256 → put_parameters (image x ++ rest) i ss ≡ image (more_parameters x ss) ++ rest
unfolding put_parameters
put_parameters_lem rest [] x i r q b = ap (λ (l : List Span). image (with_spans x l) ++ rest) (sym (append-nil x.parameters))
put_parameters_lem rest (s ∷ ss) x i r q b =
    let z : length x.parameters < 256 = omega arith in
    ap (λ (m : ℕ). put_parameters (put_parameter (image x ++ rest) m s) (i + 1) ss) q
    ∙ ap (λ (l : List ℕ). put_parameters l (i + 1) ss) (written.put_parameter_lem x rest r s z)
    ∙ put_parameters_lem rest ss (with_parameter x s) (i + 1) (parameter_room x s r z) (omega (arith, length-append x.parameters (s ∷ []))) (omega arith)
    ∙ ap (λ (l : List Span). image (with_spans x l) ++ rest) (append_assoc x.parameters (s ∷ []) ss)

-- ---- Calls

call_room : (x : Entries) (c : Call) → Room x → length x.calls < 128 → Room (with_call x c)
call_room x c r h =
    record {
      header = r.header;
      production_events = r.production_events;
      production_calls = r.production_calls;
      events = r.events;
      calls = omega (arith, length-append x.calls (c ∷ []));
      parameters = r.parameters;
    }

spans_room : (x : Entries) (ss : List Span) → Room x → length x.parameters + length ss ≤ 256 → Room (more_parameters x ss)
spans_room x ss r h =
    record {
      header = r.header;
      production_events = r.production_events;
      production_calls = r.production_calls;
      events = r.events;
      calls = r.calls;
      parameters = omega (arith, length-append x.parameters ss);
    }

put_whole_lem : (rest : List ℕ) (c : Call) (x : Entries) (n p : ℕ) → Room x → n ≡ length x.calls → p ≡ length x.parameters → n < 128
    → p + length c.parameters ≤ 256
    → put_whole (image x ++ rest) n p c ≡ image (more_parameters (with_call x c) c.parameters) ++ rest
unfolding put_whole
put_whole_lem rest c x n p r e q b d =
    let z : length x.calls < 128 = omega arith in
    let w : length x.parameters + length c.parameters ≤ 256 = omega arith in
    let y = more_parameters x c.parameters in
    ap (λ (l : List ℕ). put_call l n c.second c.name (length c.parameters)) (put_parameters_lem rest c.parameters x p r q d)
    ∙ ap (λ (m : ℕ). put_call (image y ++ rest) m c.second c.name (length c.parameters)) e
    ∙ written.put_call_lem y rest (spans_room x c.parameters r w) c z

abbrev with_both : Entries → List Call → List Span → Entries
with_both x cs ss =
    record {
      header = x.header;
      production_events = x.production_events;
      production_calls = x.production_calls;
      events = x.events;
      calls = cs;
      parameters = ss;
    }

parameters_of_cons : (c : Call) (cs : List Call) → all_parameters (c ∷ cs) ≡ c.parameters ++ all_parameters cs
unfolding flat
parameters_of_cons c cs = refl

no_parameters : all_parameters [] ≡ []
unfolding flat
no_parameters = refl

pub put_calls_lem : (rest : List ℕ) (cs : List Call) (x : Entries) (n p : ℕ) → Room x → n ≡ length x.calls → p ≡ length x.parameters
    → n + length cs ≤ 128 → p + length (all_parameters cs) ≤ 256
    → put_calls (image x ++ rest) n p cs ≡ image (more_calls x cs) ++ rest
unfolding put_calls
put_calls_lem rest [] x n p r e q b d =
    let u : x.calls ≡ x.calls ++ [] = sym (append-nil x.calls) in
    let v : x.parameters ≡ x.parameters ++ all_parameters [] =
    sym (ap (λ (l : List Span). x.parameters ++ l) no_parameters ∙ append-nil x.parameters) in
    λ i. image (with_both x (u i) (v i)) ++ rest
put_calls_lem rest (c ∷ cs) x n p r e q b d =
    let s : length (all_parameters (c ∷ cs)) ≡ length c.parameters + length (all_parameters cs) =
    ap length (parameters_of_cons c cs) ∙ length-append c.parameters (all_parameters cs) in
    let z : length x.calls < 128 = omega arith in
    let w : length x.parameters + length c.parameters ≤ 256 = omega arith in
    let y = more_parameters (with_call x c) c.parameters in
    let u : x.calls ++ (c ∷ []) ++ cs ≡ x.calls ++ (c ∷ cs) = append_assoc x.calls (c ∷ []) cs in
    let v : x.parameters ++ c.parameters ++ all_parameters cs ≡ x.parameters ++ all_parameters (c ∷ cs) =
    append_assoc x.parameters c.parameters (all_parameters cs) ∙ ap (λ (l : List Span). x.parameters ++ l) (sym (parameters_of_cons c cs)) in
    ap (λ (l : List ℕ). put_calls l (n + 1) (p + length c.parameters) cs) (put_whole_lem rest c x n p r e q (omega arith) (omega arith))
    ∙ put_calls_lem rest cs y (n + 1) (p + length c.parameters) (spans_room (with_call x c) c.parameters (call_room x c r z) w)
    (omega (arith, length-append x.calls (c ∷ [])))
    (omega (arith, length-append x.parameters c.parameters))
    (omega arith)
    (omega arith)
    ∙ (λ i. image (with_both x (u i) (v i)) ++ rest)

-- ---- A production

flat_single : {A B : Type 0} (f : A → List B) (x : A) → flat f (x ∷ []) ≡ f x
unfolding flat
flat_single f x = append-nil (f x)

flat_one : {A B : Type 0} (f : A → List B) (xs : List A) (x : A) → flat f (xs ++ (x ∷ [])) ≡ flat f xs ++ f x
flat_one {A} {B} f xs x = flat_append f xs (x ∷ []) ∙ ap (λ (l : List B). flat f xs ++ l) (flat_single f x)

-- the entries of productions, with one production more
pub so_far_more : (ps : List Production) (p : Production)
    → with_production (more_calls (more_events (so_far ps) p.events) p.calls) (length p.events) (length p.calls)
    ≡ so_far (ps ++ (p ∷ []))
so_far_more ps p =
    let a = sym (map-append (λ (q : Production). length q.events) ps (p ∷ [])) in
    let b = sym (map-append (λ (q : Production). length q.calls) ps (p ∷ [])) in
    let c = sym (flat_one (λ (q : Production). q.events) ps p) in
    let d = sym (flat_one (λ (q : Production). q.calls) ps p) in
    let e = sym (flat_append (λ (q : Call). q.parameters) (all_calls ps) p.calls) ∙ ap all_parameters d in
    λ i. record {
      header = [];
      production_events = a i;
      production_calls = b i;
      events = c i;
      calls = d i;
      parameters = e i;
    }
