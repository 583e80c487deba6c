-- Productions put after those that bytes hold: the bytes hold them too.
use Prim.Native.Nat.{ℕ, suc, ◌+◌, ◌≤◌}
use native.Mathlib.Omega.{arith}
use mathlib.Core.Path.{◌≡◌, refl, sym, ap, subst, ◌∙◌}
use mathlib.Core.Bool.{Bool}
use mathlib.Core.List.{List, [], ◌∷◌, ◌++◌, map, append_assoc, append-nil}
use lib.ListN.{length, length-append, length-map}
use Rattle.model.specs.Tables.{Call, Production}
use Rattle.model.specs.declared.scan.Span.{Span}
use Rattle.model.specs.declared.events.KeptEvent.{KeptEvent}
use Rattle.tables.specs.Layout.{Entries, flat, all_events, all_calls, all_parameters, image}
use Rattle.tables.specs.Writing.{put_event, put_call, put_parameter, no_entries, with_event, with_call, with_parameter}
use Rattle.tables.proofs.Images.{Room}
use Rattle.tables.proofs.Lists.{flat_append}
use Rattle.tables.proofs.Written.{put_event_lem, put_call_lem, put_parameter_lem, put_production_lem}
use Rattle.tally.specs.Kept.{marked_call, from_text}
use Rattle.tally.specs.Counting.{no_tally, tally_one, tally_all, TallyRoom}
use Rattle.copying.specs.Copying.{puts, put_call_in, put_one, put_all}
use Rattle.tally.specs.declared.count.Tally.{Tally}
use Rattle.tally.proofs.Tallies.{TallySums, tally_sums, parameters_marked, one_room, first_room, tail_room, one_after}

-- ---- Several entries

abbrev with_events : Entries → List KeptEvent → Entries
with_events x es =
    record {
      header = x.header;
      production_events = x.production_events;
      production_calls = x.production_calls;
      events = x.events ++ es;
      calls = x.calls;
      parameters = x.parameters;
    }

abbrev with_calls : Entries → List Call → Entries
with_calls x cs =
    record {
      header = x.header;
      production_events = x.production_events;
      production_calls = x.production_calls;
      events = x.events;
      calls = x.calls ++ cs;
      parameters = x.parameters;
    }

abbrev with_parameters : Entries → List Span → Entries
with_parameters x ss =
    record {
      header = x.header;
      production_events = x.production_events;
      production_calls = x.production_calls;
      events = x.events;
      calls = x.calls;
      parameters = x.parameters ++ ss;
    }

room_events : (x : Entries) (es : List KeptEvent) → Room x → length x.events + length es ≤ 256 → Room (with_events x es)
room_events x es r h =
    record {
      header = r.header;
      production_events = r.production_events;
      production_calls = r.production_calls;
      events = omega (arith, length-append x.events es);
      calls = r.calls;
      parameters = r.parameters;
    }

room_calls : (x : Entries) (cs : List Call) → Room x → length x.calls + length cs ≤ 128 → Room (with_calls x cs)
room_calls x cs r h =
    record {
      header = r.header;
      production_events = r.production_events;
      production_calls = r.production_calls;
      events = r.events;
      calls = omega (arith, length-append x.calls cs);
      parameters = r.parameters;
    }

room_parameters : (x : Entries) (ss : List Span) → Room x → length x.parameters + length ss ≤ 256 → Room (with_parameters x ss)
room_parameters x ss r h =
    record {
      header = r.header;
      production_events = r.production_events;
      production_calls = r.production_calls;
      events = r.events;
      calls = r.calls;
      parameters = omega (arith, length-append x.parameters ss);
    }

one_more : {A : Type 0} (xs : List A) (x : A) (n : ℕ) → length xs ≡ n → length (xs ++ (x ∷ [])) ≡ suc n
one_more xs x n e = omega (arith, length-append xs (x ∷ []))

module _ (rest : List ℕ) where
  put_events : (x : Entries) (n : ℕ) (es : List KeptEvent) → Room x → length x.events ≡ n → n + length es ≤ 256
      → puts put_event (image x ++ rest) n es ≡ image (with_events x es) ++ rest
  unfolding puts
  put_events x n [] r e h = rw (append-nil x.events)
  put_events x n (k ∷ ks) r e h =
      ap (λ (l : List ℕ). puts put_event l (suc n) ks)
      (ap (λ (m : ℕ). put_event (image x ++ rest) m k) (sym e) ∙ put_event_lem x rest r k (omega arith))
      ∙ put_events (with_event x k) (suc n) ks (room_events x (k ∷ []) r (omega arith)) (one_more x.events k n e) (omega arith)
      ∙ rw (append_assoc x.events (k ∷ []) ks)

  put_calls_lem : (s : Bool) (x : Entries) (n : ℕ) (cs : List Call) → Room x → length x.calls ≡ n → n + length cs ≤ 128
      → puts (put_call_in s) (image x ++ rest) n cs ≡ image (with_calls x (map (marked_call s) cs)) ++ rest
  unfolding puts
  put_calls_lem s x n [] r e h = rw (append-nil x.calls)
  put_calls_lem s x n (k ∷ ks) r e h =
      ap (λ (l : List ℕ). puts (put_call_in s) l (suc n) ks)
      (ap (λ (m : ℕ). put_call (image x ++ rest) m s k.name (length k.parameters)) (sym e) ∙ put_call_lem x rest r (marked_call s k) (omega arith))
      ∙ put_calls_lem s (with_call x (marked_call s k)) (suc n) ks (room_calls x (marked_call s k ∷ []) r (omega arith)) (one_more x.calls (marked_call s k) n e) (omega arith)
      ∙ rw (append_assoc x.calls (marked_call s k ∷ []) (map (marked_call s) ks))

  put_parameters_lem : (x : Entries) (n : ℕ) (ss : List Span) → Room x → length x.parameters ≡ n → n + length ss ≤ 256
      → puts put_parameter (image x ++ rest) n ss ≡ image (with_parameters x ss) ++ rest
  unfolding puts
  put_parameters_lem x n [] r e h = rw (append-nil x.parameters)
  put_parameters_lem x n (k ∷ ks) r e h =
      ap (λ (l : List ℕ). puts put_parameter l (suc n) ks)
      (ap (λ (m : ℕ). put_parameter (image x ++ rest) m k) (sym e) ∙ put_parameter_lem x rest r k (omega arith))
      ∙ put_parameters_lem (with_parameter x k) (suc n) ks (room_parameters x (k ∷ []) r (omega arith)) (one_more x.parameters k n e) (omega arith)
      ∙ rw (append_assoc x.parameters (k ∷ []) ks)

-- ---- Productions

-- the entries of productions, without a header
unfoldable pub body_of : List Production → Entries
body_of ps =
    record {
      header = [];
      production_events = map (λ (p : Production). length p.events) ps;
      production_calls = map (λ (p : Production). length p.calls) ps;
      events = all_events ps;
      calls = all_calls ps;
      parameters = all_parameters (all_calls ps);
    }

pub body_none : body_of [] ≡ no_entries
unfolding body_of flat
body_none = refl

pub body_room : (ps : List Production) → TallyRoom (tally_all no_tally ps) → Room (body_of ps)
unfolding body_of
body_room ps r =
    let s : TallySums no_tally ps = tally_sums no_tally ps in
    record {
      header = omega arith;
      production_events = omega (arith, length-map ps (λ (p : Production). length p.events), s.productions, r.productions);
      production_calls = omega (arith, length-map ps (λ (p : Production). length p.calls), s.productions, r.productions);
      events = omega (arith, s.events, r.events);
      calls = omega (arith, s.calls, r.calls);
      parameters = omega (arith, s.parameters, r.parameters);
    }

map_one : (f : Production → ℕ) (ps : List Production) (q : Production) → map f (ps ++ (q ∷ [])) ≡ map f ps ++ (f q ∷ [])
map_one f [] q = refl
map_one f (p ∷ ps) q = ap (λ (r : List ℕ). f p ∷ r) (map_one f ps q)

flat_one : {B : Type 0} (f : Production → List B) (ps : List Production) (q : Production) → flat f (ps ++ (q ∷ [])) ≡ flat f ps ++ f q
unfolding flat
flat_one {B} f ps q = flat_append f ps (q ∷ []) ∙ ap (λ (r : List B). flat f ps ++ r) (append-nil (f q))

-- the entries with one production more
abbrev body_with : Bool → List Production → Production → Entries
body_with s ps q =
    record {
      header = [];
      production_events = map (λ (p : Production). length p.events) ps ++ (length q.events ∷ []);
      production_calls = map (λ (p : Production). length p.calls) ps ++ (length q.calls ∷ []);
      events = all_events ps ++ q.events;
      calls = all_calls ps ++ map (marked_call s) q.calls;
      parameters = all_parameters (all_calls ps) ++ all_parameters q.calls;
    }

body_more : (s : Bool) (ps : List Production) (q : Production) → body_with s ps q ≡ body_of (ps ++ (from_text s q ∷ []))
unfolding body_of
body_more s ps q =
    let a = map_one (λ (p : Production). length p.events) ps (from_text s q) in
    let b = map_one (λ (p : Production). length p.calls) ps (from_text s q) in
    let c = flat_one (λ (p : Production). p.events) ps (from_text s q) in
    let d = flat_one (λ (p : Production). p.calls) ps (from_text s q) in
    let e = flat_append (λ (c : Call). c.parameters) (all_calls ps) (map (marked_call s) q.calls) in
    sym (rw (a, b, c, d, e, parameters_marked s q.calls, length-map q.calls (marked_call s)))

module _ (rest : List ℕ) where
  put_one_lem : (s : Bool) (ps : List Production) (q : Production) → TallyRoom (tally_one (tally_all no_tally ps) q)
      → put_one s (image (body_of ps) ++ rest) (tally_all no_tally ps) q ≡ image (body_of (ps ++ (from_text s q ∷ []))) ++ rest
  unfolding put_one tally_one body_of
  put_one_lem s ps q r =
      let t : Tally = tally_all no_tally ps in
      let k : TallySums no_tally ps = tally_sums no_tally ps in
      let x0 : Entries = body_of ps in
      let x1 : Entries = with_events x0 q.events in
      let x2 : Entries = with_calls x1 (map (marked_call s) q.calls) in
      let x3 : Entries = with_parameters x2 (all_parameters q.calls) in
      let lm = length-map q.calls (marked_call s) in
      let lp = length-map ps (λ (p : Production). length p.events) in
      let lc = length-map ps (λ (p : Production). length p.calls) in
      let r0 : Room x0 = body_room ps (one_room t q r) in
      let r1 : Room x1 = room_events x0 q.events r0 (omega (arith, k.events, r.events)) in
      let r2 : Room x2 = room_calls x1 (map (marked_call s) q.calls) r1 (omega (arith, k.calls, r.calls)) in
      let r3 : Room x3 = room_parameters x2 (all_parameters q.calls) r2 (omega (arith, k.parameters, r.parameters)) in
      let e1 = put_events rest x0 t.events q.events r0 (omega (arith, k.events)) r.events in
      let e2 = put_calls_lem rest s x1 t.calls q.calls r1 (omega (arith, k.calls)) r.calls in
      let e3 = put_parameters_lem rest x2 t.parameters (all_parameters q.calls) r2 (omega (arith, k.parameters)) r.parameters in
      let n : t.productions ≡ length x3.production_events = omega (arith, k.productions) in
      let e4 = put_production_lem x3 rest r3 (length q.events) (length q.calls) (omega arith) (omega (arith, k.productions, r.productions)) in
      rw (e1, e2, e3, n) (e4 ∙ ap (λ (x : Entries). image x ++ rest) (body_more s ps q))

  pub put_all_lem : (s : Bool) (ps qs : List Production) → TallyRoom (tally_all (tally_all no_tally ps) qs)
      → put_all s (image (body_of ps) ++ rest) (tally_all no_tally ps) qs ≡ image (body_of (ps ++ map (from_text s) qs)) ++ rest
  unfolding put_all
  put_all_lem s ps [] r = rw (append-nil ps)
  put_all_lem s ps (q ∷ qs) r =
      let m : tally_one (tally_all no_tally ps) q ≡ tally_all no_tally (ps ++ (from_text s q ∷ [])) = one_after s ps q in
      let r1 : TallyRoom (tally_all (tally_one (tally_all no_tally ps) q) qs) = tail_room (tally_all no_tally ps) q qs r in
      rw (put_one_lem s ps q (first_room (tally_all no_tally ps) q qs r), m)
      (put_all_lem s (ps ++ (from_text s q ∷ [])) qs (subst (λ (t : Tally). TallyRoom (tally_all t qs)) m r1)
      ∙ rw (append_assoc ps (from_text s q ∷ []) (map (from_text s) qs)))
