-- Events judged one by one, and limits: what passes a limit still does so with more productions.
use Prim.Native.Nat.{ℕ, ◌≤◌}
use native.Mathlib.Omega.{arith}
use mathlib.Core.Path.{◌≡◌, refl, sym, ap, ◌∙◌}
use mathlib.Core.Bool.{Bool, true, false, cond, ◌||◌, false≢true}
use mathlib.Core.List.{List, [], ◌∷◌, ◌++◌}
use lib.Dec.{eqb, ltb}
use lib.ListN.{length, length-append}
use borrow.Author.Tests.{ltb-true, lt-ltb}
use Rattle.model.specs.Lists.{any, in_all}
use Rattle.model.specs.Bytes.{in_range}
use Rattle.model.specs.Numbers as Numbers
use Rattle.model.specs.Limits.{production_limit, event_limit, call_limit, parameter_limit}
use Rattle.model.specs.Events.{Written, WrittenEvent}
use Rattle.model.specs.Counts.{sequence}
use Rattle.model.specs.Tables.{Production}
use Rattle.model.specs.Judging.{is_unknown, is_out_of_range, is_unbuilt, is_list_not_taken, is_colon_misplaced, is_impossible, event_number, kept_event, keep_unless, judged_as, judged_written, judged_mark, judged}
use Rattle.model.specs.Named.{is_crowded}
use Rattle.model.specs.Names.{type_named}
use Rattle.model.specs.Compiling.{production_passes, events_in_all, calls_in_all, parameters_in_all, totals_pass, passes_limit, EventsJudged, keep, crowded, refuse, keep_one_more, crowded_with, judged_next, judged_all}
use Rattle.model.specs.declared.scan.KeyMark.{KeyMark}
use Rattle.model.specs.declared.names.TypeName.{TypeName}
use Rattle.model.specs.declared.events.KeptEvent.{KeptEvent}
use Rattle.model.specs.declared.answers.Judged.{Judged}
use Rattle.grammar.specs.Compiling as Grammar

-- ---- Events

pub events_kept : {es : List WrittenEvent} {ks : List KeptEvent} → Grammar.EventsKept es ks → judged_all es ≡ keep ks
unfolding judged_all
events_kept Grammar.EventsKept.nothing = refl
events_kept (Grammar.EventsKept.more e d) = rw (e, events_kept d)

pub events_refused : {es : List WrittenEvent} {n : ℕ} → Grammar.EventsRefused es n → judged_all es ≡ refuse n
unfolding judged_all
events_refused (Grammar.EventsRefused.here e) = rw e
events_refused (Grammar.EventsRefused.later e d) = rw (e, events_refused d)
events_refused (Grammar.EventsRefused.after_crowded e d) = rw (e, events_refused d)

pub events_crowded : {es : List WrittenEvent} → Grammar.EventsCrowded es → judged_all es ≡ crowded
unfolding judged_all
events_crowded (Grammar.EventsCrowded.last e d) = rw (e, events_kept d)
events_crowded (Grammar.EventsCrowded.again e d) = rw (e, events_crowded d)
events_crowded (Grammar.EventsCrowded.later e d) = rw (e, events_crowded d)

pub data JudgedView (es : List WrittenEvent) : EventsJudged → Type 0 where
  kept : {ks : List KeptEvent} → Grammar.EventsKept es ks → JudgedView es (keep ks)
  full : Grammar.EventsCrowded es → JudgedView es crowded
  refused : {n : ℕ} → Grammar.EventsRefused es n → JudgedView es (refuse n)

judged_more : {e : WrittenEvent} {k : KeptEvent} {es : List WrittenEvent} {x : EventsJudged} → judged e ≡ Judged.Keep k → JudgedView es x
    → JudgedView (e ∷ es) (keep_one_more k x)
judged_more e (kept d) = kept (Grammar.EventsKept.more e d)
judged_more e (full d) = full (Grammar.EventsCrowded.later e d)
judged_more e (refused d) = refused (Grammar.EventsRefused.later e d)

judged_full : {e : WrittenEvent} {es : List WrittenEvent} {x : EventsJudged} → judged e ≡ Judged.Crowded → JudgedView es x
    → JudgedView (e ∷ es) (crowded_with x)
judged_full e (kept d) = full (Grammar.EventsCrowded.last e d)
judged_full e (full d) = full (Grammar.EventsCrowded.again e d)
judged_full e (refused d) = refused (Grammar.EventsRefused.after_crowded e d)

judged_next_lem : (e : WrittenEvent) (es : List WrittenEvent) (x : EventsJudged) → JudgedView es x → (j : Judged) → judged e ≡ j
    → JudgedView (e ∷ es) (judged_next j x)
judged_next_lem e es x v (Judged.Keep k) q = judged_more q v
judged_next_lem e es x v Judged.Crowded q = judged_full q v
judged_next_lem e es x v (Judged.Refuse n) q = refused (Grammar.EventsRefused.here q)

pub judged_view : (es : List WrittenEvent) → JudgedView es (judged_all es)
unfolding judged_all
judged_view [] = kept Grammar.EventsKept.nothing
judged_view (e ∷ es) = judged_next_lem e es (judged_all es) (judged_view es) (judged e) refl

-- ---- No check on an event gives a number of 1..4

abbrev is_early : ℕ → Bool
is_early n = in_range 1 n 4

unless_late : (n : ℕ) (many : Bool) (k : KeptEvent) → is_early n ≡ false → is_early (Numbers.judged_number (keep_unless n many k)) ≡ false
unless_late n many k e = go (eqb n 0) many
  where
    go : (t m : Bool) → is_early (Numbers.judged_number (cond t (cond m Judged.Crowded (Judged.Keep k)) (Judged.Refuse n))) ≡ false
    go true true = refl
    go true false = refl
    go false m = e

order_late : (a b c d e f : Bool) → is_early (Numbers.event_order a b c d e f) ≡ false
order_late true b c d e f = refl
order_late false true c d e f = refl
order_late false false true d e f = refl
order_late false false false true e f = refl
order_late false false false false true f = refl
order_late false false false false false true = refl
order_late false false false false false false = refl

named_late : (w : Written) (t : TypeName) → is_early (Numbers.judged_number (judged_as w t)) ≡ false
unfolding event_number
named_late w (TypeName.Known ty) =
    unless_late (event_number w ty) (is_crowded w.list) (kept_event w ty)
    (order_late (is_unknown w ty) (is_out_of_range w ty) (is_unbuilt w ty) (is_list_not_taken w ty) (is_colon_misplaced w ty)
    (is_impossible w ty))
named_late w TypeName.Unknown = refl

mark_late : (m : KeyMark) (b : ℕ) → is_early (Numbers.judged_number (judged_mark m b)) ≡ false
mark_late KeyMark.Plain b = refl
mark_late KeyMark.Control b = refl
mark_late KeyMark.Quoted b = refl
mark_late KeyMark.Meta b = refl

judged_late : (e : WrittenEvent) → is_early (Numbers.judged_number (judged e)) ≡ false
unfolding judged judged_written
judged_late (WrittenEvent.event w) = named_late w (type_named w.type_name)
judged_late (WrittenEvent.key k) = mark_late k.mark k.byte

refused_late : {es : List WrittenEvent} {n : ℕ} → Grammar.EventsRefused es n → is_early n ≡ false
refused_late (Grammar.EventsRefused.here {e = e} q) =
    ap (λ (j : Judged). is_early (Numbers.judged_number j)) (sym q) ∙ judged_late e
refused_late (Grammar.EventsRefused.later q d) = refused_late d
refused_late (Grammar.EventsRefused.after_crowded q d) = refused_late d

pub refused_not : {es : List WrittenEvent} {n : ℕ} (m : ℕ) → is_early m ≡ true → Grammar.EventsRefused es n → n ≡ m → ⊥
refused_not m h d f = false≢true (sym (refused_late d) ∙ ap is_early f ∙ h)

-- ---- Limits

or_mono : (a b c d : Bool) → (a ≡ true → c ≡ true) → (b ≡ true → d ≡ true) → (a || b) ≡ true → (c || d) ≡ true
or_mono true b c d f g e = rw (f refl)
or_mono false b true d f g e = refl
or_mono false b false d f g e = g e

any_mono : {A : Type 0} (test : A → Bool) (xs ys : List A) → any test xs ≡ true → any test (xs ++ ys) ≡ true
any_mono test [] ys e = absurd (false≢true e)
any_mono test (x ∷ xs) ys e = or_mono (test x) (any test xs) (test x) (any test (xs ++ ys)) (λ q. q) (any_mono test xs ys) e

in_all_le : {A : Type 0} (measure : A → ℕ) (xs ys : List A) → in_all measure xs ≤ in_all measure (xs ++ ys)
in_all_le measure [] ys = omega arith
in_all_le measure (x ∷ xs) ys = omega (arith, in_all_le measure xs ys)

ltb_mono : (n a b : ℕ) → a ≤ b → ltb n a ≡ true → ltb n b ≡ true
ltb_mono n a b h e = lt-ltb n b (omega (arith, ltb-true n a e))

totals_mono : (ps qs : List Production) → totals_pass ps ≡ true → totals_pass (ps ++ qs) ≡ true
unfolding totals_pass
totals_mono ps qs e =
    or_mono _ _ _ _
    (or_mono _ _ _ _
    (or_mono _ _ _ _
    (ltb_mono production_limit (length ps) (length (ps ++ qs)) (omega (arith, length-append ps qs)))
    (ltb_mono event_limit (events_in_all ps) (events_in_all (ps ++ qs)) (in_all_le (λ p. length (sequence p)) ps qs)))
    (ltb_mono call_limit (calls_in_all ps) (calls_in_all (ps ++ qs)) (in_all_le (λ p. length p.calls) ps qs)))
    (ltb_mono parameter_limit (parameters_in_all ps) (parameters_in_all (ps ++ qs))
    (in_all_le (λ p. in_all (λ c. length c.parameters) p.calls) ps qs))
    e

passes_more : (ps qs : List Production) → passes_limit ps ≡ true → passes_limit (ps ++ qs) ≡ true
unfolding passes_limit
passes_more ps qs e =
    or_mono (any production_passes ps) (totals_pass ps) (any production_passes (ps ++ qs)) (totals_pass (ps ++ qs))
    (any_mono production_passes ps qs) (totals_mono ps qs) e

pub passes_less : (ps qs : List Production) → passes_limit (ps ++ qs) ≡ false → passes_limit ps ≡ false
passes_less ps qs e = go (passes_limit ps) refl
  where
    go : (t : Bool) → passes_limit ps ≡ t → passes_limit ps ≡ false
    go true q = absurd (false≢true (sym e ∙ passes_more ps qs q))
    go false q = q
