-- At every call of a list the matcher answers what the rules name from the whole history, and it keeps what they need of it.
use mathlib.Core.Path.{◌≡◌, refl, sym, ap, ap₂, ◌∙◌, subst}
use mathlib.Core.Bool.{Bool, true, false, cond}
use mathlib.Core.List.{List, [], ◌∷◌, ◌++◌, append_assoc, append-nil}
use lib.Dec.{eqb}
use Rattle.model.specs.Numbers.{match_order}
use Rattle.model.specs.Tables.{Table}
use Rattle.model.specs.Records.{code_of, event_of, is_bad_record, record_read}
use Rattle.model.specs.Setting.{Setting}
use Rattle.model.specs.Selection.{standing}
use Rattle.model.specs.Matching.{reading_of}
use Rattle.model.specs.Compiling.{passes_limit}
use Rattle.model.specs.Demand.{MatchCall, call_checks, call_number, heard, heard_all, selection, named_heard, named, named_from, answers_from}
use Rattle.model.specs.declared.events.Event.{Event}
use Rattle.model.specs.declared.answers.RecordRead.{RecordRead}
use Rattle.machine.specs.Kept.{Kept, fresh, kept_all, Step, step_number, refuse, drop_event, hear, act, stepped, kept_matcher}
use Rattle.machine.proofs.Checks.{none_applies}
use Rattle.machine.proofs.Track.{kept_snoc, choice_snoc}
use Rattle.machine.proofs.Prefix.{reading_closed}
use Rattle.machine.proofs.Limits.{never_full}

module _ (t : Table) (setting : Setting) where
  heard_snoc :
      (before : List MatchCall) (c : MatchCall)
      → heard_all t setting (before ++ (c ∷ [])) ≡ heard_all t setting before ++ heard t setting c
  unfolding heard_all
  heard_snoc [] c = append-nil (heard t setting c)
  heard_snoc (b ∷ bs) c =
      ap (λ h. heard t setting b ++ h) (heard_snoc bs c)
      ∙ sym (append_assoc (heard t setting b) (heard_all t setting bs) (heard t setting c))

  -- a call that no number refuses brings an event
  good_record : (c : MatchCall) → eqb (call_number t setting c) 0 ≡ true → is_bad_record c.bytes c.order ≡ false
  good_record c q = (none_applies (call_checks setting c false) q).record_bad

  event_in : MatchCall → Event
  event_in c = event_of c.bytes c.order (code_of c.bytes)

  read_event_lem : (c : MatchCall) → eqb (call_number t setting c) 0 ≡ true → record_read c.bytes c.order ≡ RecordRead.Event (event_in c)
  unfolding record_read event_in
  read_event_lem c q = rw (good_record c q)

  module _ (w : passes_limit t.productions ≡ false) where
    number_same : (k : Kept Event) (c : MatchCall) → step_number t setting k c ≡ call_number t setting c
    unfolding step_number
    number_same k c =
        ap (λ full. match_order (call_checks setting c full)) (never_full t w setting k (record_read c.bytes c.order))

    -- the state after calls, as the rules need it of their history
    kept_after : List MatchCall → Kept Event
    kept_after cs = kept_all (reading_of t setting) fresh (heard_all t setting cs)

    record Right (before : List MatchCall) (c : MatchCall) (s : Step) : Type 0 where
      answer : s.answer ≡ named t setting before c
      next : s.next ≡ kept_after (before ++ (c ∷ []))

    module _ (before : List MatchCall) (c : MatchCall) where
      -- the call brings no event
      kept_nothing : heard t setting c ≡ [] → kept_after before ≡ kept_after (before ++ (c ∷ []))
      unfolding kept_after
      kept_nothing e =
          sym
          (ap (kept_all (reading_of t setting) fresh)
          (heard_snoc before c ∙ ap (λ es. heard_all t setting before ++ es) e ∙ append-nil (heard_all t setting before)))

      right_refused : eqb (call_number t setting c) 0 ≡ false → Right before c (refuse t setting (call_number t setting c) (kept_after before))
      unfolding named heard
      right_refused q = record { answer = rw q; next = kept_nothing (rw q) }

      module _ (q : eqb (call_number t setting c) 0 ≡ true) where
        heard_is : heard t setting c ≡ cond ((reading_of t setting).known (event_in c)) (event_in c ∷ []) []
        unfolding heard
        heard_is = rw (q, read_event_lem c q)

        named_is : named t setting before c ≡ named_heard t setting (before ++ (c ∷ [])) (heard t setting c)
        unfolding named
        named_is = rw q

        right_dropped : (reading_of t setting).known (event_in c) ≡ false → Right before c (drop_event t setting (kept_after before))
        right_dropped f =
            let e : heard t setting c ≡ [] = heard_is ∙ ap (λ b. cond b (event_in c ∷ []) []) f in
            record {
              answer = sym (named_is ∙ ap (named_heard t setting (before ++ (c ∷ []))) e);
              next = kept_nothing e;
            }

        right_heard : (reading_of t setting).known (event_in c) ≡ true → Right before c (hear t setting (kept_after before) (event_in c))
        unfolding kept_after
        right_heard f =
            let e : heard t setting c ≡ event_in c ∷ [] = heard_is ∙ ap (λ b. cond b (event_in c ∷ []) []) f in
            let h : heard_all t setting (before ++ (c ∷ [])) ≡ heard_all t setting before ++ (event_in c ∷ [])
            = heard_snoc before c ∙ ap (λ es. heard_all t setting before ++ es) e in
            record {
              answer =
                  ap (selection t setting)
                  (choice_snoc (reading_of t setting) (reading_closed setting t) (heard_all t setting before) (event_in c)
                  ∙ ap (λ g. (standing (reading_of t setting) g).selected) (sym h))
                  ∙ sym (named_is ∙ ap (named_heard t setting (before ++ (c ∷ []))) e);
              next =
                  sym
                  (ap (kept_all (reading_of t setting) fresh) h
                  ∙ kept_snoc (reading_of t setting) fresh (heard_all t setting before) (event_in c));
            }

        right_event :
            (b : Bool) → (reading_of t setting).known (event_in c) ≡ b
            → Right before c (act t setting (kept_after before) (RecordRead.Event (event_in c)))
        right_event true f = rw f (right_heard f)
        right_event false f = rw f (right_dropped f)

        right_act : Right before c (act t setting (kept_after before) (record_read c.bytes c.order))
        right_act =
            subst (λ (r : RecordRead). Right before c (act t setting (kept_after before) r)) (sym (read_event_lem c q))
            (right_event ((reading_of t setting).known (event_in c)) refl)

      right_step_lem : Right before c (stepped t setting (kept_after before) c)
      unfolding stepped
      right_step_lem = go (eqb (call_number t setting c) 0) refl
        where
          go : (b : Bool) → eqb (call_number t setting c) 0 ≡ b → Right before c (stepped t setting (kept_after before) c)
          go true q = rw (number_same (kept_after before) c, q) (right_act q)
          go false q = rw (number_same (kept_after before) c, q) (right_refused q)

    selects_from :
        (before cs : List MatchCall)
        → answers_from (kept_matcher t setting) (kept_after before) cs ≡ named_from t setting before cs
    unfolding answers_from named_from
    selects_from before [] = refl
    selects_from before (c ∷ cs) =
        let r = right_step_lem before c in
        ap₂ ◌∷◌ r.answer
        (ap (λ k. answers_from (kept_matcher t setting) k cs) r.next ∙ selects_from (before ++ (c ∷ [])) cs)

    pub selects : (cs : List MatchCall) → answers_from (kept_matcher t setting) fresh cs ≡ named_from t setting [] cs
    unfolding kept_after heard_all kept_all
    selects cs = selects_from [] cs
