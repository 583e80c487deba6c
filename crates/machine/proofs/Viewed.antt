-- Demand 3 passes from a matcher to one whose states stand for its states.
use mathlib.Core.Path.{◌≡◌, refl, sym, ap, ap₂, ◌∙◌}
use mathlib.Core.List.{List, [], ◌∷◌}
use Rattle.model.specs.Numbers.{matched_number, matched_selection}
use Rattle.model.specs.Setting.{Setting}
use Rattle.model.specs.Tables.{Table}
use Rattle.model.specs.Demand.{MatchCall, Matcher, answers_from, state_after, Demand3}
use Rattle.machine.specs.Viewed.{Views}

module _ {S T : Type 0} (m : Matcher S) (n : Matcher T) (view : S → T) (Good : S → Type 0) (v : Views m n view Good) where
  answers_view : (s : S) → Good s → (cs : List MatchCall) → answers_from m s cs ≡ answers_from n (view s) cs
  unfolding answers_from
  answers_view s g [] = refl
  answers_view s g (c ∷ cs) =
      ap₂ ◌∷◌ (v.answer s c g)
      (answers_view (m.next s c) (v.next_good s c g) cs ∙ ap (λ u. answers_from n u cs) (v.next s c g))

  answers_fresh : (cs : List MatchCall) → answers_from m m.fresh cs ≡ answers_from n n.fresh cs
  answers_fresh cs = answers_view m.fresh v.fresh_good cs ∙ ap (λ u. answers_from n u cs) v.fresh

  good_after : (s : S) → Good s → (cs : List MatchCall) → Good (state_after m s cs)
  unfolding state_after
  good_after s g [] = g
  good_after s g (c ∷ cs) = good_after (m.next s c) (v.next_good s c g) cs

  view_after : (s : S) → Good s → (cs : List MatchCall) → view (state_after m s cs) ≡ state_after n (view s) cs
  unfolding state_after
  view_after s g [] = refl
  view_after s g (c ∷ cs) =
      view_after (m.next s c) (v.next_good s c g) cs ∙ ap (λ u. state_after n u cs) (v.next s c g)

  view_fresh : (cs : List MatchCall) → view (state_after m m.fresh cs) ≡ state_after n n.fresh cs
  view_fresh cs = view_after m.fresh v.fresh_good cs ∙ ap (λ u. state_after n u cs) v.fresh

  answer_after :
      (cs : List MatchCall) (c : MatchCall)
      → m.answer (state_after m m.fresh cs) c ≡ n.answer (state_after n n.fresh cs) c
  answer_after cs c =
      v.answer (state_after m m.fresh cs) c (good_after m.fresh v.fresh_good cs) ∙ ap (λ u. n.answer u c) (view_fresh cs)

  -- about one list of calls
  pub viewed : (t : Table) (setting : Setting) (cs : List MatchCall) → Demand3 n t setting cs → Demand3 m t setting cs
  viewed t setting cs d =
      record {
        selects = answers_fresh cs ∙ d.selects;
        refuses = λ before rest c e f.
            let a = answer_after before c in
            let r = d.refuses before rest c e (λ z. f (ap matched_number a ∙ z)) in (
              ap matched_selection a ∙ r.0,
              v.refused (state_after m m.fresh before) c (good_after m.fresh v.fresh_good before) f,
            );
        apart = d.apart;
        blind = λ ds l. answers_fresh cs ∙ d.blind ds l ∙ sym (answers_fresh ds);
      }
