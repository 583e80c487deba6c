-- What the bounded matcher keeps after each event, in the examples at the head of Kept and in two more.
-- That it does is proved in proofs/AllKept.
use Rattle.std.specs.Prelude.{ℕ, ◌≡◌, Bool, true, false, List, [], ◌∷◌, map, Option, None, Some}
use Rattle.model.specs.Lists.{bytes}
use Rattle.model.specs.Numbers.{matched_selection}
use Rattle.model.specs.Tables.{Table}
use Rattle.model.specs.Setting.{Setting}
use Rattle.model.specs.Compiling.{Outcome, accepted, refused, compiled}
use Rattle.model.specs.Demand.{MatchCall}
use Rattle.model.specs.Examples.{call, press, release, table_p, under_time}
use Rattle.model.specs.MotionExamples.{broken}
use Rattle.model.specs.declared.events.Event.{Event}
use Rattle.machine.specs.Kept.{Kept, fresh, stepped}

-- the times of the kept events, which tell them apart; the marks; and what was selected
pub record Row : Type 0 where
  pub times : List ℕ
  pub used : ℕ
  pub is_open : Bool
  pub selected : Option ℕ

abbrev pub row : List ℕ → ℕ → Bool → Option ℕ → Row
row times used is_open selected = record { times = times; used = used; is_open = is_open; selected = selected }

module _ (t : Table) (setting : Setting) where
  -- after each call
  unfoldable pub rows_from : Kept Event → List MatchCall → List Row
  rows_from k [] = []
  rows_from k (c ∷ cs) =
      row (map (λ x. x.time) (stepped t setting k c).next.events) (stepped t setting k c).next.selected
      (stepped t setting k c).next.is_open (matched_selection (stepped t setting k c).answer)
      ∷ rows_from (stepped t setting k c).next cs

unfoldable pub rows_of : Outcome → List MatchCall → List Row
rows_of (accepted t) cs = rows_from t (under_time 200) fresh cs
rows_of (refused n place) cs = []

pub record KeptExample : Type 0 where
  pub text : List ℕ
  pub calls : List MatchCall
  pub rows : List Row

abbrev pub KeptAsShown : List KeptExample → Type 0
KeptAsShown es = map (λ e. rows_of (compiled e.text) e.calls) es ≡ map (λ e. e.rows) es

-- ---- Events, at a time

-- Button1 is down
abbrev pub dragged : ℕ → MatchCall
dragged time = call 6 0 time 256

-- no button is down
abbrev pub strayed : ℕ → MatchCall
strayed time = call 6 0 time 0

abbrev pub hinted : ℕ → MatchCall
hinted time = call 6 1 time 0

-- ---- The table

unfoldable pub kept_examples : List KeptExample
kept_examples =
    -- the two at the head of Kept
    record {
      text = table_p;
      calls = press 1 1 ∷ release 2 2 ∷ release 1 3 ∷ press 1 4 ∷ release 1 5 ∷ release 1 6 ∷ [];
      rows =
          row (1 ∷ []) 0 true None
          ∷ row [] 0 false None
          ∷ row (3 ∷ []) 1 true (Some 1)
          ∷ row (4 ∷ []) 0 true None
          ∷ row (4 ∷ 5 ∷ []) 2 true (Some 0)
          ∷ row (6 ∷ []) 1 true (Some 1)
          ∷ [];
    }
    ∷ record {
      text = bytes "<BtnDown>,<BtnDown>,<BtnDown>:x()\n<BtnDown>,<Btn1Motion>,<BtnUp>:y()";
      calls = press 1 1 ∷ press 1 2 ∷ strayed 3 ∷ dragged 4 ∷ release 1 5 ∷ [];
      rows =
          row (1 ∷ []) 0 true None
          ∷ row (1 ∷ 2 ∷ []) 0 true None
          ∷ row (2 ∷ 3 ∷ []) 0 false None
          ∷ row (2 ∷ 4 ∷ []) 0 true None
          ∷ row (2 ∷ 4 ∷ 5 ∷ []) 3 true (Some 1)
          ∷ [];
    }
    -- a mark at the motion that is replaced falls back by one: 4 is not used up; and with a press it is forgotten
    ∷ record {
      text = bytes "<BtnDown>,<BtnDown>,<Btn1Motion>:x()\n<BtnDown>,<Motion>,<BtnUp>:y()";
      calls = press 1 1 ∷ press 1 2 ∷ dragged 3 ∷ strayed 4 ∷ press 1 5 ∷ [];
      rows =
          row (1 ∷ []) 0 true None
          ∷ row (1 ∷ 2 ∷ []) 0 true None
          ∷ row (1 ∷ 2 ∷ 3 ∷ []) 3 true (Some 0)
          ∷ row (4 ∷ []) 0 false None
          ∷ row (5 ∷ []) 0 true None
          ∷ [];
    }
    -- a context opened at the motion that is replaced is closed; a release takes no motion's place; a refused call changes nothing
    ∷ record {
      text = bytes "<Motion>Normal,<Btn1Up>:x()";
      calls = strayed 1 ∷ hinted 2 ∷ strayed 3 ∷ broken ∷ release 1 4 ∷ [];
      rows =
          row (1 ∷ []) 0 true None
          ∷ row (2 ∷ []) 0 false None
          ∷ row (3 ∷ []) 0 true None
          ∷ row (3 ∷ []) 0 true None
          ∷ row (3 ∷ 4 ∷ []) 2 true (Some 0)
          ∷ [];
    }
    ∷ []
