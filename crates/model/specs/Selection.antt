-- Document 01, "Selection", rules 3 and 4, as document 02, R-2, reads them: steps over every heard event in turn.
--
-- An example: table P of document 01, `<Btn1Down>,<Btn1Up>:toves()` and `<Btn1Up>:did()`.
--
--     event         context from   latest start   last selection   selected
--     at first      none           0              0
--     1 press 1     1              1              0                none: 1..1 is a prefix of toves's, and no more
--     2 release 2   none           1              0                none: neither 1..2 nor 2..2 reads as a prefix
--     3 release 1   3              3              3                did(): 2..3 reads as no prefix, 3..3 is did's whole sequence
--     4 press 1     4              4              3                none: 3..4 reads as no prefix
--     5 release 1   4              4              5                toves(): 4..5 goes on, and did() inside it is not taken
--     6 release 1   6              6              6                did(): a new start lies after 4 and after 5
--
-- And a drag, on `<Btn1Down>,<Btn1Motion>:drag()` and `<Btn1Down>,<Btn1Motion>,<Btn1Up>:drop()`; `history` shows which heard
-- event each place holds.
--
--     event         history   context from   latest start   last selection   selected
--     1 press 1     1         1              1              0                none
--     2 drag        1 2       1              1              2                drag()
--     3 drag        1 3       1              1              2                drag(): 3 takes place 2, and the mark there falls to 1
--     4 release 1   1 3 4     1              1              3                drop()
--
-- Each line is what stands after that event; `context`, `latest`, `last` and `selected` are fields of `Standing`.
use Rattle.std.specs.Prelude.{ℕ, zero, suc, pred, max, ◌-◌, Bool, false, cond, ◌&&◌, List, [], ◌∷◌, ◌++◌, eqb, length, take, drop, Option, None, Some}

-- What the rules ask of a table.
pub record Reading (E : Type 0) : Type 0 where
  -- rule 1: some production has an event of its type
  pub known : E → Bool
  -- rule 2: the stretch reads as a prefix of some production
  pub prefix : List E → Bool
  -- rule 4: the earliest production whose whole sequence the stretch is
  pub chosen : List E → Option ℕ
  -- R-2: it is a motion event
  pub motion : E → Bool

-- What stands after a heard event. Marks are places of the history, from 1 on.
pub record Standing (E : Type 0) : Type 0 where
  -- "the thinned history as it then stands"
  pub history : List E
  -- which heard event each place of it holds; heard events are numbered from 1 in order, the replaced ones too
  pub numbers : List ℕ
  -- the number of the latest heard event, 0 at first
  pub number : ℕ
  -- the start of the context that is open
  pub context : Option ℕ
  -- "the latest start there was, 0 at first"
  pub latest : ℕ
  -- "the last event at which anything was selected (0 at first)"
  pub last : ℕ
  -- the production selected at this event
  pub selected : Option ℕ

-- "No context is open at first."
abbrev pub at_first : {E : Type 0} → Standing E
at_first =
    record { history = []; numbers = []; number = 0; context = None; latest = 0; last = 0; selected = None }

module _ {A : Type 0} where
  -- the stretch from place s of a history to its last
  abbrev pub stretch : List A → ℕ → List A
  stretch history s = drop (pred s) history

  -- the last of a list passes the test
  unfoldable pub ends_in : (A → Bool) → List A → Bool
  ends_in test [] = false
  ends_in test (x ∷ []) = test x
  ends_in test (x ∷ y ∷ ys) = ends_in test (y ∷ ys)

  -- all but the last
  abbrev pub without_last : List A → List A
  without_last xs = take (pred (length xs)) xs

-- ---- R-2: a motion that takes the place of another

-- "a mark at it, of the last selection or of the latest start, falls back by one"
abbrev pub falls_back : (place mark : ℕ) → ℕ
falls_back place mark = cond (eqb mark place) (pred mark) mark

-- "(a context opened at it is closed)"
abbrev pub closed_at : (place : ℕ) → Option ℕ → Option ℕ
closed_at place None = None
closed_at place (Some s) = cond (eqb s place) None (Some s)

module _ {E : Type 0} where
  -- "the earlier one is gone"
  abbrev pub fallen : Standing E → Standing E
  fallen a =
      record {
        history = without_last a.history;
        numbers = without_last a.numbers;
        number = a.number;
        context = closed_at (length a.history) a.context;
        latest = falls_back (length a.history) a.latest;
        last = falls_back (length a.history) a.last;
        selected = a.selected;
      }

-- ---- Rules 3 and 4, over a history whose last event is the one that is judged

-- of `many` numbers from n on, the smallest that passes the test
unfoldable pub smallest : (ℕ → Bool) → ℕ → ℕ → Option ℕ
smallest test n zero = None
smallest test n (suc many) = cond (test n) (Some n) (smallest test (suc n) many)

-- "the latest start there was", where a context from s is open, or none
abbrev pub latest_of : Option ℕ → ℕ → ℕ
latest_of None latest = latest
latest_of (Some s) latest = s

-- "the last event at which anything was selected", where t is the place of the event that is judged
abbrev pub last_of : ℕ → Option ℕ → ℕ → ℕ
last_of t None last = last
last_of t (Some p) last = t

module _ {E : Type 0} (R : Reading E) where
  -- "a motion event directly after another motion event in the history replaces it"
  abbrev pub replaces : Standing E → E → Bool
  replaces a x = R.motion x && ends_in R.motion a.history

  -- what stands when the event takes its place: "starts and marks are what all events so far, the replaced ones too, have left"
  unfoldable pub left_for : Standing E → E → Standing E
  left_for a x = cond (replaces a x) (fallen a) a

  -- "if a context from s is open and s..t reads as a prefix of some production"
  abbrev pub goes_on : List E → Option ℕ → Bool
  goes_on history None = false
  goes_on history (Some s) = R.prefix (stretch history s)

  -- "after both s (the latest start there was ..) and the last event at which anything was selected"
  abbrev pub after : Standing E → ℕ
  after a = max a.latest a.last

  -- "the smallest number after both .., up to t, whose stretch to t reads as a prefix"
  abbrev pub new_start : List E → Standing E → Option ℕ
  new_start history a =
      smallest (λ s. R.prefix (stretch history s)) (suc (after a)) (length history - after a)

  -- rule 3: the start of the context that is open at the last event of the history
  abbrev pub context_at : List E → Standing E → Option ℕ
  context_at history a = cond (goes_on history a.context) a.context (new_start history a)

  -- rule 4: "the earliest production whose whole sequence the stretch is, or none"
  abbrev pub selected_at : List E → Option ℕ → Option ℕ
  selected_at history None = None
  selected_at history (Some s) = R.chosen (stretch history s)

  -- what stands after the event, where `a` stood before, this context is open and this is selected
  abbrev pub stands : List E → Standing E → Option ℕ → Option ℕ → Standing E
  stands history a context selected =
      record {
        history = history;
        numbers = a.numbers ++ (suc a.number ∷ []);
        number = suc a.number;
        context = context;
        latest = latest_of context a.latest;
        last = last_of (length history) selected a.last;
        selected = selected;
      }

  -- an event that takes the next place of the history, where `a` stands: rules 3 and 4
  abbrev pub takes_place : Standing E → E → Standing E
  takes_place a x =
      stands (a.history ++ (x ∷ [])) a (context_at (a.history ++ (x ∷ [])) a)
      (selected_at (a.history ++ (x ∷ [])) (context_at (a.history ++ (x ∷ [])) a))

  -- ---- "these steps over every heard event in turn"

  -- "it takes that place, the earlier one is gone"; "The context that the earlier one left is then judged by the same rules."
  unfoldable pub hears : Standing E → E → Standing E
  hears a x = takes_place (left_for a x) x

  unfoldable pub hears_all : Standing E → List E → Standing E
  hears_all a [] = a
  hears_all a (x ∷ xs) = hears_all (hears a x) xs

  -- what stands after these heard events
  abbrev pub standing : List E → Standing E
  standing xs = hears_all at_first xs

-- ---- "A selection's events are the stretch it was made on"

-- the numbers from the start of a context on
abbrev pub heard_from : List ℕ → Option ℕ → List ℕ
heard_from numbers None = []
heard_from numbers (Some s) = stretch numbers s

module _ {E : Type 0} where
  -- the numbers of the heard events in the open context
  abbrev pub context_events : Standing E → List ℕ
  context_events a = heard_from a.numbers a.context
