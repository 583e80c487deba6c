-- Demand 3: one claim about every list of matcher calls (document 01, "Selection", from "Demand 3 is a single claim"; document 02,
-- R-2: "Demand 3 reads by these steps over every heard event in turn").
use Rattle.std.specs.Prelude.{ℕ, ◌≤◌, ◌≡◌, ◌⊎◌, Bool, true, false, cond, not, eqb, length, take, Option, None, Some}
use mathlib.Core.List.{List, [], ◌∷◌, ◌++◌, Memᴰ}
use Rattle.model.specs.Lists.{given, beginning}
use Rattle.model.specs.Limits.{map_length}
use Rattle.model.specs.Numbers.{MatchChecks, match_order, matched_number, matched_selection}
use Rattle.model.specs.Setting.{Setting}
use Rattle.model.specs.Resolving.{is_bad_map}
use Rattle.model.specs.Modifiers.{bit}
use Rattle.model.specs.Tables.{Table}
use Rattle.model.specs.Compiling.{passes_limit, compiled, accepted}
use Rattle.model.specs.Records.{is_bad_record, record_read}
use Rattle.model.specs.Selection.{Standing, standing, context_events}
use Rattle.model.specs.Matching.{reading_of, tests}
use Rattle.model.specs.Merging.{merged_table, merge_passes_limit}
use Rattle.model.specs.declared.events.Event.{Event}
use Rattle.model.specs.declared.answers.RecordRead.{RecordRead}
use Rattle.model.specs.declared.answers.Matched.{Matched}

-- ---- Tables and calls

-- "An accepted table is one that an accepted call gave", by texts: compiled, or merged from accepted tables. The claim below
-- does not go by it: it holds of every table that passes no limit, and so of all bytes that are a whole table (crates/claims).
pub data Accepted : Table → Type 0 where
  by_compiling : {t : Table} (text : List ℕ) → compiled text ≡ accepted t → Accepted t
  by_merging :
      {old new : Table} → Accepted old → Accepted new → old.merged ≡ false → new.merged ≡ false
      → merge_passes_limit old new ≡ false → Accepted (merged_table old new)

-- "Its calls share table, texts, map and time, .. and bring any record and byte order."
pub record MatchCall : Type 0 where
  pub bytes : List ℕ
  pub order : ℕ

-- ---- What the rules name

-- the checks of a call on a whole table and a whole state: "over its record or over a map"; `full` says whether the context
-- would keep too many events
abbrev pub call_checks : Setting → MatchCall → (full : Bool) → MatchChecks
call_checks setting c full =
    record {
      short = not (eqb (length setting.keyboard) map_length);
      modifiers_bad = is_bad_map setting.modifiers;
      table_broken = false;
      state_broken = false;
      record_bad = is_bad_record c.bytes c.order;
      full = full;
    }

module _ (t : Table) (setting : Setting) where
  -- the number that refuses a call from a fresh state on, where no context keeps too many events
  abbrev pub call_number : MatchCall → ℕ
  call_number c = match_order (call_checks setting c false)

  -- rule 1: "An event whose type no production has, expansion included, is dropped"
  abbrev pub heard_event : RecordRead → List Event
  heard_event (RecordRead.Event e) = cond ((reading_of t setting).known e) (e ∷ []) []
  heard_event (RecordRead.Refused n) = []

  -- what a call brings to the history: "A call that the numbers above refuse .. adds nothing"
  unfoldable pub heard : MatchCall → List Event
  heard c = cond (eqb (call_number c) 0) (heard_event (record_read c.bytes c.order)) []

  -- rule 2: "The rest are numbered in order from 1"
  unfoldable pub heard_all : List MatchCall → List Event
  heard_all [] = []
  heard_all (c ∷ cs) = heard c ++ heard_all cs

  -- what stands after heard event n
  abbrev pub standing_at : List MatchCall → ℕ → Standing Event
  standing_at cs n = standing (reading_of t setting) (take n (heard_all cs))

  -- what stands after the last heard event of a list of calls
  abbrev pub standing_after : List MatchCall → Standing Event
  standing_after cs = standing (reading_of t setting) (heard_all cs)

  abbrev pub selection : Option ℕ → Matched
  selection None = Matched.Heard
  selection (Some p) = Matched.Selected p

  -- a call that no number refuses, the last of a list
  abbrev pub named_heard : List MatchCall → List Event → Matched
  named_heard cs [] = Matched.Dropped
  named_heard cs (e ∷ es) = selection (standing_after cs).selected

  -- what the rules name at a call, after the calls before it
  unfoldable pub named : List MatchCall → MatchCall → Matched
  named before c =
      cond (eqb (call_number c) 0) (named_heard (before ++ (c ∷ [])) (heard c)) (Matched.Refused (call_number c))

  -- what they name at every call, after the calls before them
  unfoldable pub named_from : List MatchCall → List MatchCall → List Matched
  named_from before [] = []
  named_from before (c ∷ cs) = named before c ∷ named_from (before ++ (c ∷ [])) cs

-- ---- What a matcher answers

-- a matcher on one table and setting
pub record Matcher (S : Type 0) : Type 0 where
  pub fresh : S
  pub answer : S → MatchCall → Matched
  pub next : S → MatchCall → S

module _ {S : Type 0} (m : Matcher S) where
  -- the answers at every call from a state on
  unfoldable pub answers_from : S → List MatchCall → List Matched
  answers_from s [] = []
  answers_from s (c ∷ cs) = m.answer s c ∷ answers_from (m.next s c) cs

  -- the state after calls
  unfoldable pub state_after : S → List MatchCall → S
  state_after s [] = s
  state_after s (c ∷ cs) = state_after (m.next s c) cs

-- ---- "alike in all but some bits": `others` has the bits that must agree

-- "events that differ in those bits at most"
pub record Like (others : ℕ → Bool) (x y : Event) : Type 0 where
  pub code : x.code ≡ y.code
  pub detail : x.detail ≡ y.detail
  pub time : x.time ≡ y.time
  pub state : (k : ℕ) → others k ≡ true → bit k x.state ≡ bit k y.state

-- "their records read to the same refusal or to events that differ in those bits at most"
abbrev pub LikeReads : (ℕ → Bool) → RecordRead → RecordRead → Type 0
LikeReads others (RecordRead.Event x) (RecordRead.Event y) = Like others x y
LikeReads others (RecordRead.Event x) (RecordRead.Refused n) = ⊥
LikeReads others (RecordRead.Refused n) (RecordRead.Event y) = ⊥
LikeReads others (RecordRead.Refused n) (RecordRead.Refused k) = n ≡ k

-- "equally long and, at each place, .."
pub data Alike (others : ℕ → Bool) : List MatchCall → List MatchCall → Type 0 where
  empty : Alike others [] []
  more :
      {c d : MatchCall} {cs ds : List MatchCall}
      → LikeReads others (record_read c.bytes c.order) (record_read d.bytes d.order)
      → Alike others cs ds → Alike others (c ∷ cs) (d ∷ ds)

-- ---- Two selections

-- "the events of two selections start at the same event or have none in common": events by the numbers under which they were
-- heard, since two motions may take one place. R-2: "A replaced event belongs to the selections it ended and to no later one."
abbrev pub Apart : List ℕ → List ℕ → Type 0
Apart these those =
    (beginning these ≡ beginning those) ⊎ ((n : ℕ) → Memᴰ n these → Memᴰ n those → ⊥)

-- ---- The claim

-- about one list of calls
pub record Demand3 {S : Type 0} (m : Matcher S) (t : Table) (setting : Setting) (cs : List MatchCall) : Type 0 where
  -- "at every call the selected production is the one that 01's rules name from the whole history, or none exactly where
  -- they name none"
  pub selects : answers_from m m.fresh cs ≡ named_from t setting [] cs
  -- "a refused call selects none and changes nothing"
  pub refuses :
      (before rest : List MatchCall) (c : MatchCall) → cs ≡ before ++ (c ∷ rest)
      → (matched_number (m.answer (state_after m m.fresh before) c) ≡ 0 → ⊥)
      → (matched_selection (m.answer (state_after m m.fresh before) c) ≡ None)
      × (m.next (state_after m m.fresh before) c ≡ state_after m m.fresh before)
  -- of the selections at heard events i and j, whose events are those of the contexts open there
  pub apart :
      (i j : ℕ) → i ≤ j → j ≤ length (heard_all t setting cs)
      → given (standing_at t setting cs i).selected ≡ true → given (standing_at t setting cs j).selected ≡ true
      → Apart (context_events (standing_at t setting cs i)) (context_events (standing_at t setting cs j))
  -- "two lists alike in all but modifier bits that the table does not test get the same numbers and selections"
  pub blind :
      (ds : List MatchCall) → Alike (tests setting t) cs ds → answers_from m m.fresh cs ≡ answers_from m m.fresh ds

-- "For any .. table, one keyboard map, one multi-click time and every list of matcher calls from a fresh state", where the
-- table passes no limit; R-1: "Demand 3's list of calls now has one modifier map too"
abbrev pub Demand3For : {S : Type 0} → (Table → Setting → Matcher S) → Type 0
Demand3For matcher =
    (t : Table) → passes_limit t.productions ≡ false → (setting : Setting) (cs : List MatchCall)
    → Demand3 (matcher t setting) t setting cs
