-- What loading and storing a state owe each other, for every state and all bytes, and what a call does to a state's bytes.
-- Shown in proofs/StateLaws and proofs/CallLaws.
use Rattle.std.specs.Prelude.{ℕ, ◌≤◌, ◌<◌, ◌≡◌, true, false, List, ◌++◌, length, get_or, drop, None}
use Rattle.model.specs.Numbers.{state_not_whole, matched_number, matched_selection}
use Rattle.model.specs.Setting.{Setting}
use Rattle.model.specs.Resolving.{is_bad_map}
use Rattle.model.specs.declared.answers.Matched.{Matched}
use Rattle.tables.specs.Whole.{whole}
use Rattle.states.specs.declared.State.{State}
use Rattle.states.specs.State.{whole_state}
use Rattle.matcher.specs.Match.{too_short}
use Rattle.capi.specs.State.{state_length, store, load}
use Rattle.capi.specs.Match.{matched_on, state_left}

pub record StateLaws : Type 0 where
  -- the bytes of a state are 200
  pub long : (s : State) → whole_state s ≡ true → length (store s) ≡ state_length
  -- a whole state that was stored is loaded back, whatever stands after it
  pub back : (s : State) → whole_state s ≡ true → (rest : List ℕ) → load (store s ++ rest) ≡ s
  -- bytes that load to a whole state are its store: with `back`, exactly those that begin with the store of a whole state
  pub exact : (l : List ℕ) → ((i : ℕ) → get_or l i 0 < 256) → state_length ≤ length l → whole_state (load l) ≡ true
      → l ≡ store (load l) ++ drop state_length l

-- ---- One call of `tt_match`, on any bytes

pub record CallLaws (table : List ℕ) (setting : Setting) (state bytes : List ℕ) (order : ℕ) : Type 0 where
  -- "Every .. state that an accepted call gives is whole"
  pub accepted :
      matched_number (matched_on table setting state bytes order) ≡ 0
      → whole_state (load (state_left table setting state bytes order)) ≡ true
  -- "dropped: none selected, state unchanged"
  pub dropped :
      matched_on table setting state bytes order ≡ Matched.Dropped → state_left table setting state bytes order ≡ state
  -- "A refused matcher call keeps the state and selects none."
  pub refused :
      (matched_number (matched_on table setting state bytes order) ≡ 0 → ⊥)
      → (matched_selection (matched_on table setting state bytes order) ≡ None)
      × (state_left table setting state bytes order ≡ state)
  -- 14 where neither 1 nor 18 nor 12 is given, and the bytes load to no whole state
  pub not_whole :
      state_length ≤ length state → too_short table setting.keyboard ≡ false → is_bad_map setting.modifiers ≡ false
      → whole table ≡ true → whole_state (load state) ≡ false → matched_on table setting state bytes order ≡ Matched.Refused state_not_whole
  -- and only for bytes that load to no whole state
  pub only :
      matched_number (matched_on table setting state bytes order) ≡ state_not_whole → whole_state (load state) ≡ false
  -- bytes past the state stay
  pub past : drop state_length (state_left table setting state bytes order) ≡ drop state_length state

abbrev pub EveryCall : Type 0
EveryCall = (table : List ℕ) (setting : Setting) (state bytes : List ℕ) (order : ℕ) → CallLaws table setting state bytes order
