-- How a table reads a stretch does not depend on modifier bits that the table does not test.
use Prim.Native.Nat.{ℕ, zero, suc, ◌-◌}
use mathlib.Core.Path.{◌≡◌, refl, ap, ap₂}
use mathlib.Core.Logic.{⊎_elim}
use mathlib.Core.Bool.{Bool, true, false, cond, not, ◌&&◌, ◌||◌}
use Rattle.std.specs.Prelude.{Option, None, Some}
use mathlib.Core.List.Memᴰ
use mathlib.Core.List.{List, [], ◌∷◌, Memᴰ}
use lib.Dec.{eqb, leb}
use lib.ListN.{length}
use Rattle.model.specs.Lists.{any}
use Rattle.model.specs.Bytes.{in_range}
use Rattle.model.specs.Names.{shift_bit, lock_bit, first_button_bit, last_button_bit}
use Rattle.model.specs.Modifiers.{bit, bits, is_shift_or_lock, as_asked, bits_met, clause_met, state_meets}
use Rattle.model.specs.Setting.{Setting, first_keysym, second_keysym}
use Rattle.model.specs.Asked.{Test, asked, test_met, cares_for}
use Rattle.model.specs.Keyboard.{keysym_of, matches_with_colon, settings, matches_without, pair_matches, key_matches}
use Rattle.model.specs.Tables.{Production, Table}
use Rattle.model.specs.Counts.{Element, element, is_release, release_press, press_release, counted_press, counted_release, elements_at, elements_of, expanded, sequence, quick}
use Rattle.model.specs.Matching.{detail_met, meets, in_time, follows, reads_as_prefix, is_whole_sequence, has_type, reading_of, asks_detail, tests_by_clause, event_tests, tests}
use Rattle.model.specs.Demand.{Like}
use Rattle.model.specs.declared.events.Event.{Event}
use Rattle.model.specs.declared.events.Detail.{Detail}
use Rattle.model.specs.declared.events.KeptEvent.{KeptEvent}
use Rattle.machine.proofs.Tests.{or_left, or_right, any_in, all_same, any_same, earliest_same}

-- ---- One event

as_asked_same : (set clear b c : Bool) → (set || clear ≡ true → b ≡ c) → as_asked set clear b ≡ as_asked set clear c
as_asked_same true clear b c f = rw (f refl)
as_asked_same false true b c f = rw (f refl)
as_asked_same false false b c f = refl

-- two states that agree in the bits that the event tests
module _ (setting : Setting) (e : KeptEvent) (s r : ℕ)
    (agree : (k : ℕ) → event_tests setting e k ≡ true → bit k s ≡ bit k r) where
  abbrev test : Test
  test = asked setting e

  by_care : (k : ℕ) → cares_for test k ≡ true → bit k s ≡ bit k r
  unfolding event_tests
  by_care k h = agree k (or_left _ _ (or_left _ _ (or_left _ _ h)))

  by_clause : test.clause ≡ true → (k : ℕ) → in_range first_button_bit k last_button_bit ≡ true → bit k s ≡ bit k r
  unfolding event_tests
  by_clause c k h = agree k (or_left _ _ (or_left _ _ (or_right (cares_for test k) _ (ap₂ ◌&&◌ c h))))

  by_colon : e.colon ≡ true → asks_detail e.detail ≡ true → (k : ℕ) → is_shift_or_lock k ≡ true → bit k s ≡ bit k r
  unfolding event_tests
  by_colon c d k h = agree k (or_left _ _ (or_right (cares_for test k || tests_by_clause test k) _ (ap₂ ◌&&◌ (ap₂ ◌&&◌ c d) h)))

  bits_same : bits_met test.set test.clear s ≡ bits_met test.set test.clear r
  bits_same =
      all_same _ _ (λ k. as_asked_same (bit k test.set) (bit k test.clear) (bit k s) (bit k r) (by_care k)) bits

  clause_same : (c : Bool) → test.clause ≡ c → clause_met c s ≡ clause_met c r
  clause_same false q = refl
  clause_same true q =
      ap₂ ◌||◌ (by_clause q 8 refl)
      (ap₂ ◌||◌ (by_clause q 9 refl)
      (ap₂ ◌||◌ (by_clause q 10 refl)
      (ap₂ ◌||◌ (by_clause q 11 refl)
      (ap₂ ◌||◌ (by_clause q 12 refl) refl))))

  state_same : test_met test s ≡ test_met test r
  unfolding test_met state_meets
  state_same = ap (λ met. not test.dead && met) (ap₂ ◌&&◌ bits_same (clause_same test.clause refl))

  settings_same : (k : ℕ) → (b : Bool) → cares_for test k ≡ b → settings b (bit k s) ≡ settings b (bit k r)
  settings_same k true q = ap (λ (b : Bool). b ∷ []) (by_care k q)
  settings_same k false q = refl

  pair_same :
      (a b d : ℕ) → asks_detail e.detail ≡ true → (c : Bool) → e.colon ≡ c
      → pair_matches test c a b s d ≡ pair_matches test c a b r d
  unfolding pair_matches matches_with_colon matches_without
  pair_same a b d h true q =
      ap₂ (λ shift lock. eqb (keysym_of a b shift lock) d) (by_colon q h shift_bit refl) (by_colon q h lock_bit refl)
  pair_same a b d h false q =
      ap₂ (λ shifts locks. any (λ shift. any (λ lock. eqb (keysym_of a b shift lock) d) locks) shifts)
      (settings_same shift_bit (cares_for test shift_bit) refl) (settings_same lock_bit (cares_for test lock_bit) refl)

  key_same :
      (keycode d : ℕ) → asks_detail e.detail ≡ true → key_matches setting e keycode s d ≡ key_matches setting e keycode r d
  unfolding key_matches
  key_same keycode d h =
      pair_same (first_keysym setting.keyboard keycode) (second_keysym setting.keyboard keycode) d h e.colon refl

-- two events that agree in all that the kept event asks
module _ (setting : Setting) (e : KeptEvent) (x y : Event) (code : x.code ≡ y.code) (detail : x.detail ≡ y.detail)
    (agree : (k : ℕ) → event_tests setting e k ≡ true → bit k x.state ≡ bit k y.state) where
  detail_same : (d : Detail) → e.detail ≡ d → detail_met setting e d x ≡ detail_met setting e d y
  detail_same Detail.Unspecified q = refl
  detail_same (Detail.Value d) q =
      rw (code, detail, key_same setting e x.state y.state agree y.detail d (ap asks_detail q))

meets_same :
    (setting : Setting) (el : Element) (x y : Event) → x.code ≡ y.code → x.detail ≡ y.detail
    → ((k : ℕ) → event_tests setting el.event k ≡ true → bit k x.state ≡ bit k y.state)
    → meets setting el x ≡ meets setting el y
unfolding meets
meets_same setting el x y c d a =
    ap₂ ◌&&◌
    (ap₂ ◌&&◌ (ap (eqb el.code) c) (state_same setting el.event x.state y.state a))
    (detail_same setting el.event x y c d a el.event.detail refl)

-- ---- Expansion: an element carries the test of an event of its production

release_press_event : (n : ℕ) (e : KeptEvent) {el : Element} → Memᴰ el (release_press n e) → el.event ≡ e
unfolding release_press
release_press_event zero e m = absurd (Memᴰ.not-nil m)
release_press_event (suc n) e m =
    ⊎_elim (λ q. ap (λ (x : Element). x.event) q)
    (λ r. ⊎_elim (λ q. ap (λ (x : Element). x.event) q) (λ o. release_press_event n e o) (Memᴰ.cases_cons r))
    (Memᴰ.cases_cons m)

press_release_event : (n : ℕ) (e : KeptEvent) {el : Element} → Memᴰ el (press_release n e) → el.event ≡ e
unfolding press_release
press_release_event zero e m = absurd (Memᴰ.not-nil m)
press_release_event (suc n) e m =
    ⊎_elim (λ q. ap (λ (x : Element). x.event) q)
    (λ r. ⊎_elim (λ q. ap (λ (x : Element). x.event) q) (λ o. press_release_event n e o) (Memᴰ.cases_cons r))
    (Memᴰ.cases_cons m)

counted_press_event : (n : ℕ) (e : KeptEvent) {el : Element} → Memᴰ el (counted_press n e) → el.event ≡ e
counted_press_event n e m =
    ⊎_elim (λ q. ap (λ (x : Element). x.event) q) (λ o. release_press_event (n - 1) e o) (Memᴰ.cases_cons m)

counted_release_event : (n : ℕ) (e : KeptEvent) {el : Element} → Memᴰ el (counted_release n e) → el.event ≡ e
counted_release_event n e m =
    ⊎_elim (λ q. ap (λ (x : Element). x.event) q)
    (λ r. ⊎_elim (λ q. ap (λ (x : Element). x.event) q) (λ o. press_release_event (n - 1) e o) (Memᴰ.cases_cons r))
    (Memᴰ.cases_cons m)

single_event : (e : KeptEvent) {el : Element} → Memᴰ el (element e.code false e ∷ []) → el.event ≡ e
single_event e m =
    ⊎_elim (λ q. ap (λ (x : Element). x.event) q) (λ o. absurd (Memᴰ.not-nil o)) (Memᴰ.cases_cons m)

elements_event : (n : ℕ) (e : KeptEvent) {el : Element} → Memᴰ el (elements_at n e) → el.event ≡ e
unfolding elements_at
elements_event n e {el} m = go (leb n 1) (is_release e.code) m
  where
    go : (a b : Bool) → Memᴰ el (cond a (element e.code false e ∷ []) (cond b (counted_release n e) (counted_press n e))) → el.event ≡ e
    go true b i = single_event e i
    go false true i = counted_release_event n e i
    go false false i = counted_press_event n e i

expanded_event : (es : List KeptEvent) {el : Element} → Memᴰ el (expanded es) → Memᴰ el.event es
unfolding expanded elements_of
expanded_event [] m = absurd (Memᴰ.not-nil m)
expanded_event (e ∷ es) m =
    ⊎_elim (λ i. Memᴰ.head (elements_event e.count e i)) (λ i. Memᴰ.tail (expanded_event es i))
    (Memᴰ.append_cases (elements_of e) m)

-- ---- A stretch

module _ {E : Type 0} where
  -- equally long, and alike at each place
  pub data Each (Rel : E → E → Type 0) : List E → List E → Type 0 where
    empty : Each Rel [] []
    more : {x y : E} {xs ys : List E} → Rel x y → Each Rel xs ys → Each Rel (x ∷ xs) (y ∷ ys)

  pub each_length : {Rel : E → E → Type 0} {xs ys : List E} → Each Rel xs ys → length xs ≡ length ys
  each_length Each.empty = refl
  each_length (Each.more l r) = ap suc (each_length r)

module _ (t : Table) (setting : Setting) where
  -- an event before is there in both stretches or in neither
  data Both : Option Event → Option Event → Type 0 where
    neither : Both None None
    both : {x y : Event} → Like (tests setting t) x y → Both (Some x) (Some y)

  in_time_same : {a b : Option Event} {x y : Event} → Both a b → Like (tests setting t) x y → in_time setting a x ≡ in_time setting b y
  in_time_same neither l = refl
  in_time_same (both m) l = ap₂ (quick setting.time) m.time l.time

  follows_same :
      (els : List Element) → ((el : Element) → Memᴰ el els → (x y : Event) → Like (tests setting t) x y → meets setting el x ≡ meets setting el y)
      → {a b c d : Option Event} → Both a b → Both c d → {xs ys : List Event} → Each (Like (tests setting t)) xs ys
      → follows setting a c els xs ≡ follows setting b d els ys
  unfolding follows
  follows_same els s m n Each.empty = refl
  follows_same [] s m n (Each.more l r) = refl
  follows_same (el ∷ els) s m n (Each.more {x} {y} l r) =
      ap₂ ◌&&◌
      (ap₂ ◌&&◌ (s el (Memᴰ.head refl) x y l) (ap (λ q. not el.timed || q) (in_time_same m l)))
      (follows_same els (λ f i. s f (Memᴰ.tail i)) n (both l) r)

  in_table :
      (p : Production) → Memᴰ p t.productions → (el : Element) → Memᴰ el (sequence p) → (x y : Event) → Like (tests setting t) x y
      → meets setting el x ≡ meets setting el y
  unfolding sequence tests
  in_table p i el j x y l =
      meets_same setting el x y l.code l.detail
      (λ k h.
      l.state k
      (any_in (λ q. any (λ e. event_tests setting e k) q.events) i (any_in (λ e. event_tests setting e k) (expanded_event p.events j) h)))

  reads_same :
      (p : Production) → Memᴰ p t.productions → {xs ys : List Event} → Each (Like (tests setting t)) xs ys
      → reads_as_prefix setting xs p ≡ reads_as_prefix setting ys p
  unfolding reads_as_prefix
  reads_same p i r = follows_same (sequence p) (in_table p i) neither neither r

  whole_same :
      (p : Production) → Memᴰ p t.productions → {xs ys : List Event} → Each (Like (tests setting t)) xs ys
      → is_whole_sequence setting xs p ≡ is_whole_sequence setting ys p
  unfolding is_whole_sequence
  whole_same p i r = ap₂ ◌&&◌ (ap (λ n. eqb n (length (sequence p))) (each_length r)) (reads_same p i r)

  pub known_same : {x y : Event} → Like (tests setting t) x y → (reading_of t setting).known x ≡ (reading_of t setting).known y
  known_same l = ap (λ c. any (has_type c) t.productions) l.code

  pub prefix_same :
      {xs ys : List Event} → Each (Like (tests setting t)) xs ys → (reading_of t setting).prefix xs ≡ (reading_of t setting).prefix ys
  prefix_same r = any_same _ _ t.productions (λ p i. reads_same p i r)

  pub chosen_same :
      {xs ys : List Event} → Each (Like (tests setting t)) xs ys → (reading_of t setting).chosen xs ≡ (reading_of t setting).chosen ys
  chosen_same r = earliest_same _ _ 0 t.productions (λ p i. whole_same p i r)
