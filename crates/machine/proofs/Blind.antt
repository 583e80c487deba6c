-- Lists of calls that are alike in all but bits that the table does not test get the same answers.
use Prim.Native.Nat.{ℕ, zero, suc, pred, max}
use mathlib.Core.Path.{◌≡◌, refl, ap, ap₂, subst}
use mathlib.Core.Bool.{Bool, true, false, cond, not, ◌&&◌}
use Rattle.std.specs.Prelude.{Option, None, Some}
use mathlib.Core.List.{List, [], ◌∷◌, ◌++◌}
use lib.Dec.{eqb, ltb}
use lib.ListN.{length, take, drop}
use Rattle.model.specs.Numbers.{bad_record}
use Rattle.model.specs.Codes.{is_motion}
use Rattle.model.specs.Tables.{Table}
use Rattle.model.specs.Records.{is_bad_record, record_read}
use Rattle.model.specs.Setting.{Setting}
use Rattle.model.specs.Selection.{ends_in, without_last, falls_back}
use Rattle.model.specs.Matching.{reading_of, tests}
use Rattle.model.specs.Demand.{MatchCall, selection, answers_from, Like, LikeReads, Alike}
use Rattle.model.specs.declared.events.Event.{Event}
use Rattle.model.specs.declared.answers.RecordRead.{RecordRead}
use Rattle.model.specs.declared.answers.Matched.{Matched}
use Rattle.machine.specs.Kept.{Kept, fresh, context_limit, shortened, left, longest_end, grown, used_up, unused, reopened, moved, chosen_in, choice, marked, kept, Step, keeps_too_many, passes_context, step_number, act, stepped, kept_matcher}
use Rattle.machine.proofs.Untested.{Each, each_length, known_same, prefix_same, chosen_same}

module _ {E : Type 0} (Rel : E → E → Type 0) where
  each_snoc : {xs ys : List E} {x y : E} → Each Rel xs ys → Rel x y → Each Rel (xs ++ (x ∷ [])) (ys ++ (y ∷ []))
  each_snoc Each.empty l = Each.more l Each.empty
  each_snoc (Each.more k e) l = Each.more k (each_snoc e l)

  each_drop : (n : ℕ) {xs ys : List E} → Each Rel xs ys → Each Rel (drop n xs) (drop n ys)
  each_drop zero e = e
  each_drop (suc n) Each.empty = Each.empty
  each_drop (suc n) (Each.more l e) = each_drop n e

  each_take : (n : ℕ) {xs ys : List E} → Each Rel xs ys → Each Rel (take n xs) (take n ys)
  each_take zero e = Each.empty
  each_take (suc n) Each.empty = Each.empty
  each_take (suc n) (Each.more l e) = Each.more l (each_take n e)

  each_without : {xs ys : List E} → Each Rel xs ys → Each Rel (without_last xs) (without_last ys)
  each_without {xs} {ys} e =
      subst (λ (n : ℕ). Each Rel (without_last xs) (take (pred n) ys)) (each_length e) (each_take (pred (length xs)) e)

  each_cond : (b : Bool) {xs ys : List E} → Each Rel xs ys → Each Rel (cond b xs []) (cond b ys [])
  each_cond true e = e
  each_cond false e = Each.empty

  ends_same : (f : E → Bool) → ((x y : E) → Rel x y → f x ≡ f y) → {xs ys : List E} → Each Rel xs ys → ends_in f xs ≡ ends_in f ys
  unfolding ends_in
  ends_same f s Each.empty = refl
  ends_same f s (Each.more {x} {y} l Each.empty) = s x y l
  ends_same f s (Each.more l (Each.more k e)) = ends_same f s (Each.more k e)

  each_drops : {n m : ℕ} → n ≡ m → {xs ys : List E} → Each Rel xs ys → Each Rel (drop n xs) (drop m ys)
  each_drops {n} {m} q {xs} {ys} e = subst (λ (i : ℕ). Each Rel (drop n xs) (drop i ys)) q (each_drop n e)

module _ (t : Table) (setting : Setting) where
  -- ---- States

  -- two states that are alike in all but bits that the table does not test
  record Same (k j : Kept Event) : Type 0 where
    events : Each (Like (tests setting t)) k.events j.events
    selected : k.selected ≡ j.selected
    is_open : k.is_open ≡ j.is_open

  cond_same : {a b : Bool} → a ≡ b → {k j n m : Kept Event} → Same k j → Same n m → Same (cond a k n) (cond b j m)
  cond_same {a} {b} q {k} {j} {n} {m} s r = rw q (go b)
    where
      go : (c : Bool) → Same (cond c k n) (cond c j m)
      go true = s
      go false = r

  fresh_same : Same fresh fresh
  fresh_same = record { events = Each.empty; selected = refl; is_open = refl }

  motion_same : {x y : Event} → Like (tests setting t) x y → (reading_of t setting).motion x ≡ (reading_of t setting).motion y
  motion_same l = ap is_motion l.code

  shortened_same : (k j : Kept Event) → Same k j → Same (shortened (reading_of t setting) k) (shortened (reading_of t setting) j)
  shortened_same k j s =
      record {
        events = each_without (Like (tests setting t)) s.events;
        selected = ap₂ falls_back (each_length s.events) s.selected;
        is_open = ap₂ (λ o n. o && not (eqb n 1)) s.is_open (each_length s.events);
      }

  left_same :
      (k j : Kept Event) (x y : Event) → Same k j → Like (tests setting t) x y
      → Same (left (reading_of t setting) k x) (left (reading_of t setting) j y)
  unfolding left
  left_same k j x y s l =
      cond_same
      (ap₂ ◌&&◌ (motion_same l) (ends_same (Like (tests setting t)) (reading_of t setting).motion (λ a b m. motion_same m) s.events))
      (shortened_same k j s) (cond_same s.is_open s fresh_same)

  longest_same :
      {xs ys : List Event} → Each (Like (tests setting t)) xs ys
      → Each (Like (tests setting t)) (longest_end (reading_of t setting) xs) (longest_end (reading_of t setting) ys)
  unfolding longest_end
  longest_same Each.empty = Each.empty
  longest_same (Each.more {x} {y} {xs} {ys} l e) = go ((reading_of t setting).prefix (y ∷ ys)) refl (longest_same e)
    where
      go : (b : Bool) → (reading_of t setting).prefix (y ∷ ys) ≡ b
          → Each (Like (tests setting t)) (longest_end (reading_of t setting) xs) (longest_end (reading_of t setting) ys)
          → Each (Like (tests setting t)) (longest_end (reading_of t setting) (x ∷ xs)) (longest_end (reading_of t setting) (y ∷ ys))
      go true q r = rw (prefix_same t setting (Each.more l e), q) (Each.more l e)
      go false q r = rw (prefix_same t setting (Each.more l e), q) r

  reopened_same :
      (moves : Bool) {rest others xs ys : List Event} → Each (Like (tests setting t)) rest others → Each (Like (tests setting t)) xs ys
      → Same (reopened (reading_of t setting) moves rest xs) (reopened (reading_of t setting) moves others ys)
  reopened_same moves r Each.empty = record { events = each_cond (Like (tests setting t)) moves r; selected = refl; is_open = refl }
  reopened_same moves r (Each.more l e) = record { events = Each.more l e; selected = refl; is_open = refl }

  -- where k and j are left
  moved_same :
      (k j : Kept Event) (x y : Event) → Same k j → Like (tests setting t) x y
      → Same (moved (reading_of t setting) k x) (moved (reading_of t setting) j y)
  unfolding moved
  moved_same k j x y s l =
      cond_same (ap₂ ◌&&◌ s.is_open (prefix_same t setting e)) (record { events = e; selected = s.selected; is_open = refl })
      (rw (motion_same l) (reopened_same ((reading_of t setting).motion y) r (longest_same r)))
    where
      e : Each (Like (tests setting t)) (grown (reading_of t setting) k x) (grown (reading_of t setting) j y)
      e = each_snoc (Like (tests setting t)) s.events l

      u : used_up (reading_of t setting) k ≡ used_up (reading_of t setting) j
      u = ap₂ (λ o n. cond o (max 1 n) 0) s.is_open s.selected

      r : Each (Like (tests setting t)) (unused (reading_of t setting) k x) (unused (reading_of t setting) j y)
      r = each_drops (Like (tests setting t)) u e

  -- the context after rule 3
  context_same :
      (k j : Kept Event) (x y : Event) → Same k j → Like (tests setting t) x y
      → Same (moved (reading_of t setting) (left (reading_of t setting) k x) x) (moved (reading_of t setting) (left (reading_of t setting) j y) y)
  context_same k j x y s l =
      moved_same (left (reading_of t setting) k x) (left (reading_of t setting) j y) x y (left_same k j x y s l) l

  chosen_in_same : (k j : Kept Event) → Same k j → chosen_in (reading_of t setting) k ≡ chosen_in (reading_of t setting) j
  chosen_in_same k j s = ap₂ (λ o p. cond o p None) s.is_open (chosen_same t setting s.events)

  choice_same :
      (k j : Kept Event) (x y : Event) → Same k j → Like (tests setting t) x y
      → choice (reading_of t setting) k x ≡ choice (reading_of t setting) j y
  unfolding choice
  choice_same k j x y s l =
      chosen_in_same (moved (reading_of t setting) (left (reading_of t setting) k x) x)
      (moved (reading_of t setting) (left (reading_of t setting) j y) y) (context_same k j x y s l)

  marked_same :
      (k j : Kept Event) → Same k j → (o : Option ℕ)
      → Same (marked (reading_of t setting) k o) (marked (reading_of t setting) j o)
  marked_same k j s None = s
  marked_same k j s (Some p) = record { events = s.events; selected = each_length s.events; is_open = s.is_open }

  kept_same :
      (k j : Kept Event) (x y : Event) → Same k j → Like (tests setting t) x y
      → Same (kept (reading_of t setting) k x) (kept (reading_of t setting) j y)
  unfolding kept
  kept_same k j x y s l =
      rw (choice_same k j x y s l)
      (marked_same (moved (reading_of t setting) (left (reading_of t setting) k x) x)
      (moved (reading_of t setting) (left (reading_of t setting) j y) y) (context_same k j x y s l)
      (choice (reading_of t setting) j y))

  -- ---- Calls

  record SameStep (a b : Step) : Type 0 where
    answer : a.answer ≡ b.answer
    next : Same a.next b.next

  bad_same :
      (c d : MatchCall) → LikeReads (tests setting t) (record_read c.bytes c.order) (record_read d.bytes d.order)
      → is_bad_record c.bytes c.order ≡ is_bad_record d.bytes d.order
  unfolding record_read
  bad_same c d l = go (is_bad_record c.bytes c.order) (is_bad_record d.bytes d.order) _ _ l
    where
      go : (a b : Bool) (x y : Event)
          → LikeReads (tests setting t) (cond a (RecordRead.Refused bad_record) (RecordRead.Event x)) (cond b (RecordRead.Refused bad_record) (RecordRead.Event y))
          → a ≡ b
      go true true x y l = refl
      go true false x y l = absurd l
      go false true x y l = absurd l
      go false false x y l = refl

  full_same : (k j : Kept Event) → Same k j → keeps_too_many t setting k ≡ keeps_too_many t setting j
  full_same k j s = ap₂ (λ o n. o && ltb context_limit n) s.is_open (each_length s.events)

  passes_same :
      (k j : Kept Event) → Same k j → (a b : RecordRead) → LikeReads (tests setting t) a b
      → passes_context t setting k a ≡ passes_context t setting j b
  passes_same k j s (RecordRead.Event x) (RecordRead.Event y) l =
      ap₂ ◌&&◌ (known_same t setting l) (full_same _ _ (context_same k j x y s l))
  passes_same k j s (RecordRead.Event x) (RecordRead.Refused n) l = absurd l
  passes_same k j s (RecordRead.Refused n) (RecordRead.Event y) l = absurd l
  passes_same k j s (RecordRead.Refused n) (RecordRead.Refused m) l = refl

  number_same :
      (k j : Kept Event) → Same k j → (c d : MatchCall)
      → LikeReads (tests setting t) (record_read c.bytes c.order) (record_read d.bytes d.order)
      → step_number t setting k c ≡ step_number t setting j d
  unfolding step_number
  number_same k j s c d l =
      rw (bad_same c d l, passes_same k j s (record_read c.bytes c.order) (record_read d.bytes d.order) l)

  act_same :
      (k j : Kept Event) → Same k j → (a b : RecordRead) → LikeReads (tests setting t) a b → SameStep (act t setting k a) (act t setting j b)
  act_same k j s (RecordRead.Event x) (RecordRead.Event y) l = go ((reading_of t setting).known y) refl
    where
      go : (b : Bool) → (reading_of t setting).known y ≡ b → SameStep (act t setting k (RecordRead.Event x)) (act t setting j (RecordRead.Event y))
      go true q =
          rw (known_same t setting l, q)
          (record { answer = ap (selection t setting) (choice_same k j x y s l); next = kept_same k j x y s l })
      go false q = rw (known_same t setting l, q) (record { answer = refl; next = s })
  act_same k j s (RecordRead.Event x) (RecordRead.Refused n) l = absurd l
  act_same k j s (RecordRead.Refused n) (RecordRead.Event y) l = absurd l
  act_same k j s (RecordRead.Refused n) (RecordRead.Refused m) l = record { answer = ap Matched.Refused l; next = s }

  step_same :
      (k j : Kept Event) → Same k j → (c d : MatchCall)
      → LikeReads (tests setting t) (record_read c.bytes c.order) (record_read d.bytes d.order)
      → SameStep (stepped t setting k c) (stepped t setting j d)
  unfolding stepped
  step_same k j s c d l = go (eqb (step_number t setting j d) 0) refl
    where
      go : (b : Bool) → eqb (step_number t setting j d) 0 ≡ b → SameStep (stepped t setting k c) (stepped t setting j d)
      go true q =
          rw (number_same k j s c d l, q)
          (act_same k j s (record_read c.bytes c.order) (record_read d.bytes d.order) l)
      go false q = rw (number_same k j s c d l, q) (record { answer = refl; next = s })

  answers_same :
      (k j : Kept Event) → Same k j → {cs ds : List MatchCall} → Alike (tests setting t) cs ds
      → answers_from (kept_matcher t setting) k cs ≡ answers_from (kept_matcher t setting) j ds
  unfolding answers_from
  answers_same k j s Alike.empty = refl
  answers_same k j s (Alike.more {c} {d} {cs} {ds} l a) =
      let e = step_same k j s c d l in
      ap₂ ◌∷◌ e.answer (answers_same (stepped t setting k c).next (stepped t setting j d).next e.next a)

  pub blind :
      (cs ds : List MatchCall) → Alike (tests setting t) cs ds
      → answers_from (kept_matcher t setting) fresh cs ≡ answers_from (kept_matcher t setting) fresh ds
  blind cs ds a = answers_same fresh fresh fresh_same a
