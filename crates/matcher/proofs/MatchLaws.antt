-- The numbers that refuse a call before its record is looked at, and the call past them.
use Prim.Native.Nat.{ℕ, ◌-◌, ◌≤◌, ◌<◌}
use native.Mathlib.Omega.{arith}
use borrow.Author.Tests.{eqb-true, eq-eqb, ne_eqb, ltb-true, ltb-false}
use mathlib.Core.Path.{◌≡◌, refl, sym, ap, ◌∙◌}
use mathlib.Core.Bool.{Bool, true, false, not, ◌||◌, false≢true}
use mathlib.Core.List.{List, []}
use lib.Dec.{eqb, ltb}
use lib.ListN.{length, take, drop, length-drop, drop_of_length-le}
use lib.Seq.{take_all}
use Rattle.model.specs.Setting.{Setting}
use Rattle.model.specs.Resolving.{is_bad_map}
use Rattle.model.specs.Lists.{any}
use Rattle.model.specs.Numbers.{MatchChecks, bad_record, match_order}
use Rattle.model.specs.Records.{is_bad_record, record_read}
use Rattle.model.specs.Matching.{has_type}
use Rattle.model.specs.Demand.{MatchCall}
use Rattle.model.specs.declared.events.Event.{Event}
use Rattle.model.specs.declared.answers.RecordRead.{RecordRead}
use Rattle.model.specs.declared.answers.Matched.{Matched}
use Rattle.keyboard.specs.Maps.{map_numbers, modifier_entries_in}
use Rattle.keyboard.proofs.Maps.{map_bytes_lem, map_numbers_lem}
use Rattle.machine.specs.Kept.{passes_context, act, stepped}
use Rattle.machine.proofs.Checks.{NoneApplies, none_applies}
use Rattle.machine.proofs.Limits.{never_full}
use Rattle.tables.specs.Layout.{table_length}
use Rattle.tables.specs.Reading.{decode}
use Rattle.tables.specs.Whole.{whole}
use Rattle.states.specs.declared.State.{State}
use Rattle.acting.specs.declared.Answer.{Answer}
use Rattle.states.specs.State.{kept_of, whole_state}
use Rattle.acting.specs.Act.{step_answer, refused_with}
use Rattle.matcher.specs.Match.{too_short, early_checks, match_number, call_answer}
use Rattle.fields.proofs.TableFacts.{table_facts}
use Rattle.acting.proofs.ActLaws.{refused_by, stepped_event, dropped_event}

-- ---- The order of the checks

-- the number of the checks that do not look at the record
abbrev early : Bool → Bool → Bool → Bool → ℕ
early short modifiers table state = match_order (early_checks short modifiers table state)

early_same : (a m b c bad full : Bool) → (early a m b c ≡ 0 → ⊥)
    → match_order (record { short = a; modifiers_bad = m; table_broken = b; state_broken = c; record_bad = bad; full = full }) ≡ early a m b c
early_same true m b c bad full n = refl
early_same false true b c bad full n = refl
early_same false false true c bad full n = refl
early_same false false false true bad full n = refl
early_same false false false false bad full n = absurd (n refl)

one≢ : (n : ℕ) → 1 ≤ n → n ≡ 0 → ⊥
one≢ n h e = omega arith

not_is : (b : Bool) → not b ≡ false → b ≡ true
not_is true q = refl
not_is false q = absurd (false≢true (sym q))

-- ---- Buffers

-- a keyboard map has 496 numbers exactly where there are its 1984 bytes
pub map_long_lem : (bytes : List ℕ) → ltb (length bytes) 1984 ≡ not (eqb (length (map_numbers bytes)) 496)
map_long_lem bytes = go (ltb (length bytes) 1984) refl
  where
    go : (b : Bool) → ltb (length bytes) 1984 ≡ b → b ≡ not (eqb (length (map_numbers bytes)) 496)
    go true q =
        let n = ltb-true (length bytes) 1984 q in
        rw (ne_eqb (length (map_numbers bytes)) 496 (λ h. omega (arith, map_bytes_lem bytes h)))
    go false q = rw (eq-eqb (length (map_numbers bytes)) 496 (map_numbers_lem bytes (ltb-false (length bytes) 1984 q)))

-- all bytes that follow the keyboard map
pub rest_is : (bytes : List ℕ) → take (length bytes - 1984) (drop 1984 bytes) ≡ modifier_entries_in bytes
rest_is bytes = take_all (length bytes - 1984) (drop 1984 bytes) (rw length-drop (omega arith))

-- fewer bytes have no modifier map
pub no_modifiers_lem : (bytes : List ℕ) → length bytes < 1984 → true ≡ is_bad_map (modifier_entries_in bytes)
unfolding is_bad_map
no_modifiers_lem bytes h =
    let d : drop 1984 bytes ≡ [] = drop_of_length-le bytes {i = 1984} (omega arith) in
    rw d

or_right : (a b : Bool) → (a || b) ≡ false → b ≡ false
or_right true b e = absurd (false≢true (sym e))
or_right false b e = e

mapped : (table map : List ℕ) → too_short table map ≡ false → length map ≡ 496
unfolding too_short
mapped table map e =
    eqb-true (length map) 496
    (not_is (eqb (length map) 496) (or_right (ltb (length table) table_length) (not (eqb (length map) 496)) e))

-- ---- A call

module _ (table : List ℕ) (setting : Setting) (s : State) (c : MatchCall) where
  abbrev t_short : Bool
  t_short = too_short table setting.keyboard

  abbrev t_modifiers : Bool
  t_modifiers = is_bad_map setting.modifiers

  abbrev first_number : ℕ
  first_number = early t_short t_modifiers (not (whole table)) (not (whole_state s))

  refused_answer : (n : ℕ) → match_number table setting s c ≡ n → (n ≡ 0 → ⊥) → call_answer table setting s c ≡ refused_with n s
  unfolding call_answer
  refused_answer n e d = rw (e, ne_eqb n 0 d)

  -- 1, 18, 12 or 14
  pub refused_first : (n : ℕ) → n ≡ first_number → (n ≡ 0 → ⊥) → refused_with n s ≡ call_answer table setting s c
  unfolding match_number
  refused_first n e d =
      sym (refused_answer n
      (early_same t_short t_modifiers (not (whole table)) (not (whole_state s)) (is_bad_record c.bytes c.order)
      (passes_context (decode table) setting (kept_of s) (record_read c.bytes c.order)) (λ z. d (e ∙ z))
      ∙ sym e) d)

  -- what holds past those checks
  pub record Past : Type 0 where
    pub is_whole : whole table ≡ true
    pub map_long : length setting.keyboard ≡ 496
    pub modifiers_good : is_bad_map setting.modifiers ≡ false
    pub state_whole : whole_state s ≡ true
    pub not_short : too_short table setting.keyboard ≡ false

  past_by : (checks : MatchChecks) → NoneApplies checks → checks.short ≡ t_short → checks.modifiers_bad ≡ t_modifiers
      → checks.table_broken ≡ not (whole table) → checks.state_broken ≡ not (whole_state s) → Past
  past_by checks p a m b d =
      record {
        is_whole = not_is (whole table) (sym b ∙ p.table_broken);
        map_long = mapped table setting.keyboard (sym a ∙ p.short);
        modifiers_good = sym m ∙ p.modifiers_bad;
        state_whole = not_is (whole_state s) (sym d ∙ p.state_broken);
        not_short = sym a ∙ p.short;
      }

  pub past : first_number ≡ 0 → Past
  past e =
      let checks : MatchChecks = early_checks t_short t_modifiers (not (whole table)) (not (whole_state s)) in
      past_by checks (none_applies checks (eq-eqb first_number 0 e)) refl refl refl refl

  -- where none applies at all
  pub past_all : match_number table setting s c ≡ 0 → Past × (is_bad_record c.bytes c.order ≡ false)
  unfolding match_number
  past_all e =
      let checks : MatchChecks = record {
        short = t_short;
        modifiers_bad = t_modifiers;
        table_broken = not (whole table);
        state_broken = not (whole_state s);
        record_bad = is_bad_record c.bytes c.order;
        full = passes_context (decode table) setting (kept_of s) (record_read c.bytes c.order);
      } in
      let p = none_applies checks (eq-eqb (match_order checks) 0 e) in
      (past_by checks p refl refl refl refl, p.record_bad)

  module _ (p : Past) where
    number_is : (bad : Bool) → is_bad_record c.bytes c.order ≡ bad
        → match_number table setting s c ≡ match_order (record { short = false; modifiers_bad = false; table_broken = false; state_broken = false; record_bad = bad; full = false })
    unfolding match_number
    number_is bad e =
        rw (
          p.not_short,
          p.modifiers_good,
          p.is_whole,
          p.state_whole,
          e,
          never_full (decode table) (table_facts table p.is_whole).limit setting (kept_of s) (record_read c.bytes c.order),
        )

    -- past them the call acts
    pub call_is : step_answer (stepped (decode table) setting (kept_of s) c) ≡ call_answer table setting s c
    unfolding call_answer
    call_is = go (is_bad_record c.bytes c.order) refl
      where
        go : (bad : Bool) → is_bad_record c.bytes c.order ≡ bad
            → step_answer (stepped (decode table) setting (kept_of s) c) ≡ call_answer table setting s c
        go true e =
            sym (refused_by (decode table) (table_facts table p.is_whole).limit setting p.map_long p.modifiers_good c s p.state_whole e)
            ∙ sym (refused_answer bad_record (number_is true e) (one≢ 13 (omega arith)))
        go false e = rw (number_is false e)

    pub acted : (x : Event) → record_read c.bytes c.order ≡ RecordRead.Event x
        → call_answer table setting s c ≡ step_answer (act (decode table) setting (kept_of s) (RecordRead.Event x))
    acted x r =
        sym call_is
        ∙ ap step_answer (stepped_event (decode table) (table_facts table p.is_whole).limit setting p.map_long p.modifiers_good c (kept_of s) x r)

    -- no production has an event of its type
    pub dropped_call : (x : Event) → record_read c.bytes c.order ≡ RecordRead.Event x
        → any (has_type x.code) (decode table).productions ≡ false
        → ◌≡◌ {A = Answer} (record { matched = Matched.Dropped; state = s }) (call_answer table setting s c)
    dropped_call x r q =
        dropped_event (decode table) (table_facts table p.is_whole).limit setting p.map_long p.modifiers_good c s p.state_whole x r q
        ∙ call_is
