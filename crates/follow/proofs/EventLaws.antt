-- One event against one event of a table, in the order of the code's tests.
use Prim.Native.Nat.{ℕ, ◌<◌}
use borrow.Author.Tests.{le-leb}
use native.Mathlib.Omega.{arith}
use Rattle.std.proofs.Math.Bool.{and_assoc}
use Rattle.std.proofs.lemmas.Bool.Decides.{nat_tests}
use mathlib.Core.Path.{◌≡◌, refl, sym, ap, ap₂, ◌∙◌}
use mathlib.Core.Bool.{Bool, true, false, not, ◌&&◌}
use mathlib.Core.List.{List}
use Rattle.std.specs.Prelude.{Option}
use Rattle.model.specs.Modifiers.{state_meets}
use Rattle.model.specs.Setting.{Setting}
use Rattle.model.specs.Named.{no_keysyms, kept_as_written}
use Rattle.model.specs.Asked.{Test, asked, test_met}
use Rattle.model.specs.Counts.{Element, quick}
use Rattle.model.specs.Matching.{detail_met, meets, in_time, fits}
use Rattle.model.specs.declared.events.Event.{Event}
use Rattle.model.specs.declared.events.Detail.{Detail}
use Rattle.model.specs.declared.events.KeptEvent.{KeptEvent}
use Rattle.keyboard.proofs.Pairs.{key_matches_lem}
use Rattle.records.specs.Ranges.{EventRanges}
use Rattle.tables.specs.Reading.{is_flag, event_from_words, event_entry}
use Rattle.tables.specs.Fitting.{keysyms_in_range}
use Rattle.tables.proofs.EventWords.{keysym_facts}
use Rattle.resolving.specs.declared.Resolved.{Resolved}
use Rattle.resolving.specs.Gathering.{resolved_test}
use Rattle.resolving.proofs.Asking.{asked_plain}
use Rattle.follow.specs.Follow.{event_meets, detail_asked, asked_met, bits_meet, fits_after}
use Rattle.fields.specs.Fields.{flags_in, value_in}

-- ---- Events that keep no `!` and no name

plain_bang : (e : KeptEvent) → kept_as_written e ≡ false → e.bang ≡ false
plain_bang e p = grind arith

plain_names : (e : KeptEvent) → kept_as_written e ≡ false → e.names ≡ 0
plain_names e p = grind (arith, nat_tests)

plain_keysyms : (e : KeptEvent) → keysyms_in_range e.keysyms ≡ true → kept_as_written e ≡ false → e.keysyms ≡ no_keysyms
plain_keysyms e k p =
    let f = keysym_facts e.keysyms k in
    let a : e.keysyms.first ≡ 0 = grind (arith, nat_tests) in
    let b : e.keysyms.second ≡ 0 = grind (arith, nat_tests, f.first_second) in
    let c : e.keysyms.third ≡ 0 = grind (arith, nat_tests, f.second_third) in
    let d : e.keysyms.fourth ≡ 0 = grind (arith, nat_tests, f.third_fourth) in
    rw (a, b, c, d)

-- ---- The detail

-- under a setting it is what the test of the event asks
detail_asked_lem : (setting : Setting) (e : KeptEvent) (x : Event) → EventRanges x → (d : Detail)
    → detail_met setting e d x ≡ asked_met setting.keyboard (asked setting e).set (asked setting e).clear e d x
unfolding detail_asked
detail_asked_lem setting e x r Detail.Unspecified = refl
detail_asked_lem setting e x r (Detail.Value value) =
    rw (le-leb 2 x.code r.code_least, key_matches_lem setting e x.detail x.state value)

-- ---- The event

module _ (map : List ℕ) (set clear : ℕ) (l : List ℕ) (i : ℕ) (x : Event) where
  pub meets_detail : state_meets set clear (is_flag 2 (flags_in l i)) x.state ≡ true → is_flag 4 (flags_in l i) ≡ true
      → detail_asked map set clear (is_flag 1 (flags_in l i)) (value_in l i) x ≡ bits_meet map set clear (event_entry l i) x
  unfolding bits_meet event_entry event_from_words flags_in value_in
  meets_detail q g = rw (q, g)

  -- a detail that an event of a table asks for is had
  pub detail_had : is_flag 4 (flags_in l i) ≡ true → bits_meet map set clear (event_entry l i) x ≡ true
      → detail_asked map set clear (is_flag 1 (flags_in l i)) (value_in l i) x ≡ true
  unfolding bits_meet event_entry event_from_words flags_in value_in
  detail_had g m = grind (arith, rw g at m)

clause_kept : (setting : Setting) (e : KeptEvent) → (asked setting e).clause ≡ e.clause
unfolding asked
clause_kept setting e = refl

module _ (setting : Setting) (e : KeptEvent) (x : Event) (r : EventRanges x) where
  -- the event's test, by the bits that it asks under the setting
  pub meets_asked : event_meets setting e x
      ≡ not (asked setting e).dead && bits_meet setting.keyboard (asked setting e).set (asked setting e).clear e x
  unfolding event_meets test_met bits_meet
  meets_asked =
      ap₂ (λ (c d : Bool). (not (asked setting e).dead && state_meets (asked setting e).set (asked setting e).clear c x.state) && d)
      (clause_kept setting e) (detail_asked_lem setting e x r e.detail)
      ∙ and_assoc (not (asked setting e).dead)
      (state_meets (asked setting e).set (asked setting e).clear e.clause x.state)
      (asked_met setting.keyboard (asked setting e).set (asked setting e).clear e e.detail x)

  -- by what its names come to
  pub meets_resolved : (by : Resolved) → by ≡ resolved_test (asked setting e)
      → event_meets setting e x ≡ not by.dead && bits_meet setting.keyboard by.set by.clear e x
  meets_resolved by q =
      meets_asked ∙ ap (λ (b : Resolved). not b.dead && bits_meet setting.keyboard b.set b.clear e x) (sym q)

  -- it keeps no `!` and no name
  pub meets_plain : e.set < 8192 → e.clear < 8192 → keysyms_in_range e.keysyms ≡ true → kept_as_written e ≡ false
      → event_meets setting e x ≡ bits_meet setting.keyboard e.set e.clear e x
  meets_plain hs hc k p =
      meets_asked
      ∙ ap (λ (t : Test). not t.dead && bits_meet setting.keyboard t.set t.clear e x)
      (asked_plain setting e hs hc (plain_bang e p) (plain_names e p) (plain_keysyms e k p))

-- model's test, where the event two before is there if the element is timed
pub fits_same : (setting : Setting) (before : ℕ) (two : Option Event) (el : Element) (x : Event)
    → (el.timed ≡ true → in_time setting two x ≡ quick setting.time before x.time)
    → fits setting two el x ≡ fits_after setting before el x
unfolding fits_after meets event_meets
fits_same setting before two el x h = grind (arith, h)
