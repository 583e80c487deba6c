-- Every event that a record is read to has a code of the protocol, a state of 13 bits and, of a key, a keycode from 8 on.
use Prim.Native.Nat.{ℕ, ◌<◌}
use native.Mathlib.Omega.{arith}
use mathlib.Core.Path.{◌≡◌, refl, subst}
use mathlib.Core.Bool.{Bool, true, false, cond}
use mathlib.Core.List.{List}
use lib.Dec.{eqb}
use Rattle.std.proofs.lemmas.Bool.Decides.{nat_tests}
use Rattle.model.specs.Bytes.{in_range, byte_at}
use Rattle.model.specs.Records.{code_of, time_of, state_of, event_with, event_of, is_bad_record, record_read}
use Rattle.model.specs.declared.events.Event.{Event}
use Rattle.model.specs.declared.answers.RecordRead.{RecordRead}
use Rattle.records.specs.Ranges.{EventRanges}

-- ---- The fields, whatever the code

module _ (P : Event → Type 0) (a b c d e : Event) (pa : P a) (pb : P b) (pc : P c) (pd : P d) (pe : P e) where
  each : (s t u v : Bool) → P (cond s a (cond t b (cond u c (cond v d e))))
  each true t u v = pa
  each false true u v = pb
  each false false true v = pc
  each false false false true = pd
  each false false false false = pe

state_below : (bytes : List ℕ) (order : ℕ) → state_of bytes order < 8192
unfolding state_of
state_below bytes order = omega arith

module _ (bytes : List ℕ) (order code : ℕ) where
  abbrev read : ℕ → Event
  read detail = event_with code detail (time_of bytes order) (state_of bytes order)

  pub event_code : (event_of bytes order code).code ≡ code
  unfolding event_of
  event_code =
      each (λ (x : Event). x.code ≡ code)
      (read (byte_at bytes 1)) (read (byte_at bytes 30)) (event_with code (byte_at bytes 8) 0 0) (event_with code (byte_at bytes 4) 0 0)
      (event_with code 0 0 0) refl refl refl refl refl
      (in_range 2 code 6) (in_range 7 code 8) (in_range 9 code 10) (eqb code 34)

  pub event_state : (event_of bytes order code).state < 8192
  unfolding event_of
  event_state =
      each (λ (x : Event). x.state < 8192)
      (read (byte_at bytes 1)) (read (byte_at bytes 30)) (event_with code (byte_at bytes 8) 0 0) (event_with code (byte_at bytes 4) 0 0)
      (event_with code 0 0 0) (state_below bytes order) (state_below bytes order) (omega arith) (omega arith) (omega arith)
      (in_range 2 code 6) (in_range 7 code 8) (in_range 9 code 10) (eqb code 34)

-- ---- A record that is read

event_ranges : (bytes : List ℕ) (order : ℕ) → is_bad_record bytes order ≡ false → EventRanges (event_of bytes order (code_of bytes))
unfolding is_bad_record event_of state_of
event_ranges bytes order good =
    record {
      code_least = grind (arith, nat_tests);
      code_most = grind (arith, nat_tests);
      state_most = grind (arith, nat_tests);
      keycode_least = λ h. grind (arith, nat_tests);
    }

pub read_ranges : (bytes : List ℕ) (order : ℕ) (e : Event) → record_read bytes order ≡ RecordRead.Event e → EventRanges e
unfolding record_read
read_ranges bytes order e r = go (is_bad_record bytes order) refl
  where
    go : (t : Bool) → is_bad_record bytes order ≡ t → EventRanges e
    go true q = let n = rw q at r in absurd cc
    go false q =
        let n = rw q at r in
        let s : event_of bytes order (code_of bytes) ≡ e = cc in
        subst EventRanges s (event_ranges bytes order q)
