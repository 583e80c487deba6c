-- What a detail's value is written as, by the event's code.
use Prim.Native.Nat.{ℕ, ◌≤◌, ◌<◌}
use native.Mathlib.Omega.{arith}
use mathlib.Core.Path.{◌≡◌, ap}
use mathlib.Core.List.{List, ◌∷◌, ◌++◌, append_assoc}
use borrow.Author.Tests.{le-leb, lt-leb, ne_eqb}
use Rattle.model.specs.Lists.{bytes}
use Rattle.model.specs.Canonical.{keysym_text, value_text}
use Rattle.names.specs.Places.{buttons_at, motions_at, modes_at, requests_at}
use Rattle.event_text.specs.Named.{place_or_number}
use Rattle.event_text.proofs.Named.{button_name, motion_name, mode_name, request_name}

module _ (code v : ℕ) where
  pub value_key : 2 ≤ code → code ≤ 3 → keysym_text v ≡ value_text code v
  unfolding value_text
  value_key h k = rw (le-leb 2 code h, le-leb code 3 k)

  pub value_button : 3 < code → code ≤ 5 → place_or_number v 1 5 buttons_at ≡ value_text code v
  unfolding value_text
  value_button h k =
      let l : 2 ≤ code = omega arith in
      let m : 4 ≤ code = omega arith in
      rw (le-leb 2 code l, lt-leb code 3 h, le-leb 4 code m, le-leb code 5 k, button_name v)

  pub value_motion : code ≡ 6 → place_or_number v 0 2 motions_at ≡ value_text code v
  unfolding value_text
  value_motion e = rw (e, motion_name v)

  pub value_mode : 7 ≤ code → code ≤ 10 → place_or_number v 0 4 modes_at ≡ value_text code v
  unfolding value_text
  value_mode h k =
      let l : 2 ≤ code = omega arith in
      let m : 4 ≤ code = omega arith in
      let o : 3 < code = omega arith in
      let p : 5 < code = omega arith in
      rw (le-leb 2 code l, lt-leb code 3 o, le-leb 4 code m, lt-leb code 5 p, ne_eqb code 6 (λ e. omega arith), le-leb 7 code h, le-leb code 10 k, mode_name v)

  pub value_request : 10 < code → place_or_number v 0 3 requests_at ≡ value_text code v
  unfolding value_text
  value_request h =
      let l : 2 ≤ code = omega arith in
      let m : 4 ≤ code = omega arith in
      let o : 3 < code = omega arith in
      let p : 7 ≤ code = omega arith in
      let q : 5 < code = omega arith in
      rw (le-leb 2 code l, lt-leb code 3 o, le-leb 4 code m, lt-leb code 5 q, ne_eqb code 6 (λ e. omega arith), le-leb 7 code p, lt-leb code 10 h, request_name v)

-- the detail follows `<type>(count)`
pub then_detail : (type count detail : List ℕ)
    → (bytes "<" ++ (type ++ (bytes ">" ++ count))) ++ detail ≡ bytes "<" ++ (type ++ (bytes ">" ++ (count ++ detail)))
then_detail type count detail = ap (λ (l : List ℕ). 60 ∷ l) (append_assoc type (62 ∷ count) detail)
