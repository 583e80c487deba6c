-- Details by their names in the table of names, value by value.
use Prim.Native.Nat.{ℕ, zero, suc}
use native.Mathlib.Omega.{arith}
use mathlib.Core.Path.{◌≡◌, refl}
use borrow.Author.Tests.{ne_eqb, le-ltb, le-leb}
use Rattle.model.specs.Details.{keysym_entries, button_entries, motion_entries, mode_entries, request_entries}
use Rattle.model.specs.Canonical.{name_or_decimal}
use Rattle.names.specs.Places.{buttons_at, motions_at, modes_at, requests_at}
use Rattle.names.specs.Table.{name_row, all_names, other_names}
use Rattle.event_text.specs.Named.{place_or_number}

pub button_name : (v : ℕ) → name_or_decimal button_entries v ≡ place_or_number v 1 5 buttons_at
unfolding name_row all_names other_names keysym_entries button_entries motion_entries mode_entries request_entries place_or_number
button_name zero = refl
button_name (suc zero) = refl
button_name (suc (suc zero)) = refl
button_name (suc (suc (suc zero))) = refl
button_name (suc (suc (suc (suc zero)))) = refl
button_name (suc (suc (suc (suc (suc zero))))) = refl
button_name (suc (suc (suc (suc (suc (suc v)))))) =
    rw (
      ne_eqb 1 (suc (suc (suc (suc (suc (suc v)))))) (λ e. omega arith),
      ne_eqb 2 (suc (suc (suc (suc (suc (suc v)))))) (λ e. omega arith),
      ne_eqb 3 (suc (suc (suc (suc (suc (suc v)))))) (λ e. omega arith),
      ne_eqb 4 (suc (suc (suc (suc (suc (suc v)))))) (λ e. omega arith),
      ne_eqb 5 (suc (suc (suc (suc (suc (suc v)))))) (λ e. omega arith),
      le-ltb (suc (suc (suc (suc (suc (suc v)))))) 1 (omega arith),
      le-leb 6 (suc (suc (suc (suc (suc (suc v)))))) (omega arith),
    )

pub motion_name : (v : ℕ) → name_or_decimal motion_entries v ≡ place_or_number v 0 2 motions_at
unfolding name_row all_names other_names keysym_entries button_entries motion_entries mode_entries request_entries place_or_number
motion_name zero = refl
motion_name (suc zero) = refl
motion_name (suc (suc v)) =
    rw (
      ne_eqb 0 (suc (suc v)) (λ e. omega arith),
      ne_eqb 1 (suc (suc v)) (λ e. omega arith),
      le-ltb (suc (suc v)) 0 (omega arith),
      le-leb 2 (suc (suc v)) (omega arith),
    )

pub mode_name : (v : ℕ) → name_or_decimal mode_entries v ≡ place_or_number v 0 4 modes_at
unfolding name_row all_names other_names keysym_entries button_entries motion_entries mode_entries request_entries place_or_number
mode_name zero = refl
mode_name (suc zero) = refl
mode_name (suc (suc zero)) = refl
mode_name (suc (suc (suc zero))) = refl
mode_name (suc (suc (suc (suc v)))) =
    rw (
      ne_eqb 0 (suc (suc (suc (suc v)))) (λ e. omega arith),
      ne_eqb 1 (suc (suc (suc (suc v)))) (λ e. omega arith),
      ne_eqb 2 (suc (suc (suc (suc v)))) (λ e. omega arith),
      ne_eqb 3 (suc (suc (suc (suc v)))) (λ e. omega arith),
      le-ltb (suc (suc (suc (suc v)))) 0 (omega arith),
      le-leb 4 (suc (suc (suc (suc v)))) (omega arith),
    )

pub request_name : (v : ℕ) → name_or_decimal request_entries v ≡ place_or_number v 0 3 requests_at
unfolding name_row all_names other_names keysym_entries button_entries motion_entries mode_entries request_entries place_or_number
request_name zero = refl
request_name (suc zero) = refl
request_name (suc (suc zero)) = refl
request_name (suc (suc (suc v))) =
    rw (
      ne_eqb 0 (suc (suc (suc v))) (λ e. omega arith),
      ne_eqb 1 (suc (suc (suc v))) (λ e. omega arith),
      ne_eqb 2 (suc (suc (suc v))) (λ e. omega arith),
      le-ltb (suc (suc (suc v))) 0 (omega arith),
      le-leb 3 (suc (suc (suc v))) (omega arith),
    )
