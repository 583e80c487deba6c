-- The value of a written detail, by cases: none, one that the type fixes, one that is read.
use Prim.Native.Nat.{ℕ}
use native.Mathlib.Omega.{arith}
use mathlib.Core.Path.{◌≡◌, refl, ap, ◌∙◌}
use mathlib.Core.Bool.{false, cond}
use mathlib.Core.List.{List, [], ◌∷◌}
use lib.ListN.{length}
use Rattle.model.specs.Details.{detail_named}
use Rattle.model.specs.Judging.{fixes, detail_of, kept_detail}
use Rattle.model.specs.declared.events.Detail.{Detail}
use Rattle.model.specs.declared.names.EventType.{EventType}
use Rattle.model.specs.declared.names.DetailRead.{DetailRead}
use Rattle.judge.specs.Judged.{read_summary, detail_summary}

module _ (ty : EventType) where
  pub detail_none : (word : List ℕ) → length word ≡ 0
      → detail_summary ty word ≡ record { unknown = false; too_large = false; unbuilt = false; kept = ty.detail }
  unfolding detail_summary kept_detail
  detail_none [] e = refl
  detail_none (b ∷ bs) e = absurd (omega arith)

  detail_read : (word : List ℕ) → (length word ≡ 0 → ⊥) → detail_summary ty word ≡ read_summary (detail_of ty word)
  unfolding detail_summary read_summary kept_detail
  detail_read [] f = absurd (f refl)
  detail_read (b ∷ bs) f = refl

  pub detail_fixed : (word : List ℕ) (v : ℕ) → (length word ≡ 0 → ⊥) → ty.detail ≡ Detail.Value v
      → detail_summary ty word ≡ read_summary DetailRead.Unknown
  unfolding detail_of
  detail_fixed word v f e =
      detail_read word f
      ∙ ap (λ (d : Detail). read_summary (cond (fixes d) DetailRead.Unknown (detail_named ty.code word))) e

  pub detail_named_lem : (word : List ℕ) → (length word ≡ 0 → ⊥) → ty.detail ≡ Detail.Unspecified
      → detail_summary ty word ≡ read_summary (detail_named ty.code word)
  unfolding detail_of
  detail_named_lem word f e =
      detail_read word f
      ∙ ap (λ (d : Detail). read_summary (cond (fixes d) DetailRead.Unknown (detail_named ty.code word))) e
