-- A text holds bytes at a place.
use Prim.Native.Nat.{ℕ, ◌+◌}
use mathlib.Core.Path.{◌≡◌, sym, ap, ◌∙◌}
use mathlib.Core.List.{List, ◌++◌, append_assoc}
use lib.ListN.{length, take, drop, length-append}
use lib.Seq.{take-append_seam, drop-append_seam}
use Rattle.model.specs.Compiling.{in_text}
use Rattle.model.specs.declared.scan.Span.{Span}
use Rattle.grammar.specs.Tokens.{Stands}

pub record Holds (l : List ℕ) (s : Span) (w : List ℕ) : Type 0 where
  pub before : List ℕ
  pub after : List ℕ
  pub split : l ≡ before ++ (w ++ after)
  pub start : s.start ≡ length before
  pub len : s.len ≡ length w

pub holds_bytes : {l w : List ℕ} {s : Span} → Holds l s w → take s.len (drop s.start l) ≡ w
holds_bytes {l} {w} {s} h =
    rw (h.start, h.len, h.split, drop-append_seam h.before (w ++ h.after)) (take-append_seam w h.after)

-- a line of a text
pub holds_in : {l w : List ℕ} {s : Span} (b a : List ℕ) → Holds l s w → Holds (b ++ (l ++ a)) (in_text (length b) s) w
holds_in {l} {w} {s} b a h =
    record {
      before = b ++ h.before;
      after = h.after ++ a;
      split =
          ap {B = List ℕ} (λ x. b ++ (x ++ a)) h.split ∙ ap {B = List ℕ} (λ x. b ++ x) (append_assoc h.before (w ++ h.after) a)
          ∙ ap {B = List ℕ} (λ x. b ++ (h.before ++ x)) (append_assoc w h.after a)
          ∙ sym (append_assoc b h.before (w ++ (h.after ++ a)));
      start = ap (λ (n : ℕ). length b + n) h.start ∙ sym (length-append b h.before);
      len = h.len;
    }

-- where the grammar says that bytes stand
pub stands_holds : {line m w : List ℕ} {s : Span} (r : List ℕ) → Stands line m w s → m ≡ w ++ r → Holds line s w
stands_holds {line} {m} {w} {s} r x e =
    record {
      before = x.before;
      after = r;
      split = x.split ∙ ap {B = List ℕ} (λ y. x.before ++ y) e;
      start = ap (λ (p : Span). p.start) x.place;
      len = ap (λ (p : Span). p.len) x.place;
    }
