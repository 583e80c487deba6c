-- Laws of putting texts into bytes: none, one byte, one text after another, into no bytes, and a text that fits.
use Prim.Native.Nat.{ℕ, suc, ◌+◌, ◌≤◌, ◌<◌}
use native.Mathlib.Omega.{arith}
use native.Mathlib.Nat.{add-zero}
use native.Mathlib.Numerals.{add-one}
use mathlib.Core.Path.{◌≡◌, refl, sym, ap, ◌∙◌}
use mathlib.Core.List.{List, [], ◌∷◌, ◌++◌}
use lib.ListN.{length, take, drop, get_or, set, length-append, length-drop}
use lib.Seq.{sets, sets-eq, length-sets, take-suc, get_or-drop, set_out}
use Rattle.writing.specs.Overlay.{overlay, Put}

pub length_overlay : (out : List ℕ) (at : ℕ) (text : List ℕ) → length (overlay out at text) ≡ length out
unfolding overlay
length_overlay out at text = length-sets out at text

pub overlay_one : (out : List ℕ) (at b : ℕ) → overlay out at (b ∷ []) ≡ set out at b
unfolding overlay
overlay_one out at b = refl

sets_append : (a b out : List ℕ) (at : ℕ) → sets out at (a ++ b) ≡ sets (sets out at a) (at + length a) b
sets_append [] b out at = rw add-zero
sets_append (x ∷ a) b out at =
    let e : at + suc (length a) ≡ suc at + length a = omega arith in
    rw e (sets_append a b (set out at x) (suc at))

pub overlay_append : (out : List ℕ) (at : ℕ) (a b : List ℕ) → overlay out at (a ++ b) ≡ overlay (overlay out at a) (at + length a) b
unfolding overlay
overlay_append out at a b = sets_append a b out at

-- a text that fits, from the start
pub overlay_fits : (out text : List ℕ) → length text ≤ length out → overlay out 0 text ≡ text ++ drop (length text) out
unfolding overlay
overlay_fits out text h = let e : 0 + length text ≡ length text = omega arith in sets-eq text out 0 (rw e h) ∙ rw e

pub put_none : (out : List ℕ) (at : ℕ) → Put out out at at []
unfolding overlay
put_none out at = record { bytes = refl; next = omega arith }

pub put_one : (out : List ℕ) (at b : ℕ) → Put out (set out at b) at (at + 1) (b ∷ [])
put_one out at b = record { bytes = sym (overlay_one out at b); next = omega arith }

-- past the end nothing is stored
pub put_out : (out : List ℕ) (at b : ℕ) → length out ≤ at → Put out out at (at + 1) (b ∷ [])
put_out out at b h = record { bytes = sym (overlay_one out at b ∙ set_out out at b h); next = omega arith }

-- one text after another
pub put_then : {o p q : List ℕ} {i j k : ℕ} {a b : List ℕ} → Put o p i j a → Put p q j k b → Put o q i k (a ++ b)
put_then {o} {p} {q} {i} {j} {k} {a} {b} x y =
    record {
      bytes = y.bytes ∙ rw (x.bytes, x.next) (sym (overlay_append o i a b));
      next = omega (arith, x.next, y.next, length-append a b);
    }

pub put_length : {o p : List ℕ} {i j : ℕ} {a : List ℕ} → Put o p i j a → length p ≡ length o
put_length {o} {p} {i} {j} {a} x = ap length x.bytes ∙ length_overlay o i a

-- the same text by another name
pub put_as : {o p : List ℕ} {i j : ℕ} {a b : List ℕ} → a ≡ b → Put o p i j a → Put o p i j b
put_as e x = rw (← e) x

-- one more element of a list
take_more : (l : List ℕ) (i : ℕ) → i < length l → take (i + 1) l ≡ take i l ++ (get_or l i 0 ∷ [])
take_more l i h = rw add-one (take-suc l i 0 h)

-- one more byte of a part
pub part_more : (l : List ℕ) (start i : ℕ) → start + i < length l → take (i + 1) (drop start l) ≡ take i (drop start l) ++ (get_or l (start + i) 0 ∷ [])
part_more l start i h =
    take_more (drop start l) i (simp length-drop (omega arith))
    ∙ ap (λ (b : ℕ). take i (drop start l) ++ (b ∷ [])) (get_or-drop start l i 0)
