-- Sections of any capacities: a word read at section j gives its element, and a word put past its last appends to it.
use Prim.Native.Nat.{ℕ, zero, suc, ◌+◌, ◌-◌, ◌≤◌, ◌<◌}
use native.Mathlib.Omega.{arith}
use native.Mathlib.Nat.{zero-add, suc-add}
use mathlib.Core.Path.{◌≡◌, refl, sym, ap, ◌∙◌}
use mathlib.Core.List.{List, [], ◌∷◌, ◌++◌, append_assoc}
use lib.ListN.{length, get_or, set, length-append, get_or-append}
use lib.Seq.{get_or-append-add, set-append_left, set-append_seam}
use Rattle.words.specs.Words.{zeros}
use Rattle.words.proofs.Laws.{length_zeros, get_d_zeros}
use Rattle.tables.specs.Layout.{padded, joined_sections, offset}

-- each section is within its capacity
pub data Sized : List ℕ → List (List ℕ) → Type 0 where
  none : Sized [] []
  more : {c : ℕ} {s : List ℕ} {cs : List ℕ} {ss : List (List ℕ)} → length s ≤ c → Sized cs ss → Sized (c ∷ cs) (s ∷ ss)

pub length_padded : (c : ℕ) (s : List ℕ) → length s ≤ c → length (padded c s) ≡ c
unfolding padded
length_padded c s h = simp (length-append, length_zeros) (omega arith)

pub get_d_padded : (c : ℕ) (s : List ℕ) (i : ℕ) → get_or (padded c s) i 0 ≡ get_or s i 0
unfolding padded
get_d_padded c s i = tail (c - length s) s i
  where
    tail : (n : ℕ) (s : List ℕ) (i : ℕ) → get_or (s ++ zeros n) i 0 ≡ get_or s i 0
    tail n [] i = get_d_zeros n i
    tail n (x ∷ xs) zero = refl
    tail n (x ∷ xs) (suc i) = tail n xs i

-- one more word
pub set_padded : (c : ℕ) (s : List ℕ) (w : ℕ) → length s < c → set (padded c s) (length s) w ≡ padded c (s ++ (w ∷ []))
unfolding padded zeros
set_padded c s w h =
    let e : c - length s ≡ suc (c - length (s ++ (w ∷ []))) = omega (arith, length-append s (w ∷ [])) in
    ap (λ (n : ℕ). set (s ++ zeros n) (length s) w) e
    ∙ one (c - length (s ++ (w ∷ [])))
  where
    one : (n : ℕ) → set (s ++ zeros (suc n)) (length s) w ≡ s ++ (w ∷ []) ++ zeros n
    one n = set-append_seam s 0 (zeros n) w ∙ sym (append_assoc s (w ∷ []) (zeros n))

pub length_joined : (cs : List ℕ) (ss : List (List ℕ)) → Sized cs ss → length (joined_sections cs ss) ≡ offset cs (length cs)
unfolding joined_sections
length_joined [] [] none = refl
length_joined [] (s ∷ ss) x = elim x [ ]
length_joined (c ∷ cs) [] x = elim x [ ]
length_joined (c ∷ cs) (s ∷ ss) (more h r) =
    length-append (padded c s) (joined_sections cs ss) ∙ omega (arith, length_padded c s h, length_joined cs ss r)

-- reading word i of section j
pub read_joined : (cs : List ℕ) (ss : List (List ℕ)) (j i : ℕ) → Sized cs ss → i < get_or cs j 0
    → get_or (joined_sections cs ss) (offset cs j + i) 0 ≡ get_or (get_or ss j []) i 0
unfolding joined_sections
read_joined [] [] j i none h = absurd (omega arith)
read_joined [] (s ∷ ss) j i x h = elim x [ ]
read_joined (c ∷ cs) [] j i x h = elim x [ ]
read_joined (c ∷ cs) (s ∷ ss) zero i (more q r) h =
    rw zero-add (get_or-append (padded c s) (joined_sections cs ss) 0 i (omega (arith, length_padded c s q)) ∙ get_d_padded c s i)
read_joined (c ∷ cs) (s ∷ ss) (suc j) i (more q r) h =
    let e : c + offset cs j + i ≡ length (padded c s) + (offset cs j + i) = omega (arith, length_padded c s q) in
    rw e (get_or-append-add (padded c s) (joined_sections cs ss) (offset cs j + i) 0 ∙ read_joined cs ss j i r h)

pub set_right : (a l : List ℕ) (i w : ℕ) → set (a ++ l) (length a + i) w ≡ a ++ set l i w
set_right [] l i w = rw zero-add
set_right (x ∷ xs) l i w = rw suc-add (ap (λ (r : List ℕ). x ∷ r) (set_right xs l i w))

-- putting a word past the last one of section j
pub append_joined : (cs : List ℕ) (ss : List (List ℕ)) (j w : ℕ) → Sized cs ss → length (get_or ss j []) < get_or cs j 0
    → set (joined_sections cs ss) (offset cs j + length (get_or ss j [])) w ≡ joined_sections cs (set ss j (get_or ss j [] ++ (w ∷ [])))
unfolding joined_sections
append_joined [] [] j w none h = absurd (omega arith)
append_joined [] (s ∷ ss) j w x h = elim x [ ]
append_joined (c ∷ cs) [] j w x h = elim x [ ]
append_joined (c ∷ cs) (s ∷ ss) zero w (more q r) h =
    rw zero-add
    (set-append_left (padded c s) (joined_sections cs ss) (length s) w (omega (arith, length_padded c s q))
    ∙ ap (λ (x : List ℕ). x ++ joined_sections cs ss) (set_padded c s w h))
append_joined (c ∷ cs) (s ∷ ss) (suc j) w (more q r) h =
    let e : c + offset cs j + length (get_or ss j []) ≡ length (padded c s) + (offset cs j + length (get_or ss j [])) = omega (arith, length_padded c s q) in
    rw e
    (set_right (padded c s) (joined_sections cs ss) (offset cs j + length (get_or ss j [])) w
    ∙ ap (λ (x : List ℕ). padded c s ++ x) (append_joined cs ss j w r h))

-- a word of a section is a word of all
pub offset_below : (cs : List ℕ) (j i : ℕ) → i < get_or cs j 0 → offset cs j + i < offset cs (length cs)
offset_below [] j i h = absurd (omega arith)
offset_below (c ∷ cs) zero i h = omega arith
offset_below (c ∷ cs) (suc j) i h = omega (arith, offset_below cs j i h)
