-- Lists: what the rules of document 01 say in ordinary words, "some", "every", "the earliest", "in all".
use Rattle.std.specs.Prelude.{ℕ, suc, ◌+◌, ◌-◌, Bool, true, false, cond, ◌&&◌, ◌||◌, List, [], ◌∷◌, eqb, ltb, take, drop, Option, None, Some}
use Prim.Native.Char.{code}
use Prim.Native.String.{String}

-- the bytes of a text in ISO Latin-1
abbrev pub bytes : String → List ℕ
bytes String.[] = []
bytes (String.◌∷◌ c s) = code c ∷ bytes s

-- two lists of bytes are the same
abbrev pub same : List ℕ → List ℕ → Bool
same [] [] = true
same [] (y ∷ ys) = false
same (x ∷ xs) [] = false
same (x ∷ xs) (y ∷ ys) = eqb x y && same xs ys

-- one list of bytes stands before another in byte order: the first byte in which they differ decides, else the shorter is first
unfoldable pub is_before : List ℕ → List ℕ → Bool
is_before [] [] = false
is_before [] (y ∷ ys) = true
is_before (x ∷ xs) [] = false
is_before (x ∷ xs) (y ∷ ys) = cond (eqb x y) (is_before xs ys) (ltb x y)

-- the bytes from start up to end
abbrev pub part : List ℕ → ℕ → ℕ → List ℕ
part l start end = take (end - start) (drop start l)

module _ {A : Type 0} where
  -- some element passes the test
  abbrev pub any : (A → Bool) → List A → Bool
  any test [] = false
  any test (x ∷ xs) = test x || any test xs

  -- every element passes the test
  abbrev pub all : (A → Bool) → List A → Bool
  all test [] = true
  all test (x ∷ xs) = test x && all test xs

  -- the elements that pass the test, in order
  abbrev pub those : (A → Bool) → List A → List A
  those test [] = []
  those test (x ∷ xs) = cond (test x) (x ∷ those test xs) (those test xs)

  -- the place of the earliest element that passes the test; the first of the list has the place i
  abbrev pub earliest : (A → Bool) → ℕ → List A → Option ℕ
  earliest test i [] = None
  earliest test i (x ∷ xs) = cond (test x) (Some i) (earliest test (suc i) xs)

  -- the sum of a measure over all elements
  abbrev pub in_all : (A → ℕ) → List A → ℕ
  in_all measure [] = 0
  in_all measure (x ∷ xs) = measure x + in_all measure xs

  -- something is given
  abbrev pub given : Option A → Bool
  given None = false
  given (Some a) = true

  abbrev pub is_empty : List A → Bool
  is_empty [] = true
  is_empty (x ∷ xs) = false

  abbrev pub beginning : List A → Option A
  beginning [] = None
  beginning (x ∷ xs) = Some x
