-- Sections of one capacity that stand in a row, one for each field of some entries: the words of an entry read back, and one
-- entry more put. A field more is an element of the list of fields, and no law changes.
use Prim.Native.Nat.{ℕ, zero, suc, ◌+◌, ◌≤◌, ◌<◌}
use native.Mathlib.Omega.{arith}
use mathlib.Core.Path.{◌≡◌, refl, sym, ap, ◌∙◌}
use mathlib.Core.List.{List, [], ◌∷◌, ◌++◌, map, append_assoc}
use lib.ListN.{length, get_or, set, drop, length-map, length-append, length-set, get_or-append, get_or-map}
use lib.Seq.{get_or-append-add, set-append_left}
use Rattle.words.specs.Words.{word_at, word_bytes, put_word, zeros}
use Rattle.words.proofs.Images.{put_image, word_image}
use Rattle.tables.specs.Layout.{padded, joined_sections, columns, for_each}
use Rattle.tables.proofs.Sections.{Sized, more, length_padded, get_d_padded, set_padded, set_right}

pub consed : {A : Type 0} {x y : A} {xs ys : List A} → x ≡ y → xs ≡ ys → (x ∷ xs) ≡ (y ∷ ys)
consed p q = rw (p, q)

-- ---- Places that stand c apart, and a number past each

-- what stands at n of them, from s on
unfoldable pub spread : (ℕ → ℕ) → (c n s i : ℕ) → List ℕ
spread w c zero s i = []
spread w c (suc n) s i = w (s + i) ∷ spread w c n (s + c) i

-- words with some put there
unfoldable pub set_all : List ℕ → (c s i : ℕ) → List ℕ → List ℕ
set_all W c s i [] = W
set_all W c s i (w ∷ ws) = set_all (set W (s + i) w) c (s + c) i ws

-- and bytes
unfoldable pub put_all : List ℕ → (c s i : ℕ) → List ℕ → List ℕ
put_all l c s i [] = l
put_all l c s i (w ∷ ws) = put_all (put_word l (s + i) w) c (s + c) i ws

-- how many words n sections take
unfoldable pub reach : (c n : ℕ) → ℕ
reach c zero = 0
reach c (suc n) = c + reach c n

-- the same of bytes and of their words
pub put_all_lem : (W rest : List ℕ) (c s i : ℕ) (ws : List ℕ) → i < c → s + reach c (length ws) ≤ length W
    → put_all (word_bytes W ++ rest) c s i ws ≡ word_bytes (set_all W c s i ws) ++ rest
unfolding put_all set_all reach
put_all_lem W rest c s i [] b h = refl
put_all_lem W rest c s i (w ∷ ws) b h =
    ap (λ (l : List ℕ). put_all l c (s + c) i ws) (put_image W rest (s + i) w (omega arith))
    ∙ put_all_lem (set W (s + i) w) rest c (s + c) i ws b (omega (arith, length-set W (s + i) w))

pub read_all : (W rest : List ℕ) (c n s i : ℕ) → i < c → s + reach c n ≤ length W
    → ((k : ℕ) → get_or (spread (λ k. get_or W k 0) c n s i) k 0 < 65536)
    → spread (word_at (word_bytes W ++ rest)) c n s i ≡ spread (λ k. get_or W k 0) c n s i
unfolding spread reach
read_all W rest c zero s i b h small = refl
read_all W rest c (suc n) s i b h small =
    consed (word_image W rest (s + i) (omega arith) (small 0)) (read_all W rest c n (s + c) i b (omega arith) (λ k. small (suc k)))

-- ---- Sections

map_append_one : {A : Type 0} (f : A → ℕ) (xs : List A) (x : A) → map f (xs ++ (x ∷ [])) ≡ map f xs ++ (f x ∷ [])
map_append_one f [] x = refl
map_append_one f (y ∷ ys) x = ap (λ (r : List ℕ). f y ∷ r) (map_append_one f ys x)

module _ {A : Type 0} (c : ℕ) (xs : List A) where
  pub sized_columns : (fs : List (A → ℕ)) {cs : List ℕ} {ss : List (List ℕ)} → length xs ≤ c → Sized cs ss
      → Sized (for_each fs c ++ cs) (columns fs xs ++ ss)
  unfolding columns
  sized_columns [] h r = r
  sized_columns (f ∷ fs) h r = let b : length (map f xs) ≤ c = omega (arith, length-map xs f) in more b (sized_columns fs h r)

  length_column : (f : A → ℕ) → length xs ≤ c → length (padded c (map f xs)) ≡ c
  length_column f h = length_padded c (map f xs) (omega (arith, length-map xs f))

  pub length_columns : (fs : List (A → ℕ)) → length xs ≤ c → length (joined_sections (for_each fs c) (columns fs xs)) ≡ reach c (length fs)
  unfolding columns joined_sections reach
  length_columns [] h = refl
  length_columns (f ∷ fs) h =
      length-append (padded c (map f xs)) (joined_sections (for_each fs c) (columns fs xs))
      ∙ omega (arith, length_column f h, length_columns fs h)

  -- what stands past them
  pub past_columns : (fs : List (A → ℕ)) (cs : List ℕ) (ss : List (List ℕ))
      → joined_sections (for_each fs c ++ cs) (columns fs xs ++ ss) ≡ joined_sections (for_each fs c) (columns fs xs) ++ joined_sections cs ss
  unfolding columns joined_sections
  past_columns [] cs ss = refl
  past_columns (f ∷ fs) cs ss =
      rw (past_columns fs cs ss) (sym (append_assoc (padded c (map f xs)) (joined_sections (for_each fs c) (columns fs xs)) (joined_sections cs ss)))

  module _ (cs : List ℕ) (ss : List (List ℕ)) where
    -- the words of entry i; at an unused place they are those of an entry whose fields are all 0
    pub read_columns : (d : A) (i : ℕ) → length xs ≤ c → i < c
        → (fs : List (A → ℕ)) → map (λ (f : A → ℕ). f d) fs ≡ zeros (length fs)
        → (a : List ℕ) (s : ℕ) → length a ≡ s
        → spread (λ k. get_or (a ++ joined_sections (for_each fs c ++ cs) (columns fs xs ++ ss)) k 0) c (length fs) s i
        ≡ map (λ (f : A → ℕ). f (get_or xs i d)) fs
    unfolding spread columns joined_sections zeros
    read_columns d i room h [] z a s e = refl
    read_columns d i room h (f ∷ fs) z a s e =
        let J : List ℕ = joined_sections (for_each fs c ++ cs) (columns fs xs ++ ss) in
        let w : length (padded c (map f xs)) ≡ c = length_column f room in
        let f0 : f d ≡ 0 = ap (λ (ws : List ℕ). get_or ws 0 0) z in
        let first : get_or (a ++ (padded c (map f xs) ++ J)) (s + i) 0 ≡ f (get_or xs i d) =
        ap (λ (k : ℕ). get_or (a ++ (padded c (map f xs) ++ J)) (k + i) 0) (sym e)
        ∙ get_or-append-add a (padded c (map f xs) ++ J) i 0
        ∙ get_or-append (padded c (map f xs)) J 0 i (omega arith)
        ∙ get_d_padded c (map f xs) i
        ∙ ap (get_or (map f xs) i) (sym f0)
        ∙ get_or-map f xs i d in
        let next = read_columns d i room h fs (ap (drop 1) z) (a ++ padded c (map f xs)) (s + c) (length-append a (padded c (map f xs)) ∙ omega arith) in
        consed first (ap (λ (W : List ℕ). spread (λ k. get_or W k 0) c (length fs) (s + c) i) (sym (append_assoc a (padded c (map f xs)) J)) ∙ next)

    -- one entry more
    pub put_columns : (x : A) → length xs < c
        → (fs : List (A → ℕ)) (a : List ℕ) (s : ℕ) → length a ≡ s
        → set_all (a ++ joined_sections (for_each fs c ++ cs) (columns fs xs ++ ss)) c s (length xs) (map (λ (f : A → ℕ). f x) fs)
        ≡ a ++ joined_sections (for_each fs c ++ cs) (columns fs (xs ++ (x ∷ [])) ++ ss)
    unfolding set_all columns joined_sections
    put_columns x h [] a s e = refl
    put_columns x h (f ∷ fs) a s e =
        let J : List ℕ = joined_sections (for_each fs c ++ cs) (columns fs xs ++ ss) in
        let n : length (map f xs) ≡ length xs = length-map xs f in
        let room : length xs ≤ c = omega arith in
        let w : length (padded c (map f xs)) ≡ c = length_column f room in
        let one : set (padded c (map f xs)) (length xs) (f x) ≡ padded c (map f (xs ++ (x ∷ []))) =
        ap (λ (k : ℕ). set (padded c (map f xs)) k (f x)) (sym n)
        ∙ set_padded c (map f xs) (f x) (omega arith)
        ∙ ap (padded c) (sym (map_append_one f xs x)) in
        let first : set (a ++ (padded c (map f xs) ++ J)) (s + length xs) (f x) ≡ a ++ padded c (map f (xs ++ (x ∷ []))) ++ J =
        ap (λ (k : ℕ). set (a ++ (padded c (map f xs) ++ J)) (k + length xs) (f x)) (sym e)
        ∙ set_right a (padded c (map f xs) ++ J) (length xs) (f x)
        ∙ ap (λ (l : List ℕ). a ++ l) (set-append_left (padded c (map f xs)) J (length xs) (f x) (omega arith) ∙ ap (λ (l : List ℕ). l ++ J) one)
        ∙ sym (append_assoc a (padded c (map f (xs ++ (x ∷ [])))) J) in
        let v : length (padded c (map f (xs ++ (x ∷ [])))) ≡ c =
        length_padded c (map f (xs ++ (x ∷ []))) (omega (arith, length-map (xs ++ (x ∷ [])) f, length-append xs (x ∷ []))) in
        ap (λ (W : List ℕ). set_all W c (s + c) (length xs) (map (λ (g : A → ℕ). g x) fs)) first
        ∙ put_columns x h fs (a ++ padded c (map f (xs ++ (x ∷ [])))) (s + c) (length-append a (padded c (map f (xs ++ (x ∷ [])))) ∙ omega arith)
        ∙ append_assoc a (padded c (map f (xs ++ (x ∷ [])))) (joined_sections (for_each fs c ++ cs) (columns fs (xs ++ (x ∷ [])) ++ ss))
