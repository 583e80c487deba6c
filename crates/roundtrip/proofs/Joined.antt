-- Parts with a separator, the first part and then each other behind its separator; and signs with no blank before them.
use Prim.Native.Nat.{ℕ}
use Prim.Native.Char.{Char, code}
use mathlib.Core.Path.{◌≡◌, refl, sym, ap}
use mathlib.Core.Bool.{Bool, true, false}
use mathlib.Core.List.{List, [], ◌∷◌, ◌++◌, append-nil}
use Rattle.model.specs.Lists.{all}
use Rattle.model.specs.Canonical.{joined_by}
use Rattle.grammar.specs.Bytes.{blank}
use Rattle.grammar.specs.Tokens.{begins_with, Run, Blanks, Sign, is_some, Word}

abbrev pub behind : List ℕ → List (List ℕ) → List ℕ
behind sep [] = []
behind sep (p ∷ ps) = sep ++ (p ++ behind sep ps)

pub joined_behind : (sep p : List ℕ) (ps : List (List ℕ)) → joined_by sep (p ∷ ps) ≡ p ++ behind sep ps
unfolding joined_by
joined_behind sep p [] = sym (append-nil p)
joined_behind sep p (q ∷ qs) = ap {B = List ℕ} (λ x. p ++ (sep ++ x)) (joined_behind sep q qs)

pub joined_none : (sep : List ℕ) → joined_by sep [] ≡ []
unfolding joined_by
joined_none sep = refl

-- ---- Tokens

pub run : (kind : ℕ → Bool) (w r : List ℕ) → all kind w ≡ true → begins_with kind r ≡ false → Run kind (w ++ r) w r
run kind w r a b = record { split = refl; within = a; longest = b }

pub word : (kind : ℕ → Bool) (w r : List ℕ) → all kind w ≡ true → is_some w ≡ true → begins_with kind r ≡ false → Word kind (w ++ r) w r
word kind w r a s b = record { run = run kind w r a b; some = s }

pub no_blanks : (r : List ℕ) → begins_with blank r ≡ false → Blanks r r
no_blanks r b = record { blanks = []; run = run blank [] r refl b }

-- a sign behind blanks
pub sign_after : (c : Char) (bs r : List ℕ) → all blank bs ≡ true → blank (code c) ≡ false → Sign c (bs ++ (code c ∷ r)) r
sign_after c bs r a b = record { before = record { blanks = bs; run = run blank bs (code c ∷ r) a b } }

pub sign : (c : Char) (r : List ℕ) → blank (code c) ≡ false → Sign c (code c ∷ r) r
sign c r b = sign_after c [] r refl b
