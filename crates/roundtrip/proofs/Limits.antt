-- Whether a limit is passed depends on the contents alone.
use Prim.Native.Nat.{ℕ, suc, ◌+◌}
use mathlib.Core.Path.{◌≡◌, refl, sym, ap, ap₂, ◌∙◌}
use mathlib.Core.Bool.{Bool, ◌||◌}
use mathlib.Core.List.{List, [], ◌∷◌, map}
use lib.Dec.{ltb}
use lib.ListN.{length}
use Rattle.model.specs.Lists.{any, in_all}
use Rattle.model.specs.Limits.{production_limit, sequence_limit, event_limit, calls_of_production_limit, call_limit, parameters_of_call_limit, parameter_limit}
use Rattle.model.specs.Asking.{part_bytes}
use Rattle.model.specs.Counts.{expanded, sequence}
use Rattle.model.specs.Tables.{Call, Production}
use Rattle.model.specs.Compiling.{production_passes, totals_pass, passes_limit}
use Rattle.roundtrip.specs.Contents.{CallBytes, Content, call_bytes, content}

content_passes : Content → Bool
content_passes x =
    ltb sequence_limit (length (expanded x.events))
    || ltb calls_of_production_limit (length x.calls)
    || any (λ (c : CallBytes). ltb parameters_of_call_limit (length c.parameters)) x.calls

contents_pass : List Content → Bool
contents_pass xs =
    any content_passes xs
    || (ltb production_limit (length xs)
    || ltb event_limit (in_all (λ (x : Content). length (expanded x.events)) xs)
    || ltb call_limit (in_all (λ (x : Content). length x.calls) xs)
    || ltb parameter_limit (in_all (λ (x : Content). in_all (λ (c : CallBytes). length c.parameters) x.calls) xs))

module _ {A B : Type 0} (f : A → B) where
  map_length_lem : (xs : List A) → length (map f xs) ≡ length xs
  map_length_lem [] = refl
  map_length_lem (x ∷ xs) = ap suc (map_length_lem xs)

  map_any : (t : A → Bool) (u : B → Bool) → ((x : A) → u (f x) ≡ t x) → (xs : List A) → any u (map f xs) ≡ any t xs
  map_any t u h [] = refl
  map_any t u h (x ∷ xs) = ap₂ ◌||◌ (h x) (map_any t u h xs)

  map_in_all : (m : A → ℕ) (n : B → ℕ) → ((x : A) → n (f x) ≡ m x) → (xs : List A) → in_all n (map f xs) ≡ in_all m xs
  map_in_all m n h [] = refl
  map_in_all m n h (x ∷ xs) = ap₂ ◌+◌ (h x) (map_in_all m n h xs)

module _ (first second : List ℕ) where
  call_parameters_lem : (c : Call) → length (call_bytes first second c).parameters ≡ length c.parameters
  call_parameters_lem c = map_length_lem (part_bytes first second c.second) c.parameters

  production_same : (p : Production) → content_passes (content first second p) ≡ production_passes p
  unfolding content_passes production_passes sequence
  production_same p =
      ap₂ (λ (n : ℕ) (b : Bool). ltb sequence_limit (length (expanded p.events)) || ltb calls_of_production_limit n || b)
      (map_length_lem (call_bytes first second) p.calls)
      (map_any (call_bytes first second) (λ c. ltb parameters_of_call_limit (length c.parameters))
      (λ c. ltb parameters_of_call_limit (length c.parameters)) (λ c. ap (ltb parameters_of_call_limit) (call_parameters_lem c)) p.calls)

  passes_same : (ps : List Production) → contents_pass (map (content first second) ps) ≡ passes_limit ps
  unfolding contents_pass passes_limit totals_pass sequence
  passes_same ps =
      let a : any content_passes (map (content first second) ps) ≡ any production_passes ps =
      map_any (content first second) production_passes content_passes production_same ps in
      let n : length (map (content first second) ps) ≡ length ps = map_length_lem (content first second) ps in
      let e : in_all (λ (x : Content). length (expanded x.events)) (map (content first second) ps) ≡ in_all (λ (p : Production). length (expanded p.events)) ps =
      map_in_all (content first second) (λ p. length (expanded p.events)) (λ x. length (expanded x.events)) (λ p. refl) ps in
      let c : in_all (λ (x : Content). length x.calls) (map (content first second) ps) ≡ in_all (λ (p : Production). length p.calls) ps =
      map_in_all (content first second) (λ p. length p.calls) (λ x. length x.calls) (λ p. map_length_lem (call_bytes first second) p.calls) ps in
      let q : in_all (λ (x : Content). in_all (λ (c : CallBytes). length c.parameters) x.calls) (map (content first second) ps)
      ≡ in_all (λ (p : Production). in_all (λ (c : Call). length c.parameters) p.calls) ps =
      map_in_all (content first second) (λ p. in_all (λ (c : Call). length c.parameters) p.calls)
      (λ x. in_all (λ (c : CallBytes). length c.parameters) x.calls)
      (λ p. map_in_all (call_bytes first second) (λ c. length c.parameters) (λ c. length c.parameters) call_parameters_lem p.calls) ps in
      λ i. a i || (ltb production_limit (n i) || ltb event_limit (e i) || ltb call_limit (c i) || ltb parameter_limit (q i))

-- two tables of the same contents
pub limits_same : (a b c d : List ℕ) (ps qs : List Production) → map (content a b) ps ≡ map (content c d) qs → passes_limit ps ≡ passes_limit qs
limits_same a b c d ps qs e = sym (passes_same a b ps) ∙ ap contents_pass e ∙ passes_same c d qs
