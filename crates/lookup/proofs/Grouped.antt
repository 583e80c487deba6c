-- R-3: "It is shown once over the whole table that each group holds exactly the names of its length and first byte." One test goes
-- over every line and column of both indexes; that every name has a line and a column gives all other lengths and bytes. Assumes
-- nothing.
use Prim.Native.Nat.{ℕ, ◌+◌, ◌-◌, ◌≤◌}
use native.Mathlib.Omega.{arith}
use mathlib.Core.Path.{◌≡◌, refl, sym, ap, subst, ◌∙◌}
use mathlib.Core.Bool.{Bool, true, false, false≢true, ◌&&◌}
use mathlib.Core.List.{List, [], ◌∷◌, map}
use lib.Dec.{eqb, leb}
use lib.ListN.{length, get_or}
use borrow.Author.Tests.{eqb-true, leb-true}
use Rattle.words.specs.Runs.{every, run}
use Rattle.words.specs.Words.{zeros}
use Rattle.words.proofs.Laws.{get_d_zeros}
use Rattle.words.proofs.Bools.{and_left, and_right, or_no_left, or_no_right}
use Rattle.words.proofs.RunLaws.{every_at, run_at}
use Rattle.model.specs.Lists.{bytes, any, all}
use Rattle.model.specs.Bytes.{byte_at, in_range}
use Rattle.model.specs.Names.{Entry, modifier_entries, type_entries, protocol_entries, synonym_entries, abbreviation_entries}
use Rattle.model.specs.Details.{keysym_entries, button_entries, motion_entries, mode_entries, request_entries}
use Rattle.model.specs.declared.names.ModifierName.{ModifierName}
use Rattle.model.specs.declared.names.TypeName.{TypeName}
use Rattle.names.specs.Places.{modifier_names_at, types_at, modifier_total, modifier_firsts, shortest_modifier, longest_modifier, type_total, type_firsts, shortest_type, longest_type}
use Rattle.names.specs.Groups.{begins, group_of, line_of, no_group, group_in, line_length, modifier_table, modifier_index, modifier_line, modifier_group, type_table, type_index, type_line, type_group}
use Rattle.names.specs.Table.{names_in, meanings_in, other_names, all_names, directive_entries, name_row, bit_number, numbers_of, modifier_bits, modifier_of, modifier_row, type_numbers, type_of, type_row}
use Rattle.names.specs.declared.groups.Group.{Group}
use Rattle.names.proofs.InOrder.{modifier_lines, type_lines}
use Rattle.names.proofs.Order.{modifiers_in_order, types_in_order, names_in_order, modifier_order_lem, modifier_lines_lem, type_order_lem, type_lines_lem, name_order}
use Rattle.lookup.specs.Find.{modifier_meaning, type_meaning}
use Rattle.lookup.specs.Rule.{HoldsGroup, Grouped}

-- ---- From a test over the lines and columns to every length and byte

module _ {A : Type 0} where
  -- two functions that agree on the first bytes agree on each of them
  at_first : (f g : ℕ → A) (firsts : List ℕ) → map f firsts ≡ map g firsts → (b : ℕ) → any (eqb b) firsts ≡ true → f b ≡ g b
  at_first f g [] e b h = absurd (false≢true h)
  at_first f g (x ∷ xs) e b h =
      let p : f x ≡ g x = cc in
      let ps : map f xs ≡ map g xs = cc in
      go (eqb b x) refl h p (at_first f g xs ps b)
    where
      go : (t : Bool) → eqb b x ≡ t → any (eqb b) (x ∷ xs) ≡ true → f x ≡ g x → (any (eqb b) xs ≡ true → f b ≡ g b) → f b ≡ g b
      go true q h p ih = rw (eqb-true b x q) p
      go false q h p ih = ih (sym (rw q) ∙ h)

-- a test that every first byte passes
all_first : (test : ℕ → Bool) (firsts : List ℕ) → all test firsts ≡ true → (b : ℕ) → any (eqb b) firsts ≡ true → test b ≡ true
all_first test firsts e b h = at_first test (λ _. true) firsts (go firsts e) b h
  where
    go : (fs : List ℕ) → all test fs ≡ true → map test fs ≡ map (λ _. true) fs
    go [] e = refl
    go (x ∷ xs) e =
        let p : test x ≡ true = and_left (test x) (all test xs) e in
        let ps : map test xs ≡ map (λ _. true) xs = go xs (and_right (test x) (all test xs) e) in
        cc

-- a length has a column and a byte a line
abbrev has_group : List ℕ → (shortest longest len b : ℕ) → Bool
has_group firsts shortest longest len b = in_range shortest len longest && any (eqb b) firsts

module _ {A : Type 0} (firsts : List ℕ) (shortest longest : ℕ) where
  abbrev name_has_group : Entry A → Bool
  name_has_group e = has_group firsts shortest longest (length (bytes e.name)) (byte_at (bytes e.name) 0)

  -- where every name has a line and a column, no name has a length or byte without one
  no_name : (es : List (Entry A)) → all name_has_group es ≡ true → (len b : ℕ) → has_group firsts shortest longest len b ≡ false
      → group_of es len b ≡ []
  no_name [] e len b h = refl
  no_name (x ∷ xs) e len b h =
      go (begins len b (bytes x.name)) refl (no_name xs (and_right (name_has_group x) (all name_has_group xs) e) len b h)
    where
      go : (t : Bool) → begins len b (bytes x.name) ≡ t → group_of xs len b ≡ [] → group_of (x ∷ xs) len b ≡ []
      go true q ih =
          let l = eqb-true (length (bytes x.name)) len (and_left _ _ q) in
          let f = eqb-true (byte_at (bytes x.name) 0) b (and_right (eqb (length (bytes x.name)) len) _ q) in
          absurd (false≢true (sym h ∙ rw (← l, ← f) (and_left (name_has_group x) (all name_has_group xs) e)))
      go false q ih = rw q ih

-- a byte that no name begins with has no line
no_line : (firsts : List ℕ) (lines : List (List ℕ)) (other : List ℕ) (b : ℕ) → any (eqb b) firsts ≡ false → line_of firsts lines other b ≡ other
no_line [] lines other b h = refl
no_line (f ∷ fs) [] other b h = refl
no_line (f ∷ fs) (l ∷ ls) other b h =
    rw (or_no_left (eqb b f) (any (eqb b) fs) h) (no_line fs ls other b (or_no_right (eqb b f) (any (eqb b) fs) h))

-- ---- The test of a kind, over an index and what stands at the places

-- what it computes
record Tested (A : Type 0) : Type 0 where
  -- every name has a line and a column
  covered : Bool
  -- the groups of all lines and columns have places of the kind
  within : Bool
  -- the names that stand there, and their meanings
  names : List (List (List (List ℕ)))
  meanings : List (List (List A))

module _ {A : Type 0} (firsts : List ℕ) (shortest longest : ℕ) (start : ℕ) (es : List (Entry A)) where
  -- what an index and a function of places give for a length and a byte
  abbrev group_by : List (List ℕ) → ℕ → ℕ → Group
  group_by lines len b = group_in (line_of firsts lines (zeros (line_length shortest longest)) b) shortest longest len

  module _ {B : Type 0} where
    abbrev stands : (ℕ → B) → List (List ℕ) → ℕ → ℕ → List B
    stands f lines len b =
        run f (start + (group_by lines len b).from) ((group_by lines len b).to - (group_by lines len b).from)

    -- what stands at every line and column, and what should
    abbrev stands_at : (ℕ → B) → List (List ℕ) → List (List (List B))
    stands_at f lines = map (λ b. run (λ len. stands f lines len b) shortest (longest + 1 - shortest)) firsts

    abbrev should_stand : (List (Entry A) → List B) → List (List (List B))
    should_stand should = map (λ b. run (λ len. should (group_of es len b)) shortest (longest + 1 - shortest)) firsts

    exact_at : (f : ℕ → B) (lines : List (List ℕ)) (should : List (Entry A) → List B) → stands_at f lines ≡ should_stand should
        → (len b : ℕ) → has_group firsts shortest longest len b ≡ true → stands f lines len b ≡ should (group_of es len b)
    exact_at f lines should e len b h =
        let low = leb-true shortest len (and_left _ _ (and_left _ _ h)) in
        let high = leb-true len longest (and_right (leb shortest len) _ (and_left _ _ h)) in
        let n : shortest + (len - shortest) ≡ len = omega arith in
        rw n at (run_at (λ len. stands f lines len b) (λ len. should (group_of es len b)) shortest (longest + 1 - shortest) []
        (at_first _ _ firsts e b (and_right (in_range shortest len longest) _ h)) (len - shortest) (omega arith))

  -- at every line and column are places of the kind
  abbrev is_within : List (List ℕ) → ℕ → Bool
  is_within lines total =
      all (λ b. every (λ len. leb (group_by lines len b).from (group_by lines len b).to && leb (group_by lines len b).to total) shortest (longest + 1 - shortest)) firsts

  within_at : (lines : List (List ℕ)) (total : ℕ) → is_within lines total ≡ true → (len b : ℕ) → has_group firsts shortest longest len b ≡ true
      → ((group_by lines len b).from ≤ (group_by lines len b).to) × ((group_by lines len b).to ≤ total)
  within_at lines total e len b h =
      let low = leb-true shortest len (and_left _ _ (and_left _ _ h)) in
      let high = leb-true len longest (and_right (leb shortest len) _ (and_left _ _ h)) in
      let n : shortest + (len - shortest) ≡ len = omega arith in
      let g = group_by lines len b in
      let t : (leb g.from g.to && leb g.to total) ≡ true =
      rw n at (every_at _ shortest (longest + 1 - shortest) (len - shortest)
      (all_first _ firsts e b (and_right (in_range shortest len longest) _ h)) (omega arith))
      in
      (leb-true g.from g.to (and_left _ _ t), leb-true g.to total (and_right (leb g.from g.to) _ t))

  -- no length or byte without a column or line has a place
  no_place : (lines : List (List ℕ)) (len b : ℕ) → has_group firsts shortest longest len b ≡ false → group_by lines len b ≡ no_group
  no_place lines len b h = go (in_range shortest len longest) refl
    where
      go : (t : Bool) → in_range shortest len longest ≡ t → group_by lines len b ≡ no_group
      go false q = rw q
      go true q =
          rw (q, no_line firsts lines (zeros (line_length shortest longest)) b (sym (rw q) ∙ h), get_d_zeros, get_d_zeros)

  abbrev tested : (name : ℕ → List ℕ) (mean : ℕ → A) → List (List ℕ) → ℕ → Tested A
  tested name mean lines total =
      record {
        covered = all (name_has_group firsts shortest longest) es;
        within = is_within lines total;
        names = stands_at name lines;
        meanings = stands_at mean lines;
      }

  -- what it must come to
  abbrev exact : Tested A
  exact = record { covered = true; within = true; names = should_stand names_in; meanings = should_stand meanings_in }

  -- then every length and byte has its group
  grouped : (mean : ℕ → A) (lines : List (List ℕ)) (total : ℕ) → tested name_row mean lines total ≡ exact
      → (len b : ℕ) → HoldsGroup mean start total (group_by lines len b) (group_of es len b)
  unfolding run
  grouped mean lines total e len b = go (has_group firsts shortest longest len b) refl
    where
      go : (t : Bool) → has_group firsts shortest longest len b ≡ t → HoldsGroup mean start total (group_by lines len b) (group_of es len b)
      go true h =
          let w = within_at lines total (ap (λ (t : Tested A). t.within) e) len b h in
          record {
            rising = w.0;
            within = w.1;
            holds =
                record {
                  names = exact_at name_row lines names_in (ap (λ (t : Tested A). t.names) e) len b h;
                  meanings = exact_at mean lines meanings_in (ap (λ (t : Tested A). t.meanings) e) len b h;
                };
          }
      go false h =
          rw (no_place lines len b h, no_name firsts shortest longest es (ap (λ (t : Tested A). t.covered) e) len b h)
          (record { rising = omega arith; within = omega arith; holds = record { names = refl; meanings = refl } })

-- ---- The one test, over the whole table

-- what stands at a place of these names, modifiers and types
abbrev name_in : List (List ℕ) → ℕ → List ℕ
name_in names k = get_or names k []

abbrev modifier_in : List (Entry ModifierName) → ℕ → ModifierName
modifier_in table k = modifier_of (get_or (map bit_number (meanings_in table)) (k - modifier_names_at) 0)

abbrev type_in : List (Entry TypeName) → ℕ → TypeName
type_in table k = TypeName.Known (type_of (numbers_of (get_or (meanings_in table) (k - types_at) TypeName.Unknown)))

abbrev modifiers_tested : (lines names : List (List ℕ)) → List (Entry ModifierName) → Tested ModifierName
modifiers_tested lines names table =
    tested modifier_firsts shortest_modifier longest_modifier modifier_names_at modifier_entries (name_in names) (modifier_in table) lines modifier_total

abbrev modifiers_exact : Tested ModifierName
modifiers_exact = exact modifier_firsts shortest_modifier longest_modifier modifier_names_at modifier_entries

abbrev types_tested : (lines names : List (List ℕ)) → List (Entry TypeName) → Tested TypeName
types_tested lines names table =
    tested type_firsts shortest_type longest_type types_at type_entries (name_in names) (type_in table) lines type_total

abbrev types_exact : Tested TypeName
types_exact = exact type_firsts shortest_type longest_type types_at type_entries

table_test : ◌≡◌ {A = Tested ModifierName × Tested TypeName}
    (modifiers_tested modifier_lines names_in_order modifiers_in_order, types_tested type_lines names_in_order types_in_order)
    (modifiers_exact, types_exact)
unfolding run every other_names modifiers_in_order types_in_order directive_entries modifier_entries type_entries protocol_entries synonym_entries abbreviation_entries keysym_entries button_entries motion_entries mode_entries request_entries
table_test = refl

-- ---- What follows for each kind, of the table by its definition

pub modifiers_grouped : Grouped modifier_meaning modifier_names_at modifier_total modifier_group modifier_entries
unfolding name_row modifier_line modifier_group modifier_bits modifier_row
modifiers_grouped =
    grouped modifier_firsts shortest_modifier longest_modifier modifier_names_at modifier_entries modifier_meaning modifier_index modifier_total
    (subst (λ lines. modifiers_tested lines all_names modifier_table ≡ modifiers_exact) (sym modifier_lines_lem)
    (subst (λ names. modifiers_tested modifier_lines names modifier_table ≡ modifiers_exact) (sym name_order)
    (subst (λ table. modifiers_tested modifier_lines names_in_order table ≡ modifiers_exact) (sym modifier_order_lem)
    (ap (λ (t : Tested ModifierName × Tested TypeName). t.0) table_test))))

pub types_grouped : Grouped type_meaning types_at type_total type_group type_entries
unfolding name_row type_line type_group type_numbers type_row
types_grouped =
    grouped type_firsts shortest_type longest_type types_at type_entries type_meaning type_index type_total
    (subst (λ lines. types_tested lines all_names type_table ≡ types_exact) (sym type_lines_lem)
    (subst (λ names. types_tested type_lines names type_table ≡ types_exact) (sym name_order)
    (subst (λ table. types_tested type_lines names_in_order table ≡ types_exact) (sym type_order_lem)
    (ap (λ (t : Tested ModifierName × Tested TypeName). t.1) table_test))))
