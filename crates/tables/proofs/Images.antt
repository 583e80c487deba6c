-- Entries as bytes: a word read back, whatever stands past the table.
use Prim.Native.Nat.{ℕ, ◌+◌, ◌*◌, ◌≤◌, ◌<◌}
use native.Mathlib.Omega.{arith}
use mathlib.Core.Path.{◌≡◌, sym, ap, ◌∙◌}
use mathlib.Core.List.{List, [], ◌∷◌, ◌++◌, map, append_assoc}
use lib.ListN.{length, get_or, length-map, length-append}
use Rattle.words.specs.Words.{word_at, word_bytes, zeros}
use Rattle.words.proofs.Images.{word_image, length_bytes}
use Rattle.tables.specs.Layout.{Entries, padded, joined_sections, offset, columns, for_each, event_fields, call_fields, parameter_fields, capacities, sections_of, image, codes_at, marks_at, parameter_starts_at, table_length}
use Rattle.tables.proofs.Sections.{Sized, none, more, length_padded, length_joined, read_joined, offset_below}
use Rattle.tables.proofs.Columns.{spread, set_all, put_all, reach, put_all_lem, read_all, sized_columns, length_columns, past_columns, read_columns, put_columns}

-- entries within the capacities of their sections
pub record Room (x : Entries) : Type 0 where
  pub header : length x.header ≤ 8
  pub production_events : length x.production_events ≤ 64
  pub production_calls : length x.production_calls ≤ 64
  pub events : length x.events ≤ 256
  pub calls : length x.calls ≤ 128
  pub parameters : length x.parameters ≤ 256

pub sized : (x : Entries) → Room x → Sized capacities (sections_of x)
unfolding sections_of columns
sized x r =
    more r.header
    (more r.production_events
    (more r.production_calls
    (sized_columns 256 x.events event_fields r.events
    (sized_columns 128 x.calls call_fields r.calls
    (sized_columns 256 x.parameters parameter_fields r.parameters none)))))

pub length_image : (x : Entries) → Room x → length (image x) ≡ table_length
unfolding image
length_image x r = length_bytes (joined_sections capacities (sections_of x)) ∙ ap (λ (n : ℕ). 2 * n) (length_joined capacities (sections_of x) (sized x r))

-- word i of section j, read from the bytes
pub section_word : (x : Entries) (rest : List ℕ) → Room x → (j i : ℕ) → i < get_or capacities j 0
    → get_or (get_or (sections_of x) j []) i 0 < 65536
    → word_at (image x ++ rest) (offset capacities j + i) ≡ get_or (get_or (sections_of x) j []) i 0
unfolding image
section_word x rest r j i h b =
    let s = sized x r in
    let e = read_joined capacities (sections_of x) j i s h in
    word_image (joined_sections capacities (sections_of x)) rest (offset capacities j + i)
    (omega (arith, length_joined capacities (sections_of x) s, offset_below capacities j i h))
    (rw e b) ∙ e

-- ---- Rows of sections

-- the words of all sections
abbrev words_of : Entries → List ℕ
words_of x = joined_sections capacities (sections_of x)

length_words : (x : Entries) → Room x → length (words_of x) ≡ offset capacities (length capacities)
length_words x r = length_joined capacities (sections_of x) (sized x r)

-- in a row of sections that begins at word s, the words of entry i, and one entry more
module _ (x : Entries) (rest : List ℕ) (room : Room x) {A : Type 0} (fs : List (A → ℕ)) (c : ℕ) (xs : List A) (cs : List ℕ) (ss : List (List ℕ)) (a : List ℕ) (s : ℕ) (there : joined_sections capacities (sections_of x) ≡ a ++ joined_sections (for_each fs c ++ cs) (columns fs xs ++ ss)) (start : length a ≡ s) (top : s + reach c (length fs) ≤ offset capacities (length capacities)) where
  pub row_words : (d : A) (i : ℕ) → length xs ≤ c → i < c → map (λ (f : A → ℕ). f d) fs ≡ zeros (length fs)
      → ((k : ℕ) → get_or (map (λ (f : A → ℕ). f (get_or xs i d)) fs) k 0 < 65536)
      → spread (word_at (image x ++ rest)) c (length fs) s i ≡ map (λ (f : A → ℕ). f (get_or xs i d)) fs
  unfolding image
  row_words d i few h unused small =
      let m : spread (λ k. get_or (joined_sections capacities (sections_of x)) k 0) c (length fs) s i ≡ map (λ (f : A → ℕ). f (get_or xs i d)) fs =
      ap (λ (W : List ℕ). spread (λ k. get_or W k 0) c (length fs) s i) there ∙ read_columns c xs cs ss d i few h fs unused a s start in
      read_all (joined_sections capacities (sections_of x)) rest c (length fs) s i h (omega (arith, length_words x room)) (λ k. rw m (small k)) ∙ m

  pub row_put : (e : A) → length xs < c
      → put_all (image x ++ rest) c s (length xs) (map (λ (f : A → ℕ). f e) fs)
      ≡ word_bytes (a ++ joined_sections (for_each fs c ++ cs) (columns fs (xs ++ (e ∷ [])) ++ ss)) ++ rest
  unfolding image
  row_put e h =
      let n : length (map (λ (f : A → ℕ). f e) fs) ≡ length fs = length-map fs (λ (f : A → ℕ). f e) in
      put_all_lem (joined_sections capacities (sections_of x)) rest c s (length xs) (map (λ (f : A → ℕ). f e) fs) h (rw n (omega (arith, length_words x room)))
      ∙ ap (λ (W : List ℕ). word_bytes W ++ rest) (ap (λ (W : List ℕ). set_all W c s (length xs) (map (λ (f : A → ℕ). f e) fs)) there ∙ put_columns c xs cs ss e h fs a s start)

-- where the rows of events, of calls and of parameters begin
module _ (x : Entries) where
  abbrev pub before_events : List ℕ
  before_events = padded 8 x.header ++ padded 64 x.production_events ++ padded 64 x.production_calls

  abbrev pub before_calls : List ℕ
  before_calls = before_events ++ joined_sections (for_each event_fields 256) (columns event_fields x.events)

  abbrev pub before_parameters : List ℕ
  before_parameters = before_calls ++ joined_sections (for_each call_fields 128) (columns call_fields x.calls)

  abbrev call_rows : List (List ℕ)
  call_rows = columns call_fields x.calls ++ columns parameter_fields x.parameters

  pub events_there : joined_sections capacities (sections_of x)
      ≡ before_events ++ joined_sections (for_each event_fields 256 ++ (for_each call_fields 128 ++ for_each parameter_fields 256)) (columns event_fields x.events ++ call_rows)
  unfolding sections_of joined_sections
  events_there =
      let J : List ℕ = joined_sections (for_each event_fields 256 ++ (for_each call_fields 128 ++ for_each parameter_fields 256)) (columns event_fields x.events ++ call_rows) in
      sym (append_assoc (padded 8 x.header ++ padded 64 x.production_events) (padded 64 x.production_calls) J
      ∙ append_assoc (padded 8 x.header) (padded 64 x.production_events) (padded 64 x.production_calls ++ J))

  pub calls_there : joined_sections capacities (sections_of x)
      ≡ before_calls ++ joined_sections (for_each call_fields 128 ++ for_each parameter_fields 256) call_rows
  calls_there =
      events_there
      ∙ ap (λ (W : List ℕ). before_events ++ W) (past_columns 256 x.events event_fields (for_each call_fields 128 ++ for_each parameter_fields 256) call_rows)
      ∙ sym (append_assoc before_events (joined_sections (for_each event_fields 256) (columns event_fields x.events)) (joined_sections (for_each call_fields 128 ++ for_each parameter_fields 256) call_rows))

  pub parameters_there : joined_sections capacities (sections_of x)
      ≡ before_parameters ++ joined_sections (for_each parameter_fields 256 ++ []) (columns parameter_fields x.parameters ++ [])
  unfolding columns
  parameters_there =
      calls_there
      ∙ ap (λ (W : List ℕ). before_calls ++ W) (past_columns 128 x.calls call_fields (for_each parameter_fields 256) (columns parameter_fields x.parameters))
      ∙ sym (append_assoc before_calls (joined_sections (for_each call_fields 128) (columns call_fields x.calls)) (joined_sections (for_each parameter_fields 256) (columns parameter_fields x.parameters)))

  module _ (r : Room x) where
    pub events_start : length before_events ≡ codes_at
    events_start =
        omega (
          arith,
          length-append (padded 8 x.header ++ padded 64 x.production_events) (padded 64 x.production_calls),
          length-append (padded 8 x.header) (padded 64 x.production_events),
          length_padded 8 x.header r.header,
          length_padded 64 x.production_events r.production_events,
          length_padded 64 x.production_calls r.production_calls,
        )

    pub calls_start_lem : length before_calls ≡ marks_at
    unfolding reach
    calls_start_lem =
        omega (
          arith,
          length-append before_events (joined_sections (for_each event_fields 256) (columns event_fields x.events)),
          events_start,
          length_columns 256 x.events event_fields r.events,
        )

    pub parameters_start : length before_parameters ≡ parameter_starts_at
    unfolding reach
    parameters_start =
        omega (
          arith,
          length-append before_calls (joined_sections (for_each call_fields 128) (columns call_fields x.calls)),
          calls_start_lem,
          length_columns 128 x.calls call_fields r.calls,
        )
