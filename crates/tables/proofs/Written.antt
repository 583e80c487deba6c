-- What writing one entry does to bytes that hold entries: they hold one entry more.
use Prim.Native.Nat.{ℕ, zero, suc, ◌+◌, ◌≤◌, ◌<◌}
use native.Mathlib.Omega.{arith}
use native.Mathlib.Nat.{zero-add}
use mathlib.Core.Path.{◌≡◌, refl, sym, ap, ◌∙◌}
use mathlib.Core.List.{List, [], ◌∷◌, ◌++◌, append_assoc, append-nil}
use mathlib.Core.Bool.{Bool}
use lib.ListN.{length, get_or, set, drop, length-append}
use Rattle.words.specs.Words.{word_bytes, put_word, cleared}
use Rattle.words.proofs.Images.{put_image, bytes_zeros}
use Rattle.model.specs.Tables.{Call}
use Rattle.model.specs.declared.scan.Span.{Span}
use Rattle.model.specs.declared.events.KeptEvent.{KeptEvent}
use Rattle.model.specs.declared.events.Directive.{Directive}
use Rattle.tables.specs.Layout.{Entries, joined_sections, offset, columns, for_each, event_fields, call_fields, parameter_fields, capacities, sections_of, image, flag, directive_word, codes_at, marks_at, production_calls_at, parameter_starts_at, table_length}
use Rattle.tables.specs.Writing.{put_test, put_detail, put_joined, put_keysyms, put_event, put_call, put_parameter, put_production, put_texts, put_counts, no_entries, with_event, with_call, with_parameter, with_production, with_header}
use Rattle.tables.proofs.Sections.{Sized, none, more, length_joined, append_joined, offset_below}
use Rattle.tables.proofs.Columns.{put_all, reach}
use Rattle.tables.proofs.Images.{Room, sized, row_put, before_events, before_calls, before_parameters, events_there, calls_there, parameters_there, events_start, calls_start_lem, parameters_start}
use Rattle.tables.proofs.Theorems.{joined_empty}

-- ---- One word

sized_append : (cs : List ℕ) (ss : List (List ℕ)) (j w : ℕ) → Sized cs ss → length (get_or ss j []) < get_or cs j 0
    → Sized cs (set ss j (get_or ss j [] ++ (w ∷ [])))
sized_append [] [] j w none h = none
sized_append [] (s ∷ ss) j w x h = elim x [ ]
sized_append (c ∷ cs) [] j w x h = elim x [ ]
sized_append (c ∷ cs) (s ∷ ss) zero w (more q r) h =
    let e : length (s ++ (w ∷ [])) ≤ c = omega (arith, length-append s (w ∷ [])) in
    more e r
sized_append (c ∷ cs) (s ∷ ss) (suc j) w (more q r) h = more q (sized_append cs ss j w r h)

-- bytes that hold these sections
abbrev held : List (List ℕ) → List ℕ → List ℕ
held ss rest = word_bytes (joined_sections capacities ss) ++ rest

-- a word put past the last one of section j, at its place n
put_section : (ss : List (List ℕ)) (rest : List ℕ) (j n w : ℕ) → Sized capacities ss → length (get_or ss j []) ≡ n → n < get_or capacities j 0
    → put_word (held ss rest) (offset capacities j + n) w ≡ held (set ss j (get_or ss j [] ++ (w ∷ []))) rest
put_section ss rest j n w s e h =
    let q : length (get_or ss j []) < get_or capacities j 0 = rw e h in
    put_image (joined_sections capacities ss) rest (offset capacities j + n) w
    (omega (arith, length_joined capacities ss s, offset_below capacities j n h))
    ∙ ap (λ (W : List ℕ). word_bytes W ++ rest) (ap (λ (k : ℕ). set (joined_sections capacities ss) (offset capacities j + k) w) (sym e) ∙ append_joined capacities ss j w s q)

-- words put one after another, from word k on
abbrev put_each : List ℕ → ℕ → List ℕ → List ℕ
put_each l k [] = l
put_each l k (w ∷ ws) = put_each (put_word l k w) (k + 1) ws

-- at the end of the first section
put_first : (h : List ℕ) (ss : List (List ℕ)) (rest ws : List ℕ) → Sized capacities (h ∷ ss) → length h + length ws ≤ 8
    → put_each (held (h ∷ ss) rest) (length h) ws ≡ held ((h ++ ws) ∷ ss) rest
put_first h ss rest [] s b = ap (λ (r : List ℕ). held (r ∷ ss) rest) (sym (append-nil h))
put_first h ss rest (w ∷ ws) s b =
    let room : length h < 8 = omega arith in
    let n : length h + 1 ≡ length (h ++ (w ∷ [])) = omega (arith, length-append h (w ∷ [])) in
    ap (λ (l : List ℕ). put_each l (length h + 1) ws) (ap (λ (k : ℕ). put_word (held (h ∷ ss) rest) k w) (sym (zero-add (length h))) ∙ put_section (h ∷ ss) rest 0 (length h) w s refl room)
    ∙ ap (λ (k : ℕ). put_each (held ((h ++ (w ∷ [])) ∷ ss) rest) k ws) n
    ∙ put_first (h ++ (w ∷ [])) ss rest ws (sized_append capacities (h ∷ ss) 0 w s room) (omega arith)
    ∙ ap (λ (r : List ℕ). held (r ∷ ss) rest) (append_assoc h (w ∷ []) ws)

-- ---- One entry

module _ (x : Entries) (rest : List ℕ) (room : Room x) where
  pub put_event_lem : (e : KeptEvent) → length x.events < 256
      → put_event (image x ++ rest) (length x.events) e ≡ image (with_event x e) ++ rest
  unfolding put_event put_test put_detail put_keysyms put_joined put_all reach image
  put_event_lem e h =
      row_put x rest room event_fields 256 x.events (for_each call_fields 128 ++ for_each parameter_fields 256) (columns call_fields x.calls ++ columns parameter_fields x.parameters) (before_events x) codes_at (events_there x) (events_start x room) (omega arith) e h
      ∙ ap (λ (W : List ℕ). word_bytes W ++ rest) (sym (events_there (with_event x e)))

  pub put_call_lem : (c : Call) → length x.calls < 128
      → put_call (image x ++ rest) (length x.calls) c.second c.name (length c.parameters) ≡ image (with_call x c) ++ rest
  unfolding put_call put_all reach image
  put_call_lem c h =
      row_put x rest room call_fields 128 x.calls (for_each parameter_fields 256) (columns parameter_fields x.parameters) (before_calls x) marks_at (calls_there x) (calls_start_lem x room) (omega arith) c h
      ∙ ap (λ (W : List ℕ). word_bytes W ++ rest) (sym (calls_there (with_call x c)))

  pub put_parameter_lem : (s : Span) → length x.parameters < 256
      → put_parameter (image x ++ rest) (length x.parameters) s ≡ image (with_parameter x s) ++ rest
  unfolding put_parameter put_all reach image
  put_parameter_lem s h =
      row_put x rest room parameter_fields 256 x.parameters [] [] (before_parameters x) parameter_starts_at (parameters_there x) (parameters_start x room) (omega arith) s h
      ∙ ap (λ (W : List ℕ). word_bytes W ++ rest) (sym (parameters_there (with_parameter x s)))

  pub put_production_lem : (events calls : ℕ) → length x.production_calls ≡ length x.production_events → length x.production_events < 64
      → put_production (image x ++ rest) (length x.production_events) events calls ≡ image (with_production x events calls) ++ rest
  unfolding put_production image sections_of columns
  put_production_lem events calls same h =
      let n = length x.production_events in
      let ss = sections_of x in
      ap (λ (l : List ℕ). put_word l (production_calls_at + n) calls) (put_section ss rest 1 n events (sized x room) refl h)
      ∙ put_section (set ss 1 (x.production_events ++ (events ∷ []))) rest 2 n calls (sized_append capacities ss 1 events (sized x room) h) same h

  -- ---- The header, which is written last

  abbrev bare : Entries
  bare = with_header x []

  bare_room : Room bare
  bare_room =
      record {
        header = omega arith;
        production_events = room.production_events;
        production_calls = room.production_calls;
        events = room.events;
        calls = room.calls;
        parameters = room.parameters;
      }

  pub put_header_lem : (d : Directive) (m : Bool) (first second ps es cs rs : ℕ)
      → put_counts (put_texts (image (with_header x []) ++ rest) d m first second) ps es cs rs
      ≡ image (with_header x (directive_word d ∷ flag 1 m ∷ first ∷ second ∷ ps ∷ es ∷ cs ∷ rs ∷ [])) ++ rest
  unfolding put_texts put_counts image sections_of columns
  put_header_lem d m first second ps es cs rs =
      put_first [] (drop 1 (sections_of bare)) rest
      (directive_word d ∷ flag 1 m ∷ first ∷ second ∷ ps ∷ es ∷ cs ∷ rs ∷ [])
      (sized bare bare_room) (omega arith)

-- ---- No entries

-- a cleared buffer holds none
pub cleared_holds : (l : List ℕ) → cleared table_length l ≡ image no_entries ++ drop table_length l
unfolding cleared image sections_of columns
cleared_holds l =
    ap (λ (a : List ℕ). a ++ drop table_length l) (sym (ap word_bytes (joined_empty capacities) ∙ bytes_zeros 5000))

pub no_room : Room no_entries
no_room =
    record {
      header = omega arith;
      production_events = omega arith;
      production_calls = omega arith;
      events = omega arith;
      calls = omega arith;
      parameters = omega arith;
    }
