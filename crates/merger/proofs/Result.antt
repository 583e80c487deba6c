-- What the merger writes: the bytes of model's merge of the two tables, whole, and read as it.
use Prim.Native.Nat.{ℕ}
use native.Mathlib.Nat.{zero-add}
use mathlib.Core.Path.{◌≡◌, refl, sym, ap, subst, ◌∙◌}
use mathlib.Core.Bool.{Bool, true, false}
use mathlib.Core.List.{List, [], ◌∷◌, ◌++◌, map}
use lib.ListN.{length, drop}
use Rattle.words.specs.Words.{cleared}
use Rattle.model.specs.Tables.{Production, Table}
use Rattle.model.specs.Merging.{merged_table, merge_passes_limit}
use Rattle.model.specs.declared.events.Directive.{Directive}
use Rattle.tables.specs.Layout.{Entries, flag, directive_word, all_events, all_calls, all_parameters, header_of, entries_of, image, encode, table_length}
use Rattle.tables.specs.Reading.{production_total, directive_in, first_length_in, decode}
use Rattle.tables.specs.Writing.{put_texts, put_counts, no_entries, with_header}
use Rattle.tables.specs.Fitting.{fitting}
use Rattle.tables.specs.Whole.{whole}
use Rattle.tables.proofs.Theorems.{whole_encode, decode_encode}
use Rattle.tables.proofs.Written.{put_header_lem, cleared_holds}
use Rattle.tables.proofs.MergedFits.{merged_fits}
use Rattle.tally.specs.Kept.{kept_from, from_text}
use Rattle.tally.specs.Counting.{no_tally, tally_all, tally_by, tally_merged, TallyRoom}
use Rattle.copying.specs.Copying.{put_all, put_by, put_merged}
use Rattle.tally.specs.declared.count.Tally.{Tally}
use Rattle.tally.proofs.WholeFacts as facts
use Rattle.tally.proofs.Tallies.{TallySums, tally_sums, tally_marked, all_room}
use Rattle.merger.proofs.Pieces.{pieces_by, pieces}
use Rattle.merger.proofs.Totals.{tally_merged_lem, merge_room}
use Rattle.merger.proofs.Images.{body_of, body_none, body_room, put_all_lem}

-- ---- Two lists, one after the other

module _ (rest : List ℕ) where
  abbrev empty : List ℕ
  empty = image no_entries ++ rest

  first_list : (s : Bool) (ps : List Production) → TallyRoom (tally_all no_tally ps)
      → put_all s (image no_entries ++ rest) no_tally ps ≡ image (body_of (map (from_text s) ps)) ++ rest
  unfolding tally_all
  first_list s ps r = rw (← body_none) (put_all_lem rest s [] ps r)

  both_lists : (s z : Bool) (ps qs : List Production) → TallyRoom (tally_all (tally_all no_tally ps) qs)
      → put_all z (put_all s (image no_entries ++ rest) no_tally ps) (tally_all no_tally ps) qs
      ≡ image (body_of (map (from_text s) ps ++ map (from_text z) qs)) ++ rest
  both_lists s z ps qs r =
      let m : tally_all no_tally ps ≡ tally_all no_tally (map (from_text s) ps) = sym (tally_marked s no_tally ps) in
      ap (λ (l : List ℕ). put_all z l (tally_all no_tally ps) qs) (first_list s ps (all_room (tally_all no_tally ps) qs r))
      ∙ ap (λ (t : Tally). put_all z (image (body_of (map (from_text s) ps)) ++ rest) t qs) m
      ∙ put_all_lem rest z (map (from_text s) ps) qs (subst (λ (t : Tally). TallyRoom (tally_all t qs)) m r)

  put_pieces : (d : Directive) (old new : List ℕ) → TallyRoom (tally_by d old new)
      → put_by d old new (image no_entries ++ rest) ≡ image (body_of (pieces_by d old new)) ++ rest
  unfolding put_by tally_by pieces_by
  put_pieces Directive.Replace old new r = first_list true (kept_from new 0 old 0) r
  put_pieces Directive.Override old new r = both_lists true false (kept_from new 0 old 0) (kept_from old 0 new (production_total new)) r
  put_pieces Directive.Augment old new r = both_lists false true (kept_from old 0 new 0) (kept_from new 0 old (production_total old)) r

-- ---- The header

-- the header of a merge, by its counts
header_by : (old new : Table) (a b c d : ℕ)
    → a ≡ length (merged_table old new).productions
    → b ≡ length (all_events (merged_table old new).productions)
    → c ≡ length (all_calls (merged_table old new).productions)
    → d ≡ length (all_parameters (all_calls (merged_table old new).productions))
    → with_header (body_of (merged_table old new).productions) (directive_word Directive.Replace ∷ flag 1 true ∷ old.first_length ∷ new.first_length ∷ a ∷ b ∷ c ∷ d ∷ [])
    ≡ entries_of (merged_table old new)
unfolding entries_of header_of body_of merged_table
header_by old new a b c d e f g h = rw (e, f, g, h)

bare_body : (ps : List Production) → with_header (body_of ps) [] ≡ body_of ps
unfolding body_of
bare_body ps = refl

module _ (old new : List ℕ) (wo : whole old ≡ true) (wn : whole new ≡ true) (mo : (decode old).merged ≡ false) (mn : (decode new).merged ≡ false) (limit : merge_passes_limit (decode old) (decode new) ≡ false) where
  abbrev M : Table
  M = merged_table (decode old) (decode new)

  -- the merge fits the layout
  pub result_fits : fitting (merged_table (decode old) (decode new)) ≡ true
  result_fits = merged_fits (decode old) (decode new) (facts.fits old wo) (facts.fits new wn) mo mn limit

  -- so its bytes are whole, and read as model's merge
  pub result_whole : (rest : List ℕ) → whole (encode (merged_table (decode old) (decode new)) ++ rest) ≡ true
  result_whole rest = whole_encode M result_fits rest

  pub result_decode : (rest : List ℕ) → decode (encode (merged_table (decode old) (decode new)) ++ rest) ≡ merged_table (decode old) (decode new)
  result_decode rest = decode_encode M result_fits rest

  room : TallyRoom (tally_merged old new)
  room = merge_room old new wo wn mo limit

  sums : TallySums no_tally (merged_table (decode old) (decode new)).productions
  sums = tally_sums no_tally M.productions

  body_there : (rest : List ℕ)
      → put_by (directive_in new) old new (image no_entries ++ rest) ≡ image (body_of (merged_table (decode old) (decode new)).productions) ++ rest
  unfolding tally_merged
  body_there rest =
      put_pieces rest (directive_in new) old new room
      ∙ ap (λ (ps : List Production). image (body_of ps) ++ rest) (sym (pieces old new wo mo))

  lengths_there : (first_length_in old ≡ (decode old).first_length) × (first_length_in new ≡ (decode new).first_length)
  unfolding decode
  lengths_there = (refl, refl)

  tally_there : tally_merged old new ≡ tally_all no_tally (merged_table (decode old) (decode new)).productions
  tally_there = tally_merged_lem old new wo wn mo

  -- what the code writes into a cleared table
  pub result_bytes : (out : List ℕ) → put_merged old new (cleared table_length out) ≡ encode (merged_table (decode old) (decode new)) ++ drop table_length out
  unfolding put_merged encode
  result_bytes out =
      let t : Tally = tally_merged old new in
      let ps : List Production = M.productions in
      let rest : List ℕ = drop table_length out in
      let a : t.productions ≡ length ps = ap (λ (u : Tally). u.productions) tally_there ∙ sums.productions ∙ zero-add _ in
      let b : t.events ≡ length (all_events ps) = ap (λ (u : Tally). u.events) tally_there ∙ sums.events ∙ zero-add _ in
      let c : t.calls ≡ length (all_calls ps) = ap (λ (u : Tally). u.calls) tally_there ∙ sums.calls ∙ zero-add _ in
      let d : t.parameters ≡ length (all_parameters (all_calls ps)) = ap (λ (u : Tally). u.parameters) tally_there ∙ sums.parameters ∙ zero-add _ in
      let r = body_room ps (subst (λ (u : Tally). TallyRoom u) tally_there room) in
      ap (λ (l : List ℕ). put_counts (put_texts l Directive.Replace true (first_length_in old) (first_length_in new)) t.productions t.events t.calls t.parameters)
      (ap (λ (l : List ℕ). put_by (directive_in new) old new l) (cleared_holds out) ∙ body_there rest ∙ ap (λ (x : Entries). image x ++ rest) (sym (bare_body ps)))
      ∙ put_header_lem (body_of ps) rest r Directive.Replace true (first_length_in old) (first_length_in new) t.productions t.events t.calls t.parameters
      ∙ rw (lengths_there.0, lengths_there.1) (ap (λ (x : Entries). image x ++ rest) (header_by (decode old) (decode new) t.productions t.events t.calls t.parameters a b c d))
