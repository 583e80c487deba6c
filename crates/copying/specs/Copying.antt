-- Bytes with productions written after those that stand there.
use Rattle.std.specs.Prelude.{ℕ, suc, Bool, true, false, List, [], ◌∷◌, length}
use Rattle.model.specs.Tables.{Call, Production}
use Rattle.model.specs.declared.events.Directive.{Directive}
use Rattle.tables.specs.Layout.{all_parameters}
use Rattle.tables.specs.Reading.{production_total, directive_in, first_length_in}
use Rattle.tables.specs.Writing.{put_event, put_call, put_parameter, put_production, put_texts, put_counts}
use Rattle.tally.specs.Kept.{kept_from}
use Rattle.tally.specs.Counting.{no_tally, tally_one, tally_all, tally_merged}
use Rattle.tally.specs.declared.count.Tally.{Tally}

module _ {A : Type 0} where
  -- entries one after the other, the first at a place
  unfoldable pub puts : (List ℕ → ℕ → A → List ℕ) → List ℕ → ℕ → List A → List ℕ
  puts put l at [] = l
  puts put l at (x ∷ xs) = puts put (put l at x) (suc at) xs

-- a call of the first text or the second
abbrev pub put_call_in : Bool → List ℕ → ℕ → Call → List ℕ
put_call_in second l i c = put_call l i second c.name (length c.parameters)

-- a production after as many as the tally counts
unfoldable pub put_one : Bool → List ℕ → Tally → Production → List ℕ
put_one second l t p =
    put_production
    (puts put_parameter
    (puts (put_call_in second) (puts put_event l t.events p.events) t.calls p.calls)
    t.parameters
    (all_parameters p.calls))
    t.productions
    (length p.events)
    (length p.calls)

unfoldable pub put_all : Bool → List ℕ → Tally → List Production → List ℕ
put_all second l t [] = l
put_all second l t (p ∷ ps) = put_all second (put_one second l t p) (tally_one t p) ps

-- the productions of a merge, by the new table's directive: "the old table's text is the first"
unfoldable pub put_by : Directive → (old new out : List ℕ) → List ℕ
put_by Directive.Replace old new out = put_all true out no_tally (kept_from new 0 old 0)
put_by Directive.Override old new out =
    put_all false
    (put_all true out no_tally (kept_from new 0 old 0))
    (tally_all no_tally (kept_from new 0 old 0))
    (kept_from old 0 new (production_total new))
put_by Directive.Augment old new out =
    put_all true
    (put_all false out no_tally (kept_from old 0 new 0))
    (tally_all no_tally (kept_from old 0 new 0))
    (kept_from new 0 old (production_total old))

-- and the header: "The result counts as replace and as merged"
unfoldable pub put_merged : (old new out : List ℕ) → List ℕ
put_merged old new out =
    put_counts
    (put_texts (put_by (directive_in new) old new out) Directive.Replace true (first_length_in old) (first_length_in new))
    (tally_merged old new).productions
    (tally_merged old new).events
    (tally_merged old new).calls
    (tally_merged old new).parameters
