-- What a merge keeps, copied in order, is what its directive says.
use Prim.Native.Nat.{ℕ, ◌≤◌}
use mathlib.Core.Path.{◌≡◌, refl, ◌∙◌}
use mathlib.Core.Bool.{Bool, true, false}
use mathlib.Core.List.{List, [], ◌∷◌, ◌++◌}
use Rattle.model.specs.Tables.{Production}
use Rattle.model.specs.declared.events.Directive.{Directive}
use Rattle.tables.specs.Layout.{table_length}
use Rattle.tables.specs.Reading.{production_total}
use Rattle.tally.specs.Kept.{each_marked, kept_from, kept_by}
use Rattle.tally.specs.Counting.{no_tally, tally_one, tally_all, put_kept, TallyRoom}
use Rattle.tally.specs.Laws.{one_room}
use Rattle.tally.specs.declared.count.Tally.{Tally}
use Rattle.copying.specs.Copying.{put_one, put_all, put_by}

all_more : (s : Bool) (l : List ℕ) (t : Tally) (ps : List Production) (ks : List (Bool × Production))
    → put_kept put_one l t (each_marked s ps ++ ks) ≡ put_kept put_one (put_all s l t ps) (tally_all t ps) ks
unfolding put_kept put_all tally_all
all_more s l t [] ks = refl
all_more s l t (p ∷ ps) ks = all_more s (put_one s l t p) (tally_one t p) ps ks

all_last : (s : Bool) (l : List ℕ) (t : Tally) (ps : List Production) → put_kept put_one l t (each_marked s ps) ≡ put_all s l t ps
unfolding put_kept put_all
all_last s l t [] = refl
all_last s l t (p ∷ ps) = all_last s (put_one s l t p) (tally_one t p) ps

pub kept_put : (d : Directive) (old new out : List ℕ) → put_kept put_one out no_tally (kept_by d old new) ≡ put_by d old new out
unfolding kept_by put_by
kept_put Directive.Replace old new out = all_last true out no_tally (kept_from new 0 old 0)
kept_put Directive.Override old new out =
    all_more true out no_tally (kept_from new 0 old 0) _ ∙ all_last false _ _ (kept_from old 0 new (production_total new))
kept_put Directive.Augment old new out =
    all_more false out no_tally (kept_from old 0 new 0) _ ∙ all_last true _ _ (kept_from new 0 old (production_total old))

-- ---- Room, as a copy asks for it

abbrev pub fits : ℕ → Tally → Type 0
fits n t = (table_length ≤ n) × TallyRoom t

pub fits_fewer : (n : ℕ) (t : Tally) (p : Production) → fits n (tally_one t p) → fits n t
fits_fewer n t p f = (f.0, one_room t p f.1)
