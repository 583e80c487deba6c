-- Document 01, "Merging and writing": merging.
use Rattle.std.specs.Prelude.{Bool, true, false, not, ◌&&◌, List, [], ◌∷◌, ◌++◌, map, eqb}
use Rattle.std.specs.Bool.{beq}
use Rattle.model.specs.Lists.{any, those}
use Rattle.model.specs.Tables.{Call, Production, Table}
use Rattle.model.specs.Compiling.{passes_limit}
use Rattle.model.specs.declared.events.Detail.{Detail}
use Rattle.model.specs.declared.events.Keysyms.{Keysyms}
use Rattle.model.specs.declared.events.KeptEvent.{KeptEvent}
use Rattle.model.specs.declared.events.Directive.{Directive}

-- ---- Equality: "the same types, tests (the colon too), details and counts in order"

abbrev pub same_detail : Detail → Detail → Bool
same_detail Detail.Unspecified Detail.Unspecified = true
same_detail Detail.Unspecified (Detail.Value w) = false
same_detail (Detail.Value v) Detail.Unspecified = false
same_detail (Detail.Value v) (Detail.Value w) = eqb v w

abbrev pub same_plain : KeptEvent → KeptEvent → Bool
same_plain e f =
    eqb e.set f.set && eqb e.clear f.clear && beq e.colon f.colon && beq e.clause f.clause

unfoldable pub same_keysyms : Keysyms → Keysyms → Bool
same_keysyms a b =
    eqb a.first b.first && eqb a.second b.second && eqb a.third b.third && eqb a.fourth b.fourth

-- R-1: "merging compares names as names", and `!` beside them as written
abbrev pub same_names : KeptEvent → KeptEvent → Bool
same_names e f = beq e.bang f.bang && eqb e.names f.names && same_keysyms e.keysyms f.keysyms

abbrev pub same_test : KeptEvent → KeptEvent → Bool
same_test e f = same_plain e f && same_names e f

-- events as kept, before expansion
unfoldable pub same_event : KeptEvent → KeptEvent → Bool
same_event e f =
    eqb e.code f.code && same_test e f && same_detail e.detail f.detail && eqb e.count f.count

unfoldable pub same_events : List KeptEvent → List KeptEvent → Bool
same_events [] [] = true
same_events [] (f ∷ fs) = false
same_events (e ∷ es) [] = false
same_events (e ∷ es) (f ∷ fs) = same_event e f && same_events es fs

-- its events equal those of some production of the list
unfoldable pub is_among : List Production → Production → Bool
is_among ps p = any (λ q. same_events p.events q.events) ps

-- ---- The rule

-- the productions of the one list whose events equal none of the other's
unfoldable pub without : List Production → List Production → List Production
without others ps = those (λ p. not (is_among others p)) ps

-- "Replace: the new table. Override: new productions, then old ones whose events equal no new one's. Augment: old, then new
-- ones whose events equal no old one's."
unfoldable pub merged_productions : Directive → List Production → List Production → List Production
merged_productions Directive.Replace old new = new
merged_productions Directive.Override old new = new ++ without new old
merged_productions Directive.Augment old new = old ++ without old new

-- "the old table's text is the first": the new one's calls are marked as the second's
abbrev pub mark_second : Call → Call
mark_second c = record { second = true; name = c.name; parameters = c.parameters }

abbrev pub from_second : Production → Production
from_second p = record { events = p.events; calls = map mark_second p.calls }

-- "The result counts as replace and as merged"
unfoldable pub merged_table : Table → Table → Table
merged_table old new =
    record {
      directive = Directive.Replace;
      merged = true;
      first_length = old.first_length;
      second_length = new.first_length;
      productions = merged_productions new.directive old.productions (map from_second new.productions);
    }

-- number 11 of merging
unfoldable pub merge_passes_limit : Table → Table → Bool
merge_passes_limit old new = passes_limit (merged_table old new).productions
