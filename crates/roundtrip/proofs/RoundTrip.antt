-- The round trip, as specs/RoundTrip states it.
use Prim.Native.Nat.{ℕ, ◌≤◌}
use mathlib.Core.Path.{◌≡◌, refl, sym, ap, ◌∙◌}
use mathlib.Core.Bool.{Bool, true, false, not, false≢true}
use Rattle.std.specs.Prelude.{None}
use mathlib.Core.List.{List, [], ◌∷◌, ◌++◌, map}
use lib.ListN.{length}
use Rattle.model.specs.Lists.{those}
use Rattle.model.specs.Limits.{text_limit}
use Rattle.model.specs.Numbers.{long_text}
use Rattle.model.specs.Tables.{Production, Table}
use Rattle.model.specs.Compiling.{passes_limit, compiled, accepted, refused, table_of}
use Rattle.model.specs.Merging.{is_among, without, merged_productions, from_second, merged_table, merge_passes_limit}
use Rattle.model.specs.Demand.{Accepted, by_compiling, by_merging}
use Rattle.model.specs.Canonical.{canonical_text}
use Rattle.model.specs.declared.events.Directive.{Directive}
use Rattle.grammar.specs.Texts.{TranslationTable}
use Rattle.grammar.specs.Compiling.{Upto, Compiles}
use Rattle.grammar.specs.Exact.{Accepts}
use Rattle.grammar.proofs.Exact.{exact}
use Rattle.roundtrip.specs.Contents.{content, contents}
use Rattle.roundtrip.specs.RoundTrip.{CameFrom, ReadsBack, RoundTrip}
use Rattle.roundtrip.proofs.Lists.{choose}
use Rattle.roundtrip.proofs.Good.{GoodContents}
use Rattle.roundtrip.proofs.WholeText.{text_of, text_allowed, LinesGot, lines_got}
use Rattle.roundtrip.proofs.Limits.{limits_same}
use Rattle.roundtrip.proofs.Canonical.{canonical_text_lem}
use Rattle.roundtrip.proofs.ReadTexts.{Said, upto_said}

-- ---- Tables that can be written

record Writable (first second : List ℕ) (t : Table) : Type 0 where
  good : GoodContents (contents first second t)
  limits : passes_limit t.productions ≡ false

compiled_accepts : (text : List ℕ) (t : Table) → compiled text ≡ accepted t → Accepts text t
compiled_accepts text t e = (exact.accepts text t).0 e

accepts_said : (text : List ℕ) (t : Table) → Accepts text t → Said text t.productions
accepts_said text t a = rw a.table (upto_said text a.allowed.bytes a.derived)

compiling_writable : (text second : List ℕ) (t : Table) → compiled text ≡ accepted t → Writable text second t
compiling_writable text second t e =
    let a : Accepts text t = compiled_accepts text t e in
    let s : Said text t.productions = accepts_said text t a in
    record { good = rw (s.first second) s.good; limits = rw a.table a.derived.limits }

module _ (first second : List ℕ) where
  good_append : (ps qs : List Production) → GoodContents (map (content first second) ps) → GoodContents (map (content first second) qs)
      → GoodContents (map (content first second) (ps ++ qs))
  good_append [] qs p q = q
  good_append (x ∷ ps) qs p q = (p.0, good_append ps qs p.1 q)

  good_those : (keep : Production → Bool) (ps : List Production) → GoodContents (map (content first second) ps)
      → GoodContents (map (content first second) (those keep ps))
  good_those keep [] p = tt
  good_those keep (x ∷ ps) p =
      choose (keep x) (λ q. rw q (p.0, good_those keep ps p.1)) (λ q. rw q (good_those keep ps p.1))

  good_merged : (d : Directive) (old new : List Production) → GoodContents (map (content first second) old)
      → GoodContents (map (content first second) new) → GoodContents (map (content first second) (merged_productions d old new))
  unfolding merged_productions without
  good_merged Directive.Replace old new p q = q
  good_merged Directive.Override old new p q = good_append new (those (λ x. not (is_among new x)) old) q (good_those (λ x. not (is_among new x)) old p)
  good_merged Directive.Augment old new p q = good_append old (those (λ x. not (is_among old x)) new) p (good_those (λ x. not (is_among old x)) new q)

merging_writable : (first second : List ℕ) (old new : Table) → compiled first ≡ accepted old → compiled second ≡ accepted new
    → merge_passes_limit old new ≡ false → Writable first second (merged_table old new)
unfolding merged_table merge_passes_limit
merging_writable first second old new e f l =
    let s : Said first old.productions = accepts_said first old (compiled_accepts first old e) in
    let u : Said second new.productions = accepts_said second new (compiled_accepts second new f) in
    record {
      good =
          good_merged first second new.directive old.productions (map from_second new.productions)
          (rw (s.first second) s.good) (rw (u.second first) u.good);
      limits = l;
    }

writable : {t : Table} {first second : List ℕ} → CameFrom t first second → Writable first second t
writable {t} {first} {second} (CameFrom.compiling e) = compiling_writable first second t e
writable {first = first} {second = second} (CameFrom.merging {old = old} {new = new} e f l) = merging_writable first second old new e f l

-- ---- The text reads back

reads_text : (first second : List ℕ) (t : Table) → Writable first second t → length (text_of (contents first second t)) ≤ text_limit
    → ReadsBack first second t (text_of (contents first second t))
reads_text first second t w h =
    let text : List ℕ = text_of (contents first second t) in
    let g : LinesGot text text (contents first second t) = lines_got text (contents first second t) [] w.good refl in
    let u : Upto text None Directive.Replace g.productions =
    record {
      derived = g.derived;
      table = TranslationTable.plain g.lines;
      kept = g.kept;
      limits = limits_same text [] first second g.productions t.productions g.same ∙ w.limits;
    } in
    let again : Table = table_of text Directive.Replace g.productions in
    let a : Accepts text again =
    record {
      allowed = record { short = h; bytes = text_allowed (contents first second t) w.good };
      directive = Directive.Replace;
      productions = g.productions;
      derived = u;
      table = refl;
    } in
    record {
      again = again;
      accepts = (exact.accepts text again).1 a;
      same = g.same;
      canonical = canonical_text_lem text [] again ∙ ap text_of g.same;
    }

reads_canonical : (first second : List ℕ) (t : Table) → Writable first second t → length (canonical_text first second t) ≤ text_limit
    → ReadsBack first second t (canonical_text first second t)
reads_canonical first second t w h =
    rw (canonical_text_lem first second t) (reads_text first second t w (rw (canonical_text_lem first second t) at h))

-- ---- Every accepted table came from texts

abbrev Texts : Table → Type 0
Texts t = (first : List ℕ) × (second : List ℕ) × CameFrom t first second

-- a table that is not merged was compiled
abbrev Compiled : Table → Type 0
Compiled t = (text : List ℕ) × (compiled text ≡ accepted t)

is_merged : (old new : Table) → (merged_table old new).merged ≡ true
unfolding merged_table
is_merged old new = refl

not_merged : {t : Table} → Accepted t → t.merged ≡ false → Compiled t
not_merged (by_compiling text e) m = (text, e)
not_merged (by_merging {old = old} {new = new} a b x y l) m = absurd (false≢true (sym m ∙ is_merged old new))

texts_of : {t : Table} → Accepted t → Texts t
texts_of (by_compiling text e) = (text, [], CameFrom.compiling e)
texts_of (by_merging a b x y l) =
    let c = not_merged a x in
    let d = not_merged b y in
    (c.0, d.0, CameFrom.merging c.1 d.1 l)

accepts_merged : (text : List ℕ) (t : Table) → compiled text ≡ accepted t → t.merged ≡ false
accepts_merged text t e = ap (λ (x : Table). x.merged) (compiled_accepts text t e).table

accepted_from : {t : Table} {first second : List ℕ} → CameFrom t first second → Accepted t
accepted_from {t} {first} (CameFrom.compiling e) = by_compiling first e
accepted_from {first = first} {second = second} (CameFrom.merging {old = old} {new = new} e f l) =
    by_merging (by_compiling first e) (by_compiling second f) (accepts_merged first old e) (accepts_merged second new f) l

-- ---- All of it

pub round_trip : RoundTrip
round_trip =
    record {
      texts = λ t a. texts_of a;
      accepted = λ t first second c. accepted_from c;
      reads = λ t first second c h. reads_canonical first second t (writable c) h;
      long = λ t first second h. (exact.outcome (canonical_text first second t) (refused long_text 0)).1 (Compiles.long_text h);
    }
