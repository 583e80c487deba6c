-- Demand 2 about the code that runs, as specs/ReadBack states it, from the round trip of the rules.
use Prim.Native.Nat.{ℕ, ◌≤◌, ◌<◌}
use native.Mathlib.Omega.{arith}
use mathlib.Core.Path.{◌≡◌, refl, sym, ap, ◌∙◌}
use mathlib.Core.Bool.{Bool, true, false, not, ◌&&◌}
use mathlib.Core.List.{List, [], ◌++◌}
use lib.ListN.{length, length-append}
use borrow.Author.Tests.{not-true}
use Rattle.words.proofs.Bools.{and_right}
use Rattle.model.specs.Lists.{all}
use Rattle.model.specs.Limits.{text_limit}
use Rattle.model.specs.Numbers.{long_text}
use Rattle.model.specs.Tables.{Table}
use Rattle.model.specs.Compiling.{accepted, compiled, passes_limit, outcome_answer}
use Rattle.model.specs.Merging.{merged_table, merge_passes_limit}
use Rattle.model.specs.Canonical.{canonical_text}
use Rattle.model.specs.declared.answers.Compiled.{Compiled}
use Rattle.model.specs.declared.answers.Merged.{Merged}
use Rattle.model.specs.declared.answers.Written.{Written}
use Rattle.grammar.proofs.Exact.{exact}
use Rattle.tables.specs.Layout.{table_length, all_events, all_calls}
use Rattle.tables.specs.Reading.{decode}
use Rattle.tables.specs.Fitting.{texts_in_range, has_event, event_in_range, call_in_range, fitting}
use Rattle.tables.specs.Whole.{whole}
use Rattle.tables.proofs.Theorems.{whole_holds, whole_length}
use Rattle.compiler.specs.Compile.{compile_answer, compiled_bytes}
use Rattle.compiler.proofs.Outcomes.{accepted_is_whole}
use Rattle.merger.specs.Merge.{merge_answer, merged_bytes}
use Rattle.merger.proofs.Theorems.{accepted_whole, accepted_decode}
use Rattle.printer.specs.Write.{written}
use Rattle.roundtrip.specs.Contents.{contents}
use Rattle.roundtrip.specs.RoundTrip.{CameFrom, ReadsBack}
use Rattle.roundtrip.proofs.RoundTrip.{round_trip}
use Rattle.readback.specs.ReadBack.{Lent, ReadAgain, text_left, ReadBack}
use Rattle.readback.proofs.Within.{contents_within, canonical_within}
use Rattle.readback.proofs.Answers.{Taken, taken, answer_long, Left, left, writes_all}

-- ---- A lent table came from texts, which the lent ones begin with

record Known (table first second : List ℕ) : Type 0 where
  ok : whole table ≡ true
  text : List ℕ
  other : List ℕ
  more : List ℕ
  later : List ℕ
  first_is : first ≡ text ++ more
  second_is : second ≡ other ++ later
  from : CameFrom (decode table) text other
  first_kept : (decode table).first_length ≡ length text
  second_kept : (decode table).second_length ≡ length other

text_kept : (text : List ℕ) (t : Table) → compiled text ≡ accepted t → t.first_length ≡ length text
text_kept text t e = ap (λ (x : Table). x.first_length) ((exact.accepts text t).0 e).table

none_kept : (text : List ℕ) (t : Table) → compiled text ≡ accepted t → t.second_length ≡ 0
none_kept text t e = ap (λ (x : Table). x.second_length) ((exact.accepts text t).0 e).table

known_compiled : (text buffer more second : List ℕ) → Taken text buffer → Known (compiled_bytes text buffer) (text ++ more) second
known_compiled text buffer more second k =
    let w = accepted_is_whole text buffer k.table k.room k.gives in
    record {
      ok = w.0;
      text = text;
      other = [];
      more = more;
      later = second;
      first_is = refl;
      second_is = refl;
      from = rw w.1 (CameFrom.compiling k.gives);
      first_kept = rw w.1 (text_kept text k.table k.gives);
      second_kept = rw w.1 (none_kept text k.table k.gives);
    }

-- a whole table passes no limit
whole_limit : (old new : Table) → fitting (merged_table old new) ≡ true → merge_passes_limit old new ≡ false
unfolding fitting merge_passes_limit
whole_limit old new e =
    let t : Table = merged_table old new in
    let rest : Bool =
    texts_in_range t && all has_event t.productions && all event_in_range (all_events t.productions) && all (call_in_range t) (all_calls t.productions) in
    not-true (passes_limit t.productions) (and_right rest (not (passes_limit t.productions)) e)

kept_first : (old new : Table) → (merged_table old new).first_length ≡ old.first_length
unfolding merged_table
kept_first old new = refl

kept_second : (old new : Table) → (merged_table old new).second_length ≡ new.first_length
unfolding merged_table
kept_second old new = refl

module _ (old new old_buffer new_buffer out more later : List ℕ) (k : Taken old old_buffer) (j : Taken new new_buffer)
    (merges : merge_answer (compiled_bytes old old_buffer) (compiled_bytes new new_buffer) out ≡ Merged.Accepted) where
  abbrev merged : List ℕ
  merged = merged_bytes (compiled_bytes old old_buffer) (compiled_bytes new new_buffer) out

  is_whole : whole merged ≡ true
  is_whole = accepted_whole (compiled_bytes old old_buffer) (compiled_bytes new new_buffer) out merges

  reads_as : decode merged ≡ merged_table k.table j.table
  reads_as =
      accepted_decode (compiled_bytes old old_buffer) (compiled_bytes new new_buffer) out merges
      ∙ ap (λ (t : Table). merged_table t (decode (compiled_bytes new new_buffer))) (accepted_is_whole old old_buffer k.table k.room k.gives).1
      ∙ ap (merged_table k.table) (accepted_is_whole new new_buffer j.table j.room j.gives).1

  known_merged : Known merged (old ++ more) (new ++ later)
  known_merged =
      let fit : fitting (merged_table k.table j.table) ≡ true = rw (← reads_as) (whole_holds merged is_whole).fits in
      record {
        ok = is_whole;
        text = old;
        other = new;
        more = more;
        later = later;
        first_is = refl;
        second_is = refl;
        from = rw reads_as (CameFrom.merging k.gives j.gives (whole_limit k.table j.table fit));
        first_kept = ap (λ (t : Table). t.first_length) reads_as ∙ kept_first k.table j.table ∙ text_kept old k.table k.gives;
        second_kept = ap (λ (t : Table). t.second_length) reads_as ∙ kept_second k.table j.table ∙ text_kept new j.table j.gives;
      }

known : {table first second : List ℕ} → Lent table first second → Known table first second
known (Lent.by_compile text buffer more second e) =
    known_compiled text buffer more second (taken text buffer e)
known (Lent.by_merge old new one two out more later e f a) =
    known_merged old new one two out more later (taken old one e) (taken new two f) a

-- ---- What a known table is written as, and reads back to

module _ (table first second : List ℕ) (k : Known table first second) where
  fits : fitting (decode table) ≡ true
  fits = (whole_holds table k.ok).fits

  same_contents : contents first second (decode table) ≡ contents k.text k.other (decode table)
  same_contents =
      rw (k.first_is, k.second_is)
      (contents_within (decode table) k.text k.other k.more k.later (omega (arith, k.first_kept)) (omega (arith, k.second_kept)) fits)

  same_text : canonical_text first second (decode table) ≡ canonical_text k.text k.other (decode table)
  same_text =
      rw (k.first_is, k.second_is)
      (canonical_within (decode table) k.text k.other k.more k.later (omega (arith, k.first_kept)) (omega (arith, k.second_kept)) fits)

  writes_known : (out : List ℕ) → length (canonical_text first second (decode table)) ≤ length out
      → written table first second out ≡ Written.Accepted (length (canonical_text first second (decode table)))
  writes_known out h =
      let a : (decode table).first_length ≤ length first =
      omega (arith, k.first_kept, ap length k.first_is, length-append k.text k.more) in
      let b : (decode table).second_length ≤ length second =
      omega (arith, k.second_kept, ap length k.second_is, length-append k.other k.later) in
      writes_all table first second out (whole_length table k.ok) k.ok a b h

  module _ (text : List ℕ) (e : text ≡ canonical_text first second (decode table)) (h : length text ≤ text_limit) (buffer : List ℕ) (room : table_length ≤ length buffer) where
    back : ReadsBack k.text k.other (decode table) text
    back =
        let f : canonical_text k.text k.other (decode table) ≡ text = sym (e ∙ same_text) in
        rw f at (round_trip.reads (decode table) k.text k.other k.from (rw f h))

    reads_as_before : decode (compiled_bytes text buffer) ≡ back.again
    reads_as_before = (accepted_is_whole text buffer back.again room back.accepts).1

    read_known : ReadAgain table first second text buffer
    read_known =
        record {
          accepts = answer_long text buffer room ∙ ap outcome_answer back.accepts;
          same = ap (contents text []) reads_as_before ∙ back.same ∙ sym same_contents;
          canonical = ap (canonical_text text []) reads_as_before ∙ back.canonical;
        }

long_refused : (table first second out : List ℕ) (n : ℕ) → Left table first second out n → text_limit < n → (buffer : List ℕ) → table_length ≤ length buffer
    → compile_answer (text_left table first second out n) buffer ≡ Compiled.Refused long_text 0
long_refused table first second out n l h buffer room =
    let d : text_limit < length (canonical_text first second (decode table)) = omega (arith, l.length_is) in
    answer_long (text_left table first second out n) buffer room
    ∙ ap (λ (x : List ℕ). outcome_answer (compiled x)) l.text_is
    ∙ ap outcome_answer (round_trip.long (decode table) first second d)

pub read_back : ReadBack
read_back =
    record {
      writes = λ {table} {first} {second} p out h. writes_known table first second (known p) out h;
      leaves = λ table first second out n e. (left table first second out n e).text_is;
      reads = λ {table} {first} {second} p out n e h buffer room.
          let l : Left table first second out n = left table first second out n e in
          let short : length (text_left table first second out n) ≤ text_limit = omega (arith, l.length_is, ap length l.text_is) in
          read_known table first second (known p) (text_left table first second out n) l.text_is short buffer room;
      long = λ table first second out n e h buffer room. long_refused table first second out n (left table first second out n e) h buffer room;
      within = λ table first second more later w a b.
          canonical_within (decode table) first second more later a b (whole_holds table w).fits;
    }
