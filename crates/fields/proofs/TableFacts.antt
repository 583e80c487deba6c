-- What a whole table says of the words that the matcher reads.
use Prim.Native.Nat.{ℕ, ◌+◌, ◌*◌, ◌%◌, ◌≤◌, ◌<◌}
use native.Mathlib.Omega.{arith}
use native.Mathlib.Nat.{mod-eq_of_lt}
use Rattle.std.proofs.lemmas.Bool.Decides.{nat_tests}
use mathlib.Core.Path.{◌≡◌, sym}
use mathlib.Core.Bool.{true, false, ◌&&◌, ◌||◌}
use mathlib.Core.List.{List}
use lib.Dec.{eqb, leb}
use lib.ListN.{length, get_or}
use Rattle.words.specs.Words.{word_at}
use Rattle.words.proofs.Images.{word_below}
use Rattle.model.specs.Compiling.{passes_limit}
use Rattle.tables.specs.Layout.{codes_at, counts_at, sets_at, clears_at, flags_at, lows_at, highs_at, first_lows_at, first_highs_at, table_length}
use Rattle.tables.specs.Reading.{production_total, event_total, production_events, first_event, is_flag, event_from_words, keysyms_entry, event_entry, decode}
use Rattle.event_check.specs.Events.{event_ok}
use Rattle.keysym_check.specs.Slots.{keysyms_ok}
use Rattle.tables.specs.Fitting.{keysym_in_range, keysyms_in_range}
use Rattle.tables.specs.Whole.{whole}
use Rattle.fields.specs.Fields.{flags_in}
use Rattle.event_check.proofs.EventTests.{EventFacts, event_facts}
use Rattle.table_check.proofs.CheckFacts.{CheckFacts, events_within_lem}
use Rattle.tables.proofs.EventWords.{keysym_facts}
use Rattle.tables.proofs.Facts.{fit_facts}
use Rattle.tables.proofs.Theorems.{whole_holds}
use Rattle.table_check.proofs.Exact.{whole_facts}

pub record EntryFacts (l : List ℕ) (i : ℕ) : Type 0 where
  pub code_low : 2 ≤ (event_entry l i).code
  pub code_high : (event_entry l i).code ≤ 34
  pub count_low : 1 ≤ (event_entry l i).count
  pub count_high : (event_entry l i).count ≤ 9
  -- only keys and buttons are counted
  pub counted : (leb (event_entry l i).count 1 || leb (event_entry l i).code 5) ≡ true
  pub set_below : (event_entry l i).set < 8192
  pub clear_below : (event_entry l i).clear < 8192
  -- the words of the code and the count
  pub code_word : word_at l (codes_at + i) ≡ (event_entry l i).code
  pub count_word : word_at l (counts_at + i) ≡ (event_entry l i).count
  -- where no detail is asked for
  pub bare : is_flag 4 (flags_in l i) ≡ false → word_at l (lows_at + i) ≡ 0
  pub keysyms : keysyms_in_range (event_entry l i).keysyms ≡ true

pub record TableFacts (l : List ℕ) : Type 0 where
  pub long : table_length ≤ length l
  pub productions : production_total l ≤ 64
  pub events : event_total l ≤ 256
  pub entry : (i : ℕ) → i < event_total l → EntryFacts l i
  pub within : (p : ℕ) → p < production_total l → first_event l p + production_events l p ≤ event_total l
  pub some : (p : ℕ) → p < production_total l → 1 ≤ production_events l p
  pub sum : first_event l (production_total l) ≡ event_total l
  pub limit : passes_limit (decode l).productions ≡ false

bare_low : (flags low high : ℕ) → (is_flag 4 flags || (eqb low 0 && eqb high 0)) ≡ true → is_flag 4 flags ≡ false → low ≡ 0
bare_low flags low high d q = grind (arith, nat_tests)

entry_facts : (l : List ℕ) (i : ℕ) → event_ok l i ≡ true → keysyms_ok l i ≡ true → EntryFacts l i
unfolding event_ok keysyms_ok event_entry event_from_words flags_in
entry_facts l i q k =
    let f : EventFacts (word_at l (codes_at + i)) (word_at l (counts_at + i)) (word_at l (sets_at + i)) (word_at l (clears_at + i)) (word_at l (flags_at + i)) (word_at l (lows_at + i)) (word_at l (highs_at + i))
    = event_facts (word_at l (codes_at + i)) (word_at l (counts_at + i)) (word_at l (sets_at + i)) (word_at l (clears_at + i)) (word_at l (flags_at + i)) (word_at l (lows_at + i)) (word_at l (highs_at + i)) q in
    let c : word_at l (codes_at + i) % 256 ≡ word_at l (codes_at + i) = mod-eq_of_lt (omega arith) in
    let n : word_at l (counts_at + i) % 256 ≡ word_at l (counts_at + i) = mod-eq_of_lt (omega arith) in
    record {
      code_low = rw c f.code_low;
      code_high = rw c f.code_high;
      count_low = rw n f.count_low;
      count_high = rw n f.count_high;
      counted = rw (c, n) f.counted;
      set_below = f.set_below;
      clear_below = f.clear_below;
      code_word = sym c;
      count_word = sym n;
      bare = bare_low (word_at l (flags_at + i)) (word_at l (lows_at + i)) (word_at l (highs_at + i)) f.detail;
      keysyms = k;
    }

pub table_facts : (l : List ℕ) → whole l ≡ true → TableFacts l
unfolding production_total event_total production_events first_event
table_facts l q =
    let f : CheckFacts l = whole_facts l q in
    record {
      long = f.long;
      productions = f.header.productions;
      events = f.header.events;
      entry = λ i h. entry_facts l i (f.events i h) (f.keysyms i h);
      within = λ p h. events_within_lem l f.sums p h;
      some = λ p h. (f.productions p h).events;
      sum = f.sums.events;
      limit = (fit_facts (decode l) (whole_holds l q).fits).limit;
    }

-- these facts one by one, as tactics take them
module _ (l : List ℕ) (q : whole l ≡ true) where
  pub long_table : table_length ≤ length l
  long_table = (table_facts l q).long

  pub few_events : event_total l ≤ 256
  few_events = (table_facts l q).events

  module _ (i : ℕ) (h : i < event_total l) where
    pub code_low : 2 ≤ (event_entry l i).code
    code_low = ((table_facts l q).entry i h).code_low

    pub code_high : (event_entry l i).code ≤ 34
    code_high = ((table_facts l q).entry i h).code_high

    pub count_high : (event_entry l i).count ≤ 9
    count_high = ((table_facts l q).entry i h).count_high

    pub set_below : (event_entry l i).set < 8192
    set_below = ((table_facts l q).entry i h).set_below

    pub clear_below : (event_entry l i).clear < 8192
    clear_below = ((table_facts l q).entry i h).clear_below

pub ruleset table_rules = (long_table, few_events, code_low, code_high, count_high, set_below, clear_below)

-- a keysym with a mark has it in its upper word
upper_mark : (low high : ℕ) → low < 65536 → keysym_in_range (low + 65536 * high) ≡ true → eqb high 0 ≡ eqb (low + 65536 * high) 0
upper_mark low high b h = grind (arith, nat_tests)

module _ (l : List ℕ) (bytes : (i : ℕ) → get_or l i 0 < 256) where
  -- whether event i has a keysym after `@`
  pub first_mark : (i : ℕ) → EntryFacts l i → eqb (word_at l (first_highs_at + i)) 0 ≡ eqb (event_entry l i).keysyms.first 0
  unfolding event_entry event_from_words keysyms_entry
  first_mark i f =
      upper_mark (word_at l (first_lows_at + i)) (word_at l (first_highs_at + i)) (word_below l bytes (first_lows_at + i))
      (keysym_facts (event_entry l i).keysyms f.keysyms).first
