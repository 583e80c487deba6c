-- Runs after `@` in a line of bytes: what they read to is in range, and the keysyms of a list are rising.
use Prim.Native.Nat.{ℕ, zero, suc, ◌+◌, ◌-◌, ◌≤◌, ◌<◌}
use native.Mathlib.Omega.{arith}
use native.Mathlib.Nat.{add-zero}
use mathlib.Core.Path.{◌≡◌}
use mathlib.Core.Bool.{Bool, true}
use mathlib.Core.List.{List, [], ◌∷◌, ◌++◌}
use lib.ListN.{length, take, drop}
use lib.Seq.{get_or-drop}
use borrow.Author.Tests.{leb-true}
use Rattle.model.specs.Lists.{part}
use Rattle.model.specs.Limits.{keysym_limit}
use Rattle.model.specs.Bytes.{byte_at}
use Rattle.model.specs.Details.{key_detail}
use Rattle.model.specs.Events.{Modifier, name, keysym, ModifierList, Modifiers, modifiers, one_more, modifier_at, modifiers_next, modifiers_from, modifiers_at}
use Rattle.model.specs.Modifiers.{modifiers_of}
use Rattle.model.specs.Named.{with_read, with_modifier, keysyms_from, keysyms_of}
use Rattle.model.specs.declared.scan.ModifierRead.{ModifierRead}
use Rattle.model.specs.declared.names.DetailRead.{DetailRead}
use Rattle.keysym_list.specs.Rising.{Rising}
use Rattle.keysym_list.proofs.Inserted.{with_rising}
use Rattle.list_scanner.specs.ModifierLists.{modifiers_in, list_of_kind}
use Rattle.list_scanner.specs.declared.lists.ListKind.{ListKind}
use Rattle.event_scanner.specs.declared.events.ListSpans.{ListSpans}
use Rattle.event_scanner.specs.Spans.{list_in}
use Rattle.list_masks.specs.Summary.{KeysymReadIn}
use Rattle.judge.specs.Ranges.{WordIn, WordsIn}
use Rattle.judge.proofs.NameRanges.{read_passes, key_passes}

-- ---- What a run reads to

read_in : (r : DetailRead) → read_passes r ≡ true → KeysymReadIn r
read_in (DetailRead.Value v) e = let h : v ≤ keysym_limit = leb-true v keysym_limit e in omega arith
read_in DetailRead.Unknown e = tt
read_in DetailRead.TooLarge e = tt
read_in DetailRead.NotBuilt e = tt

pub keysym_in : (word : List ℕ) → byte_at word 0 < 256 → KeysymReadIn (key_detail word)
keysym_in word h = read_in (key_detail word) (key_passes word h)

read_rising : (tilde : Bool) (r : DetailRead) (ss : List ℕ) → KeysymReadIn r → Rising ss → Rising (with_read tilde r ss)
read_rising tilde (DetailRead.Value v) ss h g = with_rising tilde v ss h g
read_rising tilde DetailRead.Unknown ss h g = g
read_rising tilde DetailRead.TooLarge ss h g = g
read_rising tilde DetailRead.NotBuilt ss h g = g

modifier_rising : (m : Modifier) (ss : List ℕ) → WordIn m → Rising ss → Rising (with_modifier ss m)
modifier_rising (name tilde word) ss h g = g
modifier_rising (keysym tilde word) ss h g = read_rising tilde (key_detail word) ss (keysym_in word h) g

pub words_rising : (ss : List ℕ) (ms : List Modifier) → Rising ss → WordsIn ms → Rising (keysyms_from ss ms)
unfolding keysyms_from
words_rising ss [] g h = g
words_rising ss (m ∷ ms) g h = words_rising (with_modifier ss m) ms (modifier_rising m ss h.0 g) h.1

pub list_rising : (list : ModifierList) → WordsIn (modifiers_of list) → Rising (keysyms_of list)
unfolding keysyms_of
list_rising list h = words_rising [] (modifiers_of list) tt h

pub words_last : (ms : List Modifier) (m : Modifier) → WordsIn ms → WordIn m → WordsIn (ms ++ (m ∷ []))
words_last [] m h k = (k, tt)
words_last (n ∷ ms) m h k = (h.0, words_last ms m h.1 k)

-- ---- Runs of a line

first_in : (n : ℕ) (l : List ℕ) → byte_at l 0 < 256 → byte_at (take n l) 0 < 256
first_in zero l h = omega arith
first_in (suc n) [] h = h
first_in (suc n) (b ∷ bs) h = h

-- the first byte of a part of a line
pub part_in : (l : List ℕ) (start end : ℕ) → byte_at l start < 256 → byte_at (part l start end) 0 < 256
part_in l start end h = first_in (end - start) (drop start l) (rw (get_or-drop, add-zero) h)

abbrev pub ReadWords : Modifiers → Type 0
ReadWords Modifiers.broken = Unit
ReadWords (modifiers ms end) = WordsIn ms

read_words : (m : Modifiers) → ReadWords m → WordsIn (modifiers_in m)
read_words Modifiers.broken h = tt
read_words (modifiers ms end) h = h

more_words : (m : Modifier) (rest : Modifiers) → WordIn m → ReadWords rest → ReadWords (one_more m rest)
more_words m Modifiers.broken h k = tt
more_words m (modifiers ms end) h k = (h, k)

module _ (l : List ℕ) (bytes : (k : ℕ) → byte_at l k < 256) where
  next_words : (m : ModifierRead) (rest : ℕ → Modifiers) → ((p : ℕ) → ReadWords (rest p)) → ReadWords (modifiers_next l m rest)
  next_words ModifierRead.Broken rest f = tt
  next_words (ModifierRead.End at) rest f = tt
  next_words (ModifierRead.Name tilde start end) rest f = more_words (name tilde (part l start end)) (rest end) tt (f end)
  next_words (ModifierRead.Keysym tilde start end) rest f =
      more_words (keysym tilde (part l start end)) (rest end) (part_in l start end (bytes start)) (f end)

  modifiers_words : (fuel at : ℕ) → ReadWords (modifiers_from fuel l at)
  unfolding modifiers_from
  modifiers_words zero at = tt
  modifiers_words (suc fuel) at = next_words (modifier_at l at) (λ p. modifiers_from fuel l p) (λ p. modifiers_words fuel p)

  pub modifiers_in_lem : (at : ℕ) → ReadWords (modifiers_at l at)
  modifiers_in_lem at = modifiers_words (length l + 1) at

  kind_words : (k : ListKind) (bang colon : Bool) (ms : List Modifier) → WordsIn ms → WordsIn (modifiers_of (list_of_kind k bang colon ms))
  kind_words ListKind.Listed bang colon ms h = h
  kind_words ListKind.NoModifier bang colon ms h = tt
  kind_words ListKind.AnyModifier bang colon ms h = tt

  pub spans_words : (list : ListSpans) → WordsIn (modifiers_of (list_in l list))
  spans_words list =
      kind_words list.kind list.bang list.colon (modifiers_in (modifiers_at l list.start))
      (read_words (modifiers_at l list.start) (modifiers_in_lem list.start))

  pub spans_rising : (list : ListSpans) → Rising (keysyms_of (list_in l list))
  spans_rising list = list_rising (list_in l list) (spans_words list)
