-- Every event that a line of bytes has is of bytes, so that what judging keeps of it is in range.
use Prim.Native.Nat.{ℕ, zero, suc, ◌+◌, ◌<◌}
use mathlib.Core.Bool.{Bool, true, false, cond}
use mathlib.Core.List.{List, [], ◌∷◌, ◌++◌}
use Rattle.std.specs.Prelude.{Option, None, Some}
use lib.Dec.{leb}
use lib.ListN.{length}
use Rattle.model.specs.Lists.{any, bytes, part}
use Rattle.model.specs.Bytes.{byte_at, sign_at, is_tab, run_end, skip}
use Rattle.model.specs.Modifiers.{modifiers_of}
use Rattle.model.specs.Events.{Modifier, ModifierList, is_named, is_none_or_any, stands_alone, Count, KeyChar, WrittenEvent, Modifiers, modifiers, EventsRead, events, list_of, type_at, count_at, with_detail, with_count, with_type, with_list, with_modifiers, lead_at, modifiers_at, plain_event_at, marked_key, key_at, one_more_key, keys_next, keys_from, key_sequence_at, events_from, events_at, after_event_at, join_events, after_events, left_next, left_from, left_side}
use Rattle.model.specs.declared.scan.Class.{Class}
use Rattle.model.specs.declared.scan.Lead.{Lead}
use Rattle.model.specs.declared.scan.TypeRead.{TypeRead}
use Rattle.model.specs.declared.scan.CountRead.{CountRead}
use Rattle.model.specs.declared.scan.KeyMark.{KeyMark}
use Rattle.model.specs.declared.scan.KeyRead.{KeyRead}
use Rattle.model.specs.declared.scan.AfterEvent.{AfterEvent}
use Rattle.judge.specs.Ranges.{WordsIn, WrittenIn}
use Rattle.judge.proofs.Words.{part_in, ReadWords, modifiers_in_lem}

abbrev pub AllWritten : List WrittenEvent → Type 0
AllWritten [] = Unit
AllWritten (w ∷ ws) = WrittenIn w × AllWritten ws

abbrev pub ReadIn : EventsRead → Type 0
ReadIn EventsRead.broken = Unit
ReadIn (events ws next) = AllWritten ws

abbrev KeyIn : KeyRead → Type 0
KeyIn KeyRead.Broken = Unit
KeyIn (KeyRead.End next) = Unit
KeyIn (KeyRead.Key mark b next) = b < 256

both : {A : Type 0} (P : A → Type 0) (t : Bool) {x y : A} → P x → P y → P (cond t x y)
both P true p q = p
both P false p q = q

abbrev ListIn : Option ModifierList → Type 0
ListIn None = Unit
ListIn (Some list) = WordsIn (modifiers_of list)

-- `None` and `Any` have no modifier
list_of_in : (bang colon : Bool) (ms : List Modifier) → WordsIn ms → ListIn (list_of bang colon ms)
unfolding list_of
list_of_in bang colon ms ws =
    both ListIn (any is_none_or_any ms)
    (both ListIn (stands_alone bang colon ms)
    (both (λ (list : ModifierList). WordsIn (modifiers_of list)) (any (is_named (bytes "None")) ms) tt tt)
    tt)
    ws

append_in : (vs ws : List WrittenEvent) → AllWritten vs → AllWritten ws → AllWritten (vs ++ ws)
append_in [] ws p q = q
append_in (v ∷ vs) ws p q = (p.0, append_in vs ws p.1 q)

module _ (l : List ℕ) (h : (k : ℕ) → byte_at l k < 256) where
  -- ---- An event

  detail_in : (list : ModifierList) (word : List ℕ) (count : Option Count) (start : ℕ) → WordsIn (modifiers_of list)
      → ReadIn (with_detail l list word count start)
  detail_in list word count start ws = ((part_in l start (run_end Class.Detail l start) (h start), ws), tt)

  count_in_lem : (list : ModifierList) (word : List ℕ) (c : CountRead) → WordsIn (modifiers_of list) → ReadIn (with_count l list word c)
  count_in_lem list word CountRead.Broken ws = tt
  count_in_lem list word (CountRead.Absent next) ws = detail_in list word None (skip l next) ws
  count_in_lem list word (CountRead.Digits start end plus next) ws =
      detail_in list word (Some (record { digits = part l start end; plus = plus })) (skip l next) ws

  type_in_lem : (list : ModifierList) (t : TypeRead) → WordsIn (modifiers_of list) → ReadIn (with_type l list t)
  type_in_lem list TypeRead.Broken ws = tt
  type_in_lem list (TypeRead.Type start end next) ws = count_in_lem list (part l start end) (count_at l next) ws

  list_in_lem : (o : Option ModifierList) (end : ℕ) → ListIn o → ReadIn (with_list l o end)
  list_in_lem None end ws = tt
  list_in_lem (Some list) end ws = type_in_lem list (type_at l end) ws

  list_words : (lead : Lead) (m : Modifiers) → ReadWords m → ReadIn (with_modifiers l lead m)
  list_words lead Modifiers.broken ws = tt
  list_words lead (modifiers ms end) ws =
      list_in_lem (list_of lead.bang lead.colon ms) end (list_of_in lead.bang lead.colon ms ws)

  plain_in : (at : ℕ) → ReadIn (plain_event_at l at)
  unfolding plain_event_at
  plain_in at = list_words (lead_at l at) (modifiers_at l (lead_at l at).next) (modifiers_in_lem l h (lead_at l at).next)

  -- ---- A key sequence

  marked_in : (mark : KeyMark) (at : ℕ) → KeyIn (marked_key l mark at)
  unfolding marked_key
  marked_in mark at = both KeyIn (leb (length l) at) tt (both KeyIn (is_tab (byte_at l at)) tt (h at))

  key_in : (at : ℕ) → KeyIn (key_at l at)
  unfolding key_at
  key_in at =
      both KeyIn (leb (length l) at) tt
      (both KeyIn (sign_at l at "\"") tt
      (both KeyIn (sign_at l at "^") (marked_in KeyMark.Control (at + 1))
      (both KeyIn (sign_at l at "\\") (marked_in KeyMark.Quoted (at + 1))
      (both KeyIn (sign_at l at "$") (marked_in KeyMark.Meta (at + 1)) (marked_in KeyMark.Plain at)))))

  more_in : (k : KeyChar) (r : EventsRead) → k.byte < 256 → ReadIn r → ReadIn (one_more_key k r)
  more_in k EventsRead.broken b p = tt
  more_in k (events ks next) b p = (b, p)

  next_in : (r : KeyRead) (rest : ℕ → EventsRead) → KeyIn r → ((p : ℕ) → ReadIn (rest p)) → ReadIn (keys_next r rest)
  next_in KeyRead.Broken rest p f = tt
  next_in (KeyRead.End next) rest p f = tt
  next_in (KeyRead.Key mark b next) rest p f = more_in (record { mark = mark; byte = b }) (rest next) p (f next)

  keys_in : (fuel at : ℕ) → ReadIn (keys_from fuel l at)
  unfolding keys_from
  keys_in zero at = tt
  keys_in (suc fuel) at = next_in (key_at l at) (λ p. keys_from fuel l p) (key_in at) (λ p. keys_in fuel p)

  -- ---- The events of a line

  pub events_written : (at : ℕ) → ReadIn (events_at l at)
  unfolding events_at events_from key_sequence_at
  events_written at =
      both ReadIn (sign_at l (skip l at) "\"")
      (both ReadIn (sign_at l (skip l at + 1) "\"") tt (keys_in (length l + 1) (skip l at + 1)))
      (plain_in (skip l at))

  join_in : (es : List WrittenEvent) (r : EventsRead) → AllWritten es → ReadIn r → ReadIn (join_events es r)
  join_in es EventsRead.broken p q = tt
  join_in es (events fs next) p q = append_in es fs p q

  after_in : (es : List WrittenEvent) (a : AfterEvent) (rest : ℕ → EventsRead) → AllWritten es → ((p : ℕ) → ReadIn (rest p))
      → ReadIn (after_events es a rest)
  after_in es AfterEvent.Broken rest p f = tt
  after_in es (AfterEvent.Comma next) rest p f = join_in es (rest next) p (f next)
  after_in es (AfterEvent.Colon next) rest p f = p

  left_next_lem : (r : EventsRead) (rest : ℕ → EventsRead) → ReadIn r → ((p : ℕ) → ReadIn (rest p)) → ReadIn (left_next l r rest)
  left_next_lem EventsRead.broken rest p f = tt
  left_next_lem (events es next) rest p f = after_in es (after_event_at l next) rest p f

  left_in : (fuel at : ℕ) → ReadIn (left_from fuel l at)
  unfolding left_from
  left_in zero at = tt
  left_in (suc fuel) at = left_next_lem (events_at l at) (λ p. left_from fuel l p) (events_written at) (λ p. left_in fuel p)

  pub left_written : ReadIn (left_side l)
  unfolding left_side
  left_written = left_in (length l + 1) 0
