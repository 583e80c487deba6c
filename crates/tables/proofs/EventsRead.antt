-- The events of a line: at least one, and what is kept of their bytes are bytes.
use Prim.Native.Nat.{ℕ, zero, suc, ◌+◌, ◌-◌, ◌<◌}
use mathlib.Core.Path.{◌≡◌, sym, ◌∙◌}
use mathlib.Core.List.{List, [], ◌∷◌, ◌++◌}
use mathlib.Core.Bool.{Bool, false, cond, false≢true}
use Rattle.std.specs.Prelude.{Option, None, Some}
use lib.Dec.{leb}
use lib.ListN.{length, drop}
use Rattle.model.specs.Lists.{bytes, part, any}
use Rattle.model.specs.Bytes.{is_tab, byte_at, sign_at, run_end, skip}
use Rattle.model.specs.Events.{Modifier, name, keysym, modifier_at, one_more, modifiers_next, modifiers_from, is_named, is_none_or_any, stands_alone, lone_list, Modifiers, modifiers, ModifierList, listed, no_modifier, any_modifier, Count, KeyChar, WrittenEvent, event, key, lead_at, list_of, modifiers_at, type_at, count_at, EventsRead, events, with_detail, with_count, with_type, with_list, with_modifiers, plain_event_at, marked_key, key_at, one_more_key, keys_next, keys_from, key_sequence_at, events_from, events_at, after_event_at, join_events, after_events, left_next, left_from, left_side}
use Rattle.model.specs.Modifiers.{modifiers_of}
use Rattle.model.specs.declared.scan.Class.{Class}
use Rattle.model.specs.declared.scan.Lead.{Lead}
use Rattle.model.specs.declared.scan.ModifierRead.{ModifierRead}
use Rattle.model.specs.declared.scan.TypeRead.{TypeRead}
use Rattle.model.specs.declared.scan.CountRead.{CountRead}
use Rattle.model.specs.declared.scan.KeyMark.{KeyMark}
use Rattle.model.specs.declared.scan.KeyRead.{KeyRead}
use Rattle.model.specs.declared.scan.AfterEvent.{AfterEvent}
use Rattle.tables.proofs.Positions.{cond_both, Small, small_take, small_drop}

abbrev ModifierSmall : Modifier → Type 0
ModifierSmall (name tilde word) = Unit
ModifierSmall (keysym tilde word) = Small word

abbrev pub ModifiersSmall : List Modifier → Type 0
ModifiersSmall [] = Unit
ModifiersSmall (m ∷ ms) = ModifierSmall m × ModifiersSmall ms

abbrev pub WrittenSmall : WrittenEvent → Type 0
WrittenSmall (event w) = Small w.detail × ModifiersSmall (modifiers_of w.list)
WrittenSmall (key k) = k.byte < 256

abbrev pub AllSmall : List WrittenEvent → Type 0
AllSmall [] = Unit
AllSmall (e ∷ es) = WrittenSmall e × AllSmall es

abbrev pub AnyEvent : List WrittenEvent → Type 0
AnyEvent [] = ⊥
AnyEvent (e ∷ es) = Unit

-- events, each small
abbrev Keys : EventsRead → Type 0
Keys EventsRead.broken = Unit
Keys (events es next) = AllSmall es

-- and at least one
abbrev pub Good : EventsRead → Type 0
Good EventsRead.broken = Unit
Good (events es next) = AllSmall es × AnyEvent es

-- ---- Modifiers

abbrev ReadSmall : Modifiers → Type 0
ReadSmall Modifiers.broken = Unit
ReadSmall (modifiers ms end) = ModifiersSmall ms

abbrev ListSmall : Option ModifierList → Type 0
ListSmall None = Unit
ListSmall (Some list) = ModifiersSmall (modifiers_of list)

one_small : (m : Modifier) (r : Modifiers) → ModifierSmall m → ReadSmall r → ReadSmall (one_more m r)
one_small m Modifiers.broken a b = tt
one_small m (modifiers ms end) a b = (a, b)

next_small : (l : List ℕ) (r : ModifierRead) (rest : ℕ → Modifiers) → Small l → ((p : ℕ) → ReadSmall (rest p)) → ReadSmall (modifiers_next l r rest)
next_small l ModifierRead.Broken rest s f = tt
next_small l (ModifierRead.End at) rest s f = tt
next_small l (ModifierRead.Name tilde start end) rest s f = one_small (name tilde (part l start end)) (rest end) tt (f end)
next_small l (ModifierRead.Keysym tilde start end) rest s f =
    one_small (keysym tilde (part l start end)) (rest end) (small_take (end - start) (drop start l) (small_drop start l s)) (f end)

modifiers_small : (fuel : ℕ) (l : List ℕ) (at : ℕ) → Small l → ReadSmall (modifiers_from fuel l at)
unfolding modifiers_from
modifiers_small zero l at s = tt
modifiers_small (suc fuel) l at s = next_small l (modifier_at l at) (λ p. modifiers_from fuel l p) s (λ p. modifiers_small fuel l p s)

list_small : (bang colon : Bool) (ms : List Modifier) → ModifiersSmall ms → ListSmall (list_of bang colon ms)
unfolding list_of
list_small bang colon ms a =
    cond_both ListSmall (any is_none_or_any ms) (cond (stands_alone bang colon ms) (Some (lone_list ms)) None) (Some (listed bang colon ms))
    (λ _. cond_both ListSmall (stands_alone bang colon ms) (Some (lone_list ms)) None
    (λ _. cond_both (λ (list : ModifierList). ModifiersSmall (modifiers_of list)) (any (is_named (bytes "None")) ms) no_modifier any_modifier (λ _. tt) (λ _. tt))
    (λ _. tt))
    (λ _. a)

-- ---- One event

detail_good : (l : List ℕ) (list : ModifierList) (word : List ℕ) (count : Option Count) (start : ℕ) → Small l → ModifiersSmall (modifiers_of list) → Good (with_detail l list word count start)
detail_good l list word count start s m =
    (((small_take (run_end Class.Detail l start - start) (drop start l) (small_drop start l s), m), tt), tt)

count_good : (l : List ℕ) (list : ModifierList) (word : List ℕ) (r : CountRead) → Small l → ModifiersSmall (modifiers_of list) → Good (with_count l list word r)
count_good l list word CountRead.Broken s m = tt
count_good l list word (CountRead.Absent next) s m = detail_good l list word None (skip l next) s m
count_good l list word (CountRead.Digits start end plus next) s m = detail_good l list word (Some (record { digits = part l start end; plus = plus })) (skip l next) s m

type_good : (l : List ℕ) (list : ModifierList) (r : TypeRead) → Small l → ModifiersSmall (modifiers_of list) → Good (with_type l list r)
type_good l list TypeRead.Broken s m = tt
type_good l list (TypeRead.Type start end next) s m = count_good l list (part l start end) (count_at l next) s m

list_good : (l : List ℕ) (list : Option ModifierList) (end : ℕ) → Small l → ListSmall list → Good (with_list l list end)
list_good l None end s m = tt
list_good l (Some list) end s m = type_good l list (type_at l end) s m

modifiers_good_lem : (l : List ℕ) (lead : Lead) (r : Modifiers) → Small l → ReadSmall r → Good (with_modifiers l lead r)
modifiers_good_lem l lead Modifiers.broken s m = tt
modifiers_good_lem l lead (modifiers ms end) s m = list_good l (list_of lead.bang lead.colon ms) end s (list_small lead.bang lead.colon ms m)

plain_good : (l : List ℕ) (at : ℕ) → Small l → Good (plain_event_at l at)
unfolding plain_event_at
plain_good l at s =
    modifiers_good_lem l (lead_at l at) (modifiers_at l (lead_at l at).next) s (modifiers_small (length l + 1) l (lead_at l at).next s)

-- ---- A key sequence

abbrev KeyGood : KeyRead → Type 0
KeyGood KeyRead.Broken = Unit
KeyGood (KeyRead.End next) = Unit
KeyGood (KeyRead.Key mark b next) = b < 256

-- no end
abbrev Going : KeyRead → Type 0
Going KeyRead.Broken = Unit
Going (KeyRead.End next) = ⊥
Going (KeyRead.Key mark b next) = b < 256

marked_going : (l : List ℕ) (mark : KeyMark) (at : ℕ) → Small l → Going (marked_key l mark at)
unfolding marked_key
marked_going l mark at s =
    cond_both Going (leb (length l) at) KeyRead.Broken (cond (is_tab (byte_at l at)) KeyRead.Broken (KeyRead.Key mark (byte_at l at) (at + 1)))
    (λ _. tt) (λ _. cond_both Going (is_tab (byte_at l at)) KeyRead.Broken (KeyRead.Key mark (byte_at l at) (at + 1)) (λ _. tt) (λ _. s at))

rest_going : (l : List ℕ) (at : ℕ) → Small l
    → Going (cond (sign_at l at "^") (marked_key l KeyMark.Control (at + 1)) (cond (sign_at l at "\\") (marked_key l KeyMark.Quoted (at + 1)) (cond (sign_at l at "$") (marked_key l KeyMark.Meta (at + 1)) (marked_key l KeyMark.Plain at))))
rest_going l at s =
    cond_both Going (sign_at l at "^") (marked_key l KeyMark.Control (at + 1)) (cond (sign_at l at "\\") (marked_key l KeyMark.Quoted (at + 1)) (cond (sign_at l at "$") (marked_key l KeyMark.Meta (at + 1)) (marked_key l KeyMark.Plain at)))
    (λ _. marked_going l KeyMark.Control (at + 1) s)
    (λ _. cond_both Going (sign_at l at "\\") (marked_key l KeyMark.Quoted (at + 1)) (cond (sign_at l at "$") (marked_key l KeyMark.Meta (at + 1)) (marked_key l KeyMark.Plain at))
    (λ _. marked_going l KeyMark.Quoted (at + 1) s)
    (λ _. cond_both Going (sign_at l at "$") (marked_key l KeyMark.Meta (at + 1)) (marked_key l KeyMark.Plain at)
    (λ _. marked_going l KeyMark.Meta (at + 1) s) (λ _. marked_going l KeyMark.Plain at s)))

going_good : (r : KeyRead) → Going r → KeyGood r
going_good KeyRead.Broken g = tt
going_good (KeyRead.End next) g = tt
going_good (KeyRead.Key mark b next) g = g

key_good : (l : List ℕ) (at : ℕ) → Small l → KeyGood (key_at l at)
unfolding key_at
key_good l at s =
    cond_both KeyGood (leb (length l) at) KeyRead.Broken (cond (sign_at l at "\"") (KeyRead.End (at + 1)) (cond (sign_at l at "^") (marked_key l KeyMark.Control (at + 1)) (cond (sign_at l at "\\") (marked_key l KeyMark.Quoted (at + 1)) (cond (sign_at l at "$") (marked_key l KeyMark.Meta (at + 1)) (marked_key l KeyMark.Plain at)))))
    (λ _. tt)
    (λ _. cond_both KeyGood (sign_at l at "\"") (KeyRead.End (at + 1)) (cond (sign_at l at "^") (marked_key l KeyMark.Control (at + 1)) (cond (sign_at l at "\\") (marked_key l KeyMark.Quoted (at + 1)) (cond (sign_at l at "$") (marked_key l KeyMark.Meta (at + 1)) (marked_key l KeyMark.Plain at))))
    (λ _. tt) (λ _. going_good (cond (sign_at l at "^") (marked_key l KeyMark.Control (at + 1)) (cond (sign_at l at "\\") (marked_key l KeyMark.Quoted (at + 1)) (cond (sign_at l at "$") (marked_key l KeyMark.Meta (at + 1)) (marked_key l KeyMark.Plain at)))) (rest_going l at s)))

-- where no quote stands, it goes on
key_going : (l : List ℕ) (at : ℕ) → Small l → sign_at l at "\"" ≡ false → Going (key_at l at)
unfolding key_at
key_going l at s q =
    cond_both Going (leb (length l) at) KeyRead.Broken (cond (sign_at l at "\"") (KeyRead.End (at + 1)) (cond (sign_at l at "^") (marked_key l KeyMark.Control (at + 1)) (cond (sign_at l at "\\") (marked_key l KeyMark.Quoted (at + 1)) (cond (sign_at l at "$") (marked_key l KeyMark.Meta (at + 1)) (marked_key l KeyMark.Plain at)))))
    (λ _. tt)
    (λ _. cond_both Going (sign_at l at "\"") (KeyRead.End (at + 1)) (cond (sign_at l at "^") (marked_key l KeyMark.Control (at + 1)) (cond (sign_at l at "\\") (marked_key l KeyMark.Quoted (at + 1)) (cond (sign_at l at "$") (marked_key l KeyMark.Meta (at + 1)) (marked_key l KeyMark.Plain at))))
    (λ e. absurd (false≢true (sym q ∙ e))) (λ _. rest_going l at s))

one_key : (k : KeyChar) (r : EventsRead) → k.byte < 256 → Keys r → Good (one_more_key k r)
one_key k EventsRead.broken b g = tt
one_key k (events es next) b g = ((b, g), tt)

good_keys : (r : EventsRead) → Good r → Keys r
good_keys EventsRead.broken g = tt
good_keys (events es next) g = g.0

keys_next_lem : (r : KeyRead) (rest : ℕ → EventsRead) → KeyGood r → ((p : ℕ) → Keys (rest p)) → Keys (keys_next r rest)
keys_next_lem KeyRead.Broken rest g f = tt
keys_next_lem (KeyRead.End next) rest g f = tt
keys_next_lem (KeyRead.Key mark b next) rest g f = good_keys (one_more_key (record { mark = mark; byte = b }) (rest next)) (one_key (record { mark = mark; byte = b }) (rest next) g (f next))

keys_going : (r : KeyRead) (rest : ℕ → EventsRead) → Going r → ((p : ℕ) → Keys (rest p)) → Good (keys_next r rest)
keys_going KeyRead.Broken rest g f = tt
keys_going (KeyRead.End next) rest g f = absurd g
keys_going (KeyRead.Key mark b next) rest g f = one_key (record { mark = mark; byte = b }) (rest next) g (f next)

keys_good : (fuel : ℕ) (l : List ℕ) (at : ℕ) → Small l → Keys (keys_from fuel l at)
unfolding keys_from
keys_good zero l at s = tt
keys_good (suc fuel) l at s = keys_next_lem (key_at l at) (λ p. keys_from fuel l p) (key_good l at s) (λ p. keys_good fuel l p s)

sequence_first : (fuel : ℕ) (l : List ℕ) (at : ℕ) → Small l → sign_at l at "\"" ≡ false → Good (keys_from fuel l at)
unfolding keys_from
sequence_first zero l at s q = tt
sequence_first (suc fuel) l at s q = keys_going (key_at l at) (λ p. keys_from fuel l p) (key_going l at s q) (λ p. keys_good fuel l p s)

sequence_good : (l : List ℕ) (at : ℕ) → Small l → Good (key_sequence_at l at)
unfolding key_sequence_at
sequence_good l at s =
    cond_both Good (sign_at l at "\"") EventsRead.broken (keys_from (length l + 1) l at) (λ _. tt) (λ q. sequence_first (length l + 1) l at s q)

-- ---- All events of a production

events_good : (l : List ℕ) (at : ℕ) → Small l → Good (events_from l at)
unfolding events_from
events_good l at s =
    cond_both Good (sign_at l at "\"") (key_sequence_at l (at + 1)) (plain_event_at l at) (λ _. sequence_good l (at + 1) s) (λ _. plain_good l at s)

small_append : (es fs : List WrittenEvent) → AllSmall es → AllSmall fs → AllSmall (es ++ fs)
small_append [] fs a b = b
small_append (e ∷ es) fs a b = (a.0, small_append es fs a.1 b)

some_append : (es fs : List WrittenEvent) → AnyEvent es → AnyEvent (es ++ fs)
some_append [] fs h = absurd h
some_append (e ∷ es) fs h = tt

join_good : (es : List WrittenEvent) (r : EventsRead) → AllSmall es → AnyEvent es → Good r → Good (join_events es r)
join_good es EventsRead.broken a b g = tt
join_good es (events fs next) a b g = (small_append es fs a g.0, some_append es fs b)

after_good : (es : List WrittenEvent) (r : AfterEvent) (rest : ℕ → EventsRead) → AllSmall es → AnyEvent es → ((p : ℕ) → Good (rest p)) → Good (after_events es r rest)
after_good es AfterEvent.Broken rest a b f = tt
after_good es (AfterEvent.Comma next) rest a b f = join_good es (rest next) a b (f next)
after_good es (AfterEvent.Colon next) rest a b f = (a, b)

next_good_lem : (l : List ℕ) (r : EventsRead) (rest : ℕ → EventsRead) → Good r → ((p : ℕ) → Good (rest p)) → Good (left_next l r rest)
next_good_lem l EventsRead.broken rest g f = tt
next_good_lem l (events es next) rest g f = after_good es (after_event_at l next) rest g.0 g.1 f

left_from_lem : (fuel : ℕ) (l : List ℕ) (at : ℕ) → Small l → Good (left_from fuel l at)
unfolding left_from events_at
left_from_lem zero l at s = tt
left_from_lem (suc fuel) l at s = next_good_lem l (events_at l at) (λ p. left_from fuel l p) (events_good l (skip l at) s) (λ p. left_from_lem fuel l p s)

pub left_good : (l : List ℕ) → Small l → Good (left_side l)
unfolding left_side
left_good l s = left_from_lem (length l + 1) l 0 s
