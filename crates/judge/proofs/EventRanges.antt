-- The ranges of an event that judging keeps.
use Prim.Native.Nat.{ℕ, ◌-◌, ◌≤◌, ◌<◌}
use native.Mathlib.Omega.{arith}
use mathlib.Core.Path.{◌≡◌, refl, ap, subst, ◌∙◌}
use mathlib.Core.Bool.{Bool, true, false, cond, not, ◌||◌, or-true, true≢false}
use mathlib.Core.List.{List, []}
use Rattle.std.specs.Prelude.{Option, None, Some}
use lib.Dec.{leb, eqb, lit<, lit≤}
use lib.ListN.{length}
use borrow.Author.Tests.{leb-true, eqb-true, ltb-false, not-false}
use Rattle.model.specs.Lists.{any, is_empty}
use Rattle.model.specs.Numbers.{event_order}
use Rattle.model.specs.Limits.{keysym_limit, keysyms_of_event_limit}
use Rattle.model.specs.Bytes.{in_range, byte_at}
use Rattle.model.specs.Codes.{takes_count}
use Rattle.model.specs.Names.{type_named}
use Rattle.model.specs.Details.{detail_named}
use Rattle.model.specs.Events.{ModifierList, Count, Written, WrittenEvent, event, key}
use Rattle.model.specs.Modifiers.{mask, modifiers_of, lists_clear, asks_set, asks_clear, set_mask, clear_mask}
use Rattle.model.specs.Named.{lists_form, adds_form, names_mask, keysyms_of, is_crowded, keysyms_in, has_names}
use Rattle.model.specs.Judging.{fixes, detail_of, read_value, kept_detail, is_one_digit, count_bad, count_value, any_too_large, is_unknown, is_out_of_range, is_unbuilt, is_list_not_taken, is_colon_misplaced, is_impossible, detail_too_large, kept_clear, kept_event, event_number, keep_unless, judged_as, judged_written, key_press_of, judged_mark, judged}
use Rattle.model.specs.declared.scan.KeyMark.{KeyMark}
use Rattle.model.specs.declared.events.Detail.{Detail}
use Rattle.model.specs.declared.events.KeptEvent.{KeptEvent}
use Rattle.model.specs.declared.names.Added.{Added}
use Rattle.model.specs.declared.names.EventType.{EventType}
use Rattle.model.specs.declared.names.TypeName.{TypeName}
use Rattle.model.specs.declared.names.DetailRead.{DetailRead}
use Rattle.model.specs.declared.answers.Judged.{Judged}
use Rattle.modifiers.proofs.Masks.{mask_below}
use Rattle.modifiers.proofs.Below.{both_left, both_right}
use Rattle.keysym_list.specs.Rising.{KeysymsIn}
use Rattle.list_masks.proofs.Forms.{forms_below}
use Rattle.judge.specs.Ranges.{DetailIn, TypeIn, EventIn, WordsIn, WrittenIn}
use Rattle.judge.proofs.NameRanges.{cond_passes, type_in_lem, read_passes, detail_passes}
use Rattle.judge.proofs.Words.{list_rising}

-- ---- Details

value_in : (r : DetailRead) → read_passes r ≡ true → DetailIn keysym_limit (read_value r)
value_in (DetailRead.Value v) e = leb-true v keysym_limit e
value_in DetailRead.Unknown e = tt
value_in DetailRead.TooLarge e = tt
value_in DetailRead.NotBuilt e = tt

wider : (d : Detail) → DetailIn 5 d → DetailIn keysym_limit d
wider Detail.Unspecified h = tt
wider (Detail.Value v) h = omega arith

cond_in : (b : Bool) (c d : Detail) → DetailIn keysym_limit c → DetailIn keysym_limit d → DetailIn keysym_limit (cond b c d)
cond_in true c d p q = p
cond_in false c d p q = q

detail_in : (ty : EventType) (word : List ℕ) → TypeIn ty → byte_at word 0 < 256 → DetailIn keysym_limit (kept_detail ty word)
unfolding kept_detail detail_of
detail_in ty word t h =
    cond_in (is_empty word) ty.detail (read_value (detail_of ty word)) (wider ty.detail t.detail)
    (value_in (detail_of ty word)
    (cond_passes read_passes (fixes ty.detail) DetailRead.Unknown (detail_named ty.code word) refl
    (detail_passes ty.code word h)))

-- ---- Counts

record CountIn (code count : ℕ) : Type 0 where
  from : 1 ≤ count
  to : count ≤ 9
  taken : leb count 1 || takes_count code ≡ true

either_left : (a b : Bool) → a || b ≡ false → a ≡ false
either_left true b e = e
either_left false b e = refl

either_right : (a b : Bool) → a || b ≡ false → b ≡ false
either_right true b e = absurd (true≢false e)
either_right false b e = e

count_in_lem : (code : ℕ) (count : Option Count) → count_bad code count ≡ false → CountIn code (count_value count)
count_in_lem code None e = record { from = lit≤ tt; to = lit≤ tt; taken = refl }
count_in_lem code (Some c) e =
    let t : takes_count code ≡ true =
    not-false (takes_count code) (either_left (not (takes_count code)) (not (is_one_digit c.digits)) e) in
    let o : is_one_digit c.digits ≡ true =
    not-false (is_one_digit c.digits) (either_right (not (takes_count code)) (not (is_one_digit c.digits)) e) in
    let r : in_range 49 (byte_at c.digits 0) 57 ≡ true =
    both_right (eqb (length c.digits) 1) (in_range 49 (byte_at c.digits 0) 57) o in
    let low : 49 ≤ byte_at c.digits 0 =
    leb-true 49 (byte_at c.digits 0) (both_left (leb 49 (byte_at c.digits 0)) (leb (byte_at c.digits 0) 57) r) in
    let high : byte_at c.digits 0 ≤ 57 =
    leb-true (byte_at c.digits 0) 57 (both_right (leb 49 (byte_at c.digits 0)) (leb (byte_at c.digits 0) 57) r) in
    record {
      from = omega arith;
      to = omega arith;
      taken = ap (λ (b : Bool). leb (byte_at c.digits 0 - 48) 1 || b) t ∙ or-true (leb (byte_at c.digits 0 - 48) 1);
    }

-- ---- Events

-- number 6 was not given
order_range : (unknown range unbuilt list colon impossible : Bool)
    → event_order unknown range unbuilt list colon impossible ≡ 0 → range ≡ false
order_range true range unbuilt list colon impossible e = absurd (omega arith)
order_range false true unbuilt list colon impossible e = absurd (omega arith)
order_range false false unbuilt list colon impossible e = refl

clear_below_lem : (list : ModifierList) (added : Added) → kept_clear list added < 8192
unfolding kept_clear clear_mask
clear_below_lem list added = go (has_names list added)
  where
    go : (b : Bool) → cond b (mask (lists_clear list)) (mask (asks_clear list)) < 8192
    go true = mask_below (lists_clear list)
    go false = mask_below (asks_clear list)

names_below_lem : (list : ModifierList) (added : Added) → names_mask list added < 256
unfolding names_mask
names_below_lem list added = forms_below (λ k. any (lists_form k) (modifiers_of list) || adds_form added k)

keysyms_in_lem : (list : ModifierList) → WordsIn (modifiers_of list) → is_crowded list ≡ false → KeysymsIn (keysyms_in (keysyms_of list))
unfolding is_crowded
keysyms_in_lem list h e =
    record {
      all = keysyms_of list;
      rising = list_rising list h;
      few = ltb-false keysyms_of_event_limit (length (keysyms_of list)) e;
      places = refl;
    }

module _ (w : Written) (ty : EventType) (t : TypeIn ty) (h : WrittenIn (event w)) where
  kept_in : event_number w ty ≡ 0 → is_crowded w.list ≡ false → EventIn (kept_event w ty)
  unfolding event_number kept_event set_mask
  kept_in e f =
      let r : is_out_of_range w ty ≡ false =
      order_range (is_unknown w ty) (is_out_of_range w ty) (is_unbuilt w ty) (is_list_not_taken w ty) (is_colon_misplaced w ty)
      (is_impossible w ty) e in
      let b : (any_too_large w.list || count_bad ty.code w.count) ≡ false =
      either_left (any_too_large w.list || count_bad ty.code w.count) (detail_too_large ty w.detail) r in
      let n : CountIn ty.code (count_value w.count) =
      count_in_lem ty.code w.count (either_right (any_too_large w.list) (count_bad ty.code w.count) b) in
      record {
        code_from = t.code_from;
        code_to = t.code_to;
        count_from = n.from;
        count_to = n.to;
        count_taken = n.taken;
        set = mask_below (asks_set w.list ty.added);
        clear = clear_below_lem w.list ty.added;
        detail = detail_in ty w.detail t h.0;
        names = names_below_lem w.list ty.added;
        keysyms = keysyms_in_lem w.list h.1 f;
      }

  unless_in : (k e : KeptEvent) (n : ℕ) (crowded : Bool) → (n ≡ 0 → crowded ≡ false → EventIn k)
      → keep_unless n crowded k ≡ Judged.Keep e → EventIn e
  unless_in k e n crowded f p = go (eqb n 0) refl crowded refl p
    where
      go : (b : Bool) → eqb n 0 ≡ b → (c : Bool) → crowded ≡ c
          → cond b (cond c Judged.Crowded (Judged.Keep k)) (Judged.Refuse n) ≡ Judged.Keep e → EventIn e
      go true q false r p = let i : k ≡ e = cc in subst EventIn i (f (eqb-true n 0 q) r)
      go true q true r p = let z : ◌≡◌ {A = ℕ} 0 1 = cc in absurd (omega arith)
      go false q c r p = let z : ◌≡◌ {A = ℕ} 0 1 = cc in absurd (omega arith)

  pub known_in : (e : KeptEvent) → judged_as w (TypeName.Known ty) ≡ Judged.Keep e → EventIn e
  known_in e p = unless_in (kept_event w ty) e (event_number w ty) (is_crowded w.list) kept_in p

as_in : (w : Written) (n : TypeName) (e : KeptEvent) → type_named w.type_name ≡ n → WrittenIn (event w)
    → judged_as w n ≡ Judged.Keep e → EventIn e
as_in w (TypeName.Known ty) e q h p = known_in w ty (type_in_lem w.type_name ty q) h e p
as_in w TypeName.Unknown e q h p = let z : ◌≡◌ {A = ℕ} 0 1 = cc in absurd (omega arith)

pub written_in_lem : (w : Written) (e : KeptEvent) → WrittenIn (event w) → judged_written w ≡ Judged.Keep e → EventIn e
unfolding judged_written
written_in_lem w e h p = as_in w (type_named w.type_name) e refl h p

key_press_in : (set names byte : ℕ) → set < 8192 → names < 256 → byte < 256 → EventIn (key_press_of set names byte)
key_press_in set names byte hs hn hb =
    record {
      code_from = lit≤ tt;
      code_to = lit≤ tt;
      count_from = lit≤ tt;
      count_to = lit≤ tt;
      count_taken = refl;
      set = hs;
      clear = lit< tt;
      detail = omega arith;
      names = hn;
      keysyms = record { all = []; rising = tt; few = lit≤ tt; places = refl };
    }

pub mark_in : (mark : KeyMark) (byte : ℕ) (e : KeptEvent) → byte < 256 → judged_mark mark byte ≡ Judged.Keep e → EventIn e
mark_in KeyMark.Plain byte e h p =
    let i : key_press_of 0 0 byte ≡ e = cc in subst EventIn i (key_press_in 0 0 byte (lit< tt) (lit< tt) h)
mark_in KeyMark.Control byte e h p =
    let i : key_press_of 4 0 byte ≡ e = cc in subst EventIn i (key_press_in 4 0 byte (lit< tt) (lit< tt) h)
mark_in KeyMark.Quoted byte e h p =
    let i : key_press_of 0 0 byte ≡ e = cc in subst EventIn i (key_press_in 0 0 byte (lit< tt) (lit< tt) h)
mark_in KeyMark.Meta byte e h p =
    let i : key_press_of 0 1 byte ≡ e = cc in subst EventIn i (key_press_in 0 1 byte (lit< tt) (lit< tt) h)

-- every event that judging keeps is in range
pub judged_in : (w : WrittenEvent) (e : KeptEvent) → WrittenIn w → judged w ≡ Judged.Keep e → EventIn e
unfolding judged
judged_in (event w) e h p = written_in_lem w e h p
judged_in (key k) e h p = mark_in k.mark k.byte e h p
