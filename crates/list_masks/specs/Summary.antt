-- A modifier list as one value: all that judging an event needs of it.
use Rattle.std.specs.Prelude.{ℕ, ◌<◌, Bool, true, false, not, ◌&&◌, ◌||◌, eqb}
use Rattle.model.specs.Lists.{any}
use Rattle.model.specs.Modifiers.{bit, sum_bits, mask, button_bits, is_shift_or_lock, modifiers_of, lists_set, lists_clear, asks_others_clear, has_colon, is_written, adds_bit, adds_clause}
use Rattle.model.specs.Named.{form_bits, form_bit, lists_form, adds_form, keysyms_of, is_crowded, keysyms_in}
use Rattle.model.specs.Events.{ModifierList}
use Rattle.model.specs.Judging.{any_unknown, any_too_large}
use Rattle.model.specs.declared.events.Keysyms.{Keysyms}
use Rattle.model.specs.declared.names.Added.{Added}
use Rattle.model.specs.declared.names.ModifierName.{ModifierName}
use Rattle.model.specs.declared.names.DetailRead.{DetailRead}
use Rattle.modifiers.specs.Setting.{with_bit}
use Rattle.keysym_list.specs.Slots.{with_one_more, SlotsIn}
use Rattle.list_masks.specs.declared.lists.ListSummary.{ListSummary}

abbrev pub summary : (written others_clear colon unknown too_large : Bool) (set clear names : ℕ) → Keysyms → (over : Bool) → ListSummary
summary written others_clear colon unknown too_large set clear names keysyms over =
    record {
      written = written;
      others_clear = others_clear;
      colon = colon;
      unknown = unknown;
      too_large = too_large;
      set = set;
      clear = clear;
      names = names;
      keysyms = keysyms;
      over = over;
    }

-- Meta, Alt, Hyper and Super as the list has them, `<Meta>` aside
unfoldable pub listed_forms : ModifierList → ℕ
listed_forms list = sum_bits (λ k. any (lists_form k) (modifiers_of list)) form_bits

-- the value of a list
unfoldable pub summary_of : ModifierList → ListSummary
summary_of list =
    summary (is_written list) (asks_others_clear list) (has_colon list) (any_unknown list) (any_too_large list)
    (mask (lists_set list)) (mask (lists_clear list)) (listed_forms list) (keysyms_in (keysyms_of list)) (is_crowded list)

-- ---- One modifier more

-- eight bits of names, with one more
unfoldable pub with_form : ℕ → ℕ → ℕ
with_form m k = sum_bits (λ j. bit j m || eqb k j) form_bits

abbrev pub with_set : ListSummary → ℕ → ListSummary
with_set s k =
    summary true s.others_clear s.colon s.unknown s.too_large
    (with_bit s.set k) s.clear s.names s.keysyms s.over

abbrev pub with_clear : ListSummary → ℕ → ListSummary
with_clear s k =
    summary true s.others_clear s.colon s.unknown s.too_large
    s.set (with_bit s.clear k) s.names s.keysyms s.over

abbrev pub with_named : ListSummary → ℕ → ListSummary
with_named s k =
    summary true s.others_clear s.colon s.unknown s.too_large
    s.set s.clear (with_form s.names k) s.keysyms s.over

abbrev pub with_unknown : ListSummary → ListSummary
with_unknown s =
    summary true s.others_clear s.colon true s.too_large s.set s.clear s.names s.keysyms s.over

unfoldable pub with_name : ListSummary → Bool → ModifierName → ListSummary
with_name s tilde ModifierName.Unknown = with_unknown s
with_name s tilde (ModifierName.Named n) = with_named s (form_bit tilde n)
with_name s true (ModifierName.Bit k) = with_clear s k
with_name s false (ModifierName.Bit k) = with_set s k

abbrev pub with_too_large : ListSummary → ListSummary
with_too_large s =
    summary true s.others_clear s.colon s.unknown true s.set s.clear s.names s.keysyms s.over

-- what counts for nothing; no key's detail reads so
abbrev pub with_nothing : ListSummary → ListSummary
with_nothing s =
    summary true s.others_clear s.colon s.unknown s.too_large s.set s.clear s.names s.keysyms s.over

abbrev pub with_marked : ListSummary → Bool → ℕ → ListSummary
with_marked s tilde v =
    summary true s.others_clear s.colon s.unknown s.too_large s.set s.clear s.names
    (with_one_more s.keysyms s.over tilde v).keysyms (with_one_more s.keysyms s.over tilde v).over

-- `@` with a run that reads so
unfoldable pub with_keysym_read : ListSummary → Bool → DetailRead → ListSummary
with_keysym_read s tilde (DetailRead.Value v) = with_marked s tilde v
with_keysym_read s tilde DetailRead.Unknown = with_unknown s
with_keysym_read s tilde DetailRead.TooLarge = with_too_large s
with_keysym_read s tilde DetailRead.NotBuilt = with_nothing s

-- ---- What is kept

unfoldable pub set_of : ℕ → Added → ℕ
set_of set added = mask (λ k. bit k set || adds_bit added k)

-- the bit is not listed, and tested
abbrev pub unlisted : ListSummary → ℕ → Bool
unlisted s k = not (bit k s.set || bit k s.clear) && not (s.colon && is_shift_or_lock k)

unfoldable pub clear_of : ListSummary → ℕ
clear_of s = mask (λ k. bit k s.clear || (s.others_clear && unlisted s k))

unfoldable pub clause_of : Added → ℕ → Bool
clause_of added set = adds_clause added && not (any (λ k. bit k set) button_bits)

-- the names of an event, with `<Meta>`'s
unfoldable pub forms_of : ℕ → Added → ℕ
forms_of names added = sum_bits (λ k. bit k names || adds_form added k) form_bits

-- ---- Ranges

pub record SummaryIn (s : ListSummary) : Type 0 where
  pub set : s.set < 8192
  pub clear : s.clear < 8192
  pub keysyms : SlotsIn s.keysyms

abbrev pub NameIn : ModifierName → Type 0
NameIn (ModifierName.Bit k) = k < 13
NameIn (ModifierName.Named n) = n < 4
NameIn ModifierName.Unknown = Unit

abbrev pub KeysymReadIn : DetailRead → Type 0
KeysymReadIn (DetailRead.Value v) = v < 0x20000000
KeysymReadIn DetailRead.Unknown = Unit
KeysymReadIn DetailRead.TooLarge = Unit
KeysymReadIn DetailRead.NotBuilt = Unit

abbrev pub AddedIn : Added → Type 0
AddedIn Added.Nothing = Unit
AddedIn (Added.Modifier k) = k < 13
AddedIn Added.AnyButton = Unit
AddedIn Added.Meta = Unit
