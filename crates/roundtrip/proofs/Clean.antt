-- A line of the canonical text has allowed bytes only, and no newline.
use Prim.Native.Nat.{ℕ, ◌≤◌}
use Prim.Native.Char.{code}
use native.Mathlib.Omega.{arith}
use mathlib.Core.Path.{◌≡◌, refl, sym, ap, ap₂, ◌∙◌}
use mathlib.Core.Bool.{Bool, true, false, cond, not, ◌&&◌, ◌||◌}
use mathlib.Core.List.{List, [], ◌∷◌, ◌++◌}
use lib.Dec.{leb, ltb}
use borrow.Author.Tests.{eqb-true, leb-true, le-leb, ne_eqb}
use Rattle.model.specs.Lists.{bytes, all}
use Rattle.model.specs.Bytes.{is_code, in_range, is_tab, is_newline}
use Rattle.model.specs.Events.{Modifier, name, keysym}
use Rattle.model.specs.Canonical.{joined_by, each, writes_bang, list_text, modifiers_text, type_text, value_text, detail_text, decimal, count_text, event_text}
use Rattle.model.specs.declared.events.Detail.{Detail}
use Rattle.model.specs.declared.events.KeptEvent.{KeptEvent}
use Rattle.modifiers.proofs.Below.{both_left, both_right}
use Rattle.grammar.specs.Bytes.{allowed_byte, letter, is_digit_sign, letter_or_digit, namechar, quoted_byte, line_byte}
use Rattle.grammar.specs.Tokens.{is_some}
use Rattle.grammar.specs.Modifiers.{is_lone_name}
use Rattle.grammar.proofs.Places.{nor_right}
use Rattle.roundtrip.specs.Contents.{CallBytes, Content}
use Rattle.roundtrip.proofs.Lists.{either, choose, all_append, all_mono}
use Rattle.roundtrip.proofs.Names.{type_of, WellTyped, well_typed}
use Rattle.roundtrip.proofs.Written.{written_modifiers}
use Rattle.roundtrip.proofs.ListText.{modifier_text, list_texts, well_written, list_written}
use Rattle.roundtrip.proofs.Numbers.{one_digit}
use Rattle.roundtrip.proofs.Details.{detail_reads}
use Rattle.roundtrip.proofs.Kept.{DetailFits, KeptWell}
use Rattle.roundtrip.proofs.Good.{AllKept, parameter_byte, GoodCall, AllGood, GoodContent}
use Rattle.roundtrip.proofs.CallText.{parameter_bytes, parameters_bytes, call_text, calls_text}
use Rattle.roundtrip.proofs.LineText.{events_text, line_text}

abbrev pub clean : ℕ → Bool
clean b = allowed_byte b && line_byte b

-- ---- Bytes

printable : (b : ℕ) → 32 ≤ b → b ≤ 126 → clean b ≡ true
printable b low high =
    let n : is_newline b ≡ false = ne_eqb b 10 (λ (q : b ≡ 10). omega arith) in
    let t : is_tab b ≡ false = ne_eqb b 9 (λ (q : b ≡ 9). omega arith) in
    rw (t, n, le-leb 32 b low, le-leb b 126 high)

ranged : (low high b : ℕ) → 32 ≤ low → high ≤ 126 → in_range low b high ≡ true → clean b ≡ true
ranged low high b l h e =
    let p : low ≤ b = leb-true low b (both_left (leb low b) (leb b high) e) in
    let q : b ≤ high = leb-true b high (both_right (leb low b) (leb b high) e) in
    printable b (omega arith) (omega arith)

namechar_clean : (b : ℕ) → namechar b ≡ true → clean b ≡ true
namechar_clean b e =
    either (letter b || is_digit_sign b || is_code b "_") (is_code b "-") e
    (λ p.
    either (letter b || is_digit_sign b) (is_code b "_") p
    (λ q.
    either (letter b) (is_digit_sign b) q
    (λ r.
    either (in_range 65 b 90) (in_range 97 b 122) r (ranged 65 90 b (omega arith) (omega arith)) (ranged 97 122 b (omega arith) (omega arith)))
    (ranged 48 57 b (omega arith) (omega arith)))
    (λ q. let i : b ≡ 95 = eqb-true b 95 q in rw i))
    (λ p. let i : b ≡ 45 = eqb-true b 45 p in rw i)

letter_clean : (b : ℕ) → letter_or_digit b ≡ true → clean b ≡ true
letter_clean b e = namechar_clean b (rw e)

digit_clean : (b : ℕ) → is_digit_sign b ≡ true → clean b ≡ true
digit_clean b e = ranged 48 57 b (omega arith) (omega arith) e

parameter_clean : (b : ℕ) → parameter_byte b ≡ true → clean b ≡ true
parameter_clean b e =
    ap₂ ◌&&◌ (both_right (quoted_byte b) (allowed_byte b) e)
    (ap not (nor_right (is_code b "\"") (is_newline b) (both_left (quoted_byte b) (allowed_byte b) e)))

letters_clean : (w : List ℕ) → all letter_or_digit w ≡ true → all clean w ≡ true
letters_clean w p = all_mono letter_or_digit clean letter_clean w p

-- ---- Joined parts

joined_clean : (sep : List ℕ) (ps : List (List ℕ)) → all clean sep ≡ true → all (all clean) ps ≡ true → all clean (joined_by sep ps) ≡ true
unfolding joined_by
joined_clean sep [] s p = refl
joined_clean sep (w ∷ []) s p = both_left (all clean w) true p
joined_clean sep (w ∷ v ∷ ws) s p =
    all_append clean w (sep ++ joined_by sep (v ∷ ws)) (both_left (all clean w) (all (all clean) (v ∷ ws)) p)
    (all_append clean sep (joined_by sep (v ∷ ws)) s (joined_clean sep (v ∷ ws) s (both_right (all clean w) (all (all clean) (v ∷ ws)) p)))

-- ---- An event

modifier_clean : (m : Modifier) → well_written m ≡ true → all clean (modifier_text m) ≡ true
modifier_clean (name true w) h =
    let l : Bool = all letter_or_digit w in
    let n : Bool = not (is_lone_name (name true w)) in
    letters_clean w (both_left l n (both_right (is_some w) (l && n) h))
modifier_clean (name false w) h =
    let l : Bool = all letter_or_digit w in
    let n : Bool = not (is_lone_name (name false w)) in
    letters_clean w (both_left l n (both_right (is_some w) (l && n) h))
modifier_clean (keysym true w) h = letters_clean w (both_right (is_some w) (all letter_or_digit w) h)
modifier_clean (keysym false w) h = letters_clean w (both_right (is_some w) (all letter_or_digit w) h)

each_clean : (ms : List Modifier) → all well_written ms ≡ true → all (all clean) (each modifier_text ms) ≡ true
each_clean [] w = refl
each_clean (m ∷ ms) w =
    ap₂ ◌&&◌ (modifier_clean m (both_left (well_written m) (all well_written ms) w)) (each_clean ms (both_right (well_written m) (all well_written ms) w))

module _ (e : KeptEvent) where
  sign_clean : (b : Bool) (w : List ℕ) → all clean w ≡ true → all clean (cond b w []) ≡ true
  sign_clean true w p = p
  sign_clean false w p = refl

  list_clean : all clean (list_text e) ≡ true
  unfolding list_text
  list_clean =
      ap (λ (ts : List (List ℕ)). all clean (joined_by (bytes " ") ts)) (sym (list_texts e))
      ∙ joined_clean (bytes " ") (each modifier_text (written_modifiers e)) refl (each_clean (written_modifiers e) (list_written e))

  modifiers_clean : all clean (modifiers_text e) ≡ true
  unfolding modifiers_text
  modifiers_clean =
      all_append clean (cond (writes_bang e) (bytes "!") []) (cond e.colon (bytes ":") [] ++ list_text e) (sign_clean (writes_bang e) (bytes "!") refl)
      (all_append clean (cond e.colon (bytes ":") []) (list_text e) (sign_clean e.colon (bytes ":") refl) list_clean)

count_clean : (n : ℕ) → 1 ≤ n → n ≤ 9 → all clean (count_text n) ≡ true
unfolding count_text
count_clean n low high =
    choose (ltb 1 n)
    (λ q. rw q (all_append clean (decimal n) (bytes ")") (all_mono is_digit_sign clean digit_clean (decimal n) (one_digit n low high).digits) refl))
    (λ q. rw q)

detail_clean : (code : ℕ) (d : Detail) → DetailFits code d → all clean (detail_text code d) ≡ true
detail_clean code Detail.Unspecified f = refl
detail_clean code (Detail.Value v) f = letters_clean (value_text code v) (detail_reads code v f.0 f.1).letters

event_clean : (e : KeptEvent) → KeptWell e → all clean (event_text e) ≡ true
unfolding event_text
event_clean e w =
    let t : WellTyped (type_text e) (type_of e.code e.clause) =
    well_typed e w.range.code_from w.range.code_to w.sound.motion in
    all_append clean (modifiers_text e) (code "<" ∷ (type_text e ++ (code ">" ∷ (count_text e.count ++ detail_text e.code e.detail))))
    (modifiers_clean e)
    (all_append clean (type_text e) (code ">" ∷ (count_text e.count ++ detail_text e.code e.detail))
    (letters_clean (type_text e) t.letters)
    (all_append clean (count_text e.count) (detail_text e.code e.detail)
    (count_clean e.count w.range.count_from w.range.count_to) (detail_clean e.code e.detail w.sound.detail)))

events_clean : (es : List KeptEvent) → AllKept es → all (all clean) (each event_text es) ≡ true
events_clean [] k = refl
events_clean (e ∷ es) k = ap₂ ◌&&◌ (event_clean e k.0) (events_clean es k.1)

-- ---- Calls

parameters_clean : (ws : List (List ℕ)) → all (all parameter_byte) ws ≡ true → all (all clean) (each parameter_bytes ws) ≡ true
parameters_clean [] p = refl
parameters_clean (w ∷ ws) p =
    ap₂ ◌&&◌
    (all_append clean w (bytes "\"") (all_mono parameter_byte clean parameter_clean w (both_left (all parameter_byte w) (all (all parameter_byte) ws) p)) refl)
    (parameters_clean ws (both_right (all parameter_byte w) (all (all parameter_byte) ws) p))

call_clean : (x : CallBytes) → GoodCall x → all clean (call_text x) ≡ true
call_clean x g =
    all_append clean x.name (code "(" ∷ (parameters_bytes x.parameters ++ (code ")" ∷ [])))
    (all_mono namechar clean namechar_clean x.name g.name)
    (all_append clean (parameters_bytes x.parameters) (code ")" ∷ [])
    (joined_clean (bytes ",") (each parameter_bytes x.parameters) refl (parameters_clean x.parameters g.parameters)) refl)

calls_clean : (xs : List CallBytes) → AllGood xs → all (all clean) (each call_text xs) ≡ true
calls_clean [] g = refl
calls_clean (x ∷ xs) g = ap₂ ◌&&◌ (call_clean x g.0) (calls_clean xs g.1)

pub line_clean : (x : Content) → GoodContent x → all clean (line_text x) ≡ true
line_clean x g =
    all_append clean (events_text x.events) (code ":" ∷ calls_text x.calls)
    (joined_clean (bytes ",") (each event_text x.events) refl (events_clean x.events g.kept))
    (joined_clean (bytes " ") (each call_text x.calls) refl (calls_clean x.calls g.calls))
