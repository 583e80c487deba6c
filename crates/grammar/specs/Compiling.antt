-- Document 01, "Numbers handed back": what a text compiles to, as a relation over what the grammar derives from it.
-- Exact ties it to model's `compiled`, whose recursion with fuel need then not be believed.
use Rattle.std.specs.Prelude.{ℕ, ◌≤◌, ◌<◌, ◌≡◌, true, false, List, [], ◌∷◌, ◌++◌, map, length, Option, None, Some}
use Rattle.model.specs.Limits.{text_limit}
use Rattle.model.specs.Numbers as Numbers
use Rattle.model.specs.Lists.{all}
use Rattle.model.specs.Events.{WrittenEvent}
use Rattle.model.specs.Calls.{WrittenCall}
use Rattle.model.specs.Judging.{judged}
use Rattle.model.specs.Tables as Tables
use Rattle.model.specs.Compiling.{call_of, passes_limit, table_of, Outcome, accepted, refused}
use Rattle.model.specs.declared.events.KeptEvent.{KeptEvent}
use Rattle.model.specs.declared.events.Directive as Model
use Rattle.model.specs.declared.answers.Judged.{Judged}
use Rattle.grammar.specs.Bytes.{allowed_byte, blank}
use Rattle.grammar.specs.Tokens.{Run}
use Rattle.grammar.specs.Productions.{DerivesProduction}
use Rattle.grammar.specs.Texts.{Line, Directive, Derived, start_in_text, TranslationTable}

-- ---- Events: "event by event 5, 6, 10, 7, 9, 8"

-- no check of 5..10 applies to any event
pub data EventsKept : List WrittenEvent → List KeptEvent → Type 0 where
  nothing : EventsKept [] []
  more : {e : WrittenEvent} {k : KeptEvent} {es : List WrittenEvent} {ks : List KeptEvent} → judged e ≡ Judged.Keep k → EventsKept es ks
      → EventsKept (e ∷ es) (k ∷ ks)

-- no check of 5..10 applies to any event, and one names "over four different keysyms" (R-1)
pub data EventsCrowded : List WrittenEvent → Type 0 where
  last : {e : WrittenEvent} {es : List WrittenEvent} {ks : List KeptEvent} → judged e ≡ Judged.Crowded → EventsKept es ks → EventsCrowded (e ∷ es)
  again : {e : WrittenEvent} {es : List WrittenEvent} → judged e ≡ Judged.Crowded → EventsCrowded es → EventsCrowded (e ∷ es)
  later : {e : WrittenEvent} {k : KeptEvent} {es : List WrittenEvent} → judged e ≡ Judged.Keep k → EventsCrowded es → EventsCrowded (e ∷ es)

-- a check gives its number on some event, and none applies to an earlier one
pub data EventsRefused : List WrittenEvent → ℕ → Type 0 where
  here : {e : WrittenEvent} {es : List WrittenEvent} {n : ℕ} → judged e ≡ Judged.Refuse n → EventsRefused (e ∷ es) n
  later : {e : WrittenEvent} {k : KeptEvent} {es : List WrittenEvent} {n : ℕ} → judged e ≡ Judged.Keep k → EventsRefused es n
      → EventsRefused (e ∷ es) n
  after_crowded : {e : WrittenEvent} {es : List WrittenEvent} {n : ℕ} → judged e ≡ Judged.Crowded → EventsRefused es n
      → EventsRefused (e ∷ es) n

-- ---- Productions

-- a production of the table: the places of a line's calls are kept as places in the text
abbrev pub production_of : ℕ → List KeptEvent → List WrittenCall → Tables.Production
production_of start ks cs = record { events = ks; calls = map (call_of start) cs }

-- the productions of what is derived, where every event is kept
pub data ProductionsKept : List Derived → List Tables.Production → Type 0 where
  nothing : ProductionsKept [] []
  more : {d : Derived} {ds : List Derived} {ks : List KeptEvent} {ps : List Tables.Production} → EventsKept d.events ks → ProductionsKept ds ps
      → ProductionsKept (d ∷ ds) (production_of d.start ks d.calls ∷ ps)

-- ---- A text

module _ (text : List ℕ) where
  -- the lines up to s are derived, their events kept, and no limit is passed
  pub record Upto (s : Option (List ℕ)) (d : Model.Directive) (ps : List Tables.Production) : Type 0 where
    pub derived : List Derived
    pub table : TranslationTable text d derived s
    pub kept : ProductionsKept derived ps
    pub limits : passes_limit ps ≡ false

  -- the line w, with which the text's end l begins, is not in the grammar
  pub record NotDerived (l w : List ℕ) : Type 0 where
    pub not_blank : all blank w ≡ false
    pub not_production : (es : List WrittenEvent) (cs : List WrittenCall) → DerivesProduction w es cs → ⊥
    pub not_directive : start_in_text text l ≡ 0 → (d : Model.Directive) → Directive w d → ⊥

  -- neither 2 nor 3
  pub record Allowed : Type 0 where
    pub short : length text ≤ text_limit
    pub bytes : all allowed_byte text ≡ true

  -- "Compiling checks 1, 2, then 3 over the whole text, then line by line. Within a line: 4 for the whole line; then event by event ..; then 11
  -- with that line counted. The place is the byte for 3, the start of the line for 4..11, and 0 for 1 and 2."
  pub data Compiles : Outcome → Type 0 where
    -- 2: text over 8,192 bytes
    long_text : text_limit < length text → Compiles (refused Numbers.long_text 0)
    -- 3: a byte other than tab, newline, 32..126, 160..255
    bad_byte : {w r : List ℕ} {b : ℕ} → length text ≤ text_limit → Run allowed_byte text w (b ∷ r) → Compiles (refused Numbers.bad_byte (length w))
    -- 4: line not in the grammar
    not_grammar : {l w : List ℕ} {r : Option (List ℕ)} {d : Model.Directive} {ps : List Tables.Production}
        → Allowed → Upto (Some l) d ps → Line l w r → NotDerived l w → Compiles (refused Numbers.not_grammar (start_in_text text l))
    -- 5..10
    refused_event : {l w : List ℕ} {r : Option (List ℕ)} {d : Model.Directive} {ps : List Tables.Production}
        {es : List WrittenEvent} {cs : List WrittenCall} {n : ℕ}
        → Allowed → Upto (Some l) d ps → Line l w r → DerivesProduction w es cs → EventsRefused es n → Compiles (refused n (start_in_text text l))
    -- 11: a limit passed
    past_limit : {l w : List ℕ} {r : Option (List ℕ)} {d : Model.Directive} {ps : List Tables.Production}
        {es : List WrittenEvent} {cs : List WrittenCall} {ks : List KeptEvent}
        → Allowed → Upto (Some l) d ps → Line l w r → DerivesProduction w es cs → EventsKept es ks
        → passes_limit (ps ++ (production_of (start_in_text text l) ks cs ∷ [])) ≡ true → Compiles (refused Numbers.past_limit (start_in_text text l))
    -- 11, R-1: "over four different keysyms in an event"
    crowded_event : {l w : List ℕ} {r : Option (List ℕ)} {d : Model.Directive} {ps : List Tables.Production}
        {es : List WrittenEvent} {cs : List WrittenCall}
        → Allowed → Upto (Some l) d ps → Line l w r → DerivesProduction w es cs → EventsCrowded es
        → Compiles (refused Numbers.past_limit (start_in_text text l))
    -- 0: accepted
    accept : {d : Model.Directive} {ps : List Tables.Production} → Allowed → Upto None d ps → Compiles (accepted (table_of text d ps))
