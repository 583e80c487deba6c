-- Request R-1 by examples: names as they are read and kept, and what they match on two keyboards. That the definitions answer so
-- is proved in proofs/Named.
use Rattle.std.specs.Prelude.{ℕ, List, [], ◌∷◌, ◌++◌, replicate}
use Rattle.model.specs.Lists.{bytes}
use Rattle.model.specs.Setting.{Setting}
use Rattle.model.specs.Demand.{MatchCall}
use Rattle.model.specs.Examples.{Example, compile, select, productions, refusal, matched, call}
use Rattle.model.specs.declared.answers.Matched.{Matched}

-- ---- Keyboards

-- keycode 38 has the pair (0x61, 0x41), keycode 64 (Alt_L, Meta_L), keycode 108 (Meta_R, 0), keycode 50 (Shift_L, 0); no key has
-- Hyper or Super
unfoldable pub some_keys : List ℕ
some_keys =
    replicate 60 0
    ++ (0x61 ∷ 0x41 ∷ replicate 22 0
    ++ (0xffe1 ∷ 0 ∷ replicate 26 0
    ++ (0xffe9 ∷ 0xffe7 ∷ replicate 86 0
    ++ (0xffe8 ∷ 0 ∷ replicate 294 0))))

-- a modifier map of one keycode a row, by its rows for Shift, Lock, Mod1 and Mod4
abbrev pub rows : (shift lock mod1 mod4 : ℕ) → List ℕ
rows shift lock mod1 mod4 = shift ∷ lock ∷ 0 ∷ mod1 ∷ 0 ∷ 0 ∷ mod4 ∷ 0 ∷ []

abbrev pub under : List ℕ → Setting
under modifiers = record { keyboard = some_keys; modifiers = modifiers; time = 200 }

-- the key a with these modifier bits down: Shift 1, Lock 2, Mod1 8, Mod4 64
abbrev pub key_a : ℕ → MatchCall
key_a state = call 2 38 0 state

-- ---- Examples

unfoldable pub named_examples : List Example
named_examples =
    -- Meta on Mod1, by a left Meta that is the second keysym of a pair; and on Mod4, by a right one
    record {
      question = select (bytes "Meta<Key>a:x()") (under (rows 50 0 64 0)) (key_a 8 ∷ key_a 64 ∷ key_a 0 ∷ []);
      answered = matched (Matched.Selected 0 ∷ Matched.Heard ∷ Matched.Heard ∷ []);
    }
    ∷ record {
      question = select (bytes "Meta<Key>a:x()") (under (rows 50 0 0 108)) (key_a 8 ∷ key_a 64 ∷ []);
      answered = matched (Matched.Heard ∷ Matched.Selected 0 ∷ []);
    }
    -- "A listed name asks all its bits set; with `~`, all clear."
    ∷ record {
      question = select (bytes "Meta<Key>a:x()\n~Meta<Key>a:y()") (under (rows 50 0 64 108)) (key_a 72 ∷ key_a 8 ∷ key_a 0 ∷ []);
      answered = matched (Matched.Selected 0 ∷ Matched.Heard ∷ Matched.Selected 1 ∷ []);
    }
    -- "With `!`, the bits of a listed name count as listed."
    ∷ record {
      question = select (bytes "!Meta<Key>a:x()") (under (rows 50 0 64 0)) (key_a 8 ∷ key_a 9 ∷ key_a 72 ∷ []);
      answered = matched (Matched.Selected 0 ∷ Matched.Heard ∷ Matched.Heard ∷ []);
    }
    -- "`None<Meta>` reads, and is kept, as `!Meta<Key>`, `Any<Meta>` as `Meta<Key>`."
    ∷ record {
      question = select (bytes "None<Meta>a:x()\nAny<Meta>a:y()") (under (rows 50 0 64 0)) (key_a 8 ∷ key_a 72 ∷ []);
      answered = matched (Matched.Selected 0 ∷ Matched.Selected 1 ∷ []);
    }
    -- "A name with no bit, listed without `~`, makes its event match nothing", and its type is heard
    ∷ record {
      question = select (bytes "Hyper<Key>a:x()\n~Hyper<Key>a:y()") (under (rows 50 0 64 0)) (key_a 8 ∷ []);
      answered = matched (Matched.Selected 1 ∷ []);
    }
    ∷ record {
      question = select (bytes "Hyper<Key>a:x()") (under (rows 50 0 64 0)) (key_a 0 ∷ []);
      answered = matched (Matched.Heard ∷ []);
    }
    -- "contradicting tests match nothing"; "Beside a colon a resolved Shift or Lock isn't tested"
    ∷ record {
      question = select (bytes "Meta ~Meta<Key>a:x()") (under (rows 64 0 0 0)) (key_a 0 ∷ key_a 1 ∷ []);
      answered = matched (Matched.Heard ∷ Matched.Heard ∷ []);
    }
    ∷ record {
      question = select (bytes ":Meta ~Meta<Key>a:x()") (under (rows 64 0 0 0)) (key_a 0 ∷ key_a 1 ∷ []);
      answered = matched (Matched.Selected 0 ∷ Matched.Heard ∷ []);
    }
    -- without a colon a resolved Shift is cared for in the lookup: Meta on Shift
    ∷ record {
      question = select (bytes "Meta<Key>a:x()\nMeta<Key>A:y()") (under (rows 64 0 0 0)) (key_a 1 ∷ []);
      answered = matched (Matched.Selected 1 ∷ []);
    }
    -- `@` with a keysym: literal, "as lent"
    ∷ record {
      question = select (bytes "@0xffe1<Key>A:x()") (under (rows 50 0 64 0)) (key_a 1 ∷ key_a 0 ∷ []);
      answered = matched (Matched.Selected 0 ∷ Matched.Heard ∷ []);
    }
    -- "`$` .. as Meta listed"
    ∷ record {
      question = select (bytes "\"$a\":x()") (under (rows 50 0 64 0)) (key_a 8 ∷ key_a 0 ∷ []);
      answered = matched (Matched.Selected 0 ∷ Matched.Heard ∷ []);
    }
    -- "18 for a modifier map of another length or with an entry 1..7"
    ∷ record {
      question = select (bytes "<Key>a:x()") (under []) (key_a 0 ∷ []);
      answered = matched (Matched.Refused 18 ∷ []);
    }
    ∷ record {
      question = select (bytes "<Key>a:x()") (under (rows 50 0 7 0)) (key_a 0 ∷ []);
      answered = matched (Matched.Refused 18 ∷ []);
    }
    -- "over four different keysyms in an event is 11", in 11's turn
    ∷ record { question = compile (bytes "@a ~@a @97 @b @c @d Meta Alt<Key>e:"); answered = productions 1 }
    ∷ record { question = compile (bytes "@a @b @c @d ~@e<Key>a:"); answered = refusal 11 0 }
    ∷ record { question = compile (bytes "@a @b @c @d @e<Key>a,<Foo>:"); answered = refusal 5 0 }
    -- "8 as if these names weren't there"; 5 and 6 after `@`; 10 for atoms
    ∷ record { question = compile (bytes "!Meta<Ctrl>a:"); answered = refusal 8 0 }
    ∷ record { question = compile (bytes "Meta ~Meta<Key>a:"); answered = productions 1 }
    ∷ record { question = compile (bytes "@Meta_L<Key>a:"); answered = refusal 5 0 }
    ∷ record { question = compile (bytes "@0x20000000<Prop>foo:"); answered = refusal 6 0 }
    ∷ record { question = compile (bytes "Meta<Prop>foo:"); answered = refusal 10 0 }
    ∷ record { question = compile (bytes "Meta<Expose>:"); answered = refusal 7 0 }
    ∷ []
