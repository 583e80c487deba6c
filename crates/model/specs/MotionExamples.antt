-- Document 02, R-2: runs of motion, as one table of what is asked and what is answered.
-- That the definitions give every answer of it is proved in proofs/Moving.
use Rattle.std.specs.Prelude.{ℕ, List, [], ◌∷◌, ◌++◌, replicate}
use Prim.Native.Char.{code}
use Rattle.model.specs.Lists.{bytes}
use Rattle.model.specs.Demand.{MatchCall}
use Rattle.model.specs.Examples.{select, matched, Example, call, press, release, under_time}
use Rattle.model.specs.declared.answers.Matched.{Matched}

-- ---- Records

-- no button is down
abbrev pub idle : MatchCall
idle = call 6 0 0 0

-- Button1 is down
abbrev pub drag : MatchCall
drag = call 6 0 0 256

abbrev pub hint : MatchCall
hint = call 6 1 0 0

abbrev pub down : MatchCall
down = press 1 0

abbrev pub up : MatchCall
up = release 1 0

-- a record without bytes is refused
abbrev pub broken : MatchCall
broken = record { bytes = []; order = code "l" }

-- ---- The table

abbrev pub example_of : List ℕ → List MatchCall → List Matched → Example
example_of text calls answers = record { question = select text (under_time 200) calls; answered = matched answers }

unfoldable pub motions : List Example
motions =
    -- "`<Btn1Down>,<Btn1Motion>,<Btn1Up>` never fires: a drag sends forty motion events and we take one."
    example_of (bytes "<Btn1Down>,<Btn1Motion>,<Btn1Up>:drop()")
    (down ∷ replicate 40 drag ++ (up ∷ []))
    (Matched.Heard ∷ replicate 40 Matched.Heard ++ (Matched.Selected 0 ∷ []))
    -- "one matches any number, with the action run after each"
    ∷ example_of (bytes "<Btn1Down>,<Btn1Motion>:drag()")
    (down ∷ drag ∷ drag ∷ drag ∷ [])
    (Matched.Heard ∷ Matched.Selected 0 ∷ Matched.Selected 0 ∷ Matched.Selected 0 ∷ [])
    -- the drag at the head of Selection
    ∷ example_of (bytes "<Btn1Down>,<Btn1Motion>:drag()\n<Btn1Down>,<Btn1Motion>,<Btn1Up>:drop()")
    (down ∷ drag ∷ drag ∷ up ∷ [])
    (Matched.Heard ∷ Matched.Selected 0 ∷ Matched.Selected 0 ∷ Matched.Selected 1 ∷ [])
    -- "The context that the earlier one left": the motion that no line has there closes it for good
    ∷ example_of (bytes "<Btn1Down>,<Btn1Motion>,<Btn1Up>:drop()")
    (down ∷ idle ∷ drag ∷ up ∷ [])
    (Matched.Heard ∷ Matched.Heard ∷ Matched.Heard ∷ Matched.Heard ∷ [])
    -- "a context opened at it is closed": one that the first motion moved to the second press was not opened at the motion
    ∷ example_of (bytes "<BtnDown>,<BtnDown>,<BtnUp>:x()\n<BtnDown>,<Motion>,<BtnUp>:y()")
    (down ∷ down ∷ idle ∷ idle ∷ up ∷ [])
    (Matched.Heard ∷ Matched.Heard ∷ Matched.Heard ∷ Matched.Heard ∷ Matched.Selected 1 ∷ [])
    -- and one that was is closed
    ∷ example_of (bytes "<Btn1Down>,<Motion>Hint:x()\n<Motion>Normal,<Key>a:y()")
    (down ∷ idle ∷ hint ∷ [])
    (Matched.Heard ∷ Matched.Heard ∷ Matched.Heard ∷ [])
    -- "a mark at it .. of the latest start, falls back by one": from 3 to 2, so that 2 may not start
    ∷ example_of (bytes "<BtnDown>,<BtnDown>,<BtnDown>:x()\n<BtnDown>,<Btn1Motion>,<BtnUp>:y()\n<Motion>,<BtnDown>:z()")
    (down ∷ down ∷ idle ∷ drag ∷ up ∷ [])
    (Matched.Heard ∷ Matched.Heard ∷ Matched.Heard ∷ Matched.Heard ∷ Matched.Heard ∷ [])
    -- without the line that starts at the motion the latest start is 1, and with the second motion 2 reads as a prefix
    ∷ example_of (bytes "<BtnDown>,<BtnDown>,<BtnDown>:x()\n<BtnDown>,<Btn1Motion>,<BtnUp>:y()")
    (down ∷ down ∷ idle ∷ drag ∷ up ∷ [])
    (Matched.Heard ∷ Matched.Heard ∷ Matched.Heard ∷ Matched.Heard ∷ Matched.Selected 1 ∷ [])
    -- "a mark at it, of the last selection": from 3 to 2, so that 2 may not start
    ∷ example_of (bytes "<BtnDown>,<BtnDown>,<Btn1Motion>:x()\n<BtnDown>,<Motion>,<BtnUp>:y()")
    (down ∷ down ∷ drag ∷ idle ∷ up ∷ [])
    (Matched.Heard ∷ Matched.Heard ∷ Matched.Selected 0 ∷ Matched.Heard ∷ Matched.Heard ∷ [])
    -- and the place is free for a start
    ∷ example_of (bytes "<Btn1Down>,<Btn1Motion>:x()\n<Motion>:y()")
    (down ∷ drag ∷ idle ∷ drag ∷ [])
    (Matched.Heard ∷ Matched.Selected 0 ∷ Matched.Selected 1 ∷ Matched.Selected 1 ∷ [])
    -- "directly after another motion event in the history": a key that is dropped and a call that is refused are not in it
    ∷ example_of (bytes "<Btn1Down>,<Btn1Motion>,<Btn1Up>:drop()")
    (down ∷ drag ∷ call 2 38 0 0 ∷ drag ∷ broken ∷ drag ∷ up ∷ [])
    (Matched.Heard ∷ Matched.Heard ∷ Matched.Dropped ∷ Matched.Heard ∷ Matched.Refused 13 ∷ Matched.Heard ∷ Matched.Selected 0 ∷ [])
    -- a key that is heard parts them
    ∷ example_of (bytes "<Motion>,<Key>,<Motion>:x()")
    (idle ∷ call 2 38 0 0 ∷ idle ∷ [])
    (Matched.Heard ∷ Matched.Heard ∷ Matched.Selected 0 ∷ [])
    -- two motions side by side are no stretch of a history any more
    ∷ example_of (bytes "<Motion>,<Motion>:x()")
    (idle ∷ idle ∷ hint ∷ drag ∷ [])
    (Matched.Heard ∷ Matched.Heard ∷ Matched.Heard ∷ Matched.Heard ∷ [])
    ∷ []
