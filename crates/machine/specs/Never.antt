-- Document 01, number 15, "the context would keep more than 24 events": it is never given.
use Rattle.std.specs.Prelude.{◌≡◌, false}
use Rattle.model.specs.Setting.{Setting}
use Rattle.model.specs.Tables.{Table}
use Rattle.model.specs.Compiling.{passes_limit}
use Rattle.model.specs.declared.events.Event.{Event}
use Rattle.model.specs.declared.answers.RecordRead.{RecordRead}
use Rattle.machine.specs.Kept.{Kept, passes_context}

-- on a table that passes no limit its check never applies, whatever is kept and whatever comes: no stretch longer than 24
-- events reads as a prefix of a production that has at most 24
abbrev pub NeverFull : Type 0
NeverFull =
    (t : Table) → passes_limit t.productions ≡ false → (setting : Setting) (k : Kept Event) (r : RecordRead)
    → passes_context t setting k r ≡ false
