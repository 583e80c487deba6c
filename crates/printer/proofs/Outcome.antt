-- The text that the writer puts at the start of its output.
use Prim.Native.Nat.{ℕ, ◌≤◌}
use mathlib.Core.Path.{◌≡◌, refl, ◌∙◌}
use mathlib.Core.List.{List, ◌++◌}
use lib.ListN.{length, drop}
use Rattle.words.specs.Runs.{run}
use Rattle.model.specs.Canonical.{productions_text, canonical_text}
use Rattle.tables.specs.Reading.{decode, production_entry, production_total}
use Rattle.writing.specs.Overlay.{Put}
use Rattle.writing.proofs.Laws.{overlay_fits}
use Rattle.printer.specs.Write.{text_written}

pub text_is : (l first second : List ℕ) → productions_text first second (run (production_entry l) 0 (production_total l)) ≡ text_written l first second
unfolding text_written canonical_text decode
text_is l first second = refl

pub bytes_put : (l first second : List ℕ) {out after : List ℕ} {next : ℕ} → length (text_written l first second) ≤ length out
    → Put out after 0 next (productions_text first second (run (production_entry l) 0 (production_total l)))
    → after ≡ text_written l first second ++ drop (length (text_written l first second)) out
bytes_put l first second {out} fit p = p.bytes ∙ rw (text_is l first second) (overlay_fits out (text_written l first second) fit)
