-- Bytes with entries written one after the other.
use Rattle.std.specs.Prelude.{ℕ, ◌+◌, cond, List, [], ◌∷◌, leb, length}
use Rattle.model.specs.Events.{WrittenEvent}
use Rattle.model.specs.Judging.{judged}
use Rattle.model.specs.Tables.{Call}
use Rattle.model.specs.declared.scan.Span.{Span}
use Rattle.model.specs.declared.answers.Judged.{Judged}
use Rattle.tables.specs.Writing.{put_event, put_call, put_parameter}

-- event k, where it is kept
abbrev pub put_judged : List ℕ → ℕ → Judged → List ℕ
put_judged out k (Judged.Keep e) = put_event out k e
put_judged out k Judged.Crowded = out
put_judged out k (Judged.Refuse n) = out

-- events from k on, judged one by one
unfoldable pub put_written : List ℕ → ℕ → List WrittenEvent → List ℕ
put_written out k [] = out
put_written out k (e ∷ es) = put_written (put_judged out k (judged e)) (k + 1) es

-- the same where the table has room for all of them
unfoldable pub put_fitting : List ℕ → ℕ → List WrittenEvent → List ℕ
put_fitting out k es = cond (leb (k + length es) 256) (put_written out k es) out

-- parameters from k on
unfoldable pub put_parameters : List ℕ → ℕ → List Span → List ℕ
put_parameters out k [] = out
put_parameters out k (s ∷ ss) = put_parameters (put_parameter out k s) (k + 1) ss

-- call n, after its parameters, which stand from p on
unfoldable pub put_whole : List ℕ → ℕ → ℕ → Call → List ℕ
put_whole out n p c = put_call (put_parameters out p c.parameters) n c.second c.name (length c.parameters)

-- calls from n on, with their parameters from p on
unfoldable pub put_calls : List ℕ → ℕ → ℕ → List Call → List ℕ
put_calls out n p [] = out
put_calls out n p (c ∷ cs) = put_calls (put_whole out n p c) (n + 1) (p + length c.parameters) cs
