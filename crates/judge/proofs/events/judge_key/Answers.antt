-- `judge::events::judge_key` meets its contract.
use mathlib.Core.Path.{ap}
use Rattle.model.specs.declared.answers.Judged.{Judged}
use Rattle.judge.proofs.events.judge_key.Goals as goal

pub returns-in-Plain : goal.returns-in-Plain
returns-in-Plain c = rw c.in-Plain.is (ap Judged.Keep c.key_press.ensures)

pub returns-in-Control : goal.returns-in-Control
returns-in-Control c = rw c.in-Control.is (ap Judged.Keep c.key_press-in-Control.ensures)

pub returns-in-Quoted : goal.returns-in-Quoted
returns-in-Quoted c = rw c.in-Quoted.is (ap Judged.Keep c.key_press-in-Quoted.ensures)

pub returns-in-Meta : goal.returns-in-Meta
returns-in-Meta c = rw c.in-Meta.is (ap Judged.Keep c.key_press-in-Meta.ensures)
