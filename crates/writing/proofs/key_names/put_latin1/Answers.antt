-- `writing::key_names::put_latin1` meets its contract. Assumes nothing.
use native.Mathlib.Omega.{arith}
use Prim.Native.Nat.{◌≤◌}
use mathlib.Core.Path.{◌≡◌, ◌∙◌}
use lib.ListN.{length, take, drop}
use lib.Seq.{take_all}
use Rattle.names.specs.Table.{longest_name}
use Rattle.keysyms.specs.Table.{keysym_name}
use Rattle.writing.proofs.Laws.{put_as}
use Rattle.writing.proofs.KeyNames.{latin1_length}
use borrow.Author.Rules.{rules}
use Rattle.writing.proofs.key_names.put_latin1.Goals as goal

pub put_part-requires : goal.put_part-requires
put_part-requires c =
    let e : length c.name_at-name.result.now ≤ longest_name = rw c.name_at-name.ensures (latin1_length c.args.place c.requires.1) in
    (search rules, search rules, omega arith)

pub returns : goal.returns
returns c =
    let name = c.name_at-name in
    let p = c.put_part.ensures.0 in
    let e : take (length name.result.now) (drop 0 name.result.now) ≡ keysym_name c.args.place =
    take_all (length name.result.now) name.result.now (omega arith) ∙ name.ensures
    in
    let q = put_as e p in
    (q, omega (arith, q.next, latin1_length c.args.place c.requires.1))
