-- `modifier_text::put_list` meets its contract.
use Rattle.std.proofs.Common.{◌≡◌, ◌+◌, ◌*◌, ◌≤◌, length}
use Rattle.modifier_text.specs.Places.{has_place, place_text}
use Rattle.writing.specs.Overlay.{Put}
use Rattle.modifier_text.proofs.Bits.{written_to, texts_to}
use Rattle.modifier_text.proofs.put_list.Given as goal

abbrev pub invariant-loop-j : goal.invariant-loop-j
invariant-loop-j l =
    record {
      few : l.n ≤ l.j;
      near : l.next ≤ l.at + 13 * l.j;
      count : l.n ≡ length (written_to (has_place l.e) (place_text l.e) l.j);
      texts : Put l.initial.out l.out l.at l.next (texts_to (has_place l.e) (place_text l.e) l.j);
    }
