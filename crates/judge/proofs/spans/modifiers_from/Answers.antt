-- `judge::spans::modifiers_from` meets its contract. The loop's invariant: the value is that of the modifiers read so far.
use mathlib.Core.Path.{◌≡◌, sym, ap, ◌∙◌}
use Prim.Native.Nat.{ℕ, ◌≤◌}
use mathlib.Core.List.{List}
use native.Mathlib.Omega.{arith}
use lib.ListN.{length}
use Rattle.model.specs.Events.{modifier_at}
use Rattle.model.specs.declared.scan.ModifierRead.{ModifierRead}
use Rattle.scanner.proofs.Ranges.{ModifierIn}
use Rattle.list_masks.specs.Summary.{with_name, with_keysym_read}
use Rattle.judge.proofs.NameRanges.{name_in}
use Rattle.judge.proofs.Words.{keysym_in, part_in}
use Rattle.judge.proofs.Reading.{read_place, read_start, read_value_in, read_broken, read_end, read_name, read_keysym}
use Rattle.judge.proofs.spans.modifiers_from.Goals as goal

-- where a name or a keysym that was read lies
place : (l : List ℕ) (i : ℕ) (m r : ModifierRead) → i ≤ length l → m ≡ modifier_at l i → m ≡ r → ModifierIn (length l) i r
place l i m r h e f = read_place l i r h (sym e ∙ f)

pub loop-s-init : goal.loop-s-init
loop-s-init c = read_start _ _ _ _ _ c.requires c.led-s.ensures

pub modifier_at-requires : goal.modifier_at-requires
modifier_at-requires c = c.loop-s.invariant.inside

pub returns-in-Broken : goal.returns-in-Broken
returns-in-Broken c =
    c.led.ensures
    ∙ read_broken _ _ _ _ _ _ c.loop-s.invariant
    (sym c.modifier_at.ensures ∙ c.in-Broken.is)

pub returns-in-End : goal.returns-in-End
returns-in-End c =
    read_end _ _ _ _ _ _ c.loop-s.invariant _
    (sym c.modifier_at.ensures ∙ c.in-End.is)

-- ---- A name was read

pub slice_bounds-modifier_named-count : goal.slice_bounds-modifier_named-count
slice_bounds-modifier_named-count c = let f = place c.args.l.now c.loop-s.i _ _ c.loop-s.invariant.inside c.modifier_at.ensures c.in-Name.is in omega (arith, f.0, f.1, f.2)

pub slice_bounds-modifier_named-start : goal.slice_bounds-modifier_named-start
slice_bounds-modifier_named-start c = let f = place c.args.l.now c.loop-s.i _ _ c.loop-s.invariant.inside c.modifier_at.ensures c.in-Name.is in omega (arith, f.0, f.1, f.2)

pub slice_bounds-modifier_named-end : goal.slice_bounds-modifier_named-end
slice_bounds-modifier_named-end c = let f = place c.args.l.now c.loop-s.i _ _ c.loop-s.invariant.inside c.modifier_at.ensures c.in-Name.is in omega (arith, f.0, f.1, f.2)

pub with_name-s-requires : goal.with_name-s-requires
with_name-s-requires c = (
  read_value_in _ _ _ _ _ _ c.loop-s.invariant,
  rw
      c.modifier_named-name.ensures (name_in _),
)

pub loop-s-smaller-in-Name : goal.loop-s-smaller-in-Name
loop-s-smaller-in-Name c = let f = place c.args.l.now c.loop-s.i _ _ c.loop-s.invariant.inside c.modifier_at.ensures c.in-Name.is in omega (arith, f.0, f.1, f.2)

pub loop-s-preserved-in-Name : goal.loop-s-preserved-in-Name
loop-s-preserved-in-Name c =
    let f = place c.args.l.now c.loop-s.i _ _ c.loop-s.invariant.inside c.modifier_at.ensures c.in-Name.is in
    read_name _ _ _ _ _ _ c.loop-s.invariant _ _ _ _
    (sym c.modifier_at.ensures ∙ c.in-Name.is)
    (c.with_name-s.ensures ∙ ap (with_name _ _) c.modifier_named-name.ensures)
    (omega (arith, f.0, f.1, f.2))
    f.2

-- ---- A keysym was read

pub slice_bounds-key_detail-count : goal.slice_bounds-key_detail-count
slice_bounds-key_detail-count c = let f = place c.args.l.now c.loop-s.i _ _ c.loop-s.invariant.inside c.modifier_at.ensures c.in-Keysym.is in omega (arith, f.0, f.1, f.2)

pub slice_bounds-key_detail-start : goal.slice_bounds-key_detail-start
slice_bounds-key_detail-start c = let f = place c.args.l.now c.loop-s.i _ _ c.loop-s.invariant.inside c.modifier_at.ensures c.in-Keysym.is in omega (arith, f.0, f.1, f.2)

pub slice_bounds-key_detail-end : goal.slice_bounds-key_detail-end
slice_bounds-key_detail-end c = let f = place c.args.l.now c.loop-s.i _ _ c.loop-s.invariant.inside c.modifier_at.ensures c.in-Keysym.is in omega (arith, f.0, f.1, f.2)

-- the run begins with a byte
pub with_keysym-s-requires : goal.with_keysym-s-requires
with_keysym-s-requires c = (
  read_value_in _ _ _ _ _ _ c.loop-s.invariant,
  rw c.key_detail-read.ensures
      (keysym_in _ (part_in c.args.l.now c.in-Keysym.start c.in-Keysym.end (omega (arith, c.type_inv.l c.in-Keysym.start)))),
)

pub loop-s-smaller : goal.loop-s-smaller
loop-s-smaller c = let f = place c.args.l.now c.loop-s.i _ _ c.loop-s.invariant.inside c.modifier_at.ensures c.in-Keysym.is in omega (arith, f.0, f.1, f.2)

pub loop-s-preserved : goal.loop-s-preserved
loop-s-preserved c =
    let f = place c.args.l.now c.loop-s.i _ _ c.loop-s.invariant.inside c.modifier_at.ensures c.in-Keysym.is in
    read_keysym _ _ _ _ _ _ c.loop-s.invariant _ _ _ _
    (sym c.modifier_at.ensures ∙ c.in-Keysym.is)
    (c.with_keysym-s.ensures ∙ ap (with_keysym_read _ _) c.key_detail-read.ensures)
    (omega (arith, f.0, f.1, f.2))
    f.2
    (omega (arith, c.type_inv.l c.in-Keysym.start))
