-- `copying::copy::copy_merged` meets its contract. One case for each directive.
use borrow.Author.Rules.{rules}
use native.Mathlib.Omega.{arith}
use mathlib.Core.Path.{◌≡◌, refl, sym, ◌∙◌}
use lib.ListN.{length}
use Rattle.tables.specs.Reading.{directive_in}
use Rattle.tally.proofs.WholeFacts as facts
use Rattle.tally.proofs.Tallies.{none_is}
use Rattle.model.specs.declared.events.Directive.{Directive}
use Rattle.tally.proofs.Directives as by
use Rattle.copying.specs.Copying.{put_one}
use Rattle.copying.proofs.Directives.{fits, fits_fewer, kept_put}
use Rattle.copying.proofs.copy.copy_merged.Goals as goal

pub directive-requires : goal.directive-requires
directive-requires c = facts.long c.args.new.now c.requires.0.1

pub take_kept-requires : goal.take_kept-requires
take_kept-requires c =
    let o = c.args.old.now in
    let n = c.args.new.now in
    let F = fits (length c.args.out.now) in
    let fewer = fits_fewer (length c.args.out.now) in
    let D : directive_in n ≡ Directive.Replace = sym c.directive.ensures ∙ c.in-Replace.is in
    (c.requires.0.1, (c.requires.0.0, search rules), rw (none_is c.default-none.result c.default-none.ensures) (by.replace_fits o n F fewer c.requires.1 D))

pub take_kept-t-requires : goal.take_kept-t-requires
take_kept-t-requires c =
    let o = c.args.old.now in
    let n = c.args.new.now in
    let F = fits (length c.args.out.now) in
    let fewer = fits_fewer (length c.args.out.now) in
    let D : directive_in n ≡ Directive.Override = sym c.directive.ensures ∙ c.in-Override.is in
    (c.requires.0.1, (c.requires.0.0, search rules), rw (none_is c.default-none.result c.default-none.ensures) (by.first_fits o n F fewer c.requires.1 _ _ (by.override_fits o n F fewer c.requires.1 D)))

pub production_count-n-requires : goal.production_count-n-requires
production_count-n-requires c = facts.long c.args.new.now c.requires.0.1

pub take_kept-requires-in-Override : goal.take_kept-requires-in-Override
take_kept-requires-in-Override c =
    let o = c.args.old.now in
    let n = c.args.new.now in
    let F = fits (length c.args.out.now) in
    let fewer = fits_fewer (length c.args.out.now) in
    let D : directive_in n ≡ Directive.Override = sym c.directive.ensures ∙ c.in-Override.is in
    (c.requires.0.0, (c.requires.0.1, omega arith), rw (c.take_kept-t.auto.out, c.take_kept-t.ensures.0, c.production_count-n.ensures, none_is c.default-none.result c.default-none.ensures) (by.override_fits o n F fewer c.requires.1 D))

pub take_kept-t-requires-in-Augment : goal.take_kept-t-requires-in-Augment
take_kept-t-requires-in-Augment c =
    let o = c.args.old.now in
    let n = c.args.new.now in
    let F = fits (length c.args.out.now) in
    let fewer = fits_fewer (length c.args.out.now) in
    let D : directive_in n ≡ Directive.Augment = sym c.directive.ensures ∙ c.in-Augment.is in
    (c.requires.0.0, (c.requires.0.1, search rules), rw (none_is c.default-none.result c.default-none.ensures) (by.first_fits o n F fewer c.requires.1 _ _ (by.augment_fits o n F fewer c.requires.1 D)))

pub production_count-n-requires-in-Augment : goal.production_count-n-requires-in-Augment
production_count-n-requires-in-Augment c = facts.long c.args.old.now c.requires.0.0

pub take_kept-requires-in-Augment : goal.take_kept-requires-in-Augment
take_kept-requires-in-Augment c =
    let o = c.args.old.now in
    let n = c.args.new.now in
    let F = fits (length c.args.out.now) in
    let fewer = fits_fewer (length c.args.out.now) in
    let D : directive_in n ≡ Directive.Augment = sym c.directive.ensures ∙ c.in-Augment.is in
    (c.requires.0.1, (c.requires.0.0, omega arith), rw (c.take_kept-t-in-Augment.auto.out, c.take_kept-t-in-Augment.ensures.0, c.production_count-n-in-Augment.ensures, none_is c.default-none.result c.default-none.ensures) (by.augment_fits o n F fewer c.requires.1 D))

pub returns-in-Replace : goal.returns-in-Replace
returns-in-Replace c =
    let D : directive_in c.args.new.now ≡ Directive.Replace = sym c.directive.ensures ∙ c.in-Replace.is in
    let k = by.replace_kept put_one c.args.old.now c.args.new.now c.args.out.now D in
    rw (sym (kept_put (directive_in c.args.new.now) c.args.old.now c.args.new.now c.args.out.now), k.0, k.1, c.take_kept.ensures.0, c.take_kept.ensures.1, none_is c.default-none.result c.default-none.ensures) (refl, refl)

pub returns-in-Override : goal.returns-in-Override
returns-in-Override c =
    let D : directive_in c.args.new.now ≡ Directive.Override = sym c.directive.ensures ∙ c.in-Override.is in
    let k = by.override_kept put_one c.args.old.now c.args.new.now c.args.out.now D in
    rw (sym (kept_put (directive_in c.args.new.now) c.args.old.now c.args.new.now c.args.out.now), k.0, k.1, c.take_kept-in-Override.ensures.0, c.take_kept-in-Override.ensures.1, c.take_kept-t.ensures.0, c.take_kept-t.ensures.1, c.production_count-n.ensures, none_is c.default-none.result c.default-none.ensures) (refl, refl)

pub returns-in-Augment : goal.returns-in-Augment
returns-in-Augment c =
    let D : directive_in c.args.new.now ≡ Directive.Augment = sym c.directive.ensures ∙ c.in-Augment.is in
    let k = by.augment_kept put_one c.args.old.now c.args.new.now c.args.out.now D in
    rw (sym (kept_put (directive_in c.args.new.now) c.args.old.now c.args.new.now c.args.out.now), k.0, k.1, c.take_kept-in-Augment.ensures.0, c.take_kept-in-Augment.ensures.1, c.take_kept-t-in-Augment.ensures.0, c.take_kept-t-in-Augment.ensures.1, c.production_count-n-in-Augment.ensures, none_is c.default-none.result c.default-none.ensures) (refl, refl)
