use Rattle.std.proofs.Common.{refl, ap}
use Rattle.std.specs.List.{list_all}
use Rattle.model_arguments.proofs.Boxes.{seen_place}
use Rattle.prop_base.specs.Closed.{keeps_at}
use Rattle.prop_base.proofs.Whole.{all_seen, whole_cut, whole_emptied}
use Rattle.prop_base.proofs.emptying.empty_last.Goals as goal

pub last_variable-requires : goal.last_variable-requires
last_variable-requires c = all_seen c.args.asked.problem.now c.args.asked.rule.now c.args.store.now.box c.requires.fits

pub returns-in_default-clause-answer : goal.returns-in_default-clause-answer
returns-in_default-clause-answer c =
    let box = c.args.store.now.box in
    (c.requires.fits.full, refl, ap (list_all (keeps_at c.args.asked.rule.now box)) c.in_default.ensures.none)

pub prune-requires-clause-cut : goal.prune-requires-clause-cut
prune-requires-clause-cut c =
    let g = c.args.asked.problem.now in
    let r = c.args.asked.rule.now in
    let box = c.args.store.now.box in
    let l = seen_place g box r.owner.0 c.in-Some.x.0 c.requires.fits.declared c.in-Some.ensures.some in
    whole_cut g r box c.in-Some.x c.known.ensures.domains c.requires.fits l c.requires.refuted

pub returns-clause-answer : goal.returns-clause-answer
returns-clause-answer c =
    let g = c.args.asked.problem.now in
    let r = c.args.asked.rule.now in
    let box = c.args.store.now.box in
    let l = seen_place g box r.owner.0 c.in-Some.x.0 c.requires.fits.declared c.in-Some.ensures.some in
    whole_emptied g r box c.prune.new.store.box c.in-Some.x.0 c.known.ensures.domains c.requires.fits l c.in_ok-prune.ensures.content
