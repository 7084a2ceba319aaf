use Rattle.std.proofs.Common.{◌≡◌, ◌∙◌, sym, ap, arith, take}
use Rattle.std.specs.List.{list_all}
use Rattle.std.proofs.lemmas.List.{take_all}
use Rattle.prop_bool.specs.Literals.{literals, surely_fails}
use Rattle.prop_bool.proofs.Arguments.{literals_length}
use Rattle.prop_bool.proofs.Results.{closed_false}
use Rattle.prop_base.proofs.Prunings.{prunes_more}
use Rattle.prop_bool.proofs.disjunctions.fail_each.Goals as goal

pub returns-in_err-fail_one-clause-pruning : goal.returns-in_err-fail_one-clause-pruning
returns-in_err-fail_one-clause-pruning c =
    prunes_more c.args.asked c.loop-k.invariant.pruning c.fail_one.ensures.pruning

pub returns-then-not-branch-clause-pruning : goal.returns-then-not-branch-clause-pruning
returns-then-not-branch-clause-pruning c =
    prunes_more c.args.asked c.loop-k.invariant.pruning c.fail_one.ensures.pruning

pub loop-k-preserved : goal.loop-k-preserved
loop-k-preserved c =
    let i = c.loop-k.invariant in
    let f = c.in_ok-fail_one.ensures in
    record {
      pruning = prunes_more c.args.asked i.pruning c.fail_one.ensures.pruning;
      fits = f.fits;
      fails = f.fails;
      failed = f.failed c.if-not-branch.false i.failed;
    }

pub returns-clause-found : goal.returns-clause-found
returns-clause-found c =
    let ls = literals c.args.plain.now c.args.negated.now in
    let i = c.loop-k.invariant in
    let all : take c.loop-k.k ls ≡ ls = take_all c.loop-k.k ls (omega (arith, literals_length c.args.plain.now c.args.negated.now)) in
    closed_false c.args.asked.problem.now c.args.asked.rule.now ls c.args.head c.requires.says c.loop-k.store.box i.fits i.fails (ap (list_all (surely_fails c.loop-k.store.box)) (sym all) ∙ i.failed)
