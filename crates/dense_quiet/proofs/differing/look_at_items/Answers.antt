use Rattle.std.proofs.Common.{◌≡◌, ◌∙◌, true, ap, subst, List, map}
use Rattle.qc_model.specs.declared.problem.Arg.{Arg}
use Rattle.qc_model.specs.Left.{has_crowd}
use Rattle.qc_model.specs.Refuted.{left_to, refuted_by}
use Rattle.model_arguments.specs.Written.{args_at}
use Rattle.qc_refuter.proofs.Ready.{rule_met}
use Rattle.dense_closing.specs.Takes.{Takes}
use Rattle.dense_quiet.specs.Differing.{AllQuiet, Tells}
use Rattle.dense_quiet.specs.Slack.{SparesTaken}
use Rattle.dense_quiet.proofs.LeftAlone.{tells_so}
use Rattle.dense_quiet.proofs.Replaced.{quiet_spares, crowd_refutes}
use Rattle.dense_quiet.proofs.differing.look_at_items.Goals as goal

pub items_met-requires : goal.items_met-requires
items_met-requires c =
    rw c.arguments.ensures (rule_met c.args.problem.now c.args.store.now.box c.known.ensures.domains c.requires.asked.declared c.requires.asked.full c.args.rule.now c.requires.asked.rule)

pub returns : goal.returns
returns c =
    let r = c.args.rule.now in
    let box = c.args.store.now.box in
    let items = c.items_met.ensures.is ∙ ap (λ a. args_at a 0) c.arguments.ensures in
    let seen = subst (λ (xs : List Arg). Tells c.sight_of_items.result (AllQuiet (map (left_to box) xs)) (has_crowd (map (left_to box) xs) ≡ true)) items c.sight_of_items.ensures in
    let ds = map (left_to box) (args_at r.args 0) in
    tells_so c.sight_of_items.result (AllQuiet ds) (has_crowd ds ≡ true) ((takes : Takes) → SparesTaken takes r box) (refuted_by r box ≡ true) (λ q takes. quiet_spares takes r box c.requires.pred c.requires.apart q) (λ q. crowd_refutes r box c.requires.pred q) seen
