use Rattle.std.proofs.Common.{◌≡◌, ◌∙◌, true, ap, subst, List}
use Rattle.std.specs.Prelude.{count_by}
use Rattle.qc_model.specs.declared.problem.Arg.{Arg}
use Rattle.model_arguments.specs.Written.{args_at}
use Rattle.qc_refuter.proofs.Ready.{rule_met}
use Rattle.dense_quiet.specs.Filling.{is_counted, outnumbers}
use Rattle.dense_quiet.proofs.Filled.{filled_refutes}
use Rattle.dense_quiet.proofs.filling.is_full_beside.Goals as goal

pub items_met-requires : goal.items_met-requires
items_met-requires c =
    rw c.arguments.ensures (rule_met c.args.problem.now c.args.store.now.box c.known.ensures.domains c.requires.asked.declared c.requires.asked.full c.args.rule.now c.requires.asked.rule)

pub returns : goal.returns
returns c = λ full.
    let r = c.args.rule.now in
    let s = c.args.s in
    let box = c.args.store.now.box in
    let items = c.items_met.ensures.is ∙ ap (λ a. args_at a 0) c.arguments.ensures in
    let count = c.count_with-count.ensures.count ∙ ap (λ (xs : List Arg). count_by (is_counted s.low s.high c.args.x.0 box) xs) items in
    filled_refutes r box c.args.x.0 s.low s.high c.requires.pred (subst (λ n. outnumbers n s.low s.high ≡ true) count (c.is_more.ensures full))
