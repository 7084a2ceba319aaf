use Rattle.std.proofs.Common.{◌∙◌, sym, rules}
use Rattle.std.proofs.lemmas.Int.{to_z-of_z}
use mir.Val.{SFits}
use mir.Syntax.{w64}
use Rattle.std.specs.List.{list_all}
use Rattle.std.proofs.lemmas.List.{at_drop_all}
use Rattle.qc_model.specs.declared.problem.Arg.TheVariants.{Var}
use Rattle.qc_refuter.proofs.Terms.{open_at}
use Rattle.lemma_list.specs.Reasons.{comes_to}
use Rattle.lemma_reasons.specs.Answering.{answered_by}
use Rattle.lemma_reasons.proofs.clauses.all_come_to.Goals as goal

pub comes_to-requires : goal.comes_to-requires
comes_to-requires c = open_at c.args.store.now.box c.args.items.now c.loop-item.item-index (Var (record { 0 = 0 })) c.loop-item-test.true c.requires

pub returns : goal.returns
returns c =
    let n_fits : SFits w64 c.args.number = search rules in
    let inv = simp to_z-of_z at c.loop-item.invariant in
    sym (at_drop_all (λ l. list_all (comes_to (answered_by c.args.problem.now c.args.answers) c.args.store.now.box c.args.others.now c.args.number) l) c.args.items.now c.loop-item.item-index c.loop-item-test.false) ∙ inv
