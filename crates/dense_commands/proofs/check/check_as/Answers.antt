use Rattle.std.proofs.Common.{subst}
use Rattle.qecode_commands.proofs.Written.{Wrote-weaker}
use Rattle.dense_commands.specs.declared.head.Heading.TheVariants.{Lemmas, Optimum, Dense, Tree}
use Rattle.dense_commands.specs.Answers.{HasHead}
use Rattle.dense_commands.proofs.check.check_as.Goals as goal

pub returns-in-Lemmas-clause-wrote : goal.returns-in-Lemmas-clause-wrote
returns-in-Lemmas-clause-wrote g c =
    let told = g.S.Shelf.told c.args.shelf.now c.args.name.now in
    Wrote-weaker _ _ _ _ c.check_list.result _ _ (λ s t h. (Lemmas, subst (λ b. HasHead b told) c.in-Lemmas.is c.requires, h)) c.check_list.ensures.wrote

pub returns-in-Optimum-clause-wrote : goal.returns-in-Optimum-clause-wrote
returns-in-Optimum-clause-wrote g c =
    let told = g.S.Shelf.told c.args.shelf.now c.args.name.now in
    Wrote-weaker _ _ _ _ c.check_best.result _ _ (λ s t h. (Optimum, subst (λ b. HasHead b told) c.in-Optimum.is c.requires, h)) c.check_best.ensures.wrote

pub returns-in-Dense-clause-wrote : goal.returns-in-Dense-clause-wrote
returns-in-Dense-clause-wrote g c =
    let told = g.S.Shelf.told c.args.shelf.now c.args.name.now in
    Wrote-weaker _ _ _ _ c.check_dense.result _ _ (λ s t h. (Dense, subst (λ b. HasHead b told) c.in-Dense.is c.requires, h)) c.check_dense.ensures.wrote

pub returns-in-Tree-clause-wrote : goal.returns-in-Tree-clause-wrote
returns-in-Tree-clause-wrote g c =
    let told = g.S.Shelf.told c.args.shelf.now c.args.name.now in
    Wrote-weaker _ _ _ _ c.check_problem.result _ _ (λ s t h. (Tree, subst (λ b. HasHead b told) c.in-Tree.is c.requires, h)) c.check_problem.ensures.wrote
