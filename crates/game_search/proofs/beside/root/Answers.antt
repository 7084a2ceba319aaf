use Rattle.std.proofs.Common.{◌∙◌, rules, sym, subst, arith, [], Some, Option, IfSome, IfOk, ℤ, w64}
use Rattle.std.proofs.lemmas.Int.{to_z-of_z}
use Rattle.std.proofs.lemmas.Result.{IfOk-weaker, on_ok_weaker}
use mir.Val.{SFits}
use Rattle.game_search.specs.Beside.{RootAnswers}
use Rattle.game_search.specs.Pieces.{IsReached}
use Rattle.search_walk.proofs.Places.{nobody_at_goal}
use Rattle.game_search.proofs.Roots.{root_by_node}
use Rattle.game_search.proofs.beside.root.Goals as goal

pub node-requires-clause-closed : goal.node-requires-clause-closed
node-requires-clause-closed c = λ e. nobody_at_goal c.args.levels.now.problem.now _ e

pub returns-in-None-clause-told : goal.returns-in-None-clause-told
returns-in-None-clause-told c =
    let g = c.args.levels.now.problem.now in
    let a = c.args.walk.now in
    let w = c.node.new.walk in
    IfOk-weaker c.node.result _ _
    (λ found told.
    subst (λ (o : Option ℤ). RootAnswers c.args.cuts g o found a w) (sym c.in-None.is) (λ few. root_by_node c.args.cuts g a.remains.store.box _ a.left w.left a.lines w.lines w.joins (told (omega (arith, few)) [] tt)))
    c.node.ensures.told

pub returns-in-None-clause-joins : goal.returns-in-None-clause-joins
returns-in-None-clause-joins c = on_ok_weaker c.node.result (λ back. back.game ∙ c.requires.joins) c.node.ensures.back

pub root_beside-requires-clause-reached : goal.root_beside-requires-clause-reached
root_beside-requires-clause-reached c =
    let v = c.in-Some.value in
    let fits : SFits w64 v = search rules in
    let g = c.args.levels.now.problem.now in
    let known : IsReached g v = subst (λ (o : Option ℤ). IfSome o (λ r. IsReached g r)) c.in-Some.is c.requires.reached in
    simp to_z-of_z known

pub returns-in-Some-clause-told : goal.returns-in-Some-clause-told
returns-in-Some-clause-told c =
    let g = c.args.levels.now.problem.now in
    let a = c.args.walk.now in
    let w = c.root_beside.new.walk in
    let v = c.in-Some.value in
    let fits : SFits w64 v = search rules in
    let told : IfOk c.root_beside.result (λ found. RootAnswers c.args.cuts g (Some v) found a w) = simp to_z-of_z at c.root_beside.ensures.told in
    IfOk-weaker c.root_beside.result _ _ (λ found t. subst (λ (o : Option ℤ). RootAnswers c.args.cuts g o found a w) (sym c.in-Some.is) t) told
