use Rattle.std.proofs.Common.{◌≡◌, ◌+◌, ◌++◌, [], ◌∷◌, map, sym, ap, ◌∙◌, subst, arith}
use Rattle.proof_tree.specs.declared.line.Line.TheVariants.{Branch, Next, Dot}
use Rattle.proof_tree.specs.Tree.{next}
use Rattle.proof_tree.specs.declared.tree.Body.{Body}
use Rattle.proof_tree.specs.Shape.{tree_of, body_of, ending_of, branches_of, case_of}
use Rattle.proof_tree.specs.Counts.{ending_weight, branch_weight}
use Rattle.proof_tree.specs.Lines.{step_line, horizon_lines, body_lines, branches_lines, ending_lines, case_lines, upto_lines}
use Rattle.proof_tree.proofs.Shapes.{ending_branch}
use Rattle.qc_check.specs.Giving.{Takes}
use Rattle.qc_check.proofs.Given.{takes_both, piece_taken, pieces_end, less_more}
use Rattle.qc_check.proofs.giving.+give.Goals as goal

-- a node's lines are those of its horizon and then those of its body
pub give_node-returns-in-Stuck-clause-takes : goal.give_node-returns-in-Stuck-clause-takes
give_node-returns-in-Stuck-clause-takes t c =
    subst (λ (b : Body). Takes c.args.space.now c.give.new.space (horizon_lines c.args.node.now.horizon ++ body_lines (body_of b))) (sym c.in-Stuck.is)
    (takes_both _ _ _ _ _ c.give_horizon.ensures.takes c.give.ensures.takes)

pub give_node-returns-in-Goal-clause-takes : goal.give_node-returns-in-Goal-clause-takes
give_node-returns-in-Goal-clause-takes t c =
    subst (λ (b : Body). Takes c.args.space.now c.give-in-Goal.new.space (horizon_lines c.args.node.now.horizon ++ body_lines (body_of b))) (sym c.in-Goal.is)
    (takes_both _ _ _ _ _ c.give_horizon.ensures.takes c.give-in-Goal.ensures.takes)

pub give_node-returns-in-Tree-clause-takes : goal.give_node-returns-in-Tree-clause-takes
give_node-returns-in-Tree-clause-takes t c =
    subst (λ (b : Body). Takes c.args.space.now c.give_cases.new.space (horizon_lines c.args.node.now.horizon ++ body_lines (body_of b))) (sym c.in-Tree.is)
    (takes_both _ _ _ _ _ c.give_horizon.ensures.takes c.give_cases.ensures.takes)

pub give_cases-returns-clause-takes : goal.give_cases-returns-clause-takes
give_cases-returns-clause-takes t c = takes_both _ _ _ _ _ (subst (λ ss. Takes c.args.space.now c.give_steps.new.space (map step_line ss)) c.items.ensures c.give_steps.ensures.takes) c.give_end.ensures.takes

pub give_end-returns-in-Branch-clause-takes : goal.give_end-returns-in-Branch-clause-takes
give_end-returns-in-Branch-clause-takes t c =
    let e = ap ending_of c.in-Branch.is ∙ ending_branch c.in-Branch.x c.in-Branch.cases in
    subst (λ z. Takes c.args.space.now c.give-in-Branch-2.new.space (ending_lines z)) (sym e)
    (subst (λ ps. Takes c.args.space.now c.give-in-Branch-2.new.space (Branch c.in-Branch.x ∷ (branches_lines (branches_of ps) ++ Dot ∷ []))) c.items.ensures
    (takes_both _ _ _ (Branch c.in-Branch.x ∷ []) _ c.give-in-Branch.ensures.takes (takes_both _ _ _ _ _ c.give_case_list.ensures.takes c.give-in-Branch-2.ensures.takes)))

pub give_end-give_case_list-requires : goal.give_end-give_case_list-requires
give_end-give_case_list-requires t c =
    let e = ap ending_of c.in-Branch.is ∙ ending_branch c.in-Branch.x c.in-Branch.cases in
    let w : 1 + branch_weight (branches_of c.items.result.now) ≡ ending_weight (ending_of c.args.end.now) =
    ap (λ cs. 1 + branch_weight (branches_of cs)) c.items.ensures ∙ sym (ap ending_weight e) in
    (omega arith, c.give-in-Branch.ensures.ready)

pub give_end-returns-in-Next-clause-takes : goal.give_end-returns-in-Next-clause-takes
give_end-returns-in-Next-clause-takes t c =
    let e = ap ending_of c.in-Next.is ∙ ap (λ m. next (tree_of m)) (sym c.deref.ensures) in
    subst (λ z. Takes c.args.space.now c.give_node.new.space (ending_lines z)) (sym e)
    (takes_both _ _ _ (Next ∷ []) _ c.give-in-Next.ensures.takes c.give_node.ensures.takes)

pub give_case_list-loop-piece-preserved : goal.give_case_list-loop-piece-preserved
give_case_list-loop-piece-preserved t c =
    let ps = c.args.cases.now in
    let i = c.loop-piece.piece-index in
    let p = c.piece-item.result in
    record {
      ready = c.give_case.ensures.ready;
      takes = λ end k. c.loop-piece.invariant.takes end
          (piece_taken _ _ _ end ps i p c.loop-piece-test.true (subst (λ q. Takes c.loop-piece.space c.give_upto.new.space (upto_lines q.upto)) c.piece-item.is c.give_upto.ensures.takes)
          (subst (λ q. Takes c.give_upto.new.space c.give_case.new.space (case_lines (case_of q.case))) c.piece-item.is c.give_case.ensures.takes) k);
      less = let now = c.loop-piece.invariant.less in let more = less_more ps i p c.loop-piece-test.true in omega (arith, now, more);
    }

pub give_case_list-returns-clause-takes : goal.give_case_list-returns-clause-takes
give_case_list-returns-clause-takes t c = c.loop-piece.invariant.takes _ (pieces_end c.loop-piece.space c.args.cases.now c.loop-piece.piece-index (omega (arith, c.loop-piece-test.false)))
