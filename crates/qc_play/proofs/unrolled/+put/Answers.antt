use Rattle.std.proofs.Common.{◌≡◌, ◌+◌, ◌++◌, [], ◌∷◌, map, sym, ap, ◌∙◌, subst, arith}
use Rattle.std.proofs.lemmas.Result.{on_ok_weaker}
use Rattle.proof_tree.specs.declared.line.Line.TheVariants.{Branch, Next, Dot}
use Rattle.proof_tree.specs.Tree.{next}
use Rattle.proof_tree.specs.declared.tree.Body.{Body}
use Rattle.proof_tree.specs.Shape.{tree_of, body_of, ending_of, branches_of, case_of}
use Rattle.proof_tree.specs.Counts.{ending_weight, branch_weight}
use Rattle.proof_tree.specs.Lines.{step_line, horizon_lines, body_lines, branches_lines, ending_lines, case_lines, upto_lines}
use Rattle.proof_tree.proofs.Shapes.{ending_branch}
use Rattle.qc_play.proofs.Putting.{IsPut, both_put, piece_put, pieces_put, pieces_fewer, piece_less}
use Rattle.qc_play.proofs.unrolled.+put.Goals as goal

-- a node's lines are those of its horizon and then those of its body
pub put_node-returns-in-Stuck : goal.put_node-returns-in-Stuck
put_node-returns-in-Stuck t c =
    on_ok_weaker c.put.result (λ last.
    subst (λ (b : Body). IsPut c.args.lines.now.items c.put.new.lines.items (horizon_lines c.args.node.now.horizon ++ body_lines (body_of b))) (sym c.in-Stuck.is) (both_put _ _ _ _ _ c.in_ok-put_horizon.ensures last)) c.put.ensures

pub put_node-returns-in-Goal : goal.put_node-returns-in-Goal
put_node-returns-in-Goal t c =
    on_ok_weaker c.put-in-Goal.result (λ last.
    subst (λ (b : Body). IsPut c.args.lines.now.items c.put-in-Goal.new.lines.items (horizon_lines c.args.node.now.horizon ++ body_lines (body_of b))) (sym c.in-Goal.is) (both_put _ _ _ _ _ c.in_ok-put_horizon.ensures last)) c.put-in-Goal.ensures

pub put_node-returns-in-Tree : goal.put_node-returns-in-Tree
put_node-returns-in-Tree t c =
    on_ok_weaker c.put_part.result (λ last.
    subst (λ (b : Body). IsPut c.args.lines.now.items c.put_part.new.lines.items (horizon_lines c.args.node.now.horizon ++ body_lines (body_of b))) (sym c.in-Tree.is) (both_put _ _ _ _ _ c.in_ok-put_horizon.ensures last)) c.put_part.ensures

pub put_part-returns : goal.put_part-returns
put_part-returns t c =
    on_ok_weaker c.put_end.result (λ last. both_put _ _ _ _ _ (subst (λ ss. IsPut c.args.lines.now.items c.put_steps.new.lines.items (map step_line ss)) c.items.ensures c.in_ok-put_steps.ensures) last) c.put_end.ensures

pub put_end-returns-in_ok-put_cases-in-Branch : goal.put_end-returns-in_ok-put_cases-in-Branch
put_end-returns-in_ok-put_cases-in-Branch t c =
    let e = ap ending_of c.in-Branch.is ∙ ending_branch c.in-Branch.x c.in-Branch.cases in
    on_ok_weaker c.put-in-Branch-2.result (λ last.
    subst (λ z. IsPut c.args.lines.now.items c.put-in-Branch-2.new.lines.items (ending_lines z)) (sym e)
    (subst (λ ps. IsPut c.args.lines.now.items c.put-in-Branch-2.new.lines.items (Branch c.in-Branch.x ∷ (branches_lines (branches_of ps) ++ Dot ∷ []))) c.items.ensures
    (both_put _ _ _ (Branch c.in-Branch.x ∷ []) _ c.in_ok-put-in-Branch.ensures (both_put _ _ _ _ _ c.in_ok-put_cases-in-Branch.ensures last)))) c.put-in-Branch-2.ensures

pub put_end-put_cases-requires : goal.put_end-put_cases-requires
put_end-put_cases-requires t c =
    let e = ap ending_of c.in-Branch.is ∙ ending_branch c.in-Branch.x c.in-Branch.cases in
    let w : 1 + branch_weight (branches_of c.items.result.now) ≡ ending_weight (ending_of c.args.end.now) = ap (λ cs. 1 + branch_weight (branches_of cs)) c.items.ensures ∙ sym (ap ending_weight e) in
    omega arith

pub put_end-returns-in_ok-put-in-Next : goal.put_end-returns-in_ok-put-in-Next
put_end-returns-in_ok-put-in-Next t c =
    let e = ap ending_of c.in-Next.is ∙ ap (λ m. next (tree_of m)) (sym c.deref.ensures) in
    on_ok_weaker c.put_node.result (λ last. subst (λ z. IsPut c.args.lines.now.items c.put_node.new.lines.items (ending_lines z)) (sym e) (both_put _ _ _ (Next ∷ []) _ c.in_ok-put-in-Next.ensures last)) c.put_node.ensures

pub put_cases-loop-piece-preserved : goal.put_cases-loop-piece-preserved
put_cases-loop-piece-preserved t c =
    let ps = c.args.cases.now in
    let k = c.loop-piece.piece-index in
    let p = c.piece-item.result in
    record {
      put = λ end more. c.loop-piece.invariant.put end
          (piece_put _ _ _ end ps k p c.loop-piece-test.true (subst (λ q. IsPut c.loop-piece.lines.items c.put_upto.new.lines.items (upto_lines q.upto)) c.piece-item.is c.in_ok-put_upto.ensures)
          (subst (λ q. IsPut c.put_upto.new.lines.items c.put_case.new.lines.items (case_lines (case_of q.case))) c.piece-item.is c.in_ok-put_case.ensures) more);
      less = let now = c.loop-piece.invariant.less in let more = pieces_fewer ps k p c.loop-piece-test.true in omega (arith, now, more);
    }

pub put_cases-returns : goal.put_cases-returns
put_cases-returns t c = c.loop-piece.invariant.put _ (pieces_put c.loop-piece.lines.items c.args.cases.now c.loop-piece.piece-index (omega (arith, c.loop-piece-test.false)))

pub put_cases-put_case-requires : goal.put_cases-put_case-requires
put_cases-put_case-requires t c =
    let now = c.loop-piece.invariant.less in
    let k = c.loop-piece.piece-index in
    let less = piece_less c.args.cases.now k c.piece-item.result c.loop-piece-test.true c.piece-item.is in
    omega (arith, now, less)
