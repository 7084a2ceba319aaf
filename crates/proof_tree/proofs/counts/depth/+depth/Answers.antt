use Rattle.std.proofs.Common.{◌≡◌, ◌+◌, sym, ap, ◌∙◌, arith}
use Rattle.proof_tree.specs.Shape.{ending_of, branches_of}
use Rattle.proof_tree.specs.Counts.{ending_depth, branch_depth, ending_weight, branch_weight}
use Rattle.proof_tree.proofs.Shapes.{ending_branch}
use Rattle.proof_tree.proofs.counts.depth.+depth.Goals as goal

pub end_depth-case_depth-requires : goal.end_depth-case_depth-requires
end_depth-case_depth-requires t c =
    let e = ap ending_of c.in-Branch.is ∙ ending_branch c.in-Branch.x c.in-Branch.cases in
    let f : 1 + branch_depth (branches_of c.items.result.now) ≡ ending_depth (ending_of c.args.end.now) =
    ap (λ cs. 1 + branch_depth (branches_of cs)) c.items.ensures ∙ sym (ap ending_depth e) in
    let w : 1 + branch_weight (branches_of c.items.result.now) ≡ ending_weight (ending_of c.args.end.now) =
    ap (λ cs. 1 + branch_weight (branches_of cs)) c.items.ensures ∙ sym (ap ending_weight e) in
    (omega arith, omega arith)

pub end_depth-overflow_add-result-in-Branch : goal.end_depth-overflow_add-result-in-Branch
end_depth-overflow_add-result-in-Branch t c =
    let e = ap ending_of c.in-Branch.is ∙ ending_branch c.in-Branch.x c.in-Branch.cases in
    let f : 1 + branch_depth (branches_of c.items.result.now) ≡ ending_depth (ending_of c.args.end.now) =
    ap (λ cs. 1 + branch_depth (branches_of cs)) c.items.ensures ∙ sym (ap ending_depth e) in
    let r = c.case_depth.ensures in
    omega arith

pub end_depth-returns-in-Branch : goal.end_depth-returns-in-Branch
end_depth-returns-in-Branch t c =
    let e = ap ending_of c.in-Branch.is ∙ ending_branch c.in-Branch.x c.in-Branch.cases in
    ap (λ n. 1 + n) c.case_depth.ensures ∙ (ap (λ cs. 1 + branch_depth (branches_of cs)) c.items.ensures ∙ sym (ap ending_depth e))
