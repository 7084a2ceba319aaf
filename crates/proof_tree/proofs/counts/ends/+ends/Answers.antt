use Rattle.std.proofs.Common.{◌≡◌, ◌+◌, sym, ap, ◌∙◌, arith}
use Rattle.proof_tree.specs.Shape.{ending_of, branches_of}
use Rattle.proof_tree.specs.Counts.{ending_ends, branch_ends, ending_weight, branch_weight}
use Rattle.proof_tree.proofs.Shapes.{ending_branch}
use Rattle.proof_tree.proofs.counts.ends.+ends.Goals as goal

pub end_ends-case_ends-requires : goal.end_ends-case_ends-requires
end_ends-case_ends-requires t c =
    let e = ap ending_of c.in-Branch.is ∙ ending_branch c.in-Branch.x c.in-Branch.cases in
    let f : branch_ends (branches_of c.items.result.now) ≡ ending_ends (ending_of c.args.end.now) =
    ap (λ cs. branch_ends (branches_of cs)) c.items.ensures ∙ sym (ap ending_ends e) in
    let w : 1 + branch_weight (branches_of c.items.result.now) ≡ ending_weight (ending_of c.args.end.now) =
    ap (λ cs. 1 + branch_weight (branches_of cs)) c.items.ensures ∙ sym (ap ending_weight e) in
    (omega arith, omega arith)

pub end_ends-returns-in-Branch : goal.end_ends-returns-in-Branch
end_ends-returns-in-Branch t c =
    let e = ap ending_of c.in-Branch.is ∙ ending_branch c.in-Branch.x c.in-Branch.cases in
    c.case_ends.ensures ∙ (ap (λ cs. branch_ends (branches_of cs)) c.items.ensures ∙ sym (ap ending_ends e))
