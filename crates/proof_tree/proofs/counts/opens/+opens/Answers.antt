use Rattle.std.proofs.Common.{◌≡◌, ◌+◌, sym, ap, ◌∙◌, arith}
use Rattle.proof_tree.specs.Shape.{ending_of, branches_of}
use Rattle.proof_tree.specs.Counts.{ending_opens, branch_opens, ending_weight, branch_weight}
use Rattle.proof_tree.proofs.Shapes.{ending_branch}
use Rattle.proof_tree.proofs.counts.opens.+opens.Goals as goal

pub end_opens-case_opens-requires : goal.end_opens-case_opens-requires
end_opens-case_opens-requires t c =
    let e = ap ending_of c.in-Branch.is ∙ ending_branch c.in-Branch.x c.in-Branch.cases in
    let f : branch_opens (branches_of c.items.result.now) ≡ ending_opens (ending_of c.args.end.now) =
    ap (λ cs. branch_opens (branches_of cs)) c.items.ensures ∙ sym (ap ending_opens e) in
    let w : 1 + branch_weight (branches_of c.items.result.now) ≡ ending_weight (ending_of c.args.end.now) =
    ap (λ cs. 1 + branch_weight (branches_of cs)) c.items.ensures ∙ sym (ap ending_weight e) in
    (omega arith, omega arith)

pub end_opens-returns-in-Branch : goal.end_opens-returns-in-Branch
end_opens-returns-in-Branch t c =
    let e = ap ending_of c.in-Branch.is ∙ ending_branch c.in-Branch.x c.in-Branch.cases in
    c.case_opens.ensures ∙ (ap (λ cs. branch_opens (branches_of cs)) c.items.ensures ∙ sym (ap ending_opens e))
