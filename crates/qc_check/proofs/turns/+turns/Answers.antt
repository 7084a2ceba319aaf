use Rattle.std.proofs.Common.{◌≡◌, ◌+◌, ◌-◌, ◌^◌, min, drop, sym, ap, ◌∙◌, arith}
use Rattle.proof_tree.specs.Shape.{ending_of, branches_of}
use Rattle.proof_tree.specs.Counts.{ending_turns, branch_turns, ending_weight, branch_weight}
use Rattle.proof_tree.proofs.Shapes.{ending_branch}
use Rattle.qc_check.proofs.Given.{gone}
use Rattle.qc_check.proofs.turns.+turns.Goals as goal

pub end_turns-case_turns-requires : goal.end_turns-case_turns-requires
end_turns-case_turns-requires t c =
    let e = ap ending_of c.in-Branch.is ∙ ending_branch c.in-Branch.x c.in-Branch.cases in
    let w : 1 + branch_weight (branches_of c.items.result.now) ≡ ending_weight (ending_of c.args.end.now) =
    ap (λ cs. 1 + branch_weight (branches_of cs)) c.items.ensures ∙ sym (ap ending_weight e) in
    omega arith

pub end_turns-returns-in-Branch : goal.end_turns-returns-in-Branch
end_turns-returns-in-Branch t c =
    let e = ap ending_of c.in-Branch.is ∙ ending_branch c.in-Branch.x c.in-Branch.cases in
    c.case_turns.ensures ∙ ap (λ n. min n (2 ^ 128 - 1)) (ap (λ cs. branch_turns (branches_of cs)) c.items.ensures ∙ sym (ap ending_turns e))

pub case_turns-returns : goal.case_turns-returns
case_turns-returns t c =
    let none : branch_turns (branches_of (drop c.loop-piece.piece-index c.args.cases.now)) ≡ 0 = ap (λ ps. branch_turns (branches_of ps)) (gone c.args.cases.now c.loop-piece.piece-index (omega (arith, c.loop-piece-test.false))) in
    let told = c.loop-piece.invariant.told in
    omega (arith, none, told, c.loop-piece.invariant.fits)
