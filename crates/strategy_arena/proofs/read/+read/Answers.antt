use Rattle.std.proofs.Common.{◌∙◌, ap, arith, ◌∷◌}
use Rattle.proof_tree.specs.Shape.{pieces_of}
use Rattle.strategy_arena.proofs.ReadParts.{branch_told, at_some, pushed}
use Rattle.strategy_arena.proofs.read.+read.Goals as goal

pub end-returns-in_ok-cases-in-Branch-clause-told : goal.end-returns-in_ok-cases-in-Branch-clause-told
end-returns-in_ok-cases-in-Branch-clause-told t c =
    ap (λ line. line ∷ c.args.lines.now) c.in-Branch.is ∙ branch_told c.in-Branch.x c.in_ok-cases-in-Branch.cases c.args.lines.now c.branches.new.lines c.in_ok-cases-in-Branch.ensures.told

pub branches-loop-list-preserved : goal.branches-loop-list-preserved
branches-loop-list-preserved t c =
    let i = c.loop-list.invariant in
    let told = at_some c.in_ok-found.field-0 _ _ _ c.in-Some.is c.in_ok-found.ensures.told in
    let less = at_some c.in_ok-found.field-0 _ _ _ c.in-Some.is c.in_ok-found.ensures.shorter in
    let most = i.shorter in
    record {
      told = pushed (pieces_of c.loop-list.list) (pieces_of c.push.new.self) c.in-Some.found c.args.lines.now c.loop-list.lines c.piece.new.lines c.in_ok-push.ensures.ok i.told told;
      shorter = omega (arith, less, most);
    }
