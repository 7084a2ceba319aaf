use Rattle.std.proofs.Common.{◌∙◌, sym, arith}
use Rattle.dense_close.proofs.OpenMoves.{universal_there}
use Rattle.dense_close.proofs.answerless.is_open_move.Goals as goal

pub overflow_cast-owner : goal.overflow_cast-owner
overflow_cast-owner c =
    let there = universal_there c.args.levels.now.problem.now.scopes c.owner_of-owner.result (sym c.is_universal.ensures ∙ c.if-not-is_universal.false) in
    omega (arith, there, c.known.ensures.few_scopes)

pub level-requires : goal.level-requires
level-requires c = universal_there c.args.levels.now.problem.now.scopes c.owner_of-owner.result (sym c.is_universal.ensures ∙ c.if-not-is_universal.false)
