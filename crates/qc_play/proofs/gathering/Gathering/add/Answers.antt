use Rattle.std.proofs.Common.{subst}
use Rattle.std.proofs.lemmas.Result.{on_ok_weaker}
use Rattle.qc_play.specs.declared.gathering.Gathering.{Gathering}
use Rattle.qc_play.specs.Gathers.{Gathers}
use Rattle.qc_play.proofs.gathering.Gathering.add.Goals as goal

pub returns-in-Opponent-clause-leaf : goal.returns-in-Opponent-clause-leaf
returns-in-Opponent-clause-leaf c =
    on_ok_weaker c.add-in-Opponent.result
    (λ h ls f k s. h ls c.args.vector.now f (subst (λ (z : Gathering). Gathers z ls) c.in-Opponent.is k) s)
    c.add-in-Opponent.ensures.leaf
