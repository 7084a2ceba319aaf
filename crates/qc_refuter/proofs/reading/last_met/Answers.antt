use Rattle.std.proofs.Common.{◌∙◌, ◌≡◌, ap, length, ◌-◌, arith}
use Rattle.qc_model.specs.Left.{left_at}
use Rattle.qc_refuter.specs.Met.{seen, lefts}
use Rattle.qc_refuter.proofs.Ready.{last_met_at}
use Rattle.qc_refuter.proofs.reading.last_met.Goals as goal

pub returns-clause-left : goal.returns-clause-left
returns-clause-left c =
    let box = seen c.args.view.now in
    let place : c.saturating_sub.result ≡ length c.args.args.now - 1 = omega arith in
    c.arg_met.ensures.left ∙ (ap (left_at (lefts box c.args.args.now)) place ∙ last_met_at box c.args.args.now)
