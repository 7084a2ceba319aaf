use Rattle.qc_play.proofs.root.plan_of_root.Goals as goal

pub returns : goal.returns
returns c = λ t e r exact. (c.in_ok-shown.ensures t e r).1.plan exact
