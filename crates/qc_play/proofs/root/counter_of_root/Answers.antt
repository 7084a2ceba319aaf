use Rattle.qc_play.proofs.root.counter_of_root.Goals as goal

pub returns : goal.returns
returns c = λ t e r lost. (c.in_ok-shown.ensures t e r).1.counter lost
