use Rattle.best_judge.proofs.part.judge_part.Goals as goal

pub returns : goal.returns
returns c = c.shown_by.ensures c.args.problem.now c.args.bytes.now c.in_ok-checked.ensures
