use Rattle.dense_judge.proofs.Gathers.{none_whole, one_whole}
use Rattle.dense_judge.proofs.progress.DenseChecker.hand_on.Goals as goal

pub returns-in_default-clause-taken : goal.returns-in_default-clause-taken
returns-in_default-clause-taken c = λ a h.
    none_whole _ _ _ a c.args.piece c.take.result c.in_default.is h (c.take.ensures.begun a.begun h.begun) (c.take.ensures.hands a.begun h.begun)

pub returns-in-Ok-clause-taken : goal.returns-in-Ok-clause-taken
returns-in-Ok-clause-taken c = λ a h.
    one_whole _ _ _ _ a c.args.piece c.take.result c.in-Some.line _ c.in-Some.is h (c.take.ensures.begun a.begun h.begun) (c.take.ensures.hands a.begun h.begun)
    c.as_slice.ensures.items c.take-2.ensures.same c.in-Ok.ensures.goes
