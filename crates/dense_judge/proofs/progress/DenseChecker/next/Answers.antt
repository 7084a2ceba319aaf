use Rattle.std.proofs.Common.{subst}
use Rattle.dense_judge.specs.Checking.{IsCheckingBy}
use Rattle.dense_judge.proofs.Steps.{few_enough, more_read, taken, bad_read}
use Rattle.dense_judge.proofs.progress.DenseChecker.next.Goals as goal

pub returns-in-More-clause-checking : goal.returns-in-More-clause-checking
returns-in-More-clause-checking c = λ bytes h.
    let i = subst (λ s. IsCheckingBy s c.args.self.now bytes) c.requires.going h in
    let few = few_enough _ _ _ _ _ bytes i c.requires.room in
    rw c.requires.going (more_read _ _ _ _ _ _ bytes c.args.byte i c.feed.result c.in-More.is (c.feed.ensures.stands bytes i.told few i.stands) (c.feed.ensures.says bytes i.told few i.stands))

pub returns-in_ok-take-in-Whole-clause-checking : goal.returns-in_ok-take-in-Whole-clause-checking
returns-in_ok-take-in-Whole-clause-checking c = λ bytes h.
    let i = subst (λ s. IsCheckingBy s c.args.self.now bytes) c.requires.going h in
    let few = few_enough _ _ _ _ _ bytes i c.requires.room in
    taken c.take.new.self _ _ c.args.self.now.gather c.args.self.now.machine _ _ bytes c.args.byte i c.feed.result c.in-Whole.piece c.in-Whole.is
    (c.feed.ensures.stands bytes i.told few i.stands) (c.feed.ensures.says bytes i.told few i.stands)
    c.take.ensures.reader c.take.ensures.read c.take.ensures.head c.in_ok-take-in-Whole.ensures.taken c.in_ok-take-in-Whole.ensures.going

pub returns-in-Bad-clause-checking : goal.returns-in-Bad-clause-checking
returns-in-Bad-clause-checking c = λ bytes h.
    let i = subst (λ s. IsCheckingBy s c.args.self.now bytes) c.requires.going h in
    let few = few_enough _ _ _ _ _ bytes i c.requires.room in
    bad_read _ _ _ _ _ bytes c.args.byte i c.feed.result c.in-Bad.is (c.feed.ensures.says bytes i.told few i.stands)
