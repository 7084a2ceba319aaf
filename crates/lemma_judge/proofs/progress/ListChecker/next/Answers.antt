use Rattle.std.proofs.Common.{subst}
use Rattle.lemma_judge.specs.Checking.{IsCheckingBy}
use Rattle.lemma_judge.proofs.Steps.{more_read, taken, bad_read}
use Rattle.lemma_judge.proofs.progress.ListChecker.next.Goals as goal

pub returns-in-More-clause-checking : goal.returns-in-More-clause-checking
returns-in-More-clause-checking c = λ bytes h.
    let k = subst (λ s. IsCheckingBy s c.args.self.now bytes) c.requires.going h in
    rw c.requires.going (more_read _ _ _ _ _ bytes c.args.byte k c.feed.result c.in-More.is (c.feed.ensures.stands bytes k.told k.stands) (c.feed.ensures.says bytes k.told k.stands))

pub returns-in_ok-take-in-Whole-clause-checking : goal.returns-in_ok-take-in-Whole-clause-checking
returns-in_ok-take-in-Whole-clause-checking c = λ bytes h.
    let k = subst (λ s. IsCheckingBy s c.args.self.now bytes) c.requires.going h in
    taken c.take.new.self _ _ c.args.self.now.machine _ _ bytes c.args.byte k c.feed.result c.in-Whole.item c.in-Whole.is (c.feed.ensures.stands bytes k.told k.stands) (c.feed.ensures.says bytes k.told k.stands)
    c.take.ensures.reader c.take.ensures.read c.take.ensures.loser c.take.ensures.same c.in_ok-take-in-Whole.ensures.book c.in_ok-take-in-Whole.ensures.going

pub returns-in-Bad-clause-checking : goal.returns-in-Bad-clause-checking
returns-in-Bad-clause-checking c = λ bytes h.
    let k = subst (λ s. IsCheckingBy s c.args.self.now bytes) c.requires.going h in
    bad_read _ _ _ _ bytes c.args.byte k c.feed.result c.in-Bad.is (c.feed.ensures.says bytes k.told k.stands)
