use Rattle.std.proofs.Common.{subst, arith}
use Rattle.qc_check.specs.Checking.{IsCheckingBy}
use Rattle.qc_check.proofs.Steps.{within, head_read, line_read, deep_read, bad_read}
use Rattle.qc_check.proofs.progress.Checker.next.Goals as goal

pub returns-in-Within-clause-checking : goal.returns-in-Within-clause-checking
returns-in-Within-clause-checking c = λ bytes h.
    let k = subst (λ s. IsCheckingBy s c.args.self.now bytes) c.requires.going h in
    rw c.requires.going (within _ _ _ _ _ bytes c.args.byte k c.byte.result c.in-Within.is (c.byte.ensures.stands bytes k.told k.stands) (c.byte.ensures.says bytes k.told k.stands))

pub returns-in-Head-clause-checking : goal.returns-in-Head-clause-checking
returns-in-Head-clause-checking c = λ bytes h.
    let k = subst (λ s. IsCheckingBy s c.args.self.now bytes) c.requires.going h in
    rw c.requires.going (head_read _ _ _ _ _ bytes c.args.byte k c.byte.result c.in-Head.version (record { outcome = c.in-Head.outcome; optimum = c.in-Head.optimum }) c.in-Head.is
    (c.byte.ensures.stands bytes k.told k.stands) (c.byte.ensures.says bytes k.told k.stands))

pub returns-in-Whole-clause-checking : goal.returns-in-Whole-clause-checking
returns-in-Whole-clause-checking c = λ bytes h.
    let k = subst (λ s. IsCheckingBy s c.args.self.now bytes) c.requires.going h in
    let room = c.requires.room in
    rw c.requires.going (line_read _ _ _ _ _ _ bytes c.args.byte k c.byte.result c.in-Whole.line c.in-Whole.is
    (c.byte.ensures.stands bytes k.told k.stands) (c.byte.ensures.says bytes k.told k.stands) c.line.ensures.same (omega (arith, room)) c.line.ensures.tells)

pub returns-in-TooDeep-clause-checking : goal.returns-in-TooDeep-clause-checking
returns-in-TooDeep-clause-checking c = λ bytes h.
    let k = subst (λ s. IsCheckingBy s c.args.self.now bytes) c.requires.going h in
    deep_read _ _ _ _ bytes c.args.byte k c.byte.result c.in-TooDeep.is (c.byte.ensures.says bytes k.told k.stands)

pub returns-in-Bad-clause-checking : goal.returns-in-Bad-clause-checking
returns-in-Bad-clause-checking c = λ bytes h.
    let k = subst (λ s. IsCheckingBy s c.args.self.now bytes) c.requires.going h in
    bad_read _ _ _ _ bytes c.args.byte k c.byte.result c.in-Bad.is (c.byte.ensures.says bytes k.told k.stands)
