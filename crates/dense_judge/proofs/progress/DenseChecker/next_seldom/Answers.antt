use Rattle.std.proofs.Common.{sym, subst}
use Rattle.dense_judge.specs.Checking.{IsCheckingBy, IsReading}
use Rattle.dense_judge.proofs.Steps.{line_taken, byte_read}
use Rattle.dense_judge.proofs.progress.DenseChecker.next_seldom.Goals as goal

pub returns-in_ok-hand_on-in-Some-clause-reads : goal.returns-in_ok-hand_on-in-Some-clause-reads
returns-in_ok-hand_on-in-Some-clause-reads c =
    let i = c.in-Some in
    let e = c.hand_on.ensures in
    let o = c.in_ok-hand_on-in-Some.ensures in
    line_taken c.args.self.now c.hand_on.new.self _ c.args.bytes.now i.rest.now i.piece c.requires.going i.ensures.line c.requires.room e.reader e.read e.head o.taken o.going

pub returns-in_ok-next-in-None-clause-reads : goal.returns-in_ok-next-in-None-clause-reads
returns-in_ok-next-in-None-clause-reads c =
    let old = c.args.self.now in
    let first = c.in-Some-split_first in
    byte_read old c.next.new.self c.args.bytes.now first.rest.now first.byte.now first.ensures.cases.0 c.next.ensures.read
    (λ before h.
    let k = subst (λ s. IsCheckingBy s old before) c.requires.going h in
    let there = subst (λ r. IsReading r old.gather old.machine old.head old.read before) (sym c.in-None.ensures.none) k in
    c.in_ok-next-in-None.ensures.checking before (rw c.requires.going there))
