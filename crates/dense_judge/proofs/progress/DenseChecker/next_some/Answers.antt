use Rattle.dense_judge.proofs.Steps.{line_taken}
use Rattle.dense_judge.proofs.progress.DenseChecker.next_some.Goals as goal

pub returns-in_ok-hand_on-in-Some-clause-reads : goal.returns-in_ok-hand_on-in-Some-clause-reads
returns-in_ok-hand_on-in-Some-clause-reads c =
    let i = c.in-Some in
    let e = c.hand_on.ensures in
    let o = c.in_ok-hand_on-in-Some.ensures in
    line_taken c.args.self.now c.hand_on.new.self _ c.args.bytes.now i.rest.now i.piece c.requires.going i.ensures.line c.requires.room e.reader e.read e.head o.taken o.going
