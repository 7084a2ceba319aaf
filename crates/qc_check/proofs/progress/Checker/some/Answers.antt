use Rattle.std.proofs.Common.{subst, sym, arith, take, ◌++◌, ◌∷◌, []}
use Rattle.std.specs.Prelude.{slice_index}
use Rattle.std.proofs.lemmas.List.{length-take-le}
use Rattle.qc_check.specs.Checking.{IsCheckingBy, IsReading}
use Rattle.qc_check.proofs.Steps.{whole_read, all_stopped}
use Rattle.qc_check.proofs.progress.Checker.some.Goals as goal

pub returns-in-Some-clause-checking : goal.returns-in-Some-clause-checking
returns-in-Some-clause-checking c = λ before h.
    let k = subst (λ s. IsCheckingBy s c.args.self.now before) c.requires.going h in
    let i = c.in-Some in
    let room = c.requires.room in
    let more = i.ensures.line.0 in
    let within = i.ensures.line.1 in
    rw c.requires.going (whole_read _ _ _ _ _ _ before (take i.size c.args.bytes.now) k i.whole i.size (length-take-le i.size c.args.bytes.now within) more
    (i.ensures.stands before k.told k.stands) (i.ensures.says before k.told k.stands) c.line-in-Some.ensures.same (omega (arith, room, more, within)) c.line-in-Some.ensures.tells)

pub returns-in-Some-stop-clause-stopped : goal.returns-in-Some-stop-clause-stopped
returns-in-Some-stop-clause-stopped c = λ before h.
    let old = c.args.self.now in
    let bytes = c.args.bytes.now in
    let after = c.next.new.self in
    let k = subst (λ s. IsCheckingBy s old before) c.requires.going h in
    let there = subst (λ r. IsReading r old.machine old.head old.read before) (sym c.in-None.ensures.line) k in
    let next = c.next.ensures.checking before (rw c.requires.going there) in
    subst (λ s. IsCheckingBy s after (before ++ bytes)) (sym c.in-Some-stop.is)
    (all_stopped _ _ before bytes c.requires.more (subst (λ s. IsCheckingBy s after (before ++ slice_index bytes 0 ∷ [])) c.in-Some-stop.is next))
