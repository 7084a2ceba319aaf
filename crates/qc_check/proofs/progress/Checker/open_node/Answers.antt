use Rattle.std.proofs.Common.{subst, sym, length}
use Rattle.qc_check.specs.Keeping.{IsKeeping, IsInside}
use Rattle.qc_check.proofs.Beginning.{begun, within_none, within_last, held}
use Rattle.qc_check.proofs.progress.Checker.open_node.Goals as goal
use Rattle.qc_check.proofs.progress.Checker.open_node.Goals.{then-due-last-via-then-due-last, then-due-last-via-else-due-last+then-due-last-2, in-Some+else-due-last+else-due-last-2, in_default}

pub returns-then-due-last-clause-keeping : goal.returns-then-due-last-clause-keeping
returns-then-due-last-clause-keeping c = λ before bytes within k.
    elim c.then-due-last.branch [
      | then-due-last-via-then-due-last w ↦ subst (λ s. IsKeeping s before bytes c.args.at) (sym w.self-is) (record { reading = k.reading; starts = k.starts })
      | then-due-last-via-else-due-last+then-due-last-2 w ↦ subst (λ s. IsKeeping s before bytes c.args.at) (sym w.self-is) (record { reading = k.reading; starts = k.starts })
    ]

pub returns-clause-keeping : goal.returns-clause-keeping
returns-clause-keeping c = λ before bytes within k.
    let old = c.args.self.now in
    let due = c.args.due in
    let count = length c.values_before-here.result.now in
    let here = begun old.machine c.args.at due c.args.number count in
    let inside : IsInside here old.starts =
    elim c.match-last.branch [
      | in-Some+else-due-last+else-due-last-2 w ↦ within_last here w.in-Some.last old.starts w.in-Some.ensures.some w.if-due-last.false w.if-due-last-2.false
      | in_default w ↦ within_none here old.starts w.in_default.ensures.none
    ]
    in
    record {
      reading = k.reading;
      starts = held old due c.args.at c.args.number count c.values_before-here.result.now before bytes c.push.new.self c.requires.due c.if-due-eq0.false c.requires.like within c.values_before-here.ensures inside c.push.ensures k;
    }
