use Rattle.std.proofs.Common.{subst, false, true, ◌∙◌}
use Rattle.dense_nest.specs.Ends.{PartEnds}
use Rattle.dense_nest.proofs.Closing.{ends_then, some_part, goes_of}
use Rattle.dense_nest.proofs.nest.Nest.part_over.Goals as goal

pub returns-in-Some-clause-goes : goal.returns-in-Some-clause-goes
returns-in-Some-clause-goes c =
    let m = c.args.self.now in
    let n = c.back_to.new.self in
    goes_of m n (ends_then m c.loop-k.self n false c.loop-k.invariant.ends c.back_to.ensures.ends)

pub returns-then-not-branch-clause-goes : goal.returns-then-not-branch-clause-goes
returns-then-not-branch-clause-goes c =
    let m = c.args.self.now in
    let n = c.scope_over.new.self in
    let e = c.if-not-branch.true in
    goes_of m n (ends_then m c.loop-k.self n false c.loop-k.invariant.ends (subst (PartEnds c.loop-k.self n) e c.in_ok-scope_over.ensures.ends))

pub loop-k-preserved : goal.loop-k-preserved
loop-k-preserved c =
    let m = c.args.self.now in
    let n = c.scope_over.new.self in
    let e = c.if-not-branch.false in
    let ends : PartEnds m n true = ends_then m c.loop-k.self n true c.loop-k.invariant.ends (subst (PartEnds c.loop-k.self n) e c.in_ok-scope_over.ensures.ends) in
    record { part = some_part m n c.requires.part ends; ends = ends; same = c.scope_over.ensures.same ∙ c.loop-k.invariant.same }
