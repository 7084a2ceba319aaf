use Rattle.std.proofs.lemmas.Int.{to_z-of_z}
use Rattle.zero_sum.specs.Bounded.{bound}
use Rattle.zero_sum.proofs.Steps.{put_behind}
use Rattle.zero_sum.proofs.made.bounded_constraints.Goals as goal

pub returns : goal.returns
returns c =
    let fits = c.ranges.v in
    put_behind (bound c.args.stake c.args.v) c.in_ok-bound.field-0 c.args.problem.now.constraints c.in_ok-constraints.constraints.items c.as_slice.result.now c.insert.new.self.items c.behind-at.result
    c.in_ok-insert.ensures.items c.in_ok-constraints.ensures (simp to_z-of_z at c.in_ok-bound.ensures) c.as_slice.ensures.value c.behind-at.ensures.within c.behind-at.ensures.before c.behind-at.ensures.first
