use Rattle.std.proofs.Common.{rules}
use mir.Val.{SFits}
use mir.Syntax.{w64}
use Rattle.likeness.proofs.Known.{known_there, none_known}
use Rattle.likeness.proofs.clauses.has_value.Goals as goal

pub returns-in-Some : goal.returns-in-Some
returns-in-Some c =
    let fits : SFits w64 c.in-Some.value.now = search rules in
    known_there c.args.values.now c.args.x.0 c.in-Some.value.now c.args.wanted fits c.ranges.wanted c.in-Some.ensures.lookup.0 c.in-Some.ensures.lookup.1

pub returns-in-None : goal.returns-in-None
returns-in-None c = none_known c.args.values.now c.args.x.0 c.args.wanted c.in-None.ensures.lookup.0
