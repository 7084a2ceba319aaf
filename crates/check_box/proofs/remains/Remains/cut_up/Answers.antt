use Rattle.std.proofs.Common.{◌≡◌, true, rules}
use Rattle.std.specs.Prelude.{pos}
use Rattle.std.proofs.lemmas.Int.{to_z-of_z}
use mir.Val.{SFits}
use mir.Syntax.{w64}
use Rattle.qc_model.specs.Domains.{is_none_left, values_left, values_within}
use Rattle.box_laws.proofs.Emptying.{nothing_goes}
use Rattle.check_box.proofs.remains.Remains.cut_up.Goals as goal

pub returns-else-may_reach_up-clause-content : goal.returns-else-may_reach_up-clause-content
returns-else-may_reach_up-clause-content c =
    let fits : SFits w64 c.args.lo = search rules in
    let box = c.args.self.now.box in
    let none : is_none_left (values_within c.args.lo (pos 1000000000) (values_left box c.args.x.0)) ≡ true = simp to_z-of_z at (c.may_reach_up.ensures c.if-may_reach_up.false (pos 1000000000)) in
    nothing_goes box c.args.x.0 c.args.lo (pos 1000000000) none
