use Rattle.std.proofs.Common.{refl, rules, w64, pos, ◌+ℤ◌}
use Rattle.std.proofs.lemmas.Int.{to_z-of_z}
use mir.Val.{SFits}
use Rattle.search_walk.specs.Aims.{IsKeptTo}
use Rattle.search_walk.proofs.Ruling.{above_alone, above_others}
use Rattle.search_walk.proofs.aim.worse_above.Goals as goal

pub returns-then-aim : goal.returns-then-aim
returns-then-aim c =
    let fits : SFits w64 c.args.best = search rules in
    let kept : IsKeptTo c.args.aim c.args.best (pos 1000000000) c.kept_to.result = simp to_z-of_z at c.kept_to.ensures in
    above_alone c.args.aim c.args.best c.kept_to.result c.requires c.if-aim.true kept

pub returns : goal.returns
returns c =
    let fits : SFits w64 c.args.best = search rules in
    let next : SFits w64 (c.args.best +ℤ pos 1) = search rules in
    let kept : IsKeptTo c.args.aim (c.args.best +ℤ pos 1) (pos 1000000000) c.kept_to-2.result = simp to_z-of_z at c.kept_to-2.ensures in
    above_others c.args.aim c.args.best (c.args.best +ℤ pos 1) c.kept_to-2.result c.requires c.if-aim.false refl kept
