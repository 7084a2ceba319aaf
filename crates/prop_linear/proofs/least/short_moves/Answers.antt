use Rattle.std.proofs.Common.{◌*◌, ap, rules}
use Rattle.std.proofs.lemmas.Int.{to_z-of_z}
use mir.Val.{SFits}
use mir.Syntax.{w64}
use Rattle.prop_linear.proofs.least.short_moves.Goals as goal

pub returns : goal.returns
returns c =
    let f : SFits w64 c.args.factor = search rules in
    ap (λ z. z * c.args.width) (simp to_z-of_z at c.unsigned_abs.ensures.value)
