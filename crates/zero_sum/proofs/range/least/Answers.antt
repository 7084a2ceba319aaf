use Rattle.std.proofs.Common.{◌∙◌, rules}
use Rattle.std.proofs.lemmas.Int.{to_z-of_z}
use mir.Val.{SFits}
use mir.Syntax.{w64}
use Rattle.zero_sum.proofs.Ends.{first_is_least}
use Rattle.zero_sum.proofs.range.least.Goals as goal

pub returns : goal.returns
returns c =
    let fits : SFits w64 c.value_at.result = search rules in
    to_z-of_z w64 c.value_at.result fits ∙ first_is_least c.args.domain.now c.value_at.result c.requires c.value_at.ensures
