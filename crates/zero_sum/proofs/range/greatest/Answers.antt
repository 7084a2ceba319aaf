use Rattle.std.proofs.Common.{◌∙◌, ◌-◌, ap, rules}
use Rattle.std.proofs.lemmas.Int.{to_z-of_z}
use mir.Val.{SFits}
use mir.Syntax.{w64}
use Rattle.zero_sum.proofs.Ends.{last_is_greatest}
use Rattle.zero_sum.proofs.range.greatest.Goals as goal

pub returns : goal.returns
returns c =
    let fits : SFits w64 c.value_at.result = search rules in
    to_z-of_z w64 c.value_at.result fits ∙ last_is_greatest c.args.domain.now c.value_at.result (c.size.result - 1) c.requires (ap (λ n. n - 1) c.size.ensures) c.value_at.ensures
