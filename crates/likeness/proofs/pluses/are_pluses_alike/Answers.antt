use Rattle.std.proofs.Common.{◌≡◌, ◌∙◌, sym, ap, rules}
use Rattle.std.proofs.lemmas.Int.{to_z-of_z}
use mir.Val.{SFits, to_z, of_z}
use mir.Syntax.{w128}
use Rattle.likeness.proofs.pluses.are_pluses_alike.Goals as goal

pub returns : goal.returns
returns c =
    let a = c.left_over-known.result in
    let b = c.left_over-other.result in
    let a_fits : SFits w128 a = search rules in
    let b_fits : SFits w128 b = search rules in
    λ e.
    let bits : of_z w128 a ≡ of_z w128 b = search rules in
    let same : a ≡ b = sym (to_z-of_z w128 a a_fits) ∙ (ap (to_z w128) bits ∙ to_z-of_z w128 b b_fits) in
    sym c.left_over-known.ensures ∙ (same ∙ c.left_over-other.ensures)
