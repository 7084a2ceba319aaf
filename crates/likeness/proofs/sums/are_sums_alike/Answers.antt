use Rattle.std.proofs.Common.{◌≡◌, ◌∙◌, sym, ap, rules}
use Rattle.std.proofs.lemmas.Int.{to_z-of_z}
use mir.Val.{SFits, to_z, of_z}
use mir.Syntax.{w128}
use Rattle.qc_model.specs.Holds.{arg_value}
use Rattle.likeness.proofs.Seeing.{sums_same}
use Rattle.likeness.proofs.sums.are_sums_alike.Goals as goal

pub returns-in-Some-sum_of : goal.returns-in-Some-sum_of
returns-in-Some-sum_of c =
    let a = c.in-Some.sum in
    let b = c.in-Some-sum_of.other in
    let a_fits : SFits w128 a = search rules in
    let b_fits : SFits w128 b = search rules in
    λ e.
    let bits : of_z w128 a ≡ of_z w128 b = search rules in
    let same : a ≡ b = sym (to_z-of_z w128 a a_fits) ∙ (ap (to_z w128) bits ∙ to_z-of_z w128 b b_fits) in
    sums_same (arg_value c.args.kept.now) (arg_value c.args.here.now) c.args.args.now c.numbers_at-factors.result.now c.items_at-items.result.now a b c.numbers_at-factors.ensures c.items_at-items.ensures c.in-Some.ensures c.in-Some-sum_of.ensures same
