use Rattle.std.proofs.Common.{◌≡◌, ◌∙◌, sym, ap, rules, Bool, true, not, ◌&&◌}
use Rattle.std.proofs.lemmas.Int.{to_z-of_z}
use mir.Val.{SFits}
use mir.Syntax.{w64}
use Rattle.qc_model.specs.Domains.{values_left, values_within, is_none_left, has_value}
use Rattle.lemma_list.specs.Places.{is_winners}
use Rattle.lemma_check.proofs.Held.{has_single}
use Rattle.lemma_check.proofs.showing.Showing.may_choose.Goals as goal

pub returns-then-is_winners : goal.returns-then-is_winners
returns-then-is_winners c =
    let fits : SFits w64 c.args.v = search rules in
    let aim = c.args.self.now.aim in
    let vs = values_left c.args.remains.now.box c.args.x.0 in
    let found : c.has_within.result ≡ not (is_none_left (values_within c.args.v c.args.v vs)) = simp to_z-of_z at c.has_within.ensures in
    let won : is_winners aim.problem.now aim.lemma.now c.args.x.0 ≡ true = sym c.is_winners.ensures ∙ c.if-is_winners.true in
    found ∙ sym (has_single vs c.args.v) ∙ sym (ap (λ (b : Bool). b && has_value vs c.args.v) won)
