use Rattle.std.proofs.Common.{◌≡◌, ◌∙◌, rules, pos, ◌+ℤ◌, ◌-ℤ◌}
use Rattle.std.proofs.lemmas.Int.{to_z-of_z}
use mir.Val.{SFits}
use mir.Syntax.{w64}
use Rattle.qc_model.specs.Domains.{box_without}
use Rattle.lemma_check.proofs.Narrowing.{cut_between}
use Rattle.lemma_check.proofs.cuts.cut_gap.Goals as goal

pub returns-clause-content : goal.returns-clause-content
returns-clause-content c =
    let hi : SFits w64 c.args.hi = search rules in
    let lo : SFits w64 c.args.lo = search rules in
    let after : SFits w64 (c.args.hi +ℤ pos 1) = search rules in
    let before : SFits w64 (c.args.lo -ℤ pos 1) = search rules in
    let content : c.cut.new.self.box ≡ box_without c.args.remains.now.box c.args.x.0 (c.args.hi +ℤ pos 1) (c.args.lo -ℤ pos 1) = simp to_z-of_z at c.cut.ensures.content in
    content ∙ cut_between c.args.remains.now.box c.args.x.0 c.args.hi c.args.lo
