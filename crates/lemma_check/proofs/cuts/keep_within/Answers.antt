use Rattle.std.proofs.Common.{◌≡◌, ◌∙◌, ap, rules}
use Rattle.std.proofs.lemmas.Int.{to_z-of_z}
use mir.Val.{SFits}
use mir.Syntax.{w64}
use Rattle.qc_model.specs.Domains.{Box}
use Rattle.lemma_check.specs.Gaps.{kept_up_to, kept_from}
use Rattle.lemma_check.proofs.Held.{both_ends}
use Rattle.lemma_check.proofs.cuts.keep_within.Goals as goal

pub returns-clause-content : goal.returns-clause-content
returns-clause-content c =
    let lo : SFits w64 c.args.lo = search rules in
    let hi : SFits w64 c.args.hi = search rules in
    let x = c.args.x.0 in
    let upper : c.keep_up_to.new.remains.box ≡ kept_up_to c.args.remains.now.box x c.args.hi = simp to_z-of_z at c.keep_up_to.ensures.content in
    let both : c.keep_from.new.remains.box ≡ kept_from c.keep_up_to.new.remains.box x c.args.lo = simp to_z-of_z at c.keep_from.ensures.content in
    both ∙ ap (λ (b : Box). kept_from b x c.args.lo) upper ∙ both_ends c.args.remains.now.box x c.args.lo c.args.hi c.requires
