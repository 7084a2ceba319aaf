use Rattle.std.proofs.Common.{◌≡◌, ◌∙◌, refl, ◌<◌, List, [], ◌∷◌, length, Option, arith}
use Rattle.qc_model.specs.Domains.{Box}
use Rattle.lemma_list.specs.declared.lemma.Literal.{Literal}
use Rattle.lemma_check.specs.Gaps.{without_gaps}
use Rattle.lemma_check.proofs.Gapped.{gaps_cut}
use Rattle.lemma_check.proofs.cuts.cut_to.Goals as goal

none_left : (before : Option Literal) (ls : List Literal) (box : Box) → length ls < 1 → without_gaps before [] box ≡ without_gaps before ls box
none_left before [] box h = refl
none_left before (l ∷ ls) box h = absurd (omega arith)

pub returns-clause-content : goal.returns-clause-content
returns-clause-content c =
    let loop = c.loop-rest in
    c.cut_after.ensures.content ∙ none_left loop.before loop.rest.now loop.remains.box c.in_default.len_below ∙ loop.invariant.content ∙ gaps_cut c.args.literals.now c.args.remains.now.box c.requires.order
