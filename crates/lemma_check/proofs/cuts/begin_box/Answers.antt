use Rattle.std.proofs.Common.{◌≡◌, ◌∙◌, ap, subst, sym, refl, true, List, length}
use Rattle.qc_model.specs.Domains.{has_empty}
use Rattle.box_laws.proofs.Declared.{declared_full, declared_is}
use Rattle.lemma_list.specs.declared.lemma.Literal.{Literal}
use Rattle.lemma_check.specs.Gaps.{are_inside}
use Rattle.lemma_check.specs.Held.{IsHeldOf}
use Rattle.lemma_check.proofs.Held.{follows_held, undone_held, lemma_inside}
use Rattle.lemma_check.proofs.cuts.begin_box.Goals as goal

pub restart-requires : goal.restart-requires
restart-requires c = record { full = ap has_empty c.requires.held.first ∙ declared_full c.args.problem.now c.known.ensures.domains }

pub cut_to-requires-clause-inside : goal.cut_to-requires-clause-inside
cut_to-requires-clause-inside c =
    let g = c.args.problem.now in
    let box = c.restart.new.self.box in
    let inside : are_inside (length box) c.args.lemma.now.literals ≡ true = lemma_inside g c.args.lemma.now box (c.restart.ensures.content ∙ c.requires.held.first) c.requires.lemma in
    subst (λ (ls : List Literal). are_inside (length box) ls ≡ true) (sym c.literals.ensures) inside

pub returns-clause-held : goal.returns-clause-held
returns-clause-held c =
    let g = c.args.problem.now in
    let begun : IsHeldOf g c.restart.new.self =
    undone_held g 0 c.args.remains.now c.restart.new.self c.restart.new.self.box c.requires.held.first c.restart.ensures.past refl
    (declared_is g c.restart.new.self.box c.known.ensures.domains (c.restart.ensures.content ∙ c.requires.held.first)) in
    follows_held g c.restart.new.self c.cut_to.new.remains begun c.cut_to.ensures.past c.cut_to.ensures.fewer
