use Rattle.std.proofs.Common.{◌≡◌, ◌∙◌, ◌&&◌, true, ap, subst}
use Rattle.std.specs.Prelude.{pos}
use Rattle.std.specs.List.{list_any, list_all}
use Rattle.std.proofs.lemmas.Option.{get_or_from_slice_get}
use Rattle.qc_model.specs.Domains.{values_left, is_within}
use Rattle.lemma_list.specs.declared.lemma.Literal.{Literal}
use Rattle.lemma_list.specs.Literals.{meets}
use Rattle.lemma_list.specs.Reasons.{is_met}
use Rattle.lemma_reasons.specs.Answering.{answered_by}
use Rattle.lemma_reasons.proofs.Left.{all_meet_own}
use Rattle.lemma_reasons.proofs.reasons.is_met_at.Goals as goal

pub returns-then-is_met_alone : goal.returns-then-is_met_alone
returns-then-is_met_alone c l e =
    let ls = c.args.literals.now in
    let box = c.args.store.now.box in
    let answers = answered_by c.args.problem.now c.args.answers in
    let same = get_or_from_slice_get ls c.args.k l (record { x = record { 0 = 0 }; lo = pos 0; hi = pos 0 }) e in
    let here = subst (λ (n : Literal). list_all (is_within n.lo n.hi) (values_left box n.x.0) ≡ true) same (c.is_met_alone.ensures c.if-is_met_alone.true) in
    all_meet_own ls c.args.k l (values_left box l.x.0) (answers l.x.0 && list_any (meets ls l.x.0) (values_left box l.x.0)) e here

pub returns : goal.returns
returns c l e =
    let ls = c.args.literals.now in
    let answers = answered_by c.args.problem.now c.args.answers in
    c.is_met.ensures ∙ ap (is_met answers ls c.args.store.now.box) (get_or_from_slice_get ls c.args.k l (record { x = record { 0 = 0 }; lo = pos 0; hi = pos 0 }) e)
