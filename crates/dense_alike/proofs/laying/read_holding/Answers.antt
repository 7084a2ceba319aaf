use Rattle.std.proofs.Common.{◌∙◌, ◌&&◌, ap, subst, arith, map}
use Rattle.qc_model.specs.Content.{Rule}
use Rattle.qc_model.specs.Domains.{Box, has_empty}
use Rattle.fd_store.specs.Held.{Held}
use Rattle.box_laws.proofs.Declared.{declared_full}
use Rattle.box_laws.proofs.Trails.{past_now}
use Rattle.lemma_list.specs.Entailment.{entailed_by}
use Rattle.likeness.specs.Seeing.{tells}
use Rattle.dense_tree.specs.Alike.{is_from}
use Rattle.dense_alike.specs.Laid.{laid_in, AgreeFrom}
use Rattle.dense_alike.proofs.laying.read_holding.Goals as goal

pub undo_to-requires-clause-full : goal.undo_to-requires-clause-full
undo_to-requires-clause-full c =
    let n = c.mark-mark.result.at in
    ap has_empty (c.lay.ensures.past.boxes n (omega (arith, c.mark-mark.ensures)) ∙ past_now c.args.remains.now n c.mark-mark.ensures)
    ∙ (ap has_empty c.requires.declared ∙ declared_full c.args.problem.now c.known.ensures.domains)

pub returns-clause-holds : goal.returns-clause-holds
returns-clause-holds c =
    let g = c.args.problem.now in
    let is = ap (λ (h : Held). h.box) c.store.ensures ∙ (c.lay.ensures.content ∙ ap (λ (b : Box). laid_in b c.args.values.now) c.requires.declared) in
    subst (λ (b : Box). AgreeFrom c.args.start (map (λ (r : Rule). is_from c.args.i.0 r && tells r && entailed_by r b) g.constraints) c.read_entailed.new.holds) is c.read_entailed.ensures.read
