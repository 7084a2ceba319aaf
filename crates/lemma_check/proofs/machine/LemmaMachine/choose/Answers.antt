use Rattle.std.proofs.Common.{◌≡◌, ◌∙◌, sym, ap, rules, true}
use Rattle.std.proofs.lemmas.Int.{to_z-of_z}
use mir.Val.{SFits}
use mir.Syntax.{w64}
use Rattle.qc_model.specs.Domains.{box_within, values_left, has_value, declared_box}
use Rattle.qc_model.proofs.Conjunctions.{second}
use Rattle.lemma_list.specs.declared.lemma.Step.TheVariants.{Choose}
use Rattle.lemma_list.specs.Places.{is_winners}
use Rattle.lemma_list.specs.Reasons.{Known}
use Rattle.lemma_list.specs.InPlace.{may_step}
use Rattle.lemma_check.specs.declared.machine.Stage.{Stage}
use Rattle.lemma_check.specs.Machine.{game_of, book_at}
use Rattle.lemma_check.proofs.Held.{taken_box}
use Rattle.lemma_check.proofs.Taken.{step_taken}
use Rattle.lemma_check.proofs.machine.LemmaMachine.choose.Goals as goal

pub returns-clause-book : goal.returns-clause-book
returns-clause-book c =
    let fits : SFits w64 c.args.v = search rules in
    let m = c.args.self.now in
    let g = game_of m in
    let x = c.args.x in
    let v = c.args.v in
    let box = m.remains.box in
    let may : c.may_choose.result ≡ may_step g c.as_slice.result.now m.lemma (Choose x v) m.passed box = simp to_z-of_z at c.may_choose.ensures in
    let step : true ≡ may_step g m.known.items m.lemma (Choose x v) m.passed box =
    sym c.if-not-may_choose.false ∙ may ∙ ap (λ (known : Known). may_step g known m.lemma (Choose x v) m.passed box) c.as_slice.ensures.value in
    let has : has_value (values_left box x.0) v ≡ true = second (is_winners g m.lemma x.0) (has_value (values_left box x.0) v) (sym step) in
    let kept : c.keep_within.new.remains.box ≡ box_within box x.0 v v = simp to_z-of_z at c.keep_within.ensures.content in
    ap (λ (st : Stage). book_at st (record m { remains = c.keep_within.new.remains })) c.requires.closing
    ∙ step_taken m (Choose x v) c.keep_within.new.remains.box c.requires.closing c.requires.full step (kept ∙ taken_box box x.0 v (declared_box g) c.requires.ready.held.declared has)
