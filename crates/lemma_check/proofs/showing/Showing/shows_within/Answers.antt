use Rattle.std.proofs.Common.{◌≡◌, ◌∙◌, sym, ap, subst, rules, ℕ, Bool, false}
use Rattle.std.proofs.lemmas.Int.{to_z-of_z}
use mir.Val.{SFits}
use mir.Syntax.{w64}
use Rattle.qc_model.specs.Domains.{Box, values_left, values_within, has_empty, box_within, declared_box}
use Rattle.model_arguments.proofs.Boxes.{set_full}
use Rattle.fd_store.specs.Held.{Held}
use Rattle.lemma_list.specs.Places.{is_answer}
use Rattle.lemma_list.specs.Reasons.{reason_shows}
use Rattle.lemma_reasons.specs.Asked.{IsFullBox}
use Rattle.lemma_check.proofs.showing.Showing.shows_within.Goals as goal

pub reason_shows-shown-requires : goal.reason_shows-shown-requires
reason_shows-shown-requires c =
    let lo : SFits w64 c.args.lo = search rules in
    let hi : SFits w64 c.args.hi = search rules in
    let g = c.args.self.now.aim.problem.now in
    let box = c.args.remains.now.box in
    let x = c.args.x.0 in
    let kept : c.keep_within.new.remains.box ≡ box_within box x c.args.lo c.args.hi = simp to_z-of_z at c.keep_within.ensures.content in
    let full : has_empty c.keep_within.new.remains.box ≡ false = ap has_empty kept ∙ set_full box x (values_within c.args.lo c.args.hi (values_left box x)) c.requires.full c.requires.some in
    let left : IsFullBox g c.keep_within.new.remains.box = record { declared = c.keep_within.ensures.fewer (declared_box g) c.requires.held.declared; full = full } in
    subst (λ (h : Held). IsFullBox g h.box) (sym c.store.ensures) left

pub returns-clause-shown : goal.returns-clause-shown
returns-clause-shown c =
    let lo : SFits w64 c.args.lo = search rules in
    let hi : SFits w64 c.args.hi = search rules in
    let s = c.args.self.now in
    let g = s.aim.problem.now in
    let m = s.aim.lemma.now in
    let box = c.args.remains.now.box in
    let x = c.args.x.0 in
    let kept : c.keep_within.new.remains.box ≡ box_within box x c.args.lo c.args.hi = simp to_z-of_z at c.keep_within.ensures.content in
    let here : c.store.result.now.box ≡ box_within box x c.args.lo c.args.hi = ap (λ (h : Held). h.box) c.store.ensures ∙ kept in
    c.reason_shows-shown.ensures ∙ ap (λ (f : ℕ → Bool). reason_shows g s.known.now m f c.store.result.now.box c.args.by) c.answers_to-answers.ensures
    ∙ ap (λ (b : Box). reason_shows g s.known.now m (is_answer g m x) b c.args.by) here
