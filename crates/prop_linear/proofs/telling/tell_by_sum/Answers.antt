use Rattle.std.proofs.Common.{◌≡◌, ◌∙◌, Bool, true, false, refl, ap, subst, rules}
use Rattle.std.specs.List.{list_all}
use Rattle.std.proofs.lemmas.Int.{to_z-of_z}
use mir.Val.{SFits}
use mir.Syntax.{w64, w128}
use Rattle.qc_model.specs.Domains.{box_at}
use Rattle.qc_model.specs.Ranges.{range_of}
use Rattle.qc_model.specs.Refuted.{refuted_by}
use Rattle.model_arguments.specs.Written.{args_at, ints_at}
use Rattle.qc_refuter.specs.Met.{is_open}
use Rattle.prop_compare.specs.Telling.{truth_of}
use Rattle.prop_compare.specs.Untold.{RefutesNone}
use Rattle.prop_compare.proofs.Settled.{place, untold_keeps}
use Rattle.prop_linear.specs.Demands.{demand_of, is_missed}
use Rattle.prop_linear.proofs.Missed.{read_missed}
use Rattle.prop_linear.proofs.Shapes.{told_linear, sum_open}
use Rattle.prop_linear.proofs.Told.{told_none}
use Rattle.prop_linear.proofs.telling.tell_by_sum.Goals as goal

pub sum_extent-sum-requires-clause-items : goal.sum_extent-sum-requires-clause-items
sum_extent-sum-requires-clause-items c =
    let r = c.args.asked.rule.now in
    let box = c.args.store.now.box in
    let xs = c.items_at.ensures ∙ ap (λ a. args_at a 1) c.arguments-args.ensures in
    ap (list_all (is_open box)) xs ∙ sum_open c.args.asked.problem.now r box c.known.ensures.domains c.requires.fits (told_linear r.pred c.args.relation c.requires.pred)

pub tell_other-requires-clause-refuted : goal.tell_other-requires-clause-refuted
tell_other-requires-clause-refuted c =
    let r = c.args.asked.rule.now in
    let box = c.args.store.now.box in
    let sum = c.sum_extent-sum.result in
    let n_fits : SFits w64 c.args.bound = search rules in
    let from_fits : SFits w128 sum.from = search rules in
    let to_fits : SFits w128 sum.to = search rules in
    let ns = c.numbers_at.ensures ∙ ap (λ a. ints_at a 0) c.arguments-args.ensures in
    let xs = c.items_at.ensures ∙ ap (λ a. args_at a 1) c.arguments-args.ensures in
    let value = c.sum_extent-sum.ensures.value in
    let missed = simp to_z-of_z at c.in-Some.ensures.some in
    read_missed c.args.asked.problem.now.variables r box c.args.x c.args.bound c.args.relation c.in-Some.told c.numbers_at.result.now c.items_at.result.now (range_of sum.from sum.to) c.requires.fits.rule c.requires.pred c.requires.last c.requires.number (place box c.args.x.0 c.requires.both) ns xs value
    ∙ missed

pub returns-in-None-clause-open : goal.returns-in-None-clause-open
returns-in-None-clause-open c =
    let r = c.args.asked.rule.now in
    let box = c.args.store.now.box in
    let x = c.args.x in
    let sum = c.sum_extent-sum.result in
    let n_fits : SFits w64 c.args.bound = search rules in
    let from_fits : SFits w128 sum.from = search rules in
    let to_fits : SFits w128 sum.to = search rules in
    let ns = c.numbers_at.ensures ∙ ap (λ a. ints_at a 0) c.arguments-args.ensures in
    let xs = c.items_at.ensures ∙ ap (λ a. args_at a 1) c.arguments-args.ensures in
    let value = c.sum_extent-sum.ensures.value in
    let holds = simp to_z-of_z at c.in-None.ensures.holds in
    let fails = simp to_z-of_z at c.in-None.ensures.fails in
    let told : (t : Bool) → refuted_by r (box_at box x.0 (truth_of t)) ≡ is_missed (demand_of c.args.relation t) (range_of sum.from sum.to) c.args.bound = λ t. read_missed c.args.asked.problem.now.variables r box x c.args.bound c.args.relation t c.numbers_at.result.now c.items_at.result.now (range_of sum.from sum.to) c.requires.fits.rule c.requires.pred c.requires.last c.requires.number (place box x.0 c.requires.both) ns xs value in
    let none = subst (RefutesNone r box) c.requires.last (told_none r box c.args.relation c.requires.pred) in
    λ e. (refl, untold_keeps r box x c.requires.fits.full c.requires.both none (told true ∙ holds) (told false ∙ fails))
