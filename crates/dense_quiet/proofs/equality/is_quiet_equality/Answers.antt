use Rattle.std.proofs.Common.{rules, ◌≡◌, ap, sym, ◌∙◌, subst}
use Rattle.std.proofs.lemmas.Bool.{eqb-true}
use Rattle.std.proofs.lemmas.Int.{to_z-of_z}
use mir.Val.{SFits, to_z}
use mir.Syntax.{w64}
use Rattle.qc_model.specs.Domains.{misses, least_value, greatest_value}
use Rattle.qc_model.specs.Ranges.{Range}
use Rattle.qc_model.specs.Refuted.{left_to}
use Rattle.model_arguments.specs.Written.{arg_at}
use Rattle.dense_quiet.specs.Quiet.{SparesTwo}
use Rattle.dense_quiet.proofs.Shared.{equal_spares}
use Rattle.dense_quiet.proofs.equality.is_quiet_equality.Goals as goal

pub returns : goal.returns
returns c = λ h ok.
    let args = c.args.args.now in
    let box = c.args.store.now.box in
    let x = c.arg_met-x.result in
    let y = c.arg_met-y.result in
    let a = c.ends_of-a.result in
    let b = c.ends_of-b.result in
    let al_fits : SFits w64 a.least = search rules in
    let ag_fits : SFits w64 a.greatest = search rules in
    let bl_fits : SFits w64 b.least = search rules in
    let bg_fits : SFits w64 b.greatest = search rules in
    let low : a.least ≡ b.least = sym (to_z-of_z w64 a.least al_fits) ∙ (ap (to_z w64) c.if-a-b.false ∙ to_z-of_z w64 b.least bl_fits) in
    let high : a.greatest ≡ b.greatest = sym (to_z-of_z w64 a.greatest ag_fits) ∙ (ap (to_z w64) (eqb-true _ _ h) ∙ to_z-of_z w64 b.greatest bg_fits) in
    let least : least_value (left_to box x) ≡ least_value (left_to box y) = sym (ap (λ (r : Range). r.from) c.ends_of-a.ensures) ∙ (low ∙ ap (λ (r : Range). r.from) c.ends_of-b.ensures) in
    let greatest : greatest_value (left_to box x) ≡ greatest_value (left_to box y) = sym (ap (λ (r : Range). r.to) c.ends_of-a.ensures) ∙ (high ∙ ap (λ (r : Range). r.to) c.ends_of-b.ensures) in
    subst (λ x. SparesTwo misses ok x (arg_at args 1) box) c.arg_met-x.ensures.is
    (subst (λ y. SparesTwo misses ok x y box) c.arg_met-y.ensures.is (equal_spares ok x y box c.arg_met-x.ensures.«open» c.arg_met-y.ensures.«open» least greatest))
