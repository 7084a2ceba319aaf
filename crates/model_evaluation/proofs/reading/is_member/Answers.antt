use Rattle.std.proofs.Common.{ap, ◌∙◌}
use Rattle.std.proofs.lemmas.Int.{to_z-of_z}
use mir.Syntax.{w64}
use Rattle.qc_model.specs.Domains.{set_has}
use Rattle.model_evaluation.proofs.Valued.{set_written, no_set_written, set_is_valid}
use Rattle.model_evaluation.proofs.reading.is_member.Goals as goal

pub contains-requires : goal.contains-requires
contains-requires c = set_is_valid c.args.values.now c.args.args.now c.args.place c.in-Some.set.now c.requires c.in-Some.ensures

pub returns-in-Some : goal.returns-in-Some
returns-in-Some c =
    c.contains.ensures
    ∙ ap (set_has c.in-Some.set.now) (to_z-of_z w64 c.args.number c.ranges.number)
    ∙ ap (λ s. set_has s c.args.number) (set_written c.args.values.now c.args.args.now c.args.place c.in-Some.set.now c.in-Some.ensures)

pub returns-in-None : goal.returns-in-None
returns-in-None c = ap (λ s. set_has s c.args.number) (no_set_written c.args.values.now c.args.args.now c.args.place c.in-None.ensures)
