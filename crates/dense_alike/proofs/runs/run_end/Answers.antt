use Rattle.std.proofs.Common.{◌≡◌, sym, subst, rules, true, ℤ}
use Rattle.std.proofs.lemmas.Int.{to_z-of_z}
use mir.Val.{SFits}
use mir.Syntax.{w64}
use Rattle.qc_model.specs.Domains.{values_left, greatest_value}
use Rattle.qc_model.specs.Valid.{is_number}
use Rattle.model_arguments.proofs.Kept.{high_end, some_of}
use Rattle.model_arguments.proofs.Values.{has_greatest, value_passes}
use Rattle.qc_model.specs.Valid.{is_range}
use Rattle.dense_alike.proofs.Filled.{begins_to, to_itself}
use Rattle.dense_alike.proofs.InARow.{Begins, range_is}
use Rattle.dense_alike.proofs.runs.run_end.Goals as goal

pub returns-then-is_row-clause-range : goal.returns-then-is_row-clause-range
returns-then-is_row-clause-range c =
    let d = values_left c.args.store.now.box c.args.x.0 in
    let v = c.args.v in
    let fits : SFits w64 c.max.result = search rules in
    let numbers = c.known.ensures.numbers in
    let range : is_range v (greatest_value d) ≡ true = range_is v (greatest_value d) (value_passes is_number d v numbers c.requires.there) (value_passes is_number d (greatest_value d) numbers (has_greatest d (some_of d v c.requires.there))) (high_end d v c.requires.there) in
    simp to_z-of_z (subst (λ (g : ℤ). is_range v g ≡ true) (sym c.max.ensures) range)

pub returns-then-is_row-clause-run : goal.returns-then-is_row-clause-run
returns-then-is_row-clause-run c =
    let d = values_left c.args.store.now.box c.args.x.0 in
    let v = c.args.v in
    let fits : SFits w64 c.max.result = search rules in
    simp to_z-of_z
    (subst (λ (g : ℤ). Begins d v g) (sym c.max.ensures) (begins_to d v (greatest_value d) c.known.ensures.ascending (c.is_row.ensures c.if-is_row.true) c.requires.there (high_end d v c.requires.there) (to_itself (greatest_value d))))
