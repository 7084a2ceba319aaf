use Rattle.std.proofs.Common.{◌∙◌, arith}
use Rattle.std.proofs.lemmas.Int.{ints}
use Rattle.check_assignment.proofs.Shape.{sum_shape}
use Rattle.check_assignment.proofs.Zeros.{total_first, values_small}
use Rattle.check_assignment.proofs.begin.first_total.Goals as goal

pub first_sum-requires : goal.first_sum-requires
first_sum-requires c =
    let s = sum_shape c.args.problem.now.variables c.args.rule.now c.requires.constraint (λ e. c.in_default.not-Other (c.requires.test ∙ e)) in
    record {
      few = rw (c.items_at.ensures, c.arguments-args.ensures, s.args) s.few;
      factors = rw (c.numbers_at.ensures, c.arguments-args.ensures, s.args) s.numbers;
      values = rw (c.items_at.ensures, c.arguments-args.ensures, s.args) (values_small s.items s.literals);
    }

pub returns-in_default : goal.returns-in_default
returns-in_default c =
    total_first c.args.test c.args.rule.now c.first_sum.result c.first_value.result _ c.in_default.not-Other
    (rw (← c.arguments-args.ensures, ← c.items_at.ensures, ← c.numbers_at.ensures) c.first_sum.ensures.value)
    (rw (← c.arguments-args.ensures, ← c.one_at.ensures) c.first_value.ensures)
    (omega (arith, ints))
