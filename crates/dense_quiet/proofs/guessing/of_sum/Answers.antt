use Rattle.std.proofs.Common.{sym, ◌∙◌}
use Rattle.dense_quiet.specs.Guessing.{range_kept}
use Rattle.dense_quiet.specs.Quiet.{range_in}
use Rattle.dense_quiet.proofs.Outside.{first_kept, second_kept, sum_kept}
use Rattle.dense_quiet.proofs.guessing.of_sum.Goals as goal

pub returns-then-is_variable : goal.returns-then-is_variable
returns-then-is_variable c = λ sure.
    first_kept c.args.x.0 c.args.a c.args.b c.args.c c.args.store.now.box (range_in c.ends_of-other.result) (range_in c.ends_of-both.result) (range_kept c.difference.result) (sym c.is_variable.ensures ∙ c.if-is_variable.true) c.ends_of-other.ensures c.ends_of-both.ensures c.difference.ensures

pub returns-then-is_variable-2 : goal.returns-then-is_variable-2
returns-then-is_variable-2 c = λ sure.
    second_kept c.args.x.0 c.args.a c.args.b c.args.c c.args.store.now.box (range_in c.ends_of-one.result) (range_in c.ends_of-both.result) (range_kept c.difference-then-is_variable-2.result) (sym c.is_variable-2.ensures ∙ c.if-is_variable-2.true) c.ends_of-one.ensures c.ends_of-both.ensures c.difference-then-is_variable-2.ensures

pub returns : goal.returns
returns c = λ sure.
    sum_kept c.args.x.0 c.args.a c.args.b c.args.c c.args.store.now.box (range_in c.ends_of-one.result) (range_in c.ends_of-other.result) (range_kept c.total.result) (sym c.is_variable-is_sum.ensures ∙ sure) c.ends_of-one.ensures c.ends_of-other.ensures c.total.ensures
