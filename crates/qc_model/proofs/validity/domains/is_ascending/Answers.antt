use Rattle.std.proofs.Common.{◌∙◌, rules}
use Rattle.std.specs.Prelude.{int_lt}
use Rattle.std.proofs.lemmas.List.Sorted.{answers_always}
use Rattle.qc_model.proofs.Adjacent.{adjacent_answer, adjacent_ascends}
use Rattle.qc_model.proofs.validity.domains.is_ascending.Goals as goal

pub returns : goal.returns
returns c =
    adjacent_answer int_lt c.args.numbers.now c.is_sorted_by.result (c.is_sorted_by.ensures.cases int_lt (answers_always _ _ _ (λ f a r g called. search rules)))
    ∙ adjacent_ascends c.args.numbers.now
