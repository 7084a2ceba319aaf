use Rattle.std.proofs.Common.{◌≡◌, drop}
use Rattle.std.specs.List.{list_all}
use Rattle.lemma_list.specs.Places.{is_chosen_before}
use Rattle.lemma_reasons.proofs.checked.are_before.Given as goal

abbrev pub invariant-loop-literal : goal.invariant-loop-literal
invariant-loop-literal l = list_all (λ m. is_chosen_before l.problem l.i m.x.0) (drop l.literal-index l.literals) ≡ list_all (λ m. is_chosen_before l.problem l.i m.x.0) l.literals
