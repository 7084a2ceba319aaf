use Rattle.std.proofs.Common.{subst, refl, map, ℤ}
use Rattle.qc_model.specs.Refuted.{left_to}
use Rattle.prop_different.specs.Quiet.{IsQuiet}
use Rattle.prop_different.proofs.rounds.take_turn.Goals as goal

pub returns-then-begins_before-clause-answer : goal.returns-then-begins_before-clause-answer
returns-then-begins_before-clause-answer c =
    let ds = map (left_to c.args.store.now.box) c.args.items.now in
    let q = c.begins_before.ensures c.if-begins_before.true in
    let P : ℤ → Type 0 = λ l. IsQuiet ds l in
    (refl, refl, λ before. subst P q.2 (before q.0 q.1))
