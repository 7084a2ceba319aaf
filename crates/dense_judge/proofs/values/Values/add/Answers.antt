use Rattle.std.proofs.Common.{rules, SFits, sym, ◌∙◌, w64, arith}
use Rattle.std.proofs.lemmas.Int.{to_z-of_z}
use Rattle.dense_judge.proofs.Added.{added, full}
use Rattle.dense_judge.proofs.values.Values.add.Goals as goal

pub returns-then-self-lt-MOST : goal.returns-then-self-lt-MOST
returns-then-self-lt-MOST c = λ t h.
    let fits : SFits w64 c.args.value = search rules in
    added c.self.inside.room.items c.self.inside.count c.args.value _ (to_z-of_z w64 c.args.value fits) c.self.invariant.0 (omega (arith, c.if-self-lt-MOST.true)) t (c.self.view_is ∙ h)

pub returns-else-self-lt-MOST : goal.returns-else-self-lt-MOST
returns-else-self-lt-MOST c = λ t h.
    sym c.self.view_is ∙ full c.self.inside.room.items c.self.inside.count c.args.value c.self.invariant.0 c.self.invariant.1 (λ lt. omega (arith, c.if-self-lt-MOST.false, lt)) t (c.self.view_is ∙ h)
