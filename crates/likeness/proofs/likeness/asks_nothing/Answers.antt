use Rattle.std.proofs.Common.{◌∙◌, ap, sym, drop, add-one}
use Rattle.likeness.specs.Likeness.{ask_nothing}
use Rattle.likeness.proofs.Plain.{none_goes_on}
use Rattle.likeness.proofs.likeness.asks_nothing.Goals as goal

pub loop-i-preserved : goal.loop-i-preserved
loop-i-preserved c =
    let ss = c.args.problem.now.scopes in
    ap (λ n. ask_nothing (drop n ss)) (add-one c.loop-i.i) ∙ (none_goes_on ss c.loop-i.i c.scope.result.now c.scope.ensures (sym c.is_some.ensures ∙ c.if-is_some.false) ∙ c.loop-i.invariant)
