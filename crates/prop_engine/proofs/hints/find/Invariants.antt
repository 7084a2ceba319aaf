use Rattle.std.proofs.Common.{◌≡◌, false}
use Rattle.std.specs.Prelude.{IfSome}
use Rattle.prop_engine.specs.Literals.{IsLiteralOf, is_fixed}
use Rattle.prop_engine.proofs.hints.find.Given as goal

abbrev pub invariant-loop-k : goal.invariant-loop-k
invariant-loop-k l = IfSome l.free (λ f. IsLiteralOf l.plain l.negated f × (is_fixed l.store.box f ≡ false))
