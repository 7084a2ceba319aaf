use Rattle.std.proofs.Common.{◌≡◌, ◌<◌, ◌++◌, [], ◌∷◌, arith, rules}
use Rattle.std.specs.Prelude.{pos}
use Rattle.model_generated.specs.Links.{demand}
use Rattle.model_generated.proofs.Counted.{map_step}
use Rattle.model_generated.proofs.figures.demands.Goals as goal

pub loop-customer-preserved : goal.loop-customer-preserved
loop-customer-preserved c =
    let below : c.loop-customer.customer < 13 = omega arith in
    let is : c.push.new.self ≡ c.loop-customer.numbers ++ pos (demand c.args.n c.loop-customer.customer) ∷ [] = search rules in
    rw is (map_step (λ k. pos (demand c.args.n k)) c.loop-customer.customer 13 c.loop-customer.numbers _ below c.loop-customer.invariant)
