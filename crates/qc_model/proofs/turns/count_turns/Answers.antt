use Rattle.std.proofs.Common.{◌∙◌, IsTrue, subst, sym, arith}
use Rattle.std.proofs.lemmas.List.{at_drop_all}
use Rattle.qc_model.specs.Turns.{value_product}
use Rattle.qc_model.specs.Valid.{is_domain}
use Rattle.qc_model.proofs.SizeProducts.{domain_at, product_next}
use Rattle.qc_model.proofs.turns.count_turns.Goals as goal

pub size-requires : goal.size-requires
size-requires c =
    subst (λ x. IsTrue (is_domain x.domain)) (sym c.x-item.is)
    (domain_at c.args.variables.now c.loop-x.x-index c.x-item.result c.loop-x-test.true c.requires.domains)

pub loop-x-preserved : goal.loop-x-preserved
loop-x-preserved c = record {
  within = omega (arith, c.times_size-turns.ensures);
  product =
      product_next c.args.variables.now c.loop-x.x-index c.loop-x.turns c.x-item.result c.size.result c.times_size-turns.result c.loop-x-test.true c.requires.domains c.x-item.is c.size.ensures c.times_size-turns.ensures
      ∙ c.loop-x.invariant.product;
}

pub returns : goal.returns
returns c =
    let end = at_drop_all value_product c.args.variables.now c.loop-x.x-index c.loop-x-test.false in
    omega (arith, c.loop-x.invariant.product, c.loop-x.invariant.within, rw end at c.loop-x.invariant.product)
