use Rattle.std.proofs.Common.{◌∙◌, ◌*ℤ◌}
use Rattle.fd_interval.proofs.ProductSteps.{back_is, back_within, product_fits, four_ordered, lowest_product, highest_product}
use Rattle.fd_interval.proofs.Coded.{back_ordered}
use Rattle.fd_interval.proofs.Products.{product_is_least}
use Rattle.fd_interval.proofs.arithmetic.mul.Goals as goal

pub overflow_mul-lo_lo : goal.overflow_mul-lo_lo
overflow_mul-lo_lo c = product_fits c.args.a.lo c.args.b.lo c.args.a.lo_within c.args.b.lo_within c.requires.lo_lo_within

pub overflow_mul-lo_hi : goal.overflow_mul-lo_hi
overflow_mul-lo_hi c = product_fits c.args.a.lo c.args.b.hi c.args.a.lo_within c.args.b.hi_within c.requires.lo_hi_within

pub overflow_mul-hi_lo : goal.overflow_mul-hi_lo
overflow_mul-hi_lo c = product_fits c.args.a.hi c.args.b.lo c.args.a.hi_within c.args.b.lo_within c.requires.hi_lo_within

pub overflow_mul-hi_hi : goal.overflow_mul-hi_hi
overflow_mul-hi_hi c = product_fits c.args.a.hi c.args.b.hi c.args.a.hi_within c.args.b.hi_within c.requires.hi_hi_within

pub span_of-requires-clause-ordered : goal.span_of-requires-clause-ordered
span_of-requires-clause-ordered c =
    let low = lowest_product c.args.a c.args.b c.min.result c.min-2.result c.min-lo.result c.requires.lo_lo_within c.requires.lo_hi_within c.requires.hi_lo_within c.requires.hi_hi_within
    record { sfits = c.min.type_inv } record { sfits = c.min-2.type_inv } c.min.ensures.value c.min-2.ensures.value c.min-lo.ensures.value in
    let high = highest_product c.args.a c.args.b c.max.result c.max-2.result c.max-hi.result c.requires.lo_lo_within c.requires.lo_hi_within c.requires.hi_lo_within c.requires.hi_hi_within
    record { sfits = c.max.type_inv } record { sfits = c.max-2.type_inv } c.max.ensures.value c.max-2.ensures.value c.max-hi.ensures.value in
    back_ordered c.min-lo.result c.max-hi.result low.0 high.0
    (four_ordered (c.args.a.lo *ℤ c.args.b.lo) (c.args.a.lo *ℤ c.args.b.hi) (c.args.a.hi *ℤ c.args.b.lo) (c.args.a.hi *ℤ c.args.b.hi) c.min-lo.result c.max-hi.result low.1 high.1)

pub span_of-requires-clause-lo_within : goal.span_of-requires-clause-lo_within
span_of-requires-clause-lo_within c =
    let is = lowest_product c.args.a c.args.b c.min.result c.min-2.result c.min-lo.result c.requires.lo_lo_within c.requires.lo_hi_within c.requires.hi_lo_within c.requires.hi_hi_within
    record { sfits = c.min.type_inv } record { sfits = c.min-2.type_inv } c.min.ensures.value c.min-2.ensures.value c.min-lo.ensures.value in
    back_within c.min-lo.result is.0

pub returns-clause-lo : goal.returns-clause-lo
returns-clause-lo c =
    let is = lowest_product c.args.a c.args.b c.min.result c.min-2.result c.min-lo.result c.requires.lo_lo_within c.requires.lo_hi_within c.requires.hi_lo_within c.requires.hi_hi_within
    record { sfits = c.min.type_inv } record { sfits = c.min-2.type_inv } c.min.ensures.value c.min-2.ensures.value c.min-lo.ensures.value in
    c.span_of.ensures.lo ∙ back_is c.min-lo.result is.0 ∙ is.1

pub span_of-requires-clause-hi_within : goal.span_of-requires-clause-hi_within
span_of-requires-clause-hi_within c =
    let is = highest_product c.args.a c.args.b c.max.result c.max-2.result c.max-hi.result c.requires.lo_lo_within c.requires.lo_hi_within c.requires.hi_lo_within c.requires.hi_hi_within
    record { sfits = c.max.type_inv } record { sfits = c.max-2.type_inv } c.max.ensures.value c.max-2.ensures.value c.max-hi.ensures.value in
    back_within c.max-hi.result is.0

pub returns-clause-hi : goal.returns-clause-hi
returns-clause-hi c =
    let is = highest_product c.args.a c.args.b c.max.result c.max-2.result c.max-hi.result c.requires.lo_lo_within c.requires.lo_hi_within c.requires.hi_lo_within c.requires.hi_hi_within
    record { sfits = c.max.type_inv } record { sfits = c.max-2.type_inv } c.max.ensures.value c.max-2.ensures.value c.max-hi.ensures.value in
    c.span_of.ensures.hi ∙ back_is c.max-hi.result is.0 ∙ is.1

pub returns-clause-least : goal.returns-clause-least
returns-clause-least c = product_is_least c.args.a c.args.b c.span_of.result (returns-clause-lo c) (returns-clause-hi c)
