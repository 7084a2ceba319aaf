use mir.Syntax.{w128}
use Rattle.std.proofs.Common.{arith, ◌≡◌, ◌∙◌, neg_ℤ, pos, ap, subst, sym, ◌≤◌, ◌≤ℤ◌, unsigned_abs}
use Rattle.std.specs.Int.{int_min, int_max}
use Rattle.std.proofs.lemmas.Int.{ints, clamps, to_z-of_z}
use Rattle.fd_interval.proofs.Coded.{lower_near}
use Rattle.fd_interval.proofs.Remainders.{lower_is}
use Rattle.fd_interval.proofs.division.least_remainder.Goals as goal

pub returns-clause-value : goal.returns-clause-value
returns-clause-value c =
    let first : c.min.result ≡ int_min c.args.lo (pos 0) = omega (arith, ints, clamps) in
    let second : c.max.result ≡ int_max c.min.result (neg_ℤ c.args.far) = omega (arith, ints, clamps) in
    to_z-of_z w128 c.max.result record { sfits = c.max.type_inv } ∙ lower_is c.args.lo c.args.far c.max.result c.requires (second ∙ ap (λ n. int_max n (neg_ℤ c.args.far)) first)

pub returns-clause-smaller : goal.returns-clause-smaller
returns-clause-smaller c =
    let first : c.min.result ≡ int_min c.args.lo (pos 0) = omega (arith, ints, clamps) in
    let second : c.max.result ≡ int_max c.min.result (neg_ℤ c.args.far) = omega (arith, ints, clamps) in
    let near = lower_near c.args.lo c.args.far c.max.result c.requires (second ∙ ap (λ n. int_max n (neg_ℤ c.args.far)) first) in
    let back = to_z-of_z w128 c.max.result record { sfits = c.max.type_inv } in
    subst (λ n. unsigned_abs n ≤ unsigned_abs c.args.lo) (sym back) near.0

pub returns-clause-not_positive : goal.returns-clause-not_positive
returns-clause-not_positive c =
    let first : c.min.result ≡ int_min c.args.lo (pos 0) = omega (arith, ints, clamps) in
    let second : c.max.result ≡ int_max c.min.result (neg_ℤ c.args.far) = omega (arith, ints, clamps) in
    let near = lower_near c.args.lo c.args.far c.max.result c.requires (second ∙ ap (λ n. int_max n (neg_ℤ c.args.far)) first) in
    let back = to_z-of_z w128 c.max.result record { sfits = c.max.type_inv } in
    subst (λ n. n ≤ℤ pos 0) (sym back) near.1
