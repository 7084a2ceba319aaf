use mir.Syntax.{w128}
use Rattle.std.proofs.Common.{arith, ◌≡◌, ◌∙◌, pos, ap, subst, sym, ◌≤◌, ◌≤ℤ◌, unsigned_abs}
use Rattle.std.specs.Int.{int_min, int_max}
use Rattle.std.proofs.lemmas.Int.{ints, clamps, to_z-of_z}
use Rattle.fd_interval.proofs.Coded.{upper_near}
use Rattle.fd_interval.proofs.Remainders.{upper_is}
use Rattle.fd_interval.proofs.division.greatest_remainder.Goals as goal

pub returns-clause-value : goal.returns-clause-value
returns-clause-value c =
    let first : c.max.result ≡ int_max c.args.hi (pos 0) = omega (arith, ints, clamps) in
    let second : c.min.result ≡ int_min c.max.result c.args.far = omega (arith, ints, clamps) in
    to_z-of_z w128 c.min.result record { sfits = c.min.type_inv } ∙ upper_is c.args.hi c.args.far c.min.result c.requires (second ∙ ap (λ n. int_min n c.args.far) first)

pub returns-clause-smaller : goal.returns-clause-smaller
returns-clause-smaller c =
    let first : c.max.result ≡ int_max c.args.hi (pos 0) = omega (arith, ints, clamps) in
    let second : c.min.result ≡ int_min c.max.result c.args.far = omega (arith, ints, clamps) in
    let near = upper_near c.args.hi c.args.far c.min.result c.requires (second ∙ ap (λ n. int_min n c.args.far) first) in
    let back = to_z-of_z w128 c.min.result record { sfits = c.min.type_inv } in
    subst (λ n. unsigned_abs n ≤ unsigned_abs c.args.hi) (sym back) near.0

pub returns-clause-not_negative : goal.returns-clause-not_negative
returns-clause-not_negative c =
    let first : c.max.result ≡ int_max c.args.hi (pos 0) = omega (arith, ints, clamps) in
    let second : c.min.result ≡ int_min c.max.result c.args.far = omega (arith, ints, clamps) in
    let near = upper_near c.args.hi c.args.far c.min.result c.requires (second ∙ ap (λ n. int_min n c.args.far) first) in
    let back = to_z-of_z w128 c.min.result record { sfits = c.min.type_inv } in
    subst (λ n. pos 0 ≤ℤ n) (sym back) near.1
