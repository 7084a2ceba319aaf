use Rattle.std.proofs.Common.{◌≤ℤ◌, arith}
use Rattle.std.proofs.lemmas.Int.{ints}
use Rattle.fd_interval.proofs.Ends.{meet}
use Rattle.fd_interval.proofs.arithmetic.meets.Goals as goal

pub returns-then-a-b : goal.returns-then-a-b
returns-then-a-b c = (
  λ t. let h : c.args.b.lo ≤ℤ c.args.a.hi = omega (arith, ints) in let k : c.args.a.lo ≤ℤ c.args.b.hi = omega (arith, ints) in meet c.args.a c.args.b k h,
  λ s. grind (arith, ints, s.in_a.to, s.in_b.from),
)
