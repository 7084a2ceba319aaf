use Rattle.std.proofs.Common.{◌≡◌, ℕ, ◌<◌, false, leb, leb-true, arith, rules}
use Rattle.std.proofs.lemmas.Bool.Decides.{nat_tests}
use Rattle.std.proofs.lemmas.List.Sorted.{IsPartitionPoint-from_clause, IsPartitionedBy-leb}
use Rattle.qc_refuter.proofs.stretches.count_upto.Goals as goal

not_leb : (a b : ℕ) → leb a b ≡ false → b < a
not_leb a b e = grind (arith, nat_tests)

pub returns-clause-upto : goal.returns-clause-upto
returns-clause-upto c k h =
    let parted = IsPartitionedBy-leb (λ (low : ℕ). low) c.args.lows.now c.args.low c.requires in
    let point = IsPartitionPoint-from_clause (λ low. leb low c.args.low) _ _ c.partition_point.ensures.partitioned parted (λ a r q k. search rules) in
    leb-true _ _ (point.0 k 0 (omega (arith, h, c.partition_point.ensures.bound)) h)

pub returns-clause-above : goal.returns-clause-above
returns-clause-above c k m h =
    let parted = IsPartitionedBy-leb (λ (low : ℕ). low) c.args.lows.now c.args.low c.requires in
    let point = IsPartitionPoint-from_clause (λ low. leb low c.args.low) _ _ c.partition_point.ensures.partitioned parted (λ a r q k. search rules) in
    not_leb _ _ (point.1 k 0 m h)
