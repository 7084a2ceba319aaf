use Rattle.std.proofs.Common.{◌≡◌, ◌≤◌, ℕ, List, [], refl, subst, length, drop, arith}
use Rattle.std.specs.Prelude.{nat_le}
use Rattle.std.specs.List.{list_all}
use Rattle.dense_box.specs.declared.freedom.Standing.{Standing}
use Rattle.dense_box.specs.Standing.{is_passed}
use Rattle.dense_box.proofs.Scoped.{one_more, first_freedom}
use Rattle.dense_box.proofs.freedom.Freedom.new.Goals as goal

pub loop-i-preserved : goal.loop-i-preserved
loop-i-preserved c =
    let inv = c.loop-i.invariant in
    let more = one_more c.args.levels.now.problem.now [] c.loop-i.standings.items c.push.new.self.items c.loop-i.i c.standing_of.result c.in_ok-push.ensures.items inv.count inv.each c.standing_of.ensures in
    record { count = more.0; each = more.1 }

pub returns : goal.returns
returns c =
    let g = c.args.levels.now.problem.now in
    let free = subst (λ (ms : List Standing). (k : ℕ) → k ≤ length ms → list_all is_passed (drop k ms) ≡ nat_le c.first_free-free_from.result k) c.as_slice.ensures.value c.first_free-free_from.ensures in
    let many : length c.loop-i.standings.items ≡ length g.scopes = omega (arith, c.loop-i.invariant.count) in
    first_freedom g _ many c.loop-i.invariant.each free refl
