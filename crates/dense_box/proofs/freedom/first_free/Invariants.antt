use Rattle.std.proofs.Common.{◌≡◌, ◌-◌, true, drop, length}
use Rattle.std.specs.List.{list_all}
use Rattle.dense_box.specs.Standing.{is_passed}
use Rattle.dense_box.proofs.freedom.first_free.Given as goal

abbrev pub invariant-loop-back : goal.invariant-loop-back
invariant-loop-back l = list_all is_passed (drop (length l.standings - l.back) l.standings) ≡ true
