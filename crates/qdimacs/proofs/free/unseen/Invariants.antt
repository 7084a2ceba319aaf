use Rattle.std.proofs.Common.{◌≡◌, ◌-◌, ◌++◌, map, filter, not, suc}
use Rattle.qdimacs.specs.Refusals.{is_known, count_up}
use Rattle.qdimacs.specs.declared.tree.NumberText.{NumberText}
use Rattle.qdimacs.proofs.free.unseen.Given as goal

abbrev pub invariant-loop-i : goal.invariant-loop-i
invariant-loop-i l = map (λ (n : NumberText). n.value) l.numbers ++ filter (λ x. not (is_known l.seen x)) (count_up (suc l.i) (l.most - l.i)) ≡ filter (λ x. not (is_known l.seen x)) (count_up 1 l.most)
