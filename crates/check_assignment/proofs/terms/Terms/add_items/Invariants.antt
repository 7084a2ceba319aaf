use Rattle.std.proofs.Common.{◌≡◌, ℕ, ◌++◌, length, drop}
use Rattle.check_assignment.specs.Terms.{terms_at, item_terms}
use Rattle.check_assignment.proofs.terms.Terms.add_items.Given as goal

abbrev pub invariant-loop-k : goal.invariant-loop-k
invariant-loop-k l = record {
  count : length l.self ≡ length l.initial.self;
  added : (y : ℕ) → terms_at l.self y ++ item_terms l.rule y (drop l.k l.factors) (drop l.k l.items) ≡ terms_at l.initial.self y ++ item_terms l.rule y l.factors l.items;
}
