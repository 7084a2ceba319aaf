use Rattle.std.proofs.Common.{◌≡◌, ◌≤◌, drop, length}
use Rattle.std.specs.Prelude.{max}
use Rattle.lemma_list.specs.Places.{place_of}
use Rattle.lemma_reasons.proofs.places.place_of.Given as goal

abbrev pub invariant-loop-literal : goal.invariant-loop-literal
invariant-loop-literal l = record {
  place : max l.place (place_of l.problem l.lemma.loser (drop l.literal-index l.literal-items)) ≡ place_of l.problem l.lemma.loser l.literal-items;
  within : l.place ≤ length l.problem.scopes;
}
