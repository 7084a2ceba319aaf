use Rattle.std.proofs.Common.{◌≡◌, ◌≤◌, ◌*◌, ◌^◌, drop}
use Rattle.std.specs.Prelude.{unsigned_abs}
use Rattle.qc_model.specs.Ranges.{range_of, range_sum}
use Rattle.lemma_list.specs.Sums.{terms_range}
use Rattle.lemma_reasons.specs.Steps.{is_counted}
use Rattle.lemma_reasons.proofs.terms.terms.Given as goal

abbrev pub invariant-loop-k : goal.invariant-loop-k
invariant-loop-k l = record {
  small_from : unsigned_abs l.from ≤ l.k * 10 ^ 21;
  small_to : unsigned_abs l.to ≤ l.k * 10 ^ 21;
  sum : range_sum (range_of l.from l.to) (terms_range (is_counted l.problem l.which.before l.which.but) (drop l.k l.factors) (drop l.k l.items) l.store.box) ≡ terms_range (is_counted l.problem l.which.before l.which.but) l.factors l.items l.store.box;
}
