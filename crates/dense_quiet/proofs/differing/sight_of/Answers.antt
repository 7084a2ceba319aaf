use Rattle.std.proofs.Common.{◌∙◌, subst, ℕ, ℤ, List, [], get_or, arith}
use Rattle.std.proofs.lemmas.List.{get_or_default}
use Rattle.qc_model.specs.Domains.{Values, least_value}
use Rattle.qc_refuter.proofs.Fill.{one_more}
use Rattle.dense_quiet.specs.declared.differing.Ends.{Ends}
use Rattle.dense_quiet.specs.Differing.{StandsFor, HaveEnds, IsQuiet}
use Rattle.dense_quiet.proofs.differing.sight_of.Goals as goal

pub loop-k-preserved : goal.loop-k-preserved
loop-k-preserved c =
    let es = c.args.ends.now in
    let z0 : Ends = record { low = 0; high = 0 } in
    let P : ℕ → Type 0 = λ j. (z : Ends) (ds : List Values) (v : ℤ) → StandsFor (get_or es j z).low v → HaveEnds ds es → IsQuiet ds v in
    record {
      count = c.sight_from.ensures.length ∙ c.loop-k.invariant.count;
      quiet = one_more P c.loop-k.k c.loop-k.invariant.quiet
          (λ z ds v s h. c.in-Quiet.ensures.told ds v (subst (λ (e : Ends). StandsFor e.low v) (get_or_default es c.loop-k.k z z0 (omega (arith, c.loop-k-test.true))) s) h);
    }

pub returns : goal.returns
returns c = λ ds h k l.
    let z0 : Ends = record { low = 0; high = 0 } in
    c.loop-k.invariant.quiet k (omega (arith, c.loop-k-test.false, h.count, l)) z0 ds (least_value (get_or ds k [])) (h.each k z0 l).low h

pub returns-in-Crowded : goal.returns-in-Crowded
returns-in-Crowded c = λ ds h.
    let z0 : Ends = record { low = 0; high = 0 } in
    let k = c.loop-k.k in
    c.in-Crowded.ensures.told ds (least_value (get_or ds k [])) (h.each k z0 (omega (arith, c.loop-k-test.true, h.count))).low h
