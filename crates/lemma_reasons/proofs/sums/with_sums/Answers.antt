use Rattle.std.proofs.Common.{◌-◌, arith}
use Rattle.std.specs.Prelude.{pos}
use Rattle.qc_model.specs.Ranges.{range_of}
use Rattle.lemma_reasons.proofs.Adding.{with_start, with_step}
use Rattle.lemma_reasons.proofs.sums.with_sums.Goals as goal

pub loop-n-preserved : goal.loop-n-preserved
loop-n-preserved c =
    let n = c.loop-n.n - 1 in
    let inside = c.loop-n.invariant.within in
    record {
      within = omega (arith, inside);
      known = with_step c.args.given.sums.now n c.loop-n.n (record { c = record { 0 = 0 }; lo = pos 0; hi = pos 0 }) c.args.given.c.0 (range_of c.args.beyond.from c.args.beyond.to) (range_of c.args.known.from c.args.known.to) (range_of c.loop-n.known.from c.loop-n.known.to) (range_of c.with_own-known.result.from c.with_own-known.result.to) (omega (arith, inside)) (omega arith) c.loop-n.invariant.known c.with_own-known.ensures.value;
    }

pub loop-n-init : goal.loop-n-init
loop-n-init c = record {
  within = omega arith;
  known = with_start c.args.given.sums.now c.args.given.c.0 (range_of c.args.beyond.from c.args.beyond.to) (range_of c.args.known.from c.args.known.to);
}
