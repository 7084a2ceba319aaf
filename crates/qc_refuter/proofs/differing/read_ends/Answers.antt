use Rattle.std.proofs.Common.{◌<◌, length, subst, sym, ◌∙◌, arith}
use Rattle.qc_model.specs.declared.problem.Arg.TheVariants.{Var}
use Rattle.qc_refuter.specs.Met.{seen}
use Rattle.qc_refuter.proofs.Terms.{open_at}
use Rattle.qc_refuter.proofs.EndsRead.{ends_more, lows_more}
use Rattle.qc_refuter.proofs.differing.read_ends.Goals as goal

pub ends_of-item-requires : goal.ends_of-item-requires
ends_of-item-requires c = open_at (seen c.args.view.now) c.args.items.now c.loop-k.k (Var (record { 0 = 0 })) c.loop-k-test.true c.requires.items

pub loop-k-preserved : goal.loop-k-preserved
loop-k-preserved c =
    let ends : c.loop-k.k < length c.loop-k.ends = subst (λ n. c.loop-k.k < n) (sym (c.loop-k.auto.ends ∙ c.requires.ends)) c.loop-k-test.true in
    let lows : c.loop-k.k < length c.loop-k.lows = subst (λ n. c.loop-k.k < n) (sym (c.loop-k.auto.lows ∙ c.requires.lows)) c.loop-k-test.true in
    record {
      ends = ends_more (seen c.args.view.now) c.args.items.now c.loop-k.ends c.loop-k.k c.ends_of-item.result c.loop-k-test.true ends c.ends_of-item.ensures c.loop-k.invariant.ends;
      lows = lows_more c.loop-k.ends c.loop-k.lows c.loop-k.k c.ends_of-item.result ends lows c.loop-k.invariant.lows;
    }

pub loop-k-init : goal.loop-k-init
loop-k-init c = record {
  ends = λ j e h. absurd (omega (arith, h));
  lows = λ j e h. absurd (omega (arith, h));
}

pub returns-clause-ends : goal.returns-clause-ends
returns-clause-ends c k e h = c.loop-k.invariant.ends k e (omega (arith, h, c.loop-k-test.false))

pub returns-clause-lows : goal.returns-clause-lows
returns-clause-lows c k e h = c.loop-k.invariant.lows k e (omega (arith, h, c.loop-k-test.false))
