use Rattle.dense_close.proofs.Indexed.{grown_more, added_more, place_grown, whole}
use Rattle.dense_close.specs.Index.{has_it}
use Rattle.dense_close.proofs.having.Having.add_rule.Goals as goal

pub add-requires : goal.add-requires
add-requires c = place_grown _ _ c.args.own.now c.loop-x.x-index _ c.loop-x.invariant.grown.count c.loop-x-test.true c.requires

pub loop-x-preserved : goal.loop-x-preserved
loop-x-preserved c =
    let i = c.loop-x.invariant in
    let e = c.in_ok-add.ensures in
    record {
      grown = grown_more c.args.self.now c.loop-x.self c.add.new.self i.grown e.grown;
      added = added_more c.args.own.now c.loop-x.x-index _ c.args.c.0 c.loop-x.self c.add.new.self c.loop-x-test.true e.grown i.added e.added;
    }

pub returns : goal.returns
returns c = record { grown = c.loop-x.invariant.grown; added = whole (has_it c.loop-x.self c.args.c.0) c.args.own.now c.loop-x.x-index c.loop-x-test.false c.loop-x.invariant.added }
