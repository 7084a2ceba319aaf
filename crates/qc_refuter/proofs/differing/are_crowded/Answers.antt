use Rattle.qc_refuter.specs.Met.{seen}
use Rattle.qc_refuter.proofs.EndsRead.{placed_all, told}
use Rattle.qc_refuter.proofs.differing.are_crowded.Goals as goal

pub are_too_many-requires-clause-placed : goal.are_too_many-requires-clause-placed
are_too_many-requires-clause-placed c =
    placed_all (seen c.args.view.now) c.args.items.now c.read_ends.new.ends c.sort_ends.new.ends c.read_ends.new.lows c.sort_lows.new.lows (record {
      met = c.requires.items;
      many_ends = c.read_ends.ensures.length_ends;
      many_lows = c.read_ends.ensures.length_lows;
      ends_of = c.read_ends.ensures.ends;
      lows_of = c.read_ends.ensures.lows;
      same_ends = c.sort_ends.ensures.same;
      same_lows = c.sort_lows.ensures.same;
    })

pub returns : goal.returns
returns c =
    told (seen c.args.view.now) c.args.items.now c.read_ends.new.ends c.sort_ends.new.ends c.read_ends.new.lows c.sort_lows.new.lows (record {
      met = c.requires.items;
      many_ends = c.read_ends.ensures.length_ends;
      many_lows = c.read_ends.ensures.length_lows;
      ends_of = c.read_ends.ensures.ends;
      lows_of = c.read_ends.ensures.lows;
      same_ends = c.sort_ends.ensures.same;
      same_lows = c.sort_lows.ensures.same;
    }) c.are_too_many.result c.are_too_many.ensures.crowd c.are_too_many.ensures.none
