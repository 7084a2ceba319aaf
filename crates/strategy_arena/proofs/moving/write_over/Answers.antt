use Rattle.std.proofs.Common.{◌∙◌, arith, length-set, refl, get_or, ◌+◌}
use Rattle.strategy_arena.specs.declared.short.Short.TheVariants.{Horizon}
use Rattle.strategy_arena.proofs.Shorts.{written_more}
use Rattle.strategy_arena.proofs.moving.write_over.Goals as goal

pub loop-k-preserved : goal.loop-k-preserved
loop-k-preserved c =
    let i = c.loop-k.invariant in
    let k = c.loop-k.k in
    let with = c.args.with.now in
    let before = c.loop-k-test.true in
    let room = c.requires in
    record {
      written = written_more c.args.lines.now.items with c.loop-k.lines.items c.args.start k (get_or with k (Horizon 0)) (Horizon 0) (omega (arith, before, room)) (omega (arith, before)) refl i.written;
      each = length-set c.loop-k.lines.items (c.args.start + k) (get_or with k (Horizon 0)) ∙ i.each;
    }
