use Rattle.std.proofs.Common.{rules}
use Rattle.dense_close.proofs.Kept.{kept_swapped}
use Rattle.dense_close.proofs.memories.Memories.keep.Goals as goal

pub returns-then-place-len : goal.returns-then-place-len
returns-then-place-len c =
    let v = c.self.inside in
    kept_swapped c.args.self.now v.present c.swap.new.x c.swap.new.y c.index_mut.result.now v.kept.items c.place-place.result c.self.view_is (search rules) c.index_mut.ensures.value c.swap.ensures.x_after c.swap.ensures.y_after
