use Rattle.dense_close.proofs.Kept.{kept_none}
use Rattle.dense_close.proofs.memories.Memories.new.Goals as goal

pub add_all-requires : goal.add_all-requires
add_all-requires c = λ t.
    kept_none t c.args.problem.now c.in_ok-new.field-0 c.in_ok-with_capacity.field-0.items c.in_ok-with_capacity.ensures.items (c.in_ok-new.ensures t)
