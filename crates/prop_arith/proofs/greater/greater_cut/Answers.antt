use Rattle.std.proofs.Common.{sym}
use Rattle.prop_arith.proofs.GreaterShapes.{third_read, first_read, second_read}
use Rattle.prop_arith.proofs.greater.greater_cut.Goals as goal

pub cut_beyond-requires-clause-hull : goal.cut_beyond-requires-clause-hull
cut_beyond-requires-clause-hull c x v =
    third_read c.args.rule.now c.args.store.now.box c.args.t x c.ends_of-first.result c.ends_of-second.result c.greater_ends_of-greater.result c.requires.greater c.requires.open c.ends_of-first.ensures c.ends_of-second.ensures c.greater_ends_of-greater.ensures v

pub cut_beyond-requires-2-clause-hull : goal.cut_beyond-requires-2-clause-hull
cut_beyond-requires-2-clause-hull c x v =
    first_read c.args.rule.now c.args.store.now.box c.args.t x c.ends_of-first.result c.ends_of-second.result c.ends_of-third.result c.greater_ends_of-greater.result c.kept_beside-keep.result c.requires.greater c.requires.open c.ends_of-first.ensures c.ends_of-second.ensures c.ends_of-third.ensures c.greater_ends_of-greater.ensures (sym c.if-are_apart.ensures) c.kept_beside-keep.ensures v

pub cut_beyond-requires-3-clause-hull : goal.cut_beyond-requires-3-clause-hull
cut_beyond-requires-3-clause-hull c x v =
    second_read c.args.rule.now c.args.store.now.box c.args.t x c.ends_of-first.result c.ends_of-second.result c.ends_of-third.result c.greater_ends_of-greater.result c.kept_beside-keep-2.result c.requires.greater c.requires.open c.ends_of-first.ensures c.ends_of-second.ensures c.ends_of-third.ensures c.greater_ends_of-greater.ensures (sym c.if-are_apart.ensures) c.kept_beside-keep-2.ensures v
