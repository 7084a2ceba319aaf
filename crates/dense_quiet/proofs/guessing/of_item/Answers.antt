use Rattle.std.proofs.Common.{arith}
use Rattle.qc_model.specs.declared.problem.Arg.TheVariants.{Var}
use Rattle.qc_refuter.specs.Met.{is_open}
use Rattle.dense_quiet.proofs.Spread.{passes_at}
use Rattle.dense_quiet.proofs.guessing.of_item.Goals as goal

pub ends_of-requires : goal.ends_of-requires
ends_of-requires c =
    passes_at (is_open c.args.store.now.box) c.args.items.now c.loop-k.k (Var (record { 0 = 0 })) (omega (arith, c.loop-k-test.true, c.places_between-span.ensures.end)) c.requires.items
