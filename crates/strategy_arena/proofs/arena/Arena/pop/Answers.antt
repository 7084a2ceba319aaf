use Rattle.std.proofs.Common.{subst, length, ◌∷◌, []}
use Rattle.strategy_arena.specs.Short.{AllStand}
use Rattle.strategy_arena.proofs.Shorts.{stand_first}
use Rattle.strategy_arena.proofs.arena.Arena.pop.Goals as goal

pub invariant_of-self-2 : goal.invariant_of-self-2
invariant_of-self-2 c =
    let n = length c.self.inside.wide.items in
    stand_first n c.pop.new.self.items (c.in_ok-short.short ∷ []) (subst (AllStand n) c.in_ok-short.ensures.items c.self.invariant)
