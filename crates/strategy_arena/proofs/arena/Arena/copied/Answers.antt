use Rattle.strategy_arena.proofs.Shorts.{slices_dropped, slices_stand, copied_lines}
use Rattle.strategy_arena.proofs.arena.Arena.copied.Goals as goal

pub carry_each-requires-clause-known : goal.carry_each-requires-clause-known
carry_each-requires-clause-known c =
    slices_stand c.as_slice-2.result.now _ c.as_slice.result.now c.self.inside.lines.items c.args.start c.as_slice-2.ensures.value c.as_slice.ensures.value c.self.invariant

pub returns : goal.returns
returns c =
    copied_lines _ c.in_ok-lines.lines.items _ _ _ c.in_ok-lines.ensures.items c.in_ok-carry_each.ensures.put
    (slices_dropped c.as_slice-2.result.now _ c.as_slice.result.now c.self.inside.lines.items c.args.self.now c.args.start c.as_slice-2.ensures.value c.as_slice.ensures.value c.self.view_is)
