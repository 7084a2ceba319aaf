use Rattle.std.proofs.Common.{◌∙◌, sym, ap, subst, length, take}
use Rattle.std.proofs.lemmas.List.{take-map}
use Rattle.strategy_arena.specs.Short.{AllStand, line_of, lines_of}
use Rattle.strategy_arena.proofs.Shorts.{stand_take}
use Rattle.strategy_arena.proofs.arena.Arena.cut.Goals as goal

pub invariant_of-self-else-len-eq0 : goal.invariant_of-self-else-len-eq0
invariant_of-self-else-len-eq0 c =
    let n = length c.self.inside.wide.items in
    subst (AllStand n) (sym c.truncate.ensures.items) (stand_take n c.args.len c.self.inside.lines.items c.self.invariant)

pub returns-else-len-eq0 : goal.returns-else-len-eq0
returns-else-len-eq0 c =
    let wide = c.self.inside.wide.items in
    ap (λ ss. lines_of wide ss) c.truncate.ensures.items ∙ (sym (take-map (line_of wide) c.args.len c.self.inside.lines.items) ∙ ap (λ ls. take c.args.len ls) c.self.view_is)
