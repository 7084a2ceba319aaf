use Rattle.std.proofs.Common.{◌∙◌, sym, ap, subst, length, arith}
use Rattle.strategy_arena.specs.Short.{AllStand, lines_of}
use Rattle.strategy_arena.proofs.Shorts.{no_shorter, stand_kept, lines_kept, cut_back}
use Rattle.strategy_arena.proofs.arena.Arena.put_all.Goals as goal

pub invariant_of-self-in-Err : goal.invariant_of-self-in-Err
invariant_of-self-in-Err c =
    let n = length c.put_each.new.wide.items in
    let length-is = c.len-before.ensures in
    let same = cut_back c.reserve.new.self.items c.put_each.new.lines.items c.truncate.new.self.items c.self.inside.lines.items c.len-before.result (omega (arith, length-is)) c.put_each.ensures.first c.truncate.ensures.items c.reserve.ensures.items in
    subst (AllStand n) (sym same) (stand_kept _ _ (no_shorter _ _ c.put_each.ensures.grown) _ c.self.invariant)

pub returns-in-Err-clause-refused : goal.returns-in-Err-clause-refused
returns-in-Err-clause-refused c =
    let length-is = c.len-before.ensures in
    let same = cut_back c.reserve.new.self.items c.put_each.new.lines.items c.truncate.new.self.items c.self.inside.lines.items c.len-before.result (omega (arith, length-is)) c.put_each.ensures.first c.truncate.ensures.items c.reserve.ensures.items in
    ap (λ ss. lines_of c.put_each.new.wide.items ss) same ∙ (lines_kept _ _ c.put_each.ensures.grown _ c.self.invariant ∙ c.self.view_is)
