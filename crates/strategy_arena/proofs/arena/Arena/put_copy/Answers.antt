use Rattle.std.proofs.Common.{◌∙◌, sym, ap, subst, length, ◌++◌, arith}
use Rattle.strategy_arena.specs.Short.{AllStand, lines_of}
use Rattle.strategy_arena.proofs.Shorts.{no_shorter, stand_kept, lines_kept, cut_back, slices_all, slices_all_stand}
use Rattle.strategy_arena.proofs.arena.Arena.put_copy.Goals as goal

pub invariant_of-self-in-Err : goal.invariant_of-self-in-Err
invariant_of-self-in-Err c =
    let n = length c.carry_each.new.wide.items in
    let length-is = c.len-before.ensures in
    let same = cut_back c.reserve.new.self.items c.carry_each.new.lines.items c.truncate.new.self.items c.self.inside.lines.items c.len-before.result (omega (arith, length-is)) c.carry_each.ensures.first c.truncate.ensures.items c.reserve.ensures.items in
    subst (AllStand n) (sym same) (stand_kept _ _ (no_shorter _ _ c.carry_each.ensures.grown) _ c.self.invariant)

pub returns-in-Err-clause-refused : goal.returns-in-Err-clause-refused
returns-in-Err-clause-refused c =
    let length-is = c.len-before.ensures in
    let same = cut_back c.reserve.new.self.items c.carry_each.new.lines.items c.truncate.new.self.items c.self.inside.lines.items c.len-before.result (omega (arith, length-is)) c.carry_each.ensures.first c.truncate.ensures.items c.reserve.ensures.items in
    ap (λ ss. lines_of c.carry_each.new.wide.items ss) same ∙ (lines_kept _ _ c.carry_each.ensures.grown _ c.self.invariant ∙ c.self.view_is)

pub carry_each-requires-clause-known : goal.carry_each-requires-clause-known
carry_each-requires-clause-known c =
    slices_all_stand c.as_slice-2.result.now _ c.as_slice.result.now c.other.inside.lines.items c.as_slice-2.ensures.value c.as_slice.ensures.value c.other.invariant

pub returns-in-Ok-clause-put : goal.returns-in-Ok-clause-put
returns-in-Ok-clause-put c =
    let last = lines_of c.as_slice-2.result.now c.as_slice.result.now in
    c.in-Ok.ensures.put
    ∙ (ap (λ ls. ls ++ last) (ap (λ ss. lines_of c.self.inside.wide.items ss) c.reserve.ensures.items ∙ c.self.view_is)
    ∙ ap (λ ls. c.args.self.now ++ ls) (slices_all c.as_slice-2.result.now _ c.as_slice.result.now c.other.inside.lines.items c.args.other.now c.as_slice-2.ensures.value c.as_slice.ensures.value c.other.view_is))
