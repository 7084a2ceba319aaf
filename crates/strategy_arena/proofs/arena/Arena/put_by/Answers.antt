use Rattle.std.proofs.Common.{◌∙◌, refl, sym, ap, subst, ◌++◌, length, take, drop, ◌-◌, arith}
use Rattle.strategy_arena.specs.Short.{AllStand, lines_of}
use Rattle.strategy_arena.proofs.Shorts.{no_shorter, stand_kept, lines_kept, slices_dropped, slices_stand, cut_back}
use Rattle.strategy_arena.proofs.arena.Arena.put_by.Goals as goal

pub invariant_of-aside-in-Err : goal.invariant_of-aside-in-Err
invariant_of-aside-in-Err c =
    let n = length c.carry_each.new.wide.items in
    let length-is = c.len-before.ensures in
    let same = cut_back c.reserve.new.self.items c.carry_each.new.lines.items c.truncate.new.self.items c.aside.inside.lines.items c.len-before.result (omega (arith, length-is)) c.carry_each.ensures.first c.truncate.ensures.items c.reserve.ensures.items in
    subst (AllStand n) (sym same) (stand_kept _ _ (no_shorter _ _ c.carry_each.ensures.grown) _ c.aside.invariant)

pub returns-in-Ok-clause-aside : goal.returns-in-Ok-clause-aside
returns-in-Ok-clause-aside c =
    let slice = c.as_slice.result.now in
    let last = lines_of c.as_slice-2.result.now (take (length slice - c.args.start) (drop c.args.start slice)) in
    c.in-Ok.ensures.put
    ∙ (ap (λ ls. ls ++ last) (ap (λ ss. lines_of c.aside.inside.wide.items ss) c.reserve.ensures.items ∙ c.aside.view_is)
    ∙ ap (λ ls. c.args.aside.now ++ ls) (slices_dropped c.as_slice-2.result.now _ slice c.self.inside.lines.items c.args.self.now c.args.start c.as_slice-2.ensures.value c.as_slice.ensures.value c.self.view_is))

pub returns-in-Err-clause-refused : goal.returns-in-Err-clause-refused
returns-in-Err-clause-refused c =
    let length-is = c.len-before.ensures in
    let same = cut_back c.reserve.new.self.items c.carry_each.new.lines.items c.truncate.new.self.items c.aside.inside.lines.items c.len-before.result (omega (arith, length-is)) c.carry_each.ensures.first c.truncate.ensures.items c.reserve.ensures.items in
    (refl, ap (λ ss. lines_of c.carry_each.new.wide.items ss) same ∙ (lines_kept _ _ c.carry_each.ensures.grown _ c.aside.invariant ∙ c.aside.view_is))

pub carry_each-requires-clause-known : goal.carry_each-requires-clause-known
carry_each-requires-clause-known c =
    slices_stand c.as_slice-2.result.now _ c.as_slice.result.now c.self.inside.lines.items c.args.start c.as_slice-2.ensures.value c.as_slice.ensures.value c.self.invariant
