use Rattle.std.proofs.Common.{◌∙◌, sym, ap, subst, length}
use Rattle.qc_io.proofs.Known.{on_err}
use Rattle.strategy_arena.specs.Short.{AllStand, lines_of}
use Rattle.strategy_arena.proofs.Shorts.{no_shorter, stand_kept, lines_kept, moved, stand_replaced, put_between}
use Rattle.strategy_arena.proofs.arena.Arena.replace.Goals as goal

pub invariant_of-self : goal.invariant_of-self
invariant_of-self c = stand_kept _ _ (no_shorter _ _ c.keep_all.ensures.grown) _ c.self.invariant

pub returns-in_err-keep_all-clause-refused : goal.returns-in_err-keep_all-clause-refused
returns-in_err-keep_all-clause-refused c = on_err _ (lines_kept _ _ c.keep_all.ensures.grown _ c.self.invariant ∙ c.self.view_is)

pub invariant_of-self-in_err-shift : goal.invariant_of-self-in_err-shift
invariant_of-self-in_err-shift c =
    let n = length c.keep_all.new.wide.items in
    subst (AllStand n) (sym c.in_err-shift.ensures.refused) (stand_kept _ _ (no_shorter _ _ c.keep_all.ensures.grown) _ c.self.invariant)

pub returns-in_err-shift-clause-refused : goal.returns-in_err-shift-clause-refused
returns-in_err-shift-clause-refused c =
    on_err _ (ap (λ ss. lines_of c.keep_all.new.wide.items ss) c.in_err-shift.ensures.refused ∙ (lines_kept _ _ c.keep_all.ensures.grown _ c.self.invariant ∙ c.self.view_is))

pub invariant_of-self-2 : goal.invariant_of-self-2
invariant_of-self-2 c =
    stand_replaced _ _ c.keep_all.ensures.grown c.self.inside.lines.items c.keep_all.new.room.items _ c.args.start c.args.at c.self.invariant c.in_ok-keep_all.ensures.stand
    (moved _ c.as_slice.result.now c.keep_all.new.room.items c.self.inside.lines.items c.args.start c.args.at c.in_ok-shift.ensures.put c.as_slice.ensures.value)

pub returns-clause-put : goal.returns-clause-put
returns-clause-put c =
    put_between _ _ c.keep_all.ensures.grown c.self.inside.lines.items c.keep_all.new.room.items _ _ _ c.args.start c.args.at c.self.invariant
    (moved _ c.as_slice.result.now c.keep_all.new.room.items c.self.inside.lines.items c.args.start c.args.at c.in_ok-shift.ensures.put c.as_slice.ensures.value)
    c.in_ok-keep_all.ensures.kept c.self.view_is
