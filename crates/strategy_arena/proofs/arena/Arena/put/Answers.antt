use Rattle.std.proofs.Common.{◌∙◌, sym, ap, subst, length, ◌++◌, ◌∷◌, []}
use Rattle.qc_io.proofs.Known.{on_err}
use Rattle.strategy_arena.specs.Short.{AllStand, lines_of}
use Rattle.strategy_arena.proofs.Shorts.{no_shorter, stand_kept, lines_kept, stand_one, put_one}
use Rattle.strategy_arena.proofs.arena.Arena.put.Goals as goal

pub invariant_of-self : goal.invariant_of-self
invariant_of-self c = stand_kept _ _ (no_shorter _ _ c.keep.ensures.grown) _ c.self.invariant

pub returns-in_err-short-clause-refused : goal.returns-in_err-short-clause-refused
returns-in_err-short-clause-refused c = on_err _ (lines_kept _ _ c.keep.ensures.grown _ c.self.invariant ∙ c.self.view_is)

pub invariant_of-self-in_err-push : goal.invariant_of-self-in_err-push
invariant_of-self-in_err-push c =
    let n = length c.keep.new.wide.items in
    subst (AllStand n) (sym c.in_err-push.ensures.items) (stand_kept _ _ (no_shorter _ _ c.keep.ensures.grown) _ c.self.invariant)

pub returns-in_err-push-clause-refused : goal.returns-in_err-push-clause-refused
returns-in_err-push-clause-refused c =
    on_err _ (ap (λ ss. lines_of c.keep.new.wide.items ss) c.in_err-push.ensures.items ∙ (lines_kept _ _ c.keep.ensures.grown _ c.self.invariant ∙ c.self.view_is))

pub invariant_of-self-2 : goal.invariant_of-self-2
invariant_of-self-2 c =
    stand_one _ _ c.keep.ensures.grown _ _ c.in_ok-short.short c.self.invariant c.in_ok-push.ensures.items c.in_ok-short.ensures.kept.1

pub returns-clause-put : goal.returns-clause-put
returns-clause-put c =
    put_one _ _ c.keep.ensures.grown _ _ c.in_ok-short.short c.args.line c.self.invariant c.in_ok-push.ensures.items c.in_ok-short.ensures.kept.0
    ∙ ap (λ ls. ls ++ c.args.line ∷ []) c.self.view_is
