use Rattle.std.proofs.Common.{◌+◌, ◌++◌, ◌∷◌, [], map, sym, subst}
use Rattle.std.proofs.lemmas.Result.{on_ok_weaker}
use Rattle.proof_tree.specs.declared.line.Line.TheVariants.{Horizon, Dot}
use Rattle.proof_tree.specs.Lines.{step_line, horizon_lines}
use Rattle.qc_play.proofs.Putting.{IsPut, none_put, both_put}
use Rattle.qc_play.proofs.unrolled.put_horizon.Goals as goal

pub returns-in-None : goal.returns-in-None
returns-in-None c = subst (λ z. IsPut c.args.lines.now.items c.args.lines.now.items (horizon_lines z)) (sym c.in-None.is) (none_put c.args.lines.now.items)

pub returns-in_ok-put_steps-in-Some : goal.returns-in_ok-put_steps-in-Some
returns-in_ok-put_steps-in-Some c =
    let h = c.in-Some.horizon in
    let old = c.args.lines.now.items in
    let a = c.put_scope.new.lines.items in
    let b = c.put_steps.new.lines.items in
    let new = c.put.new.lines.items in
    on_ok_weaker c.put.result (λ last.
    subst (λ z. IsPut old new (horizon_lines z)) (sym c.in-Some.is)
    (both_put old a new (Horizon (h.scope.0 + 1) ∷ []) (map step_line h.steps ++ Dot ∷ []) c.in_ok-put_scope-in-Some.ensures
    (both_put a b new (map step_line h.steps) (Dot ∷ []) (subst (λ ss. IsPut a b (map step_line ss)) c.items.ensures c.in_ok-put_steps-in-Some.ensures) last))) c.put.ensures
