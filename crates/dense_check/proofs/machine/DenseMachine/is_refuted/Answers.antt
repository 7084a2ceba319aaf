use Rattle.std.proofs.Common.{◌≡◌, ◌∙◌, ◌+◌, ap, subst, suc, arith}
use Rattle.qc_model.specs.Block.{constraints_within}
use Rattle.qc_model.specs.Game.{restriction}
use Rattle.fd_store.specs.Held.{Held}
use Rattle.dense_tree.specs.Tuples.{some_fails}
use Rattle.dense_box.proofs.Rows.{own_rules}
use Rattle.dense_check.specs.Telling.{game_of}
use Rattle.dense_check.proofs.machine.DenseMachine.is_refuted.Goals as goal

pub returns : goal.returns
returns c = λ n.
    (let g = game_of c.args.self.now in
    let box = c.args.self.now.nest.remains.box in
    let i = c.scope-i.result.0 in
    let one : i + 1 ≡ suc i = omega arith in
    let told : c.has_refuted.result ≡ some_fails (constraints_within g i (i + 1)) box =
    subst (λ (h : Held). c.has_refuted.result ≡ some_fails (constraints_within g i (i + 1)) h.box) c.store-store.ensures c.has_refuted.ensures in
    let here : c.has_refuted.result ≡ some_fails (restriction g i) box = told ∙ (ap (λ j. some_fails (constraints_within g i j) box) one ∙ ap (λ cs. some_fails cs box) (own_rules g i)) in
    subst (λ j. c.has_refuted.result ≡ some_fails (restriction g j) box) c.scope-i.ensures here)
