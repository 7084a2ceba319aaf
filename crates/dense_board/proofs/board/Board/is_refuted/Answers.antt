use Rattle.std.proofs.Common.{◌≡◌, ◌∙◌, ◌+◌, ap, subst, suc, arith}
use Rattle.qc_model.specs.Block.{constraints_within}
use Rattle.fd_store.specs.Held.{Held}
use Rattle.dense_tree.specs.Tuples.{some_fails}
use Rattle.dense_box.proofs.Rows.{own_rules}
use Rattle.dense_board.proofs.board.Board.is_refuted.Goals as goal

pub returns : goal.returns
returns c = λ n.
    (let g = c.args.self.now.levels.problem.now in
    let box = c.args.self.now.remains.box in
    let i = c.args.i.0 in
    let one : i + 1 ≡ suc i = omega arith in
    let told : c.has_refuted.result ≡ some_fails (constraints_within g i (i + 1)) box =
    subst (λ (h : Held). c.has_refuted.result ≡ some_fails (constraints_within g i (i + 1)) h.box) c.store-store.ensures c.has_refuted.ensures in
    told ∙ (ap (λ j. some_fails (constraints_within g i j) box) one ∙ ap (λ cs. some_fails cs box) (own_rules g i)))
