use Rattle.std.proofs.Common.{◌≡◌, true, ap, sym, ◌∙◌}
use Rattle.qc_model.specs.Verdict.{exact}
use Rattle.qc_play.specs.Entries.{wins_over}
use Rattle.qc_play.proofs.BestLeaf.{best_taken, best_kept}
use Rattle.qc_play.proofs.best.keep_best.Goals as goal

pub returns-in_ok-vector : goal.returns-in_ok-vector
returns-in_ok-vector c =
    let d = c.args.wishes.now in
    let o = c.args.best.now in
    let v = c.in_ok-vector.vector in
    let e : wins_over d o v ≡ true = ap (wins_over d o) c.in_ok-vector.ensures ∙ (sym c.wins_over.ensures ∙ c.if-wins_over.true) in
    λ n ls w f k x t s. best_taken d n o (record { tuple = c.args.tuple; vector = v; plan = c.args.plan }) ls w f e k (x ∙ ap exact (sym c.in_ok-vector.ensures)) t s

pub returns-else-wins_over : goal.returns-else-wins_over
returns-else-wins_over c = λ n ls w f k x t s. best_kept c.args.wishes.now n c.args.best.now ls w f c.args.vector.now (sym c.wins_over.ensures ∙ c.if-wins_over.false) k x
