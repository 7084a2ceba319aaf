use Rattle.std.proofs.Common.{[], ◌∷◌, ◌++◌, sym, ap, subst}
use Rattle.std.proofs.lemmas.Result.{on_ok_weaker}
use Rattle.qc_model.specs.Verdict.{seen_node, is_lost, is_exact, exact_vectors}
use Rattle.proof_tree.specs.Finding.{leaf_node}
use Rattle.qc_play.specs.Shape.{replies_of}
use Rattle.qc_play.specs.Entries.{KeepsReplies}
use Rattle.qc_play.proofs.BestLeaf.{best_same}
use Rattle.qc_play.proofs.LeafEntries.{replies_add, replies_not}
use Rattle.qc_play.proofs.ShownVerdicts.{shown_exact, shown_lost, shown_bounded, shown_unknown}
use Rattle.qc_play.proofs.player_leaves.PlayerLeaves.add.Goals as goal

pub returns-in-Exact-clause-leaf : goal.returns-in-Exact-clause-leaf
returns-in-Exact-clause-leaf c =
    let p = c.args.self.now in
    let n = p.before in
    let w = c.args.values.now in
    on_ok_weaker c.keep_best.result
    (λ h ls f k s.
    let x = shown_exact f c.args.vector.now c.args.shown s c.in-Exact.is in
    record {
      best = h n ls w f k.best x c.in_ok-tuple.ensures (s.plan (ap is_exact x));
      replies = replies_not n (replies_of p.replies) ls w f (ap is_lost x);
    })
    c.keep_best.ensures

pub returns-in-Lost-clause-leaf : goal.returns-in-Lost-clause-leaf
returns-in-Lost-clause-leaf c =
    let p = c.args.self.now in
    let n = p.before in
    let w = c.args.values.now in
    on_ok_weaker c.push.result
    (λ h ls f k s.
    let x = shown_lost f c.args.vector.now c.args.shown s c.in-Lost.is in
    record {
      best = best_same p.wishes.now n p.best ls (leaf_node w f) (ap (λ y. exact_vectors (seen_node y ∷ [])) x) k.best;
      replies = subst (λ es. KeepsReplies n es (ls ++ leaf_node w f ∷ [])) (sym h)
          (replies_add n (replies_of p.replies) ls (record { tuple = c.in_ok-tuple.tuple; counter = c.args.shown.counter }) w f k.replies c.in_ok-tuple.ensures (s.counter (ap is_lost x)));
    })
    c.push.ensures.ok

pub returns-in-AtMost-clause-leaf : goal.returns-in-AtMost-clause-leaf
returns-in-AtMost-clause-leaf c =
    let p = c.args.self.now in
    let n = p.before in
    let w = c.args.values.now in
    λ ls f k s.
    let x = shown_bounded f c.args.vector.now c.args.shown s c.in-AtMost._bound c.in-AtMost.is in
    record {
      best = best_same p.wishes.now n p.best ls (leaf_node w f) (ap (λ y. exact_vectors (seen_node y ∷ [])) x) k.best;
      replies = replies_not n (replies_of p.replies) ls w f (ap is_lost x);
    }

pub returns-in-Unknown-clause-leaf : goal.returns-in-Unknown-clause-leaf
returns-in-Unknown-clause-leaf c =
    let p = c.args.self.now in
    let n = p.before in
    let w = c.args.values.now in
    λ ls f k s.
    let x = shown_unknown f c.args.vector.now c.args.shown s c.in-Unknown.is in
    record {
      best = best_same p.wishes.now n p.best ls (leaf_node w f) (ap (λ y. exact_vectors (seen_node y ∷ [])) x) k.best;
      replies = replies_not n (replies_of p.replies) ls w f (ap is_lost x);
    }
