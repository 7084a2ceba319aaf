use Rattle.std.proofs.Common.{[], ◌∷◌, ◌++◌, sym, ap, subst}
use Rattle.std.proofs.lemmas.Result.{on_ok_weaker}
use Rattle.qc_model.specs.Verdict.{is_lost, is_exact}
use Rattle.proof_tree.specs.Finding.{leaf_node}
use Rattle.qc_play.specs.Shape.{entries_of}
use Rattle.qc_play.specs.Entries.{KeepsAnswers}
use Rattle.qc_play.proofs.LeafEntries.{answers_add, answers_not, first_not}
use Rattle.qc_play.proofs.ShownVerdicts.{shown_exact, shown_lost, shown_bounded, shown_unknown}
use Rattle.qc_play.proofs.opponent_leaves.OpponentLeaves.add.Goals as goal

pub returns-in-Exact-clause-leaf : goal.returns-in-Exact-clause-leaf
returns-in-Exact-clause-leaf c =
    let p = c.args.self.now in
    let n = p.before in
    let w = c.args.values.now in
    on_ok_weaker c.push.result
    (λ h ls v f k s.
    let x = shown_exact f v c.args.shown s c.in-Exact.is in
    record {
      first = first_not n p.first ls w f (ap is_lost x) k.first;
      answers = subst (λ es. KeepsAnswers n es (ls ++ leaf_node w f ∷ [])) (sym h)
          (answers_add n (entries_of p.answers) ls (record { tuple = c.in_ok-tuple.tuple; plan = c.args.shown.plan }) w f k.answers c.in_ok-tuple.ensures (s.plan (ap is_exact x)));
    })
    c.push.ensures.ok

pub returns-in-Lost-clause-leaf : goal.returns-in-Lost-clause-leaf
returns-in-Lost-clause-leaf c =
    let p = c.args.self.now in
    let n = p.before in
    let w = c.args.values.now in
    λ ls v f k s.
    let x = shown_lost f v c.args.shown s c.in-Lost.is in
    record {
      first = c.keep_first.ensures n ls w f k.first (ap is_lost x) c.in_ok-tuple.ensures (s.counter (ap is_lost x));
      answers = answers_not n (entries_of p.answers) ls w f (ap is_exact x);
    }

pub returns-in-AtMost-clause-leaf : goal.returns-in-AtMost-clause-leaf
returns-in-AtMost-clause-leaf c =
    let p = c.args.self.now in
    let n = p.before in
    let w = c.args.values.now in
    λ ls v f k s.
    let x = shown_bounded f v c.args.shown s c.in-AtMost._bound c.in-AtMost.is in
    record {
      first = first_not n p.first ls w f (ap is_lost x) k.first;
      answers = answers_not n (entries_of p.answers) ls w f (ap is_exact x);
    }

pub returns-in-Unknown-clause-leaf : goal.returns-in-Unknown-clause-leaf
returns-in-Unknown-clause-leaf c =
    let p = c.args.self.now in
    let n = p.before in
    let w = c.args.values.now in
    λ ls v f k s.
    let x = shown_unknown f v c.args.shown s c.in-Unknown.is in
    record {
      first = first_not n p.first ls w f (ap is_lost x) k.first;
      answers = answers_not n (entries_of p.answers) ls w f (ap is_exact x);
    }
