use Rattle.std.proofs.Common.{◌∙◌, ◌<◌, subst, sym, not, ◌||◌, Bool, ℕ}
use Rattle.std.specs.Prelude.{pos, slice_index_or}
use Rattle.std.specs.Ordering.{int_eq}
use Rattle.proof_alike.specs.Alike.{is_seen}
use Rattle.dense_alike.proofs.Below.{below_all, below_fails, test_fails, test_none}
use Rattle.dense_alike.proofs.leasts.is_seen_same.Goals as goal

pub returns-then-not-is_value_same : goal.returns-then-not-is_value_same
returns-then-not-is_value_same c =
    let p : ℕ → Bool = λ x. not (is_seen c.args.reads.now c.args.i.0 x) || int_eq (slice_index_or c.args.here.now x (pos 0)) (slice_index_or c.args.there.now x (pos 0)) in
    sym (below_fails p c.args.first c.loop-k.k c.loop-k-test.true (test_fails _ _ (sym c.is_seen.ensures ∙ c.if-is_seen.true) (sym c.is_value_same.ensures ∙ c.if-not-is_value_same.true)))

pub returns-then-unseen : goal.returns-then-unseen
returns-then-unseen c =
    let p : ℕ → Bool = λ x. not (is_seen c.args.reads.now c.args.i.0 x) || int_eq (slice_index_or c.args.here.now x (pos 0)) (slice_index_or c.args.there.now x (pos 0)) in
    sym
    (below_all p c.args.first
    (λ x l. test_none (is_seen c.args.reads.now c.args.i.0 x) (int_eq (slice_index_or c.args.here.now x (pos 0)) (slice_index_or c.args.there.now x (pos 0)))
    (c.requires.unseen c.if-unseen.true x (subst (λ n. x < n) c.requires.first l))))
