use Rattle.std.proofs.Common.{rules, ◌≡◌, ◌<◌, ◌+◌, ℕ, ℤ, get_or, true}
use Rattle.std.specs.Prelude.{pos, slice_get, Some}
use Rattle.std.proofs.lemmas.Int.{to_z-of_z}
use mir.Val.{SFits}
use mir.Syntax.{w64}
use Rattle.qc_model.specs.declared.problem.Arg.{Arg}
use Rattle.qc_model.specs.declared.problem.Arg.TheVariants.{Var}
use Rattle.qc_model.specs.Refuted.{left_to}
use Rattle.qc_refuter.proofs.Terms.{open_at}
use Rattle.dense_quiet.specs.Slack.{IsNear, is_taken}
use Rattle.dense_quiet.specs.Taking.{takes_of}
use Rattle.dense_quiet.proofs.Sums.{near_more, below}
use Rattle.dense_quiet.proofs.RoomSteps.{passed_above}
use Rattle.dense_quiet.proofs.SumWalk.{within_first, within_second, before_end, number_read}
use Rattle.dense_quiet.proofs.slack.are_near.Goals as goal

pub loop-k-preserved : goal.loop-k-preserved
loop-k-preserved c =
    let k = c.loop-k.k in
    let ns = c.args.factors.now in
    let xs = c.args.items.now in
    let box = c.args.store.now.box in
    let n_fits : SFits w64 (get_or ns k (pos 0)) = search rules in
    let s_fits : SFits w64 c.args.s = search rules in
    let ok = takes_of c.args.taking c.args.problem.now c.args.rule.now in
    let one : is_taken ok (get_or xs k (Var (record { 0 = 0 }))) ≡ true → IsNear c.args.s (get_or ns k (pos 0)) (left_to box (get_or xs k (Var (record { 0 = 0 })))) = simp to_z-of_z at (c.is_quiet_term.ensures.near c.if-not-is_quiet_term.false) in
    let before : (i : ℕ) (n : ℤ) (a : Arg) → i < k → slice_get ns i ≡ Some n → slice_get xs i ≡ Some a → is_taken ok a ≡ true → IsNear c.args.s n (left_to box a) = simp to_z-of_z at c.loop-k.invariant in
    let more : (i : ℕ) (n : ℤ) (a : Arg) → i < k + 1 → slice_get ns i ≡ Some n → slice_get xs i ≡ Some a → is_taken ok a ≡ true → IsNear c.args.s n (left_to box a) =
    near_more ok c.args.s k ns xs box (pos 0) (Var (record { 0 = 0 })) before one in
    simp to_z-of_z more

pub returns : goal.returns
returns c = λ t i n a p q w.
    let ns = c.args.factors.now in
    let xs = c.args.items.now in
    let s_fits : SFits w64 c.args.s = search rules in
    let l : i < c.loop-k.k = before_end _ _ _ _ i c.min-k-end.ensures c.loop-k-test.false (below ns i n p) (below xs i a q) in
    let near : IsNear c.args.s n (left_to c.args.store.now.box a) = simp to_z-of_z at (c.loop-k.invariant i n a l p q w) in
    near

pub is_quiet_term-requires-clause-factor : goal.is_quiet_term-requires-clause-factor
is_quiet_term-requires-clause-factor c =
    let n_fits : SFits w64 (get_or c.args.factors.now c.loop-k.k (pos 0)) = search rules in
    simp to_z-of_z (number_read c.args.factors.now c.loop-k.k (pos 0) (within_first _ _ _ _ c.min-k-end.ensures c.loop-k-test.true) c.requires.factors)

pub is_quiet_term-requires-clause-open : goal.is_quiet_term-requires-clause-open
is_quiet_term-requires-clause-open c = open_at c.args.store.now.box c.args.items.now c.loop-k.k (Var (record { 0 = 0 })) (within_second _ _ _ _ c.min-k-end.ensures c.loop-k-test.true) c.requires.open

pub is_quiet_term-requires-clause-room : goal.is_quiet_term-requires-clause-room
is_quiet_term-requires-clause-room c = passed_above c.args.s c.ranges.s c.requires.room
