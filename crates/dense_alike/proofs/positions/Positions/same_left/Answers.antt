use Rattle.std.proofs.Common.{◌≡◌, ◌≤◌, ◌<◌, ◌∙◌, sym, ap, subst, arith, length, drop, true, [], get_or}
use Rattle.qc_model.specs.Content.{Game}
use Rattle.qc_model.specs.Domains.{Box}
use Rattle.dense_tree.specs.Alike.{same_left}
use Rattle.dense_alike.specs.Kept.{Kept}
use Rattle.dense_alike.specs.Laid.{is_full_box}
use Rattle.dense_alike.proofs.Looking.{full_few, kept_size, left_end, kept_is}
use Rattle.dense_alike.proofs.positions.Positions.same_left.Goals as goal

pub overflow_cast-k : goal.overflow_cast-k
overflow_cast-k c =
    let game = ap (λ (k : Kept). k.game) (sym c.self.view_is) in
    let few : length c.args.store.now.box ≤ 500 = full_few c.self.inside.comparer c.args.store.now.box c.known.ensures (subst (λ (h : Game). is_full_box h c.args.store.now.box ≡ true) game c.requires.here) in
    omega (arith, few, c.loop-k-test.true, c.count-k-end.ensures)

pub is_left-requires-clause-kept : goal.is_left-requires-clause-kept
is_left-requires-clause-kept c =
    let game = ap (λ (k : Kept). k.game) (sym c.self.view_is) in
    let here = subst (λ (h : Game). is_full_box h c.args.store.now.box ≡ true) game c.requires.here in
    let inside = subst (λ n. c.args.n < n) (ap (λ (k : Kept). length k.boxes) (sym c.self.view_is)) c.requires.kept in
    let same = kept_size c.self.inside.comparer c.self.inside.kept.items c.args.n c.index-kept.result.now c.args.store.now.box c.self.invariant here inside c.index-kept.ensures in
    omega (arith, same, c.loop-k-test.true, c.count-k-end.ensures)

pub returns : goal.returns
returns c =
    let game = ap (λ (k : Kept). k.game) (sym c.self.view_is) in
    let here = subst (λ (h : Game). is_full_box h c.args.store.now.box ≡ true) game c.requires.here in
    let inside = subst (λ n. c.args.n < n) (ap (λ (k : Kept). length k.boxes) (sym c.self.view_is)) c.requires.kept in
    let box = c.args.store.now.box in
    let kept = c.index-kept.result.now in
    let same = kept_size c.self.inside.comparer c.self.inside.kept.items c.args.n kept box c.self.invariant here inside c.index-kept.ensures in
    let is = kept_is c.self.inside.kept.items c.args.n kept inside c.index-kept.ensures ∙ ap (λ (k : Kept). get_or k.boxes c.args.n []) c.self.view_is in
    sym (left_end box kept c.loop-k.k same (omega (arith, c.count-k-end.ensures, c.loop-k-test.false)))
    ∙ (c.loop-k.invariant ∙ ap (λ (b : Box). same_left (drop c.args.first box) (drop c.args.first b)) is)
