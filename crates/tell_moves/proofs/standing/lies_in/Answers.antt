use Rattle.std.proofs.Common.{◌≡◌, ◌∙◌, ◌+◌, sym, subst, refl, rules, Bool, true, false, drop, get_or, pos, w64, SFits, add-one}
use Rattle.std.proofs.lemmas.Int.{to_z-of_z}
use Rattle.qc_model.specs.Domains.{Box, has_value, values_left, declared_box}
use Rattle.qc_model.specs.Game.{scope_domains}
use Rattle.qc_play.specs.Play.{lies_in}
use Rattle.tell_moves.proofs.Placed.{lies_on, lies_not}
use Rattle.tell_moves.proofs.standing.lies_in.Goals as goal
use Rattle.tell_moves.proofs.standing.lies_in.Goals.{After-has}

-- what was asked of the declared box
asked : (c : After-has) (b : Bool) → c.has.result ≡ b → has_value (values_left (declared_box c.args.level.now.problem.now) (c.args.level.now.from + c.loop-k.k)) (get_or c.args.tuple.now c.loop-k.k (pos 0)) ≡ b
asked c b h =
    let f : SFits w64 (get_or c.args.tuple.now c.loop-k.k (pos 0)) = search rules in
    let e = simp to_z-of_z at c.has.ensures in
    subst (λ (box : Box). has_value (values_left box (c.args.level.now.from + c.loop-k.k)) (get_or c.args.tuple.now c.loop-k.k (pos 0)) ≡ b) c.requires.declared (sym e ∙ h)

pub returns-then-not-has : goal.returns-then-not-has
returns-then-not-has c =
    let level = c.args.level.now in
    let g = level.problem.now in
    let t = c.args.tuple.now in
    let k = c.loop-k.k in
    let v = get_or t k (pos 0) in
    lies_not g level.number k t v (pos 0) c.loop-k-test.true c.requires.each refl
    (subst (λ n. has_value (values_left (declared_box g) (n + k)) v ≡ false) level.has_from (asked (goal.at.returns-then-not-has c).After-has false c.if-not-has.true))
    ∙ c.loop-k.invariant

pub loop-k-preserved : goal.loop-k-preserved
loop-k-preserved c =
    let level = c.args.level.now in
    let g = level.problem.now in
    let t = c.args.tuple.now in
    let k = c.loop-k.k in
    let v = get_or t k (pos 0) in
    let ds = scope_domains g level.number in
    subst (λ j. lies_in (drop j t) (drop j ds) ≡ lies_in t ds) (sym (add-one k))
    (lies_on g level.number k t v (pos 0) c.loop-k-test.true c.requires.each refl
    (subst (λ n. has_value (values_left (declared_box g) (n + k)) v ≡ true) level.has_from (asked (goal.at.loop-k-preserved c).After-has true c.if-not-has.false))
    ∙ c.loop-k.invariant)
