use Rattle.std.proofs.Common.{◌≡◌, ◌<◌, ◌∙◌, sym, subst, length, slice_get, Some, arith}
use Rattle.qc_model.specs.Content.{Rule}
use Rattle.qc_model.specs.Holds.{holds_on}
use Rattle.check_assignment.specs.Assigned.{Assigned}
use Rattle.check_assignment.proofs.Fronts.{all_between, fails_between, one_more, some_at}
use Rattle.check_assignment.proofs.assignment.Assignment.all_hold.Goals as goal

pub still_holds-requires : goal.still_holds-requires
still_holds-requires c =
    let Q : Assigned → Type 0 = λ a. c.loop-k.k < length a.game.constraints in
    let within : c.loop-k.k < length c.args.self.now.game.constraints = omega arith in
    subst Q (sym c.loop-k.invariant.same) within

pub returns-then-not-still_holds-clause-holds : goal.returns-then-not-still_holds-clause-holds
returns-then-not-still_holds-clause-holds c =
    let g = c.args.self.now.game in
    let vs = c.args.self.now.items in
    let k = c.loop-k.k in
    let P : Assigned → Type 0 = λ a. (r : Rule) → slice_get a.game.constraints k ≡ Some r → c.still_holds.result ≡ holds_on r a.items in
    let told = subst P c.loop-k.invariant.same c.still_holds.ensures.holds in
    let at = some_at g.constraints k (omega arith) in
    sym (fails_between (λ r. holds_on r vs) c.args.span.first c.args.span.end g.constraints k at.0 c.loop-k.auto.k c.loop-k-test.true at.1 (sym (told at.0 at.1) ∙ c.if-not-still_holds.true))

pub returns-then-not-still_holds-clause-same : goal.returns-then-not-still_holds-clause-same
returns-then-not-still_holds-clause-same c = c.still_holds.ensures.same ∙ c.loop-k.invariant.same

pub loop-k-preserved : goal.loop-k-preserved
loop-k-preserved c =
    let g = c.args.self.now.game in
    let vs = c.args.self.now.items in
    let P : Assigned → Type 0 = λ a. (r : Rule) → slice_get a.game.constraints c.loop-k.k ≡ Some r → c.still_holds.result ≡ holds_on r a.items in
    let told = subst P c.loop-k.invariant.same c.still_holds.ensures.holds in
    record {
      same = c.still_holds.ensures.same ∙ c.loop-k.invariant.same;
      hold = one_more (λ r. holds_on r vs) c.args.span.first c.loop-k.k g.constraints c.loop-k.invariant.hold (λ r e. sym (told r e) ∙ c.if-not-still_holds.false);
    }

pub returns-clause-holds : goal.returns-clause-holds
returns-clause-holds c =
    sym (all_between (λ r. holds_on r c.args.self.now.items) c.args.span.first c.args.span.end c.args.self.now.game.constraints (λ i r l h e. c.loop-k.invariant.hold i r l (omega arith) e))

pub returns-clause-same : goal.returns-clause-same
returns-clause-same c = c.loop-k.invariant.same
