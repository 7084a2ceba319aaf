use Rattle.std.proofs.Common.{◌∙◌, ◌||◌, sym, ap, drop, ◌+◌}
use Rattle.std.specs.Prelude.{pos}
use Rattle.std.specs.List.{list_any}
use Rattle.qc_model.specs.Domains.{values_left}
use Rattle.lemma_list.specs.Literals.{meets}
use Rattle.lemma_reasons.proofs.Left.{some_step, some_end}
use Rattle.lemma_reasons.proofs.literals.some_meets.Goals as goal

pub returns-then-allows_some : goal.returns-then-allows_some
returns-then-allows_some c =
    let ls = c.args.literals.now in
    let k = c.loop-literal.literal-index in
    let d = values_left c.args.store.now.box c.args.x.0 in
    let step = some_step ls k (record { x = record { 0 = 0 }; lo = pos 0; hi = pos 0 }) c.args.x.0 d c.allows_some.result c.loop-literal-test.true c.allows_some.ensures in
    ap (λ z. z || list_any (meets (drop (k + 1) ls) c.args.x.0) d) (sym c.if-allows_some.true) ∙ (step ∙ c.loop-literal.invariant)

pub loop-literal-preserved : goal.loop-literal-preserved
loop-literal-preserved c =
    let ls = c.args.literals.now in
    let k = c.loop-literal.literal-index in
    let d = values_left c.args.store.now.box c.args.x.0 in
    let step = some_step ls k (record { x = record { 0 = 0 }; lo = pos 0; hi = pos 0 }) c.args.x.0 d c.allows_some.result c.loop-literal-test.true c.allows_some.ensures in
    ap (λ z. z || list_any (meets (drop (k + 1) ls) c.args.x.0) d) (sym c.if-allows_some.false) ∙ (step ∙ c.loop-literal.invariant)

pub returns : goal.returns
returns c =
    let d = values_left c.args.store.now.box c.args.x.0 in
    some_end c.args.literals.now c.loop-literal.literal-index c.args.x.0 d c.loop-literal-test.false ∙ c.loop-literal.invariant
