use Rattle.std.proofs.Common.{◌≡◌, sym, subst, map, arith, IsTrue, List}
use Rattle.std.proofs.lemmas.List.{take_all}
use Rattle.std.specs.Prelude.{nat_le}
use Rattle.std.specs.Borrow.{Bor}
use Rattle.std.proofs.lemmas.Bool.Decides.{nat_tests}
use Rattle.qc_model.specs.Content.{Rule}
use Rattle.qc_model.specs.Lists.{Among}
use Rattle.proof_alike.specs.Alike.{sees}
use Rattle.likeness.proofs.Seeing.{among_more}
use Rattle.likeness.proofs.sight.are_rules_alike.Goals.{else-i-rule-via-then-i-rule+else-not-is_rule_alike, else-i-rule-via-else-i-rule}
use Rattle.likeness.proofs.sight.are_rules_alike.Goals as goal

pub loop-rule-preserved : goal.loop-rule-preserved
loop-rule-preserved c =
    let r = c.rule-item.result in
    let g = c.args.sight.now in
    let i = c.args.i.0 in
    let P : Rule → Type 0 = λ d. IsTrue (nat_le i d.owner.0) → sees g i c.args.kept.now d ≡ sees g i c.args.here.now d in
    let alike : P r.now =
    elim c.else-i-rule.branch [ else-i-rule-via-then-i-rule+else-not-is_rule_alike w ↦ λ o. w.is_rule_alike.ensures w.if-not-is_rule_alike.false | else-i-rule-via-else-i-rule w ↦ λ o. absurd (grind (arith, nat_tests, w.if-i-rule.false, o)) ] in
    among_more P c.args.rules.now c.loop-rule.rule-index r c.loop-rule-test.true c.rule-item.is c.loop-rule.invariant alike

pub returns : goal.returns
returns c = λ e d m o. c.loop-rule.invariant d (subst (λ (rs : List (Bor Rule)). Among d (map (λ (r : Bor Rule). r.now) rs)) (sym (take_all c.loop-rule.rule-index c.args.rules.now c.loop-rule-test.false)) m) o
