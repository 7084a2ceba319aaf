use Rattle.std.proofs.Common.{◌≡◌, ◌∙◌, ◌+◌, ◌||◌, sym, ap, rules, true, get_or, drop, SFits, w64}
use Rattle.std.specs.List.{list_any}
use Rattle.std.proofs.lemmas.Int.{to_z-of_z}
use Rattle.std.proofs.lemmas.List.{drop_more, drop_all}
use Rattle.qc_model.specs.Content.{Rule}
use Rattle.qc_model.specs.Domains.{box_within}
use Rattle.qc_model.specs.Refuted.{refuted_by}
use Rattle.qc_model.specs.Valid.{is_constraint}
use Rattle.model_levels.proofs.Items.{all_item}
use Rattle.tell_moves.proofs.refuting.is_refuted.Goals as goal

pub rule_refutes_in-requires-clause-asked : goal.rule_refutes_in-requires-clause-asked
rule_refutes_in-requires-clause-asked c = record {
  rule = all_item (is_constraint c.args.problem.now.variables) c.args.rules.now c.loop-rule.rule-index c.rule-item.result c.requires.rules c.loop-rule-test.true c.rule-item.is;
  declared = c.requires.declared;
  full = c.requires.full;
}

pub returns-then-rule_refutes_in : goal.returns-then-rule_refutes_in
returns-then-rule_refutes_in c =
    let v_fits : SFits w64 c.args.v = search rules in
    let box = box_within c.args.store.now.box c.args.x.0 c.args.v c.args.v in
    let rs = c.args.rules.now in
    let k = c.loop-rule.rule-index in
    let rule = c.rule-item.result in
    let told : c.rule_refutes_in.result ≡ refuted_by rule box = simp to_z-of_z at c.rule_refutes_in.ensures in
    let here : refuted_by (get_or rs k rule) box ≡ true = ap (λ (r : Rule). refuted_by r box) (sym c.rule-item.is) ∙ (sym told ∙ c.if-rule_refutes_in.true) in
    let so_far : list_any (λ r. refuted_by r box) (drop k rs) ≡ list_any (λ r. refuted_by r box) rs = simp to_z-of_z at c.loop-rule.invariant in
    sym (ap (λ b. b || list_any (λ r. refuted_by r box) (drop (k + 1) rs)) here)
    ∙ (sym (ap (list_any (λ r. refuted_by r box)) (drop_more rs k rule c.loop-rule-test.true)) ∙ so_far)

pub returns : goal.returns
returns c =
    let v_fits : SFits w64 c.args.v = search rules in
    let box = box_within c.args.store.now.box c.args.x.0 c.args.v c.args.v in
    let rs = c.args.rules.now in
    let so_far : list_any (λ r. refuted_by r box) (drop c.loop-rule.rule-index rs) ≡ list_any (λ r. refuted_by r box) rs = simp to_z-of_z at c.loop-rule.invariant in
    sym (ap (list_any (λ r. refuted_by r box)) (drop_all c.loop-rule.rule-index rs c.loop-rule-test.false)) ∙ so_far
