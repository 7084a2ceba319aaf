use Rattle.std.proofs.Common.{ap, ◌∙◌, subst, refl}
use Rattle.qc_model.specs.Domains.{misses}
use Rattle.qc_model.specs.Meaning.{equal}
use Rattle.qc_model.specs.RowMeaning.{plain_meaning}
use Rattle.qc_refuter.proofs.Ready.{rule_met}
use Rattle.model_arguments.specs.Written.{arg_at, ints_at}
use Rattle.dense_quiet.specs.declared.relating.Relation.TheVariants.{AtMost, Below, Sum, Product, Lesser, Greater}
use Rattle.dense_quiet.specs.Quiet.{SparesTwo, SparesThree, by_spans, refuted_in, misses_number}
use Rattle.dense_quiet.specs.Taking.{takes_of}
use Rattle.dense_quiet.proofs.OneEnd.{quiet_two}
use Rattle.dense_quiet.proofs.Placed.{quiet_element}
use Rattle.dense_quiet.proofs.Related.{quiet_relation}
use Rattle.dense_quiet.proofs.quiet.is_quiet_as.Goals as goal

pub is_quiet_equality-requires : goal.is_quiet_equality-requires
is_quiet_equality-requires c =
    rw c.arguments-args.ensures (rule_met c.args.problem.now c.args.store.now.box c.known.ensures.domains c.requires.asked.declared c.requires.asked.full c.args.rule.now c.requires.asked.rule)

pub returns-in-Equal : goal.returns-in-Equal
returns-in-Equal c = λ h.
    let r = c.args.rule.now in
    let takes = takes_of c.args.taking c.args.problem.now in
    quiet_two equal misses (λ ls. refl) takes r c.args.store.now.box (c.requires.meaning ∙ ap plain_meaning c.in-Equal.is) c.requires.apart
    (subst (λ args. SparesTwo misses (takes r) (arg_at args 0) (arg_at args 1) c.args.store.now.box) c.arguments-args.ensures (c.is_quiet_equality.ensures h (takes r)))

pub is_quiet_by_ends-requires : goal.is_quiet_by_ends-requires
is_quiet_by_ends-requires c =
    rw c.arguments-args.ensures (rule_met c.args.problem.now c.args.store.now.box c.known.ensures.domains c.requires.asked.declared c.requires.asked.full c.args.rule.now c.requires.asked.rule)

pub is_quiet_by_ends-requires-in-Below : goal.is_quiet_by_ends-requires-in-Below
is_quiet_by_ends-requires-in-Below c =
    rw c.arguments-args.ensures (rule_met c.args.problem.now c.args.store.now.box c.known.ensures.domains c.requires.asked.declared c.requires.asked.full c.args.rule.now c.requires.asked.rule)

pub is_quiet_by_ends-requires-in-Plus : goal.is_quiet_by_ends-requires-in-Plus
is_quiet_by_ends-requires-in-Plus c =
    rw c.arguments-args.ensures (rule_met c.args.problem.now c.args.store.now.box c.known.ensures.domains c.requires.asked.declared c.requires.asked.full c.args.rule.now c.requires.asked.rule)

pub is_quiet_by_ends-requires-in-Times : goal.is_quiet_by_ends-requires-in-Times
is_quiet_by_ends-requires-in-Times c =
    rw c.arguments-args.ensures (rule_met c.args.problem.now c.args.store.now.box c.known.ensures.domains c.requires.asked.declared c.requires.asked.full c.args.rule.now c.requires.asked.rule)

pub is_quiet_by_ends-requires-in-Smaller : goal.is_quiet_by_ends-requires-in-Smaller
is_quiet_by_ends-requires-in-Smaller c =
    rw c.arguments-args.ensures (rule_met c.args.problem.now c.args.store.now.box c.known.ensures.domains c.requires.asked.declared c.requires.asked.full c.args.rule.now c.requires.asked.rule)

pub is_quiet_by_ends-requires-in-Greater : goal.is_quiet_by_ends-requires-in-Greater
is_quiet_by_ends-requires-in-Greater c =
    rw c.arguments-args.ensures (rule_met c.args.problem.now c.args.store.now.box c.known.ensures.domains c.requires.asked.declared c.requires.asked.full c.args.rule.now c.requires.asked.rule)

pub returns-in-AtMost : goal.returns-in-AtMost
returns-in-AtMost c = λ h.
    let r = c.args.rule.now in
    let takes = takes_of c.args.taking c.args.problem.now in
    quiet_relation AtMost takes r c.args.store.now.box (c.requires.meaning ∙ ap plain_meaning c.in-AtMost.is) c.requires.apart
    (subst (λ args. SparesThree (by_spans (refuted_in AtMost)) (takes r) (arg_at args 0) (arg_at args 1) (arg_at args 2) c.args.store.now.box) c.arguments-args.ensures (c.is_quiet_by_ends.ensures h))

pub returns-in-Below : goal.returns-in-Below
returns-in-Below c = λ h.
    let r = c.args.rule.now in
    let takes = takes_of c.args.taking c.args.problem.now in
    quiet_relation Below takes r c.args.store.now.box (c.requires.meaning ∙ ap plain_meaning c.in-Below.is) c.requires.apart
    (subst (λ args. SparesThree (by_spans (refuted_in Below)) (takes r) (arg_at args 0) (arg_at args 1) (arg_at args 2) c.args.store.now.box) c.arguments-args.ensures (c.is_quiet_by_ends-in-Below.ensures h))

pub returns-in-Plus : goal.returns-in-Plus
returns-in-Plus c = λ h.
    let r = c.args.rule.now in
    let takes = takes_of c.args.taking c.args.problem.now in
    quiet_relation Sum takes r c.args.store.now.box (c.requires.meaning ∙ ap plain_meaning c.in-Plus.is) c.requires.apart
    (subst (λ args. SparesThree (by_spans (refuted_in Sum)) (takes r) (arg_at args 0) (arg_at args 1) (arg_at args 2) c.args.store.now.box) c.arguments-args.ensures (c.is_quiet_by_ends-in-Plus.ensures h))

pub returns-in-Times : goal.returns-in-Times
returns-in-Times c = λ h.
    let r = c.args.rule.now in
    let takes = takes_of c.args.taking c.args.problem.now in
    quiet_relation Product takes r c.args.store.now.box (c.requires.meaning ∙ ap plain_meaning c.in-Times.is) c.requires.apart
    (subst (λ args. SparesThree (by_spans (refuted_in Product)) (takes r) (arg_at args 0) (arg_at args 1) (arg_at args 2) c.args.store.now.box) c.arguments-args.ensures (c.is_quiet_by_ends-in-Times.ensures h))

pub returns-in-Smaller : goal.returns-in-Smaller
returns-in-Smaller c = λ h.
    let r = c.args.rule.now in
    let takes = takes_of c.args.taking c.args.problem.now in
    quiet_relation Lesser takes r c.args.store.now.box (c.requires.meaning ∙ ap plain_meaning c.in-Smaller.is) c.requires.apart
    (subst (λ args. SparesThree (by_spans (refuted_in Lesser)) (takes r) (arg_at args 0) (arg_at args 1) (arg_at args 2) c.args.store.now.box) c.arguments-args.ensures (c.is_quiet_by_ends-in-Smaller.ensures h))

pub returns-in-Greater : goal.returns-in-Greater
returns-in-Greater c = λ h.
    let r = c.args.rule.now in
    let takes = takes_of c.args.taking c.args.problem.now in
    quiet_relation Greater takes r c.args.store.now.box (c.requires.meaning ∙ ap plain_meaning c.in-Greater.is) c.requires.apart
    (subst (λ args. SparesThree (by_spans (refuted_in Greater)) (takes r) (arg_at args 0) (arg_at args 1) (arg_at args 2) c.args.store.now.box) c.arguments-args.ensures (c.is_quiet_by_ends-in-Greater.ensures h))

pub is_quiet_element-requires : goal.is_quiet_element-requires
is_quiet_element-requires c =
    rw c.arguments-args.ensures (rule_met c.args.problem.now c.args.store.now.box c.known.ensures.domains c.requires.asked.declared c.requires.asked.full c.args.rule.now c.requires.asked.rule)

pub returns-in-Element : goal.returns-in-Element
returns-in-Element c = λ h.
    let r = c.args.rule.now in
    let takes = takes_of c.args.taking c.args.problem.now in
    quiet_element takes r c.args.store.now.box (c.requires.meaning ∙ ap plain_meaning c.in-Element.is) c.requires.apart
    (subst (λ args. SparesTwo (misses_number (ints_at args 1)) (takes r) (arg_at args 0) (arg_at args 2) c.args.store.now.box) c.arguments-args.ensures (c.is_quiet_element.ensures h (takes r)))

pub returns-in-VariableElement : goal.returns-in-VariableElement
returns-in-VariableElement c = λ h. c.is_quiet_variable_element.ensures h (takes_of c.args.taking c.args.problem.now)

pub returns-in-Clause : goal.returns-in-Clause
returns-in-Clause c = λ h. c.is_quiet_clause.ensures h (takes_of c.args.taking c.args.problem.now)
