use Rattle.std.proofs.Common.{◌≡◌, subst, sym, ◌∙◌, ap}
use Rattle.qc_model.specs.Content.{Rule}
use Rattle.qc_model.specs.Meaning.{meaning_of, element, plus}
use Rattle.qc_model.specs.RowMeaning.{plain_meaning, row_meaning}
use Rattle.model_arguments.specs.Written.{arg_at}
use Rattle.qc_refuter.proofs.Ready.{rule_met}
use Rattle.dense_quiet.specs.declared.relating.Relation.TheVariants.{Sum}
use Rattle.dense_quiet.specs.Guessing.{IsSpreadOf, KeepsOneOf}
use Rattle.dense_quiet.specs.Quiet.{by_spans, refuted_in}
use Rattle.dense_quiet.proofs.Outside.{relation_kept}
use Rattle.dense_quiet.proofs.Spread.{spread_spared, spared_kept, row_plain}
use Rattle.dense_quiet.proofs.guessing.kept_by_ends.Goals as goal

pub kept_in_array-requires : goal.kept_in_array-requires
kept_in_array-requires c = rw c.arguments.ensures (rule_met c.args.problem.now c.args.store.now.box c.known.ensures.domains c.requires.declared c.requires.full c.args.rule.now c.requires.rule)

pub kept_in_sum-requires : goal.kept_in_sum-requires
kept_in_sum-requires c = rw c.arguments-in-Plus.ensures (rule_met c.args.problem.now c.args.store.now.box c.known.ensures.domains c.requires.declared c.requires.full c.args.rule.now c.requires.rule)

pub guess_as-requires : goal.guess_as-requires
guess_as-requires c = rw c.arguments-in_default.ensures (rule_met c.args.problem.now c.args.store.now.box c.known.ensures.domains c.requires.declared c.requires.full c.args.rule.now c.requires.rule)

pub returns-in-Element-clause-kept : goal.returns-in-Element-clause-kept
returns-in-Element-clause-kept c = λ sure apart.
    let r = c.args.rule.now in
    let s = c.kept_in_array.result.stretch in
    let row : row_meaning c.meaning_of-row.result ≡ meaning_of r.pred = subst (λ (z : Rule). row_meaning c.meaning_of-row.result ≡ meaning_of z.pred) c.rule.view_is c.meaning_of-row.ensures in
    spared_kept r c.args.store.now.box c.args.x.0 s.low s.high
    (spread_spared r c.args.store.now.box c.args.x.0 s.low s.high (row_plain c.meaning_of-row.result r.pred row c.if-row.false ∙ ap plain_meaning c.in-Element.is) apart
    (subst (λ args. IsSpreadOf args c.args.x.0 c.args.store.now.box s.low s.high) c.arguments.ensures (c.kept_in_array.ensures sure)))

pub returns-in-Element-clause-array : goal.returns-in-Element-clause-array
returns-in-Element-clause-array c = λ is sure apart.
    let r = c.args.rule.now in
    let s = c.kept_in_array.result.stretch in
    spread_spared r c.args.store.now.box c.args.x.0 s.low s.high is apart (subst (λ args. IsSpreadOf args c.args.x.0 c.args.store.now.box s.low s.high) c.arguments.ensures (c.kept_in_array.ensures sure))

pub returns-in-Plus-clause-kept : goal.returns-in-Plus-clause-kept
returns-in-Plus-clause-kept c = λ sure apart.
    let r = c.args.rule.now in
    let s = c.kept_in_sum.result.stretch in
    let row : row_meaning c.meaning_of-row.result ≡ meaning_of r.pred = subst (λ (z : Rule). row_meaning c.meaning_of-row.result ≡ meaning_of z.pred) c.rule.view_is c.meaning_of-row.ensures in
    relation_kept Sum r c.args.store.now.box c.args.x.0 s.low s.high (row_plain c.meaning_of-row.result r.pred row c.if-row.false ∙ ap plain_meaning c.in-Plus.is) apart
    (subst (λ args. KeepsOneOf (by_spans (refuted_in Sum)) c.args.x.0 (arg_at args 0) (arg_at args 1) (arg_at args 2) c.args.store.now.box s.low s.high) c.arguments-in-Plus.ensures (c.kept_in_sum.ensures sure))

pub returns-in-Plus-clause-array : goal.returns-in-Plus-clause-array
returns-in-Plus-clause-array c = λ is sure apart.
    let r = c.args.rule.now in
    let row : row_meaning c.meaning_of-row.result ≡ meaning_of r.pred = subst (λ (z : Rule). row_meaning c.meaning_of-row.result ≡ meaning_of z.pred) c.rule.view_is c.meaning_of-row.ensures in
    absurd (never (sym (row_plain c.meaning_of-row.result r.pred row c.if-row.false ∙ ap plain_meaning c.in-Plus.is) ∙ is))
  where
    never : plus ≡ element → ⊥
    never e = cc
