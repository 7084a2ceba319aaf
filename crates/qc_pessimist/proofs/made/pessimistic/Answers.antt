use Rattle.std.proofs.Common.{◌≡◌, ◌∙◌, sym, true, false}
use Rattle.qc_pessimist.specs.Refusals.{is_chosen}
use Rattle.qc_pessimist.proofs.NoBetter.{no_better_at_worst}
use Rattle.qc_pessimist.proofs.Owed.{reads_as, few_scopes, draft_valid}
use Rattle.qc_pessimist.proofs.made.pessimistic.Goals as goal

pub returns-then-not-names_a_wish-clause-law : goal.returns-then-not-names_a_wish-clause-law
returns-then-not-names_a_wish-clause-law c = no_better_at_worst (is_chosen c.args.places) c.args.problem.now

pub returns-in_err-opposed_draft-clause-law : goal.returns-in_err-opposed_draft-clause-law
returns-in_err-opposed_draft-clause-law c = no_better_at_worst (is_chosen c.args.places) c.args.problem.now

pub returns-clause-law : goal.returns-clause-law
returns-clause-law c = no_better_at_worst (is_chosen c.args.places) c.args.problem.now

pub returns-clause-reads : goal.returns-clause-reads
returns-clause-reads c = reads_as (is_chosen c.args.places) c.args.problem.now _ (c.in-Some.ensures.content ∙ c.in_ok-opposed_draft.ensures.made)

pub unreachable-requires : goal.unreachable-requires
unreachable-requires c =
    let valid = draft_valid (is_chosen c.args.places) c.args.problem.now c.in_ok-opposed_draft.field-0 c.known.ensures c.in_ok-opposed_draft.ensures.made c.in_ok-opposed_draft.ensures.few in
    let k : false ≡ true = c.in-None.ensures.exact.1 valid in
    cc

pub returns-clause-readable : goal.returns-clause-readable
returns-clause-readable c = (
  sym c.names_a_wish.ensures ∙ c.if-not-names_a_wish.false,
  few_scopes (is_chosen c.args.places) c.args.problem.now c.in_ok-opposed_draft.field-0 c.in_ok-opposed_draft.ensures.made c.in_ok-opposed_draft.ensures.few,
)
