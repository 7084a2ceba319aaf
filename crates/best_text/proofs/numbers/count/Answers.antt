use Rattle.std.proofs.Common.{ℕ, List, subst, sym, ◌∙◌, arith}
use Rattle.std.proofs.lemmas.Result.{IfOk-weaker, IfErr-weaker}
use Rattle.std.proofs.lemmas.List.{nil_from_length}
use Rattle.best_text.specs.Stuck.{IsStuck, IsCount}
use Rattle.best_text.proofs.Figures.{first_ended, first_differs, first_told}
use Rattle.best_text.proofs.numbers.count.Goals as goal
use Rattle.best_text.proofs.numbers.count.Goals.{in_default-first-via-then-first-lt49, in_default-first-via-else-first-lt49+else-first-lt58}

pub returns-in_default-clause-err : goal.returns-in_default-clause-err
returns-in_default-clause-err c = first_ended c.args.most c.args.end c.args.bytes.now c.requires.0 c.requires.1 (nil_from_length c.args.bytes.now c.in_default.ensures.cases)

pub returns-in-49-to-57-clause-ok : goal.returns-in-49-to-57-clause-ok
returns-in-49-to-57-clause-ok c =
    let told = first_told c.in-Some.first.now c.from.result c.args.bytes.now c.in-Some.rest.now c.in-Some.ensures.cases.0 (omega arith) (omega arith) c.from.ensures in
    IfOk-weaker c.digits.result _ _ (λ r d. (sym told ∙ d.0, d.1, d.2)) c.digits.ensures.ok

pub returns-in-49-to-57-clause-err : goal.returns-in-49-to-57-clause-err
returns-in-49-to-57-clause-err c =
    let told = first_told c.in-Some.first.now c.from.result c.args.bytes.now c.in-Some.rest.now c.in-Some.ensures.cases.0 (omega arith) (omega arith) c.from.ensures in
    IfErr-weaker c.digits.result _ _ (λ left s. subst (λ (b : List ℕ). IsStuck (IsCount c.args.most c.args.end) b left) told s) c.digits.ensures.err

pub returns-in_default-first-clause-err : goal.returns-in_default-first-clause-err
returns-in_default-first-clause-err c =
    elim c.in_default-first.branch [
      | in_default-first-via-then-first-lt49 w ↦ first_differs c.args.most c.args.end c.in-Some.first.now c.args.bytes.now c.in-Some.rest.now c.requires.0 c.requires.1 c.in-Some.ensures.cases.0 (λ low high. omega arith)
      | in_default-first-via-else-first-lt49+else-first-lt58 w ↦ first_differs c.args.most c.args.end c.in-Some.first.now c.args.bytes.now c.in-Some.rest.now c.requires.0 c.requires.1 c.in-Some.ensures.cases.0 (λ low high. omega arith)
    ]
