use Rattle.std.proofs.Common.{sym, ap, ◌∙◌, map, Some, None}
use Rattle.qdimacs.specs.Formula.{Block}
use Rattle.qdimacs.specs.Grammar.{File}
use Rattle.qdimacs.specs.Refusals.{is_known}
use Rattle.qdimacs.specs.declared.tree.NumberText.{NumberText}
use Rattle.qdimacs.proofs.Refused.{IsGood, by_part, free_is}
use Rattle.qdimacs.proofs.refuse.check.Goals as goal

pub returns-in-Some-clause-refused : goal.returns-in-Some-clause-refused
returns-in-Some-clause-refused c =
    let good : IsGood c.args.file.now = record { range = c.in_ok-seen.ensures.range; once = c.in_ok-seen.ensures.once; count = c.in_ok-seen.ensures.count; few = c.in_ok-seen.ensures.few } in
    by_part c.args.file.now (map (λ (n : NumberText). n.value) c.items.result.now) (Some c.in-Some.at) good
    (free_is c.args.file.now c.file.inside.variables.value (is_known c.in_ok-seen.seen) c.in_ok-free.free.variables c.items.result.now (ap (λ (g : File). g.variables.value) c.file.view_is) c.items.ensures c.in_ok-seen.ensures.known (ap (λ (b : Block). b.variables) c.in_ok-free.ensures))
    (sym c.great_part.ensures ∙ c.in-Some.is)

pub returns-clause-none : goal.returns-clause-none
returns-clause-none c =
    let good : IsGood c.args.file.now = record { range = c.in_ok-seen.ensures.range; once = c.in_ok-seen.ensures.once; count = c.in_ok-seen.ensures.count; few = c.in_ok-seen.ensures.few } in
    by_part c.args.file.now (map (λ (n : NumberText). n.value) c.items.result.now) None good
    (free_is c.args.file.now c.file.inside.variables.value (is_known c.in_ok-seen.seen) c.in_ok-free.free.variables c.items.result.now (ap (λ (g : File). g.variables.value) c.file.view_is) c.items.ensures c.in_ok-seen.ensures.known (ap (λ (b : Block). b.variables) c.in_ok-free.ensures))
    (sym c.great_part.ensures ∙ c.in-None.is)
