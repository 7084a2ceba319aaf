use Rattle.std.proofs.Common.{◌≡◌, ◌∙◌, true, sym, ap, length, subst}
use Rattle.std.specs.List.{list_all}
use Rattle.model_arguments.specs.Repeats.{has_place}
use Rattle.model_arguments.specs.Written.{args_at}
use Rattle.prop_engine.specs.Literals.{StaysOpen, IsLiteralOf}
use Rattle.prop_engine.specs.Watching.{IsHintsOf}
use Rattle.prop_engine.proofs.Open.{items_placed, just_kept, hints_set}
use Rattle.prop_engine.proofs.hints.Hints.looks_idle.Goals as goal

pub find-requires-clause-plain : goal.find-requires-clause-plain
find-requires-clause-plain c =
    let box = c.args.store.now.box in
    let rule = c.constraint-rule.result.now in
    let same = c.items_at-plain.ensures ∙ ap (λ a. args_at a 0) c.arguments.ensures in
    subst (λ xs. list_all (has_place (length box)) xs ≡ true) (sym same) (items_placed c.args.problem.now c.args.c.0 rule box 0 c.known.ensures c.constraint-rule.ensures c.requires.declared)

pub find-requires-clause-negated : goal.find-requires-clause-negated
find-requires-clause-negated c =
    let box = c.args.store.now.box in
    let rule = c.constraint-rule.result.now in
    let same = c.items_at-negated.ensures ∙ ap (λ a. args_at a 1) c.arguments-in-BoolClause.ensures in
    subst (λ xs. list_all (has_place (length box)) xs ≡ true) (sym same) (items_placed c.args.problem.now c.args.c.0 rule box 1 c.known.ensures c.constraint-rule.ensures c.requires.declared)

pub returns-in-Some-clause-hints : goal.returns-in-Some-clause-hints
returns-in-Some-clause-hints c =
    let rule = c.constraint-rule.result.now in
    let plain = c.items_at-plain.ensures ∙ ap (λ a. args_at a 0) c.arguments.ensures in
    let negated = c.items_at-negated.ensures ∙ ap (λ a. args_at a 1) c.arguments-in-BoolClause.ensures in
    let h = c.in-Some.found in
    let one = subst (λ ys. IsLiteralOf (args_at rule.args 0) ys h.one) negated (subst (λ xs. IsLiteralOf xs c.items_at-negated.result.now h.one) plain c.in-Some.ensures.one) in
    let other = subst (λ ys. IsLiteralOf (args_at rule.args 0) ys h.other) negated (subst (λ xs. IsLiteralOf xs c.items_at-negated.result.now h.other) plain c.in-Some.ensures.other) in
    hints_set c.args.problem.now c.self.inside.items.items c.args.c.0 rule h (subst (IsHintsOf c.args.problem.now) (sym c.self.view_is) c.requires.hints) c.constraint-rule.ensures
    (ap (λ r. r.pred) (sym c.rule.view_is) ∙ c.in-BoolClause.is, (one, other))

pub returns-in-Some-clause-closed : goal.returns-in-Some-clause-closed
returns-in-Some-clause-closed c t =
    let box = c.args.store.now.box in
    let rule = c.constraint-rule.result.now in
    let plain = c.items_at-plain.ensures ∙ ap (λ a. args_at a 0) c.arguments.ensures in
    let negated = c.items_at-negated.ensures ∙ ap (λ a. args_at a 1) c.arguments-in-BoolClause.ensures in
    just_kept c.args.problem.now c.args.c.0 rule box c.constraint-rule.ensures (ap (λ r. r.pred) (sym c.rule.view_is) ∙ c.in-BoolClause.is)
    (subst (λ ys. StaysOpen box (args_at rule.args 0) ys) negated (subst (λ xs. StaysOpen box xs c.items_at-negated.result.now) plain c.in-Some.ensures.open))
