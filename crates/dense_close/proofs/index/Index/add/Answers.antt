use Rattle.std.proofs.Common.{◌≡◌, ◌∙◌, true, ap, sym, subst, length, List, [], ◌∷◌, ◌++◌}
use Rattle.std.specs.List.{list_all}
use Rattle.model_arguments.specs.Written.{variable_numbers}
use Rattle.qc_model.specs.declared.problem.VarId.{VarId}
use Rattle.qc_model.specs.Arguments.{variables_of}
use Rattle.dense_close.specs.Index.{Index, has_it, IsIndexTo}
use Rattle.dense_close.proofs.Indexed.{index_more}
use Rattle.dense_close.proofs.Own.{own_below}
use Rattle.dense_close.proofs.index.Index.add.Goals as goal

pub add_rule-requires : goal.add_rule-requires
add_rule-requires c =
    let own_is = ap variable_numbers c.as_slice.ensures.value ∙ (c.in_ok-items.ensures ∙ ap variables_of c.arguments.ensures) in
    own_below c.args.problem.now c.known.ensures c.args.c.0 c.constraint-rule.result.now c.constraint-rule.ensures (length c.self.inside.having)
    (ap (λ (i : Index). length i.having) c.self.view_is ∙ c.requires.earlier.variables) (variable_numbers c.as_slice.result.now) own_is

pub returns : goal.returns
returns c =
    let own_is = ap variable_numbers c.as_slice.ensures.value ∙ (c.in_ok-items.ensures ∙ ap variables_of c.arguments.ensures) in
    let was = subst (IsIndexTo c.args.c.0 c.args.problem.now) (sym c.self.view_is) c.requires.earlier in
    index_more c.args.problem.now c.args.c.0 c.constraint-rule.result.now _ _ c.in_ok-items.items.items c.constraint-rule.ensures was (c.in_ok-push.ensures.items ∙ ap (λ (o : List VarId). c.self.inside.own.items ++ o ∷ []) c.new.ensures) c.in_ok-add_rule.ensures.grown
    (c.in_ok-items.ensures ∙ ap variables_of c.arguments.ensures) (subst (λ xs. list_all (has_it c.add_rule.new.self c.args.c.0) xs ≡ true) (ap variable_numbers c.as_slice.ensures.value) c.in_ok-add_rule.ensures.added)
