use Rattle.std.proofs.Common.{◌≡◌, ◌∙◌, sym, subst, rules, length, true, replicate}
use Rattle.std.specs.Prelude.{pos}
use Rattle.std.specs.List.{list_all}
use Rattle.qc_model.specs.Valid.{is_number}
use Rattle.box_laws.proofs.Declared.{declared_is}
use Rattle.check_box.proofs.Fewer.{at_first}
use Rattle.check_box.proofs.Placing.{numbers_none}
use Rattle.qc_play.proofs.walk.Walk.new.Goals as goal

pub returns-clause-within : goal.returns-clause-within
returns-clause-within c =
    let g = c.args.problem.now in
    let box = c.in_ok-remains.ensures.0 in
    let size : length c.in_ok-values.values.items ≡ c.variables.result = search rules in
    let zeros : c.in_ok-values.values.items ≡ replicate c.variables.result (pos 0) = c.in_ok-values.ensures.items_if_clones_equal (λ y e. e) in
    record {
      joined = c.in_ok-joins.ensures.same;
      each = size ∙ c.variables.ensures;
      numbers = subst (λ vs. list_all is_number vs ≡ true) (sym zeros) (numbers_none c.variables.result);
      declared = declared_is g c.in_ok-remains.remains.box c.known.ensures.domains box;
      placed = λ full. at_first g c.in_ok-values.values.items c.in_ok-remains.remains.box;
    }

pub returns-clause-content : goal.returns-clause-content
returns-clause-content c = c.in_ok-remains.ensures.0
