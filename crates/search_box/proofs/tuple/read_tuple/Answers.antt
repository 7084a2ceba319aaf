use Rattle.std.proofs.Common.{◌≡◌, ◌∙◌, sym, ap, subst, arith, true, take}
use Rattle.std.specs.List.{list_all}
use Rattle.qc_model.specs.Domains.{box_values, is_single}
use Rattle.qc_model.specs.Game.{allows}
use Rattle.qc_model.specs.Holds.{holds_on}
use Rattle.qc_model.specs.Valid.{is_constraint, is_number}
use Rattle.search_box.proofs.Complete.{closed_tuple_allowed}
use Rattle.box_laws.proofs.Readings.{box_size, read_numbers, rules_valid}
use Rattle.search_box.proofs.tuple.read_tuple.Goals as goal

pub read_values-requires-clause-bound : goal.read_values-requires-clause-bound
read_values-requires-clause-bound c =
    let size = box_size c.args.level.now.problem.now c.args.store.now.box c.requires.declared in omega (arith, size, c.args.level.now.stop_within)

pub read_values-requires-clause-few : goal.read_values-requires-clause-few
read_values-requires-clause-few c =
    let size = box_size c.args.level.now.problem.now c.args.store.now.box c.requires.declared in omega (arith, size, c.known.ensures.few_variables)

pub read_values-requires-clause-each : goal.read_values-requires-clause-each
read_values-requires-clause-each c = c.requires.each ∙ sym (box_size c.args.level.now.problem.now c.args.store.now.box c.requires.declared)

pub all_hold-requires-clause-rules : goal.all_hold-requires-clause-rules
all_hold-requires-clause-rules c =
    let g = c.args.level.now.problem.now in
    subst (λ rules. list_all (is_constraint g.variables) rules ≡ true) (sym c.args.level.now.has_rules) (rules_valid g c.args.level.now.number c.known.ensures.constraints)

pub all_hold-requires-clause-values : goal.all_hold-requires-clause-values
all_hold-requires-clause-values c =
    let g = c.args.level.now.problem.now in
    subst (λ vs. list_all is_number vs ≡ true) (sym (c.read_values.ensures.read c.requires.stand)) (read_numbers g c.args.store.now.box c.args.level.now.stop c.known.ensures.domains c.requires.declared c.requires.full)

pub returns-then-all_shown-clause-allowed : goal.returns-then-all_shown-clause-allowed
returns-then-all_shown-clause-allowed c =
    let l = c.args.level.now in
    sym (closed_tuple_allowed l.problem.now l.number c.args.store.now.box c.known.ensures l.is_scope c.requires.declared (sym c.requires.shown ∙ c.if-all_shown.true)
    (ap (λ n. list_all is_single (take n c.args.store.now.box)) (sym l.has_stop) ∙ c.requires.fixed) c.requires.closed)

pub returns-clause-allowed : goal.returns-clause-allowed
returns-clause-allowed c =
    let g = c.args.level.now.problem.now in
    let i = c.args.level.now.number in
    let stop = c.args.level.now.stop in
    c.all_hold.ensures
    ∙ (ap (λ rules. list_all (λ r. holds_on r (take stop c.read_values.new.values)) rules) c.args.level.now.has_rules
    ∙ (ap (allows g i) (c.read_values.ensures.read c.requires.stand) ∙ ap (λ m. allows g i (box_values (take m c.args.store.now.box))) c.args.level.now.has_stop))
