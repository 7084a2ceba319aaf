use Rattle.std.proofs.Common.{◌≡◌, ◌∙◌, ◌++◌, ◌∷◌, [], sym, ap, arith, rules, length, get_or, pos, SFits, w64}
use Rattle.std.proofs.lemmas.Int.{to_z-of_z}
use Rattle.std.proofs.lemmas.List.{length-map, take_more}
use Rattle.qc_model.specs.Domains.{box_within, declared_box, domain_values, values_left}
use Rattle.qc_model.specs.Valid.{is_number}
use Rattle.model_arguments.proofs.Values.{value_passes}
use Rattle.tell_moves.proofs.Boxed.{has_place, in_at, in_fits, next_small, stands_more}
use Rattle.tell_moves.proofs.first.stand.Goals as goal

pub overflow_cast-k : goal.overflow_cast-k
overflow_cast-k c =
    let g = c.args.problem.now in
    let f = in_fits c.args.values.now (declared_box g) c.requires.declared in
    let m : length (declared_box g) ≡ length g.variables = length-map g.variables (λ x. domain_values x.domain) in
    let few = c.known.ensures.few_variables in
    let l = c.loop-k-test.true in
    omega (arith, f, m, few, l)

pub keep-requires-clause-var : goal.keep-requires-clause-var
keep-requires-clause-var c =
    let g = c.args.problem.now in
    let f = in_fits c.args.values.now (declared_box g) c.requires.declared in
    let m : length (declared_box g) ≡ length g.variables = length-map g.variables (λ x. domain_values x.domain) in
    let l = c.loop-k-test.true in
    has_place g c.known.ensures _ c.loop-k.walk.remains.box c.loop-k.invariant.stands c.loop-k.k (omega (arith, f, m, l))

pub keep-requires-clause-first : goal.keep-requires-clause-first
keep-requires-clause-first c =
    let g = c.args.problem.now in
    let k = c.loop-k.k in
    let v = get_or c.args.values.now k (pos 0) in
    let v_fits : SFits w64 v = search rules in
    simp to_z-of_z (value_passes is_number (values_left (declared_box g) k) v (next_small g c.known.ensures k) (in_at c.args.values.now (declared_box g) k (pos 0) c.requires.declared c.loop-k-test.true))

pub keep-requires-clause-last : goal.keep-requires-clause-last
keep-requires-clause-last c =
    let g = c.args.problem.now in
    let k = c.loop-k.k in
    let v = get_or c.args.values.now k (pos 0) in
    let v_fits : SFits w64 v = search rules in
    simp to_z-of_z (value_passes is_number (values_left (declared_box g) k) v (next_small g c.known.ensures k) (in_at c.args.values.now (declared_box g) k (pos 0) c.requires.declared c.loop-k-test.true))

pub loop-k-preserved : goal.loop-k-preserved
loop-k-preserved c =
    let g = c.args.problem.now in
    let k = c.loop-k.k in
    let vs = c.args.values.now in
    let v = get_or vs k (pos 0) in
    let v_fits : SFits w64 v = search rules in
    let box : c.keep.new.self.box ≡ box_within c.loop-k.walk.remains.box k v v = simp to_z-of_z at c.keep.ensures.content in
    let items : c.push.new.self.items ≡ c.loop-k.walk.values.items ++ v ∷ [] = simp to_z-of_z at c.in_ok-push.ensures.items in
    record {
      stands = stands_more g c.known.ensures vs k (pos 0) c.loop-k.walk.remains.box c.keep.new.self.box c.loop-k.invariant.stands c.requires.declared c.loop-k-test.true box;
      values = items ∙ (ap (λ us. us ++ v ∷ []) c.loop-k.invariant.values ∙ sym (take_more vs k (pos 0) c.loop-k-test.true));
      listing = c.loop-k.invariant.listing;
    }
