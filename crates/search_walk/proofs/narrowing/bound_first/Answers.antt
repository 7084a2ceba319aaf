use Rattle.std.proofs.Common.{◌≡◌, ◌∙◌, [], ap, refl, sym, subst, arith, Bool, true, false, length, w64, to_z, of_z}
use Rattle.std.specs.Prelude.{not}
use Rattle.std.specs.Int.{int_max, int_min}
use Rattle.qc_model.specs.Content.{Game}
use Rattle.qc_model.specs.Domains.{values_left}
use Rattle.qc_model.specs.Valid.{is_number}
use Rattle.model_arguments.specs.Asked.{is_box_of}
use Rattle.model_arguments.proofs.Boxes.{left_small}
use Rattle.search_box.specs.Bounds.{BoundAnswers}
use Rattle.search_box.proofs.Keeping.{passed_number}
use Rattle.search_parts.proofs.Fitting.{number_among}
use Rattle.search_walk.proofs.Losing.{first_none, first_some, span_between}
use Rattle.search_walk.proofs.narrowing.bound_first.Goals as goal

unnot : (b : Bool) → not b ≡ true → b ≡ false
unnot true e = cc
unnot false e = refl

unfalse : (b : Bool) → not b ≡ false → b ≡ true
unfalse true e = refl
unfalse false e = cc

pub bound-requires-clause-var : goal.bound-requires-clause-var
bound-requires-clause-var c =
    let l = c.args.stage.now.level.now in
    let g = l.problem.now in
    let b = c.args.walk.now.remains in
    let w = c.args.worse in
    let r = c.between-worse.result in
    let vs = values_left b.store.box w.variable.0 in
    let declared : is_box_of g b.store.box ≡ true = subst (λ (f : Game). is_box_of f b.store.box ≡ true) c.requires.here.game c.known-2.ensures.declared in
    let left = left_small g b.store.box w.variable.0 c.known.ensures.domains declared in
    let first_small = number_among vs c.first.result left c.first.ensures.left in
    let last_small = number_among vs c.last.result left c.last.ensures.left in
    let span = span_between g l.number w r c.first.result c.last.result c.requires.span first_small last_small c.between-worse.ensures.sense c.between-worse.ensures.variable
    (c.between-worse.ensures.lo ∙ ap (int_max w.lo) (passed_number c.first.result first_small)) (c.between-worse.ensures.hi ∙ ap (int_min w.hi) (passed_number c.last.result last_small)) in
    let size = c.known-2.ensures.size ∙ ap (λ (f : Game). length f.variables) c.requires.here.game in
    omega (arith, span.exists, size)

pub bound-requires-clause-lo : goal.bound-requires-clause-lo
bound-requires-clause-lo c =
    let l = c.args.stage.now.level.now in
    let g = l.problem.now in
    let b = c.args.walk.now.remains in
    let w = c.args.worse in
    let r = c.between-worse.result in
    let vs = values_left b.store.box w.variable.0 in
    let declared : is_box_of g b.store.box ≡ true = subst (λ (f : Game). is_box_of f b.store.box ≡ true) c.requires.here.game c.known-2.ensures.declared in
    let left = left_small g b.store.box w.variable.0 c.known.ensures.domains declared in
    let first_small = number_among vs c.first.result left c.first.ensures.left in
    let last_small = number_among vs c.last.result left c.last.ensures.left in
    let span = span_between g l.number w r c.first.result c.last.result c.requires.span first_small last_small c.between-worse.ensures.sense c.between-worse.ensures.variable
    (c.between-worse.ensures.lo ∙ ap (int_max w.lo) (passed_number c.first.result first_small)) (c.between-worse.ensures.hi ∙ ap (int_min w.hi) (passed_number c.last.result last_small)) in
    subst (λ n. is_number n ≡ true) (sym (passed_number r.lo span.lo)) span.lo

pub bound-requires-clause-hi : goal.bound-requires-clause-hi
bound-requires-clause-hi c =
    let l = c.args.stage.now.level.now in
    let g = l.problem.now in
    let b = c.args.walk.now.remains in
    let w = c.args.worse in
    let r = c.between-worse.result in
    let vs = values_left b.store.box w.variable.0 in
    let declared : is_box_of g b.store.box ≡ true = subst (λ (f : Game). is_box_of f b.store.box ≡ true) c.requires.here.game c.known-2.ensures.declared in
    let left = left_small g b.store.box w.variable.0 c.known.ensures.domains declared in
    let first_small = number_among vs c.first.result left c.first.ensures.left in
    let last_small = number_among vs c.last.result left c.last.ensures.left in
    let span = span_between g l.number w r c.first.result c.last.result c.requires.span first_small last_small c.between-worse.ensures.sense c.between-worse.ensures.variable
    (c.between-worse.ensures.lo ∙ ap (int_max w.lo) (passed_number c.first.result first_small)) (c.between-worse.ensures.hi ∙ ap (int_min w.hi) (passed_number c.last.result last_small)) in
    subst (λ n. is_number n ≡ true) (sym (passed_number r.hi span.hi)) span.hi

pub returns-in_default-clause-told : goal.returns-in_default-clause-told
returns-in_default-clause-told c =
    let l = c.args.stage.now.level.now in
    let g = l.problem.now in
    let b = c.args.walk.now.remains in
    let w = c.args.worse in
    let r = c.between-worse.result in
    let vs = values_left b.store.box w.variable.0 in
    let declared : is_box_of g b.store.box ≡ true = subst (λ (f : Game). is_box_of f b.store.box ≡ true) c.requires.here.game c.known-2.ensures.declared in
    let left = left_small g b.store.box w.variable.0 c.known.ensures.domains declared in
    let first_small = number_among vs c.first.result left c.first.ensures.left in
    let last_small = number_among vs c.last.result left c.last.ensures.left in
    let span = span_between g l.number w r c.first.result c.last.result c.requires.span first_small last_small c.between-worse.ensures.sense c.between-worse.ensures.variable
    (c.between-worse.ensures.lo ∙ ap (int_max w.lo) (passed_number c.first.result first_small)) (c.between-worse.ensures.hi ∙ ap (int_min w.hi) (passed_number c.last.result last_small)) in
    λ s.
    first_none g l.number b.store.box c.bound.new.self.store.box r span _ _ (passed_number r.lo span.lo) (passed_number r.hi span.hi) c.args.walk.now.steps c.bound.new.steps c.requires.none c.args.walk.now.joins s
    c.in_ok-bound.bound c.in_default.is c.in_ok-bound.ensures.answer

pub returns-clause-told : goal.returns-clause-told
returns-clause-told c =
    let l = c.args.stage.now.level.now in
    let g = l.problem.now in
    let b = c.args.walk.now.remains in
    let w = c.args.worse in
    let r = c.between-worse.result in
    let vs = values_left b.store.box w.variable.0 in
    let declared : is_box_of g b.store.box ≡ true = subst (λ (f : Game). is_box_of f b.store.box ≡ true) c.requires.here.game c.known-2.ensures.declared in
    let left = left_small g b.store.box w.variable.0 c.known.ensures.domains declared in
    let first_small = number_among vs c.first.result left c.first.ensures.left in
    let last_small = number_among vs c.last.result left c.last.ensures.left in
    let span = span_between g l.number w r c.first.result c.last.result c.requires.span first_small last_small c.between-worse.ensures.sense c.between-worse.ensures.variable
    (c.between-worse.ensures.lo ∙ ap (int_max w.lo) (passed_number c.first.result first_small)) (c.between-worse.ensures.hi ∙ ap (int_min w.hi) (passed_number c.last.result last_small)) in
    λ s.
    first_some g l.number b.store.box c.bound.new.self.store.box r span _ _ (passed_number r.lo span.lo) (passed_number r.hi span.hi) c.args.walk.now.steps c.bound.new.steps c.requires.none (λ x. left_small g b.store.box x c.known.ensures.domains declared)
    c.in_ok-bound.bound c.in-Some.bound c.add_bound.new.self (to_z w64 (of_z w64 c.in-Some.bound.best)) c.in-Some.is c.in_ok-bound.ensures.answer (λ n. passed_number c.in-Some.bound.best n) (c.add_bound.ensures.stands [] s)

pub returns-clause-entered : goal.returns-clause-entered
returns-clause-entered c =
    let l = c.args.stage.now.level.now in
    let b = c.args.walk.now.remains in
    let r = c.between-worse.result in
    let u = subst (BoundAnswers r.sense r.variable _ _ b.store.box c.bound.new.self.store.box c.args.walk.now.steps c.bound.new.steps) c.in-Some.is c.in_ok-bound.ensures.answer in
    λ e. c.bound.ensures.here l.problem.now l.number c.requires.here (sym u.emptied ∙ unnot c.in-Some.bound.is_empty e)

pub returns-clause-emptied : goal.returns-clause-emptied
returns-clause-emptied c =
    let b = c.args.walk.now.remains in
    let r = c.between-worse.result in
    let u = subst (BoundAnswers r.sense r.variable _ _ b.store.box c.bound.new.self.store.box c.args.walk.now.steps c.bound.new.steps) c.in-Some.is c.in_ok-bound.ensures.answer in
    λ e. sym u.emptied ∙ unfalse c.in-Some.bound.is_empty e
