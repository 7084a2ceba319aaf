use Rattle.std.proofs.Common.{◌≡◌, ◌∙◌, refl, ap, sym, subst, arith, true, length, Option, w64, to_z, of_z}
use Rattle.qc_model.specs.Content.{Game}
use Rattle.std.specs.Int.{int_max, int_min}
use Rattle.qc_model.specs.Domains.{declared_box, values_left}
use Rattle.qc_model.specs.Valid.{is_number}
use Rattle.model_arguments.specs.Asked.{is_box_of}
use Rattle.model_arguments.proofs.Boxes.{left_small}
use Rattle.joins.specs.Joins.{game_of}
use Rattle.prop_base.proofs.Steps.{follows_same}
use Rattle.search_box.proofs.Keeping.{passed_number, sub_self}
use Rattle.search_walk.specs.Aims.{AreWorse, NoneWorse, IsWorse}
use Rattle.search_walk.specs.declared.aim.Worse.{Worse}
use Rattle.search_parts.proofs.Fitting.{number_among}
use Rattle.search_walk.proofs.Losing.{nothing_lost, worse_here, bound_none, bound_some}
use Rattle.search_walk.proofs.narrowing.give_up.Goals as goal

pub returns-in_default-clause-told : goal.returns-in_default-clause-told
returns-in_default-clause-told c =
    let l = c.args.stage.now.level.now in
    let g = l.problem.now in
    let b = c.args.walk.now.remains in
    let joins = c.args.walk.now.joins in
    let declared : is_box_of g b.store.box ≡ true = subst (λ (f : Game). is_box_of f b.store.box ≡ true) c.requires.here.game c.known-2.ensures.declared in
    let none : NoneWorse g l.number joins = subst (λ (f : Game). NoneWorse f l.number joins) c.requires.joins (subst (λ (r : Option Worse). AreWorse (game_of joins) l.number joins r) c.in_default.is c.worse_values.ensures) in
    λ before s. nothing_lost g l.number b.store.box joins before (λ x. left_small g b.store.box x c.known.ensures.domains declared) s none c.args.walk.now.steps c.requires.none

pub returns-in_default-clause-on : goal.returns-in_default-clause-on
returns-in_default-clause-on c =
    let g = c.args.stage.now.level.now.problem.now in
    let b = c.args.walk.now.remains in
    let declared : is_box_of g b.store.box ≡ true = subst (λ (f : Game). is_box_of f b.store.box ≡ true) c.requires.here.game c.known-2.ensures.declared in
    record { game = refl; values = refl; follows = follows_same b.store b.store refl refl; fewer = sub_self b.store.box (declared_box g) declared }

pub bound-requires-clause-lo : goal.bound-requires-clause-lo
bound-requires-clause-lo c =
    let l = c.args.stage.now.level.now in
    let g = l.problem.now in
    let b = c.args.walk.now.remains in
    let joins = c.args.walk.now.joins in
    let w = c.between-worse.result in
    let declared : is_box_of g b.store.box ≡ true = subst (λ (f : Game). is_box_of f b.store.box ≡ true) c.requires.here.game c.known-2.ensures.declared in
    let m : IsWorse g l.number joins c.in-Some.worse = subst (λ (f : Game). IsWorse f l.number joins c.in-Some.worse) c.requires.joins (subst (λ (r : Option Worse). AreWorse (game_of joins) l.number joins r) c.in-Some.is c.worse_values.ensures) in
    let x = c.in-Some.worse.variable.0 in
    let left = left_small g b.store.box x c.known.ensures.domains declared in
    let first_is = passed_number c.first.result (number_among (values_left b.store.box x) c.first.result left c.first.ensures.left) in
    let last_is = passed_number c.last.result (number_among (values_left b.store.box x) c.last.result left c.last.ensures.left) in
    let here = worse_here g l.number joins b.store.box c.in-Some.worse w c.first.result c.last.result m c.first.ensures c.last.ensures (number_among (values_left b.store.box x) c.first.result left c.first.ensures.left) (number_among (values_left b.store.box x) c.last.result left c.last.ensures.left) c.between-worse.ensures.sense c.between-worse.ensures.variable
    (c.between-worse.ensures.lo ∙ ap (int_max c.in-Some.worse.lo) first_is) (c.between-worse.ensures.hi ∙ ap (int_min c.in-Some.worse.hi) last_is) in
    subst (λ n. is_number n ≡ true) (sym (passed_number w.lo here.lo)) here.lo

pub bound-requires-clause-hi : goal.bound-requires-clause-hi
bound-requires-clause-hi c =
    let l = c.args.stage.now.level.now in
    let g = l.problem.now in
    let b = c.args.walk.now.remains in
    let joins = c.args.walk.now.joins in
    let w = c.between-worse.result in
    let declared : is_box_of g b.store.box ≡ true = subst (λ (f : Game). is_box_of f b.store.box ≡ true) c.requires.here.game c.known-2.ensures.declared in
    let m : IsWorse g l.number joins c.in-Some.worse = subst (λ (f : Game). IsWorse f l.number joins c.in-Some.worse) c.requires.joins (subst (λ (r : Option Worse). AreWorse (game_of joins) l.number joins r) c.in-Some.is c.worse_values.ensures) in
    let x = c.in-Some.worse.variable.0 in
    let left = left_small g b.store.box x c.known.ensures.domains declared in
    let first_is = passed_number c.first.result (number_among (values_left b.store.box x) c.first.result left c.first.ensures.left) in
    let last_is = passed_number c.last.result (number_among (values_left b.store.box x) c.last.result left c.last.ensures.left) in
    let here = worse_here g l.number joins b.store.box c.in-Some.worse w c.first.result c.last.result m c.first.ensures c.last.ensures (number_among (values_left b.store.box x) c.first.result left c.first.ensures.left) (number_among (values_left b.store.box x) c.last.result left c.last.ensures.left) c.between-worse.ensures.sense c.between-worse.ensures.variable
    (c.between-worse.ensures.lo ∙ ap (int_max c.in-Some.worse.lo) first_is) (c.between-worse.ensures.hi ∙ ap (int_min c.in-Some.worse.hi) last_is) in
    subst (λ n. is_number n ≡ true) (sym (passed_number w.hi here.hi)) here.hi

pub returns-in_default-bound-clause-told : goal.returns-in_default-bound-clause-told
returns-in_default-bound-clause-told c =
    let l = c.args.stage.now.level.now in
    let g = l.problem.now in
    let b = c.args.walk.now.remains in
    let joins = c.args.walk.now.joins in
    let w = c.between-worse.result in
    let declared : is_box_of g b.store.box ≡ true = subst (λ (f : Game). is_box_of f b.store.box ≡ true) c.requires.here.game c.known-2.ensures.declared in
    let m : IsWorse g l.number joins c.in-Some.worse = subst (λ (f : Game). IsWorse f l.number joins c.in-Some.worse) c.requires.joins (subst (λ (r : Option Worse). AreWorse (game_of joins) l.number joins r) c.in-Some.is c.worse_values.ensures) in
    let x = c.in-Some.worse.variable.0 in
    let left = left_small g b.store.box x c.known.ensures.domains declared in
    let first_is = passed_number c.first.result (number_among (values_left b.store.box x) c.first.result left c.first.ensures.left) in
    let last_is = passed_number c.last.result (number_among (values_left b.store.box x) c.last.result left c.last.ensures.left) in
    let here = worse_here g l.number joins b.store.box c.in-Some.worse w c.first.result c.last.result m c.first.ensures c.last.ensures (number_among (values_left b.store.box x) c.first.result left c.first.ensures.left) (number_among (values_left b.store.box x) c.last.result left c.last.ensures.left) c.between-worse.ensures.sense c.between-worse.ensures.variable
    (c.between-worse.ensures.lo ∙ ap (int_max c.in-Some.worse.lo) first_is) (c.between-worse.ensures.hi ∙ ap (int_min c.in-Some.worse.hi) last_is) in
    λ before s.
    bound_none g l.number b.store.box c.bound.new.self.store.box joins before (λ x. left_small g b.store.box x c.known.ensures.domains declared) s w here _ _ (passed_number w.lo here.lo) (passed_number w.hi here.hi) c.args.walk.now.steps c.bound.new.steps c.requires.none
    c.in_ok-bound.bound c.in_default-bound.is c.in_ok-bound.ensures.answer

pub returns-then-bound-clause-told : goal.returns-then-bound-clause-told
returns-then-bound-clause-told c =
    let l = c.args.stage.now.level.now in
    let g = l.problem.now in
    let b = c.args.walk.now.remains in
    let joins = c.args.walk.now.joins in
    let w = c.between-worse.result in
    let declared : is_box_of g b.store.box ≡ true = subst (λ (f : Game). is_box_of f b.store.box ≡ true) c.requires.here.game c.known-2.ensures.declared in
    let m : IsWorse g l.number joins c.in-Some.worse = subst (λ (f : Game). IsWorse f l.number joins c.in-Some.worse) c.requires.joins (subst (λ (r : Option Worse). AreWorse (game_of joins) l.number joins r) c.in-Some.is c.worse_values.ensures) in
    let x = c.in-Some.worse.variable.0 in
    let left = left_small g b.store.box x c.known.ensures.domains declared in
    let first_is = passed_number c.first.result (number_among (values_left b.store.box x) c.first.result left c.first.ensures.left) in
    let last_is = passed_number c.last.result (number_among (values_left b.store.box x) c.last.result left c.last.ensures.left) in
    let here = worse_here g l.number joins b.store.box c.in-Some.worse w c.first.result c.last.result m c.first.ensures c.last.ensures (number_among (values_left b.store.box x) c.first.result left c.first.ensures.left) (number_among (values_left b.store.box x) c.last.result left c.last.ensures.left) c.between-worse.ensures.sense c.between-worse.ensures.variable
    (c.between-worse.ensures.lo ∙ ap (int_max c.in-Some.worse.lo) first_is) (c.between-worse.ensures.hi ∙ ap (int_min c.in-Some.worse.hi) last_is) in
    let size = c.known-2.ensures.size ∙ ap (λ (f : Game). length f.variables) c.requires.here.game in
    λ before s.
    bound_some g l.number b.store.box c.bound.new.self.store.box joins before (λ x. left_small g b.store.box x c.known.ensures.domains declared) s w here _ _ (passed_number w.lo here.lo) (passed_number w.hi here.hi) c.args.walk.now.steps c.bound.new.steps c.requires.none
    c.in_ok-bound.bound c.in-Some-bound.bound c.add_bound.new.self (to_z w64 (of_z w64 c.in-Some-bound.bound.best)) c.in-Some-bound.is c.in_ok-bound.ensures.answer (omega (arith, here.exists, size)) (λ n. passed_number c.in-Some-bound.bound.best n) (c.add_bound.ensures.stands before s)

pub returns-clause-told : goal.returns-clause-told
returns-clause-told c =
    let l = c.args.stage.now.level.now in
    let g = l.problem.now in
    let b = c.args.walk.now.remains in
    let joins = c.args.walk.now.joins in
    let w = c.between-worse.result in
    let declared : is_box_of g b.store.box ≡ true = subst (λ (f : Game). is_box_of f b.store.box ≡ true) c.requires.here.game c.known-2.ensures.declared in
    let m : IsWorse g l.number joins c.in-Some.worse = subst (λ (f : Game). IsWorse f l.number joins c.in-Some.worse) c.requires.joins (subst (λ (r : Option Worse). AreWorse (game_of joins) l.number joins r) c.in-Some.is c.worse_values.ensures) in
    let x = c.in-Some.worse.variable.0 in
    let left = left_small g b.store.box x c.known.ensures.domains declared in
    let first_is = passed_number c.first.result (number_among (values_left b.store.box x) c.first.result left c.first.ensures.left) in
    let last_is = passed_number c.last.result (number_among (values_left b.store.box x) c.last.result left c.last.ensures.left) in
    let here = worse_here g l.number joins b.store.box c.in-Some.worse w c.first.result c.last.result m c.first.ensures c.last.ensures (number_among (values_left b.store.box x) c.first.result left c.first.ensures.left) (number_among (values_left b.store.box x) c.last.result left c.last.ensures.left) c.between-worse.ensures.sense c.between-worse.ensures.variable
    (c.between-worse.ensures.lo ∙ ap (int_max c.in-Some.worse.lo) first_is) (c.between-worse.ensures.hi ∙ ap (int_min c.in-Some.worse.hi) last_is) in
    let size = c.known-2.ensures.size ∙ ap (λ (f : Game). length f.variables) c.requires.here.game in
    λ before s.
    bound_some g l.number b.store.box c.bound.new.self.store.box joins before (λ x. left_small g b.store.box x c.known.ensures.domains declared) s w here _ _ (passed_number w.lo here.lo) (passed_number w.hi here.hi) c.args.walk.now.steps c.bound.new.steps c.requires.none
    c.in_ok-bound.bound c.in-Some-bound.bound c.add_bound.new.self (to_z w64 (of_z w64 c.in-Some-bound.bound.best)) c.in-Some-bound.is c.in_ok-bound.ensures.answer (omega (arith, here.exists, size)) (λ n. passed_number c.in-Some-bound.bound.best n) (c.add_bound.ensures.stands before s)
