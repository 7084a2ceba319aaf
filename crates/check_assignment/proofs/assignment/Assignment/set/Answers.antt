use Rattle.std.proofs.Common.{◌≡◌, ◌≤◌, ℤ, ◌<◌, ◌∙◌, sym, ap, subst, arith, ℕ, List, length, get_or, set, take, drop, ◌++◌, slice_get, Some}
use Rattle.std.specs.Prelude.{pos, ◌-ℤ◌, unsigned_abs}
use Rattle.std.proofs.lemmas.Bool.{leb-true}
use Rattle.std.proofs.lemmas.Int.{to_z-of_z, fits_signed_from_abs}
use Rattle.std.proofs.lemmas.List.{take_at, set-get_or}
use mir.Val.{SFits, to_z}
use mir.Syntax.{w64}
use Rattle.check_assignment.specs.Assigned.{Assigned}
use Rattle.check_assignment.specs.declared.term.Term.{Term}
use Rattle.check_assignment.specs.declared.standing.Standing.{Standing}
use Rattle.check_assignment.specs.Terms.{moved}
use Rattle.check_assignment.specs.Keeping.{Keeps, AreSmall}
use Rattle.check_assignment.proofs.Changed.{small_standings, value_small, changed, value_at, step_small}
use Rattle.check_assignment.proofs.assignment.Assignment.set.Goals as goal

-- numbers this small fit
value_fits : (z : ℤ) → unsigned_abs z ≤ 1000000000 → SFits w64 z
value_fits z h = fits_signed_from_abs w64 z (omega (arith, h))

step_fits : (z : ℤ) → unsigned_abs z ≤ 2000000000 → SFits w64 z
step_fits z h = fits_signed_from_abs w64 z (omega (arith, h))

pub overflow_sub-value : goal.overflow_sub-value
overflow_sub-value c =
    let vs = c.self.inside.values.items in
    let P : Assigned → Type 0 = λ a. c.args.x.0 < length a.items in
    let within = subst P (sym c.self.view_is) c.requires.var in
    let u = c.args.value in
    let v = c.index-last.result.now in
    let near = value_small vs c.args.x.0 v c.self.invariant.numbers within c.index-last.ensures in
    let u_fits : SFits w64 u = c.ranges.value in
    let v_fits : SFits w64 v = value_fits v near in
    simp to_z-of_z (step_fits (u -ℤ v) (step_small u v (leb-true (unsigned_abs u) 1000000000 c.requires.number) near))

pub returns-then-last-value-clause-items : goal.returns-then-last-value-clause-items
returns-then-last-value-clause-items c =
    let vs = c.self.inside.values.items in
    let x = c.args.x.0 in
    let v = c.index-last.result.now in
    let P : Assigned → Type 0 = λ a. x < length a.items in
    let within = subst P (sym c.self.view_is) c.requires.var in
    let u_fits : SFits w64 c.args.value = c.ranges.value in
    let v_fits : SFits w64 v = value_fits v (value_small vs x v c.self.invariant.numbers within c.index-last.ensures) in
    let same : v ≡ c.args.value = simp to_z-of_z at (ap (to_z w64) c.if-last-value.true) in
    let kept : vs ≡ set vs x c.args.value = sym (set-get_or vs x v) ∙ ap (set vs x) (sym c.index-last.ensures ∙ same) in
    subst (λ (a : Assigned). a.items ≡ set a.items x c.args.value) c.self.view_is kept

pub move_terms-requires-clause-step : goal.move_terms-requires-clause-step
move_terms-requires-clause-step c =
    let vs = c.self.inside.values.items in
    let P : Assigned → Type 0 = λ a. c.args.x.0 < length a.items in
    let within = subst P (sym c.self.view_is) c.requires.var in
    let u = c.args.value in
    let v = c.index-last.result.now in
    let near = value_small vs c.args.x.0 v c.self.invariant.numbers within c.index-last.ensures in
    let small = step_small u v (leb-true (unsigned_abs u) 1000000000 c.requires.number) near in
    let u_fits : SFits w64 u = c.ranges.value in
    let v_fits : SFits w64 v = value_fits v near in
    let moved_fits : SFits w64 (u -ℤ v) = step_fits (u -ℤ v) small in
    simp to_z-of_z small

pub move_terms-requires-clause-small : goal.move_terms-requires-clause-small
move_terms-requires-clause-small c =
    subst AreSmall (sym c.as_mut_slice.ensures.value)
    (small_standings c.self.inside.problem.now c.self.inside.values.items c.self.inside.terms c.self.inside.standings.items c.known.ensures c.self.invariant)

pub invariant_of-self : goal.invariant_of-self
invariant_of-self c =
    let g = c.self.inside.problem.now in
    let vs = c.self.inside.values.items in
    let ts = c.self.inside.terms in
    let ss = c.self.inside.standings.items in
    let x = c.args.x.0 in
    let P : Assigned → Type 0 = λ a. x < length a.items in
    let within = subst P (sym c.self.view_is) c.requires.var in
    let u = c.args.value in
    let v = c.index-last.result.now in
    let near = value_small vs x v c.self.invariant.numbers within c.index-last.ensures in
    let small = step_small u v (leb-true (unsigned_abs u) 1000000000 c.requires.number) near in
    let u_fits : SFits w64 u = c.ranges.value in
    let v_fits : SFits w64 v = value_fits v near in
    let moved_fits : SFits w64 (u -ℤ v) = step_fits (u -ℤ v) small in
    let step : u -ℤ v ≡ u -ℤ get_or vs x (pos 0) = ap (λ z. u -ℤ z) (value_at vs x v within c.index-last.ensures) in
    let now = c.move_terms.new.standings in
    let is_now : take c.self.inside.standings.len (now ++ drop (length now) ss) ≡ now = take_at now (drop (length now) ss) c.self.inside.standings.len (c.move_terms.ensures.length ∙ c.as_mut_slice.ensures.len) in
    let long : length now ≡ length ss = c.move_terms.ensures.length ∙ ap length c.as_mut_slice.ensures.value in
    let m = simp to_z-of_z at c.move_terms.ensures.moved in
    let Q : List Standing → List Term → Type 0 = λ old terms. (k : ℕ) (s : Standing) → slice_get old k ≡ Some s → slice_get now k ≡ Some (moved terms k (u -ℤ v) s) in
    let are = subst (λ terms. Q ss terms) c.of.ensures (subst (λ old. Q old c.of.result.now) c.as_mut_slice.ensures.value m) in
    simp to_z-of_z (subst (λ zs. Keeps g (set vs x u) ts zs) (sym is_now) (changed g vs ts ss now x u (u -ℤ v) c.known.ensures c.self.invariant within c.requires.number step long are))
