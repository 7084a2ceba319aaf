use Rattle.std.proofs.Common.{◌≡◌, ◌∙◌, ◌||◌, ◌<◌, Bool, ℤ, refl, sym, true, false, subst, to_z, w64}
use Rattle.std.specs.Prelude.{int_le, nat_abs, pos, negsuc, ◌-ℤ◌}
use Rattle.qc_model.specs.Domains.{values_left, has_value}
use Rattle.qc_model.specs.Valid.{is_number}
use Rattle.model_arguments.proofs.Values.{value_passes}
use Rattle.search_joint.proofs.Among.{IsFirstFrom, first_from, none_from}
use Rattle.search_joint.proofs.Narrower.{narrowed_same, narrowed_more}
use Rattle.search_joint.proofs.Sizes.{passed_number, passed_after, passed_fits}
use Rattle.search_joint.proofs.Walking.{none_lower, below_next, place_low, place_high, place_nearer}
use Rattle.search_joint.proofs.narrowing.keep_shared.Goals as goal

pub loop-v-init : goal.loop-v-init
loop-v-init c =
    let s = c.args.store.now in
    let x = c.args.x.0 in
    record {
      narrowed = narrowed_same x s s refl refl;
      below = λ v h l. absurd (none_lower v (value_passes is_number (values_left s.box x) v c.known.ensures.numbers h) l);
      same = λ e. refl;
      from = refl;
      upto = refl;
    }

-- the value that is looked at
first : (c : goal.In_ok-missed) → IsFirstFrom (values_left c.loop-v.store.box c.args.x.0) (to_z w64 c.loop-v.at-bits) c.in-Some.v
first c = first_from (values_left c.loop-v.store.box c.args.x.0) (to_z w64 c.loop-v.at-bits) c.in-Some.v (sym c.in-Some.is ∙ c.next.ensures)

small : (c : goal.In_ok-missed) → is_number c.in-Some.v ≡ true
small c = value_passes is_number (values_left c.loop-v.store.box c.args.x.0) c.in-Some.v c.known-in-Some.ensures.numbers (first c).left

pub overflow_add-at : goal.overflow_add-at
overflow_add-at c = passed_fits c.in-Some.v (small c)

pub loop-v-smaller : goal.loop-v-smaller
loop-v-smaller c =
    let at : ℤ = to_z w64 c.loop-v.at-bits in
    subst (λ z. nat_abs (pos 1000000001 -ℤ z) < nat_abs (pos 1000000001 -ℤ at)) (sym (passed_after c.in-Some.v (small c))) (place_nearer at c.in-Some.v (small c) (first c).up)

missed : (b m : Bool) → b || m ≡ false → (b ≡ false) × (m ≡ false)
missed true m h = cc
missed false m h = (refl, h)

pub loop-v-preserved : goal.loop-v-preserved
loop-v-preserved c =
    let x = c.args.x.0 in
    let v = c.in-Some.v in
    let next = passed_after v (small c) in
    let e = c.in_ok-missed.ensures in
    let is_there = subst (λ z. has_value (values_left c.cut_missing.new.store.box x) z ≡ true → has_value (values_left c.args.to.now.box x) z ≡ true) (passed_number v (small c)) e.missing in
    record {
      narrowed = narrowed_more x c.args.store.now c.loop-v.store c.cut_missing.new.store c.loop-v.invariant.narrowed c.cut_missing.ensures.narrowed;
      below = below_next (values_left c.loop-v.store.box x) (values_left c.cut_missing.new.store.box x) (values_left c.args.to.now.box x) (to_z w64 c.loop-v.at-bits) v _ next (first c) c.cut_missing.ensures.narrowed.fewer is_there c.loop-v.invariant.below;
      same = λ k. let both = missed c.loop-v.is_cut c.in_ok-missed.missed k in e.same both.1 ∙ c.loop-v.invariant.same both.0;
      from = subst (λ z. int_le (negsuc 999999999) z ≡ true) (sym next) (place_low (to_z w64 c.loop-v.at-bits) v c.loop-v.invariant.from (first c).up);
      upto = subst (λ z. int_le z (pos 1000000001) ≡ true) (sym next) (place_high v (small c));
    }

pub returns-clause-among : goal.returns-clause-among
returns-clause-among c =
    let vs = values_left c.loop-v.store.box c.args.x.0 in
    record { each = λ v h. c.loop-v.invariant.below v h (none_from vs (to_z w64 c.loop-v.at-bits) (sym c.in_default.is ∙ c.next.ensures) v h) }
