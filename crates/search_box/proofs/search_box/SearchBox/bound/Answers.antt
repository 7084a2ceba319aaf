use Rattle.std.proofs.Common.{◌≡◌, ap, subst, true, arith}
use Rattle.qc_model.specs.Domains.{declared_box, is_sub_box}
use Rattle.fd_store.specs.Held.{Follows}
use Rattle.search_box.specs.Boxed.{Boxed}
use Rattle.search_box.proofs.Entering.{entered_on}
use Rattle.search_box.proofs.Foreseeing.{foreseen_on}
use Rattle.search_box.proofs.GivenUp.{bound_sub}
use Rattle.search_box.proofs.Keeping.{sub_self}
use Rattle.box_laws.proofs.Readings.{box_size}
use Rattle.search_box.proofs.search_box.SearchBox.bound.Goals as goal

pub give_up-requires-clause-few : goal.give_up-requires-clause-few
give_up-requires-clause-few c =
    let size = box_size c.self.inside.problem.now c.self.inside.store.box c.self.invariant.declared in omega (arith, size, c.known.ensures.few_variables)

pub invariant_of-self : goal.invariant_of-self
invariant_of-self c = record {
  declared = bound_sub c.give_up.result c.args.sense c.args.x _ _ c.self.inside.store.box c.give_up.new.store.box (declared_box c.self.inside.problem.now) _ _ c.give_up.ensures.answer c.give_up.ensures.same c.self.invariant.declared;
  ready = c.self.invariant.ready;
  same = c.self.invariant.same;
  value_each = c.self.invariant.value_each;
  foreseen = foreseen_on c.self.inside.problem.now c.self.inside.store c.give_up.new.store c.self.inside.foresight c.give_up.ensures.past c.self.invariant.foreseen;
  shown = c.self.invariant.shown;
}

pub returns-clause-on : goal.returns-clause-on
returns-clause-on c =
    let old = c.self.inside.store.box in
    let new = c.give_up.new.store.box in
    let fewer = bound_sub c.give_up.result c.args.sense c.args.x _ _ old new old _ _ c.give_up.ensures.answer c.give_up.ensures.same (sub_self old (declared_box c.self.inside.problem.now) c.self.invariant.declared) in
    record {
      game = ap (λ (b : Boxed). b.game) c.self.view_is;
      values = ap (λ (b : Boxed). b.values) c.self.view_is;
      follows = subst (λ (b : Boxed). Follows b.store c.give_up.new.store) c.self.view_is c.give_up.ensures.past;
      fewer = subst (λ (b : Boxed). is_sub_box new b.store.box ≡ true) c.self.view_is fewer;
    }

pub returns-clause-here : goal.returns-clause-here
returns-clause-here c = λ g i h full. entered_on g i c.args.self.now _ h (returns-clause-on c) full
