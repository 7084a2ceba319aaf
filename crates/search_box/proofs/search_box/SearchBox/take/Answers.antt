use Rattle.std.proofs.Common.{◌≡◌, ◌∙◌, ◌∷◌, [], true, false, sym, ap, subst, rules, OnOk}
use Rattle.std.proofs.lemmas.Int.{to_z-of_z}
use mir.Val.{SFits}
use mir.Syntax.{w64}
use Rattle.proof_tree.specs.Cover.{box_to}
use Rattle.qc_model.specs.Domains.{has_empty, has_value, is_sub_box, values_left, declared_box}
use Rattle.fd_store.specs.Held.{Follows}
use Rattle.search_box.specs.Boxed.{Boxed}
use Rattle.search_box.proofs.Entering.{either, entered_on}
use Rattle.search_box.proofs.Foreseeing.{foreseen_on}
use Rattle.search_box.proofs.Keeping.{sub_one, sub_self, one_full}
use Rattle.search_box.proofs.search_box.SearchBox.take.Goals as goal

pub invariant_of-self : goal.invariant_of-self
invariant_of-self c =
    let v_fits : SFits w64 c.args.v = search rules in
    let content : OnOk c.keep_one.result (c.keep_one.new.store.box ≡ box_to c.self.inside.store.box c.args.x.0 (c.args.v ∷ [])) = simp to_z-of_z at c.keep_one.ensures.content in
    let g = c.self.inside.problem.now in
    let old = c.self.inside.store.box in
    let new = c.keep_one.new.store.box in
    let left = ap (λ (b : Boxed). has_value (values_left b.store.box c.args.x.0) c.args.v) c.self.view_is ∙ c.requires.left in
    record {
      declared =
          either c.keep_one.result content c.keep_one.ensures.same
          (λ e. subst (λ box. is_sub_box box (declared_box g) ≡ true) (sym e) (sub_one old (declared_box g) c.args.x.0 c.args.v c.self.invariant.declared left))
          (λ e. subst (λ box. is_sub_box box (declared_box g) ≡ true) (sym e) c.self.invariant.declared);
      ready = c.self.invariant.ready;
      same = c.self.invariant.same;
      value_each = c.self.invariant.value_each;
      foreseen = foreseen_on g c.self.inside.store c.keep_one.new.store c.self.inside.foresight c.keep_one.ensures.past c.self.invariant.foreseen;
      shown = c.self.invariant.shown;
    }

pub returns-clause-on : goal.returns-clause-on
returns-clause-on c =
    let v_fits : SFits w64 c.args.v = search rules in
    let content : OnOk c.keep_one.result (c.keep_one.new.store.box ≡ box_to c.self.inside.store.box c.args.x.0 (c.args.v ∷ [])) = simp to_z-of_z at c.keep_one.ensures.content in
    let g = c.self.inside.problem.now in
    let old = c.self.inside.store.box in
    let new = c.keep_one.new.store.box in
    let x = c.args.x.0 in
    let left = ap (λ (b : Boxed). has_value (values_left b.store.box x) c.args.v) c.self.view_is ∙ c.requires.left in
    let self = sub_self old (declared_box g) c.self.invariant.declared in
    let fewer : is_sub_box new old ≡ true =
    either c.keep_one.result content c.keep_one.ensures.same
    (λ e. subst (λ box. is_sub_box box old ≡ true) (sym e) (sub_one old old x c.args.v self left))
    (λ e. subst (λ box. is_sub_box box old ≡ true) (sym e) self) in
    record {
      game = ap (λ (b : Boxed). b.game) c.self.view_is;
      values = ap (λ (b : Boxed). b.values) c.self.view_is;
      follows = subst (λ (b : Boxed). Follows b.store c.keep_one.new.store) c.self.view_is c.keep_one.ensures.past;
      fewer = subst (λ (b : Boxed). is_sub_box new b.store.box ≡ true) c.self.view_is fewer;
    }

pub returns-clause-full : goal.returns-clause-full
returns-clause-full c = λ full.
    let v_fits : SFits w64 c.args.v = search rules in
    let content : OnOk c.keep_one.result (c.keep_one.new.store.box ≡ box_to c.self.inside.store.box c.args.x.0 (c.args.v ∷ [])) = simp to_z-of_z at c.keep_one.ensures.content in
    let old = c.self.inside.store.box in
    let some : has_empty old ≡ false = ap (λ (b : Boxed). has_empty b.store.box) c.self.view_is ∙ full in
    either c.keep_one.result content c.keep_one.ensures.same
    (λ e. ap has_empty e ∙ one_full old c.args.x.0 c.args.v some)
    (λ e. ap has_empty e ∙ some)

pub returns-clause-here : goal.returns-clause-here
returns-clause-here c = λ g i h. entered_on g i c.args.self.now _ h (returns-clause-on c) (returns-clause-full c h.full)
