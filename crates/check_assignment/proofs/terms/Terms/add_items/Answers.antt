use Rattle.std.proofs.Common.{rules, ◌<◌, ◌++◌, ◌∙◌, length, get_or, pos, sym, ap, arith, append-nil}
use Rattle.std.proofs.lemmas.Int.{to_z-of_z}
use mir.Val.{SFits}
use mir.Syntax.{w64}
use Rattle.check_assignment.specs.Terms.{terms_at}
use Rattle.check_assignment.proofs.Adding.{var_added, num_added, none_past}
use Rattle.check_assignment.proofs.terms.Terms.add_items.Goals as goal
use Rattle.check_assignment.proofs.terms.Terms.add_items.Goals.{in-Var+in_ok-push-in-Var, in-Num}

pub loop-k-preserved : goal.loop-k-preserved
loop-k-preserved c =
    let i = c.loop-k.invariant in
    let l : c.loop-k.k < length c.args.factors.now = omega arith in
    let m : c.loop-k.k < length c.args.items.now = omega arith in
    elim c.match-items-k.branch [
      | in-Var+in_ok-push-in-Var w ↦
          let fits : SFits w64 (get_or c.args.factors.now c.loop-k.k (pos 0)) = search rules in
          record {
            count = ap length w.self-is ∙ w.push.ensures.length ∙ i.count;
            added = var_added c.args.rule c.loop-k.k c.args.factors.now c.args.items.now _ _ w.in-Var.x c.args.self.now c.loop-k.self w.push.new.self c.match-items-k.self l m w.in-Var.is w.self-is (simp to_z-of_z at w.in_ok-push-in-Var.ensures.pushed) i.added;
          }
      | in-Num w ↦ record {
        count = ap length w.self-is ∙ i.count;
        added = num_added c.args.rule c.loop-k.k c.args.factors.now c.args.items.now (pos 0) _ _ c.args.self.now c.loop-k.self c.match-items-k.self l m w.in-Num.is w.self-is i.added;
      }
    ]

pub returns-clause-added : goal.returns-clause-added
returns-clause-added c =
    λ y.
    sym (append-nil (terms_at c.loop-k.self y))
    ∙ ap (◌++◌ (terms_at c.loop-k.self y)) (sym (none_past c.args.rule y c.loop-k.k c.args.factors.now c.args.items.now (omega arith)))
    ∙ c.loop-k.invariant.added y
