use Rattle.std.proofs.Common.{◌≡◌, ◌∙◌, ◌||◌, not, true, false, sym, ap}
use Rattle.dense_box.proofs.Scoped.{joint_here}
use Rattle.dense_box.proofs.freedom.Freedom.is_joint.Goals as goal

pub returns-then-not-standing : goal.returns-then-not-standing
returns-then-not-standing c = λ g us t.
    let r = c.index-standing.result.now in
    let own : not r.is_opponents ≡ true = c.if-not-standing.true in
    own ∙ (sym (ap (λ b. b || r.is_unrestricted) own) ∙ joint_here g us c.args.self.now c.args.i.0 r c.requires c.index-standing.ensures t (sym (c.is_free.ensures g us t) ∙ c.if-not-is_free.false))

pub returns-else-not-standing : goal.returns-else-not-standing
returns-else-not-standing c = λ g us t.
    let r = c.index-standing.result.now in
    let other : not r.is_opponents ≡ false = c.if-not-standing.false in
    sym (ap (λ b. b || r.is_unrestricted) other) ∙ joint_here g us c.args.self.now c.args.i.0 r c.requires c.index-standing.ensures t (sym (c.is_free.ensures g us t) ∙ c.if-not-is_free.false)
