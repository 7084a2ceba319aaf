use Rattle.std.proofs.Common.{◌∙◌, ◌<◌, sym, ap, subst, length, List, ℕ}
use Rattle.qc_model.specs.Domains.{Box}
use Rattle.dense_alike.proofs.Domains.{length-domains}
use Rattle.dense_alike.proofs.kept_box.KeptBox.ranges_of.Goals as goal

pub ranges_at-requires-clause-var : goal.ranges_at-requires-clause-var
ranges_at-requires-clause-var c =
    let size = ap (λ (b : Box). length b) (sym c.self.view_is) ∙ length-domains c.self.inside.ranges.items 0 c.self.inside.ends.items in
    subst (λ (es : List ℕ). c.args.x < length es) (sym c.deref-2.ensures.value) (subst (λ n. c.args.x < n) size c.requires)
