use Rattle.std.proofs.Common.{◌≤◌, ◌∙◌, ◌-◌, sym, ap, subst, take, drop}
use Rattle.std.specs.Prelude.{get_or}
use Rattle.dense_alike.specs.Ranges.{values_of}
use Rattle.dense_alike.proofs.Domains.{domain_at, start_within}
use Rattle.dense_alike.proofs.kept_box.ranges_at.Goals as goal

pub part-requires-clause-order : goal.part-requires-clause-order
part-requires-clause-order c =
    let es = c.args.ends.now in
    subst (λ n. n ≤ get_or es c.args.x 0) (sym c.start_at.ensures) (start_within 0 es _ c.args.x c.requires.var c.requires.rises).0

pub part-requires-clause-within : goal.part-requires-clause-within
part-requires-clause-within c = (start_within 0 c.args.ends.now _ c.args.x c.requires.var c.requires.rises).1

pub returns : goal.returns
returns c =
    let rs = c.args.ranges.now in
    let es = c.args.ends.now in
    ap values_of c.part.ensures ∙ (ap (λ n. values_of (take (get_or es c.args.x 0 - n) (drop n rs))) c.start_at.ensures ∙ sym (domain_at rs 0 es c.args.x c.requires.var))
