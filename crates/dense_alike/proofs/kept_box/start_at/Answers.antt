use Rattle.std.proofs.Common.{◌≡◌, ◌∙◌, ◌+◌, ◌-◌, ℕ, sym, ap, arith}
use Rattle.dense_alike.specs.Ranges.{start_of}
use Rattle.dense_alike.proofs.Domains.{start_is}
use Rattle.dense_alike.proofs.kept_box.start_at.Goals as goal

pub returns : goal.returns
returns c =
    let x = c.args.x in
    sym (start_is 0 c.args.ends.now (x - 1) (omega (arith, c.requires))) ∙ ap (start_of 0 c.args.ends.now) (back x c.if-x-eq0.false)
  where
    back : (x : ℕ) → (x ≡ 0 → ⊥) → (x - 1) + 1 ≡ x
    back x h = omega (arith, h)
