use Rattle.std.proofs.Common.{◌≡◌, sym, ap, subst, true}
use Rattle.qc_model.specs.Content.{Game}
use Rattle.dense_alike.specs.Kept.{Kept}
use Rattle.dense_alike.specs.Laid.{is_full_box}
use Rattle.dense_alike.proofs.Looking.{full_few}
use Rattle.dense_alike.proofs.positions.Positions.keep.Goals as goal

pub new-requires : goal.new-requires
new-requires c =
    let game = ap (λ (k : Kept). k.game) (sym c.self.view_is) in
    full_few c.self.inside.comparer c.args.store.now.box c.known.ensures (subst (λ (h : Game). is_full_box h c.args.store.now.box ≡ true) game c.requires)
