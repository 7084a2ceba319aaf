use Rattle.std.proofs.Common.{◌≡◌, Some, [], ◌∷◌, ◌++◌, sym, ap, ◌∙◌, rules}
use Rattle.std.proofs.lemmas.Int.{to_z-of_z}
use Rattle.qc_model.specs.Demands.{demands}
use mir.Val.{SFits, to_z, of_z}
use mir.Syntax.{w64}
use Rattle.dense_nest.specs.Tallies.{best_held}
use Rattle.dense_nest.specs.Telling.{game_of}
use Rattle.dense_nest.proofs.Shown.{part_best}
use Rattle.dense_nest.proofs.nest.Nest.add_best.Goals as goal

pub returns-clause-stays : goal.returns-clause-stays
returns-clause-stays c = λ us boxes d p.
    let m = c.args.self.now in
    let best_fits : SFits w64 c.args.best = search rules in
    let better_fits : SFits w64 c.better_of.result = search rules in
    let list : c.list.result.now ≡ demands (game_of m) c.scope-i.result.0 = c.list.ensures (game_of m) p.keeps.made.lists in
    let better : c.index-tally.result.now.best ≡ best_held c.list.result.now d.own.bests → Some c.better_of.result ≡ best_held c.list.result.now (d.own.bests ++ c.args.best ∷ []) = simp to_z-of_z at (c.better_of.ensures d.own.bests) in
    part_best m us boxes d p c.scope-i.result.0 c.scope-i.ensures c.index-tally.result.now c.index-tally.ensures c.args.best (to_z w64 (of_z w64 c.better_of.result))
    (λ e. simp to_z-of_z (better (e ∙ sym (ap (λ ds. best_held ds d.own.bests) list)) ∙ ap (λ ds. best_held ds (d.own.bests ++ c.args.best ∷ [])) list))
