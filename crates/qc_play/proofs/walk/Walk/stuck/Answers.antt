use Rattle.std.proofs.Common.{sym, refl, subst, arith}
use Rattle.qc_model.specs.Demands.{demands}
use Rattle.joins.specs.Joins.{out_of}
use Rattle.proof_tree.specs.Finding.{stuck_finding}
use Rattle.proof_tree.specs.Place.{position}
use Rattle.check_lines.proofs.AtNodes.{drop_none}
use Rattle.joins.specs.declared.leaves.Found.TheVariants.{Lost}
use Rattle.qc_play.specs.declared.counter.Counter.{End as Ended}
use Rattle.qc_play.specs.declared.plan.Plan.{End}
use Rattle.qc_play.specs.declared.shown.Shown.{Shown}
use Rattle.qc_play.specs.Shown.{Shows}
use Rattle.qc_play.specs.Walk.{game_of}
use Rattle.qc_play.proofs.Backs.{back_self}
use Rattle.qc_play.proofs.walk.Walk.stuck.Goals as goal

pub returns-clause-back : goal.returns-clause-back
returns-clause-back c = back_self (game_of c.args.tables.now) c.args.i.0 c.args.self.now c.requires.within

pub returns-clause-shows : goal.returns-clause-shows
returns-clause-shows c =
    let g = game_of c.args.tables.now in
    let i = c.args.i.0 in
    let s : Shown = record { found = Lost; plan = End; counter = Ended } in
    subst (λ later. Shows (stuck_finding later g (demands g i) (position g i c.args.self.now.remains.box)) (out_of c.args.self.now.joins) s) (sym (drop_none g.scopes i (omega (arith, c.scopes.ensures))))
    (record { verdict = refl; plan = λ e. refl; counter = λ e. refl })
