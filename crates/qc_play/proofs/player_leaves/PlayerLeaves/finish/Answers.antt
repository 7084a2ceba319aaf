use Rattle.std.proofs.Common.{◌∙◌, sym, subst}
use Rattle.qc_model.specs.Demands.{with_condition}
use Rattle.qc_play.specs.Shape.{replies_of}
use Rattle.qc_play.specs.Entries.{KeepsBest}
use Rattle.qc_play.proofs.Shapes.{reply_is}
use Rattle.qc_play.proofs.Finishing.{player_strategy, player_counter}
use Rattle.qc_play.proofs.player_leaves.PlayerLeaves.finish.Goals as goal

pub returns : goal.returns
returns c =
    let p = c.args.self in
    λ g own i d a v ls l e k x. record {
      verdict = x;
      plan = λ h. c.in_ok-best_choice.ensures ∙ player_strategy own (with_condition own d) a p.before p.best ls l (subst (λ z. KeepsBest z p.before p.best ls) (sym e) k.best) h;
      counter = λ h. reply_is p.replies ∙ player_counter own (with_condition own d) a p.before (replies_of p.replies) ls l k.replies h;
    }
