use Rattle.std.proofs.Common.{◌∙◌}
use Rattle.qc_play.specs.Shape.{entries_of}
use Rattle.qc_play.proofs.Shapes.{answer_is}
use Rattle.qc_play.proofs.Finishing.{opponent_strategy, opponent_counter}
use Rattle.qc_play.proofs.opponent_leaves.OpponentLeaves.finish.Goals as goal

pub returns : goal.returns
returns c =
    let p = c.args.self in
    λ g own i d a v ls l w k x. record {
      verdict = x;
      plan = λ h. answer_is c.sort.new.self ∙ opponent_strategy g i d a p.before (entries_of p.answers) (entries_of c.sort.new.self) ls l w.0 w.1 k.answers c.sort.ensures.same c.sort.ensures.sorted h;
      counter = λ h. c.in_ok-lost_choice.ensures ∙ opponent_counter g i d a p.before p.first ls l k.first;
    }
