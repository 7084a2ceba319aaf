use Rattle.std.proofs.Common.{◌∙◌, ap}
use Rattle.lemma_check.specs.Books.{Book, says}
use Rattle.lemma_check.specs.Machine.{game_of}
use Rattle.lemma_check.proofs.Told.{lists_told}
use Rattle.lemma_check.proofs.machine.LemmaMachine.finish.Goals as goal

pub returns-clause-proves : goal.returns-clause-proves
returns-clause-proves c = λ head es e.
    let g = game_of c.args.self.now in
    c.tells.ensures.says ∙ ap (λ (b : Book). says g c.args.loser b) e ∙ lists_told g head c.args.loser es
