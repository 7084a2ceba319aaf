-- What a list of lemmas consists of.
use Rattle.std.specs.Prelude.{List}
use Rattle.qc_model.specs.declared.problem.Kind.{Kind}
use Rattle.lemma_list.specs.declared.lemma.LemmaId.{LemmaId}
use Rattle.lemma_list.specs.declared.lemma.Literal.{Literal}
use Rattle.lemma_list.specs.declared.lemma.SumLiteral.{SumLiteral}
use Rattle.lemma_list.specs.declared.lemma.Step.{Step}
use Rattle.lemma_list.specs.declared.lemma.Ending.{Ending}

-- where the literals and sums hold the side of this kind loses: the player, who owns the existential scopes, or the opponent
pub record Lemma : Type 0 where
  pub loser : Kind
  pub literals : List Literal
  pub sums : List SumLiteral

-- a lemma with what shows it
pub record Shown : Type 0 where
  pub lemma : Lemma
  pub steps : List Step
  pub ending : Ending

-- a list has lemmas, and says of some that they aren't named any more
pub data Entry : Type 0 where
  shown : Shown → Entry
  forget : LemmaId → Entry
