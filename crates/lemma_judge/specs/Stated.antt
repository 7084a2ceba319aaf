-- What a list of lemmas states, by its items and of the game.
use Rattle.std.specs.Prelude.{List, [], ◌∷◌, Option, Some, None}
use Rattle.qc_model.specs.declared.problem.Kind.{Kind}
use Rattle.qc_model.specs.declared.problem.Kind.TheVariants.{Exists, Forall}
use Rattle.qc_model.specs.Content.{Game}
use Rattle.qc_model.specs.Game.{IsWon}
use Rattle.lemma_text.specs.declared.item.Item.{Item}
use Rattle.lemma_text.specs.declared.item.Item.TheVariants.{Head}

-- who loses by the first head among the items
abbrev pub first_head : Option Kind → Item → Option Kind
first_head (Some loser) i = Some loser
first_head None (Head loser) = Some loser
first_head None i = None

abbrev pub head_told : Option Kind → List Item → Option Kind
head_told h [] = h
head_told h (i ∷ is) = head_told (first_head h i) is

-- the side that owns the scopes of this kind loses the game: the player, or the opponent
abbrev pub LosesGame : Kind → Game → Type 0
LosesGame Exists g = ¬ IsWon g
LosesGame Forall g = IsWon g
