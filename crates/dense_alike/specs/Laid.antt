-- Values of the first variables, laid among the declared values of the others.
use Rattle.std.specs.Prelude.{false, ◌≤◌, ◌<◌, get_or, ◌≡◌, ℕ, Bool, ◌&&◌, not, cond, IsTrue, List, [], ◌∷◌, ◌++◌, map, drop, length, ℤ}
use Rattle.std.specs.List.{list_all}
use Rattle.qc_model.specs.Content.{Game, Rule}
use Rattle.qc_model.specs.Domains.{Box, declared_box, has_empty, InBox}
use Rattle.qc_model.specs.Game.{before}
use Rattle.qc_model.specs.Valid.{is_number}
use Rattle.model_arguments.specs.Asked.{is_box_of}
use Rattle.lemma_list.specs.Entailment.{entailed_by}
use Rattle.proof_alike.specs.Alike.{sees}
use Rattle.likeness.specs.Seeing.{tells}
use Rattle.dense_tree.specs.Alike.{is_from}

-- values of the declared domains, some for each variable
abbrev pub is_full_box : Game → Box → Bool
is_full_box g box = is_box_of g box && not (has_empty box)

-- the first domains have these values alone
abbrev pub laid_in : Box → List ℤ → Box
laid_in box vs = map (λ v. v ∷ []) vs ++ drop (length vs) box

-- the values of the first variables, and all declared values of the others
abbrev pub laid : Game → List ℤ → Box
laid g vs = laid_in (declared_box g) vs

-- a value of the declared domain for each variable before scope i
pub record AreValuesOf (g : Game) (i : ℕ) (vs : List ℤ) : Type 0 where
  pub count : length vs ≡ before g i
  pub lie : InBox vs (declared_box g)
  pub numbers : IsTrue (list_all is_number vs)

-- whether each constraint is of a scope from i on, or of the goal, sees values other than by themselves, and holds whatever comes
-- after these; of another one it doesn't matter
abbrev pub holding : Game → ℕ → List ℤ → List Bool
holding g i vs = map (λ c. is_from i c && tells c && entailed_by c (laid g vs)) g.constraints

-- what a constraint sees of the values, where h says whether it holds whatever comes after them
abbrev pub viewed : Game → ℕ → List ℤ → Bool → Rule → List ℤ
viewed g i vs h c = cond h [] (sees g i vs c)

-- the answers are the same from a place on
abbrev pub AgreeFrom : ℕ → List Bool → List Bool → Type 0
AgreeFrom start hs ks = (k : ℕ) → start ≤ k → k < length hs → get_or ks k false ≡ get_or hs k false
