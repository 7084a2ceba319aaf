-- What a list of lemmas comes to item by item.
use Rattle.std.specs.Prelude.{ℕ, Bool, true, false, not, ◌&&◌, cond, List, [], ◌∷◌, ◌++◌, set, Option, Some, None, is_some}
use Rattle.qc_model.specs.declared.problem.Kind.{Kind}
use Rattle.qc_model.specs.Content.{Game}
use Rattle.qc_model.specs.Domains.{Box, declared_box, has_empty}
use Rattle.lemma_list.specs.declared.lemma.LemmaId.{LemmaId}
use Rattle.lemma_list.specs.declared.lemma.Literal.{Literal}
use Rattle.lemma_list.specs.declared.lemma.SumLiteral.{SumLiteral}
use Rattle.lemma_list.specs.declared.lemma.Step.{Step}
use Rattle.lemma_list.specs.declared.lemma.Ending.{Ending}
use Rattle.lemma_list.specs.declared.lemma.Ending.TheVariants.{Emptied, Lost as LostEnding, Goal as GoalEnding}
use Rattle.lemma_list.specs.Lemmas.{Lemma}
use Rattle.lemma_list.specs.Places.{is_kind, place}
use Rattle.lemma_list.specs.Literals.{box_to}
use Rattle.lemma_list.specs.Reasons.{Known, lemma_at}
use Rattle.lemma_list.specs.InPlace.{may_step, passed_by, left_by, ends, is_lemma, is_nil}
use Rattle.lemma_text.specs.declared.item.Item.{Item}
use Rattle.lemma_text.specs.declared.item.Item.TheVariants.{Head, Lemma as LemmaItem, Literal as LiteralItem, Sum as SumItem, Step as StepItem, Lost, Goal, Forget}

pub data Book : Type 0 where
  -- between entries: the lemmas so far, and who loses the game by the last entry
  between : Known → Option Kind → Book
  -- a lemma's literals and sums so far
  heading : Known → Lemma → Book
  -- its steps so far: up to where play is known to go on, and what is left
  closing : Known → Lemma → ℕ → Box → Book
  -- something was out of place
  wrong : Book

abbrev pub first_book : Book
first_book = between [] None

abbrev pub is_wrong : Book → Bool
is_wrong wrong = true
is_wrong b = false

-- the steps of a lemma begin once its literals and sums are known
abbrev pub past_head : Game → Book → Book
past_head g (heading known m) = cond (is_lemma g m) (closing known m (place g m) (box_to m.literals (declared_box g))) wrong
past_head g b = b

-- a lemma without literals and sums says who loses the game
abbrev pub game_loser : Lemma → Option Kind
game_loser m = cond (is_nil m.literals && is_nil m.sums) (Some m.loser) None

abbrev pub ended : Game → Ending → Book → Book
ended g end (closing known m passed box) = cond (ends g known m end passed box) (between (known ++ Some m ∷ []) (game_loser m)) wrong
ended g end b = wrong

-- no item says that a variable has no value left: it has to be so where the next entry comes, or none
abbrev pub settled : Game → Book → Book
settled g (between known loser) = between known loser
settled g b = ended g Emptied (past_head g b)

abbrev pub headed : Kind → Book → Book
headed k (between known loser) = heading known (record { loser = k; literals = []; sums = [] })
headed k b = wrong

abbrev pub with_literal : Literal → Book → Book
with_literal l (heading known m) = heading known (record m { literals = m.literals ++ l ∷ [] })
with_literal l b = wrong

abbrev pub with_sum : SumLiteral → Book → Book
with_sum z (heading known m) = heading known (record m { sums = m.sums ++ z ∷ [] })
with_sum z b = wrong

abbrev pub stepped : Game → Step → Book → Book
stepped g s (closing known m passed box) =
    cond (not (has_empty box) && may_step g known m s passed box) (closing known m (passed_by g known s passed) (left_by s box)) wrong
stepped g s b = wrong

abbrev pub forgotten : LemmaId → Book → Book
forgotten n (between known loser) = cond (is_some (lemma_at known n.0)) (between (set known n.0 None) None) wrong
forgotten n b = wrong

-- who loses the game is said again at the end, by the last lemma
abbrev pub goes : Game → Book → Item → Book
goes g b (Head loser) = b
goes g b (LemmaItem loser bare) = headed loser (settled g b)
goes g b (LiteralItem l last) = with_literal l b
goes g b (SumItem z) = with_sum z b
goes g b (StepItem s) = stepped g s (past_head g b)
goes g b (Lost r) = ended g (LostEnding r) (past_head g b)
goes g b Goal = ended g GoalEnding (past_head g b)
goes g b (Forget n) = forgotten n (settled g b)

abbrev pub goes_through : Game → Book → List Item → Book
goes_through g b [] = b
goes_through g b (i ∷ is) = goes_through g (goes g b i) is

-- by the last entry the side of this kind loses the game
abbrev pub is_loser : Kind → Option Kind → Bool
is_loser k None = false
is_loser k (Some loser) = is_kind k loser

abbrev pub tells : Kind → Book → Bool
tells k (between known loser) = is_loser k loser
tells k b = false

abbrev pub says : Game → Kind → Book → Bool
says g k b = tells k (settled g b)
