-- The pieces of a list's text.
use Rattle.std.specs.Prelude.{ℕ, Bool, true, false, cond, List, [], ◌∷◌, ◌++◌, map, flat_map, codes}
use Rattle.qc_model.specs.declared.problem.Kind.{Kind}
use Rattle.proof_tree.specs.Text.{place_text, range_text}
use Rattle.lemma_list.specs.declared.lemma.Literal.{Literal}
use Rattle.lemma_list.specs.declared.lemma.Ending.{Ending}
use Rattle.lemma_list.specs.declared.lemma.Ending.TheVariants.{Emptied, Lost as LostEnding, Goal as GoalEnding}
use Rattle.lemma_list.specs.Lemmas.{Entry, shown, forget}
use Rattle.lemma_text.specs.declared.item.Item.{Item}
use Rattle.lemma_text.specs.declared.item.Item.TheVariants.{Head, Lemma as LemmaItem, Literal as LiteralItem, Sum, Step, Lost, Goal, Forget}
use Rattle.lemma_text.specs.Text.{head_text, loser_text, sum_text, step_text, ending_text}
use Rattle.lemma_text.specs.Ranges.{literal_fits, sum_fits, reason_fits, step_fits, is_named}

-- what comes after the beginning of a lemma, and after a literal: the line's end, or another literal
abbrev pub end_text : Bool → List ℕ
end_text last = cond last (codes "\n") (codes " ")

abbrev pub item_text : Item → List ℕ
item_text (Head loser) = head_text loser
item_text (LemmaItem loser bare) = loser_text loser ++ end_text bare
item_text (LiteralItem l last) = place_text l.x.0 ++ codes " " ++ range_text l.lo l.hi ++ end_text last
item_text (Sum z) = sum_text z
item_text (Step s) = step_text s
item_text (Lost r) = ending_text (LostEnding r)
item_text Goal = ending_text GoalEnding
item_text (Forget n) = codes "d " ++ place_text n.0 ++ codes "\n"

-- its numbers are of the ranges that a text can have
abbrev pub item_fits : Item → Bool
item_fits (Head loser) = true
item_fits (LemmaItem loser bare) = true
item_fits (LiteralItem l last) = literal_fits l
item_fits (Sum z) = sum_fits z
item_fits (Step s) = step_fits s
item_fits (Lost r) = reason_fits r
item_fits Goal = true
item_fits (Forget n) = is_named n.0

abbrev pub is_none : List Literal → Bool
is_none [] = true
is_none (l ∷ ls) = false

abbrev pub literal_items : List Literal → List Item
literal_items [] = []
literal_items (l ∷ ls) = LiteralItem l (is_none ls) ∷ literal_items ls

abbrev pub ending_items : Ending → List Item
ending_items Emptied = []
ending_items (LostEnding r) = Lost r ∷ []
ending_items GoalEnding = Goal ∷ []

abbrev pub entry_items : Entry → List Item
entry_items (shown s) =
    LemmaItem s.lemma.loser (is_none s.lemma.literals)
    ∷ (literal_items s.lemma.literals ++ (map Sum s.lemma.sums ++ (map Step s.steps ++ ending_items s.ending)))
entry_items (forget n) = Forget n ∷ []

-- the pieces of a list by which the side of this kind loses the game
abbrev pub list_items : Kind → List Entry → List Item
list_items loser entries = Head loser ∷ flat_map entry_items entries
