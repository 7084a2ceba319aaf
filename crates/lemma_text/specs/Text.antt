-- The text of a list of lemmas, line by line.
use Rattle.std.specs.Prelude.{List, [], ◌++◌, flat_map, codes, ℕ}
use Rattle.std.specs.Fmt.{signed_decimal}
use Rattle.qc_model.specs.declared.problem.Kind.{Kind}
use Rattle.qc_model.specs.declared.problem.Kind.TheVariants.{Exists, Forall}
use Rattle.proof_tree.specs.Text.{place_text, range_text}
use Rattle.lemma_list.specs.declared.lemma.Literal.{Literal}
use Rattle.lemma_list.specs.declared.lemma.SumLiteral.{SumLiteral}
use Rattle.lemma_list.specs.declared.lemma.Reason.TheVariants.{Constraint, Lemma as Earlier}
use Rattle.lemma_list.specs.declared.lemma.Step.{Step}
use Rattle.lemma_list.specs.declared.lemma.Step.TheVariants.{Cut, Choose}
use Rattle.lemma_list.specs.declared.lemma.Ending.{Ending}
use Rattle.lemma_list.specs.declared.lemma.Ending.TheVariants.{Emptied, Lost, Goal}
use Rattle.lemma_list.specs.Lemmas.{Lemma, Entry, shown, forget}

-- the version of the text, and who wins the game, by who loses it
abbrev pub head_text : Kind → List ℕ
head_text Exists = codes "qcert 3\nfalse\n"
head_text Forall = codes "qcert 3\ntrue\n"

-- the player loses, or the opponent
abbrev pub loser_text : Kind → List ℕ
loser_text Exists = codes "l"
loser_text Forall = codes "w"

-- variables, constraints and lemmas are counted from 1
abbrev pub literal_text : Literal → List ℕ
literal_text l = codes " " ++ place_text l.x.0 ++ codes " " ++ range_text l.lo l.hi

abbrev pub sum_text : SumLiteral → List ℕ
sum_text z = codes "u " ++ place_text z.c.0 ++ codes " " ++ range_text z.lo z.hi ++ codes "\n"

abbrev pub lemma_text : Lemma → List ℕ
lemma_text m = loser_text m.loser ++ flat_map literal_text m.literals ++ codes "\n" ++ flat_map sum_text m.sums

abbrev pub step_text : Step → List ℕ
step_text (Cut x low high (Constraint c)) = codes "p " ++ place_text x.0 ++ codes " " ++ range_text low high ++ codes " " ++ place_text c.0 ++ codes "\n"
step_text (Cut x low high (Earlier n)) = codes "q " ++ place_text x.0 ++ codes " " ++ range_text low high ++ codes " " ++ place_text n.0 ++ codes "\n"
step_text (Choose x v) = codes "c " ++ place_text x.0 ++ codes " " ++ signed_decimal v ++ codes "\n"

-- where a variable has no value left, no line says so
abbrev pub ending_text : Ending → List ℕ
ending_text Emptied = []
ending_text (Lost (Constraint c)) = codes "f " ++ place_text c.0 ++ codes "\n"
ending_text (Lost (Earlier n)) = codes "a " ++ place_text n.0 ++ codes "\n"
ending_text Goal = codes "g\n"

abbrev pub entry_text : Entry → List ℕ
entry_text (shown s) = lemma_text s.lemma ++ flat_map step_text s.steps ++ ending_text s.ending
entry_text (forget n) = codes "d " ++ place_text n.0 ++ codes "\n"

-- the one text of a list by which the side of this kind loses the game
abbrev pub list_text : Kind → List Entry → List ℕ
list_text loser entries = head_text loser ++ flat_map entry_text entries
