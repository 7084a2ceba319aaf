-- The numbers that the text of a list can have.
use Rattle.std.specs.Prelude.{ℕ, nat_le, Bool, true, ◌&&◌, List, ◌^◌, ℤ, unsigned_abs}
use Rattle.std.specs.List.{list_all}
use Rattle.qc_model.specs.Valid.{is_number}
use Rattle.proof_tree.specs.Text.{is_place}
use Rattle.lemma_list.specs.declared.lemma.Literal.{Literal}
use Rattle.lemma_list.specs.declared.lemma.SumLiteral.{SumLiteral}
use Rattle.lemma_list.specs.declared.lemma.Reason.{Reason}
use Rattle.lemma_list.specs.declared.lemma.Reason.TheVariants.{Constraint, Lemma as Earlier}
use Rattle.lemma_list.specs.declared.lemma.Step.{Step}
use Rattle.lemma_list.specs.declared.lemma.Step.TheVariants.{Cut, Choose}
use Rattle.lemma_list.specs.declared.lemma.Ending.{Ending}
use Rattle.lemma_list.specs.declared.lemma.Ending.TheVariants.{Emptied, Lost, Goal}
use Rattle.lemma_list.specs.Lemmas.{Entry, shown, forget}

-- at most 500 variables and 20,000 constraints; the first 2^32 lemmas can be named
abbrev pub is_variable : ℕ → Bool
is_variable x = is_place 500 x

abbrev pub is_constraint : ℕ → Bool
is_constraint c = is_place 20000 c

abbrev pub is_named : ℕ → Bool
is_named n = is_place 4294967296 n

-- at most 2^62 from 0
abbrev pub is_sum : ℤ → Bool
is_sum z = nat_le (unsigned_abs z) (2 ^ 62)

abbrev pub literal_fits : Literal → Bool
literal_fits l = is_variable l.x.0 && is_number l.lo && is_number l.hi

abbrev pub sum_fits : SumLiteral → Bool
sum_fits z = is_constraint z.c.0 && is_sum z.lo && is_sum z.hi

abbrev pub reason_fits : Reason → Bool
reason_fits (Constraint c) = is_constraint c.0
reason_fits (Earlier n) = is_named n.0

abbrev pub step_fits : Step → Bool
step_fits (Cut x low high by) = is_variable x.0 && is_number low && is_number high && reason_fits by
step_fits (Choose x v) = is_variable x.0 && is_number v

abbrev pub ending_fits : Ending → Bool
ending_fits Emptied = true
ending_fits (Lost by) = reason_fits by
ending_fits Goal = true

abbrev pub entry_fits : Entry → Bool
entry_fits (shown s) = list_all literal_fits s.lemma.literals && list_all sum_fits s.lemma.sums && list_all step_fits s.steps && ending_fits s.ending
entry_fits (forget n) = is_named n.0

-- the list has a text
abbrev pub has_text : List Entry → Bool
has_text entries = list_all entry_fits entries
