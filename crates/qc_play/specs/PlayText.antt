-- The text of a play.
use Rattle.std.specs.Prelude.{ℕ, suc, true, false, List, [], ◌∷◌, ◌++◌, length, flat_map, codes, ℤ}
use Rattle.std.specs.Fmt.{decimal, signed_decimal}
use Rattle.qc_model.specs.declared.problem.Kind.{Kind}
use Rattle.qc_model.specs.declared.problem.Kind.TheVariants.{Exists, Forall}
use Rattle.proof_tree.specs.Text.{place_text}
use Rattle.qc_play.specs.Play.{Ending, at_goal, stuck_at, hopeless_at, missing_at, not_allowed_at, Turn, Play}

abbrev pub kind_text : Kind → List ℕ
kind_text Exists = codes " exists"
kind_text Forall = codes " forall"

-- each value after a space
abbrev pub values_text : List ℤ → List ℕ
values_text vs = flat_map (λ v. codes " " ++ signed_decimal v) vs

-- scope i, whose number counts from 1 in the text
abbrev pub turn_line : ℕ → Kind → List ℤ → List ℕ
turn_line i k t = place_text i ++ (kind_text k ++ (values_text t ++ codes "\n"))

-- a play that goes wrong has no text
abbrev pub ending_line : Ending → List ℕ
ending_line (at_goal true) = codes "goal true\n"
ending_line (at_goal false) = codes "goal false\n"
ending_line (stuck_at i) = codes "stuck " ++ (place_text i ++ codes "\n")
ending_line (hopeless_at i) = codes "hopeless " ++ (place_text i ++ codes "\n")
ending_line (missing_at i) = []
ending_line (not_allowed_at i) = []

abbrev pub unused_line : ℕ → List ℕ
unused_line n = codes "unused " ++ (decimal n ++ codes "\n")

-- the turns from scope i on, the end, and how many moves weren't read
abbrev pub text_from : ℕ → List Turn → Ending → List ℤ → List ℕ
text_from i [] e ms = ending_line e ++ unused_line (length ms)
text_from i (t ∷ ts) e ms = turn_line i t.kind t.tuple ++ text_from (suc i) ts e ms

abbrev pub play_text : Play → List ℕ
play_text p = text_from 0 p.turns p.ending p.left
