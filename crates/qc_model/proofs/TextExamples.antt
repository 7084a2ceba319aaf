-- The canonical text and the most turns of small games, computed.
use Rattle.std.proofs.Common.{◌≡◌, refl, ℕ, List, [], ◌∷◌, lit<}
use Rattle.std.specs.Prelude.{Some, None, codes, pos, negsuc}
use Rattle.std.specs.Fmt.{decimal}
use Rattle.std.proofs.lemmas.Fmt.{decimal_digit}
use Rattle.qc_model.specs.declared.problem.ScopeId.{ScopeId}
use Rattle.qc_model.specs.declared.problem.Kind.TheVariants.{Exists, Forall}
use Rattle.qc_model.specs.declared.problem.Sense.TheVariants.{Min}
use Rattle.qc_model.specs.declared.problem.Fold.TheVariants.{Least}
use Rattle.qc_model.specs.declared.problem.Target.TheVariants.{Var as VarTarget, Aggregate as Agg}
use Rattle.qc_model.specs.declared.problem.Domain.{Domain}
use Rattle.qc_model.specs.declared.problem.Domain.TheVariants.{Bits, Range, Listed}
use Rattle.qc_model.specs.declared.problem.Set.TheVariants.{Range as SetRange, Listed as SetListed}
use Rattle.qc_model.specs.declared.problem.Arg.{Arg}
use Rattle.qc_model.specs.declared.problem.Arg.TheVariants.{Var, Num}
use Rattle.qc_model.specs.declared.problem.Argument.{Argument}
use Rattle.qc_model.specs.declared.problem.Argument.TheVariants.{One, Many, Numbers, Members}
use Rattle.qc_model.specs.declared.problem.Pred.{Pred}
use Rattle.qc_model.specs.declared.problem.Pred.TheVariants.{IntLe, SetIn, ArrayBoolOr, IntLinLe}
use Rattle.qc_model.specs.declared.problem.Scope.{Scope}
use Rattle.qc_model.specs.declared.problem.Variable.{Variable}
use Rattle.qc_model.specs.declared.problem.Aggregate.{Aggregate}
use Rattle.qc_model.specs.Content.{Game, Rule}
use Rattle.qc_model.specs.Canonical.{canonical_text}
use Rattle.qc_model.specs.Turns.{full_turns_of}

zero_text : decimal 0 ≡ codes "0"
zero_text = decimal_digit 0 (lit< tt)

two_text : decimal 2 ≡ codes "2"
two_text = decimal_digit 2 (lit< tt)

three_text : decimal 3 ≡ codes "3"
three_text = decimal_digit 3 (lit< tt)

four_text : decimal 4 ≡ codes "4"
four_text = decimal_digit 4 (lit< tt)

five_text : decimal 5 ≡ codes "5"
five_text = decimal_digit 5 (lit< tt)

seven_text : decimal 7 ≡ codes "7"
seven_text = decimal_digit 7 (lit< tt)

abbrev scope : ℕ → ScopeId
scope i = record { 0 = i }

abbrev pub var : ℕ → Arg
var k = Var (record { 0 = k })

abbrev pub one_var : ℕ → Argument
one_var k = One (var k)

abbrev pub exists : Scope
exists = record { kind = Exists; condition = None }

abbrev pub forall : Scope
forall = record { kind = Forall; condition = None }

abbrev pub variable : List ℕ → ℕ → Domain → Variable
variable name i d = record { name = name; scope = scope i; domain = d }

abbrev pub rule : ℕ → Pred → List Argument → Rule
rule i p args = record { owner = scope i; pred = p; args = args }

abbrev pub game : List Scope → List Variable → List Aggregate → List Rule → Game
game ss xs qs cs = record { scopes = ss; variables = xs; aggregates = qs; constraints = cs }

abbrev pub only_goal : Game
only_goal = game [] [] [] []

text_of_only_goal : canonical_text only_goal ≡ codes "goal;\nsolve;\n"
text_of_only_goal = refl

abbrev pub at_most_three : Game
at_most_three = game (exists ∷ []) (variable (codes "x") 0 (Range (pos 0) (pos 2)) ∷ []) [] (rule 0 IntLe (one_var 0 ∷ One (Num (pos 3)) ∷ []) ∷ [])

text_of_at_most_three : canonical_text at_most_three ≡ codes "exists;\nvar 0..2: x;\nconstraint int_le(x,3);\ngoal;\nsolve;\n"
text_of_at_most_three = rw (zero_text, two_text, three_text)

-- an array of Booleans, two sets, a fold and a condition
abbrev pub many_forms : Game
many_forms =
    game
    (record { kind = Exists; condition = Some (record { sense = Min; target = Agg (record { 0 = 0 }) }) } ∷ forall ∷ [])
    (variable (codes "b") 0 Bits ∷ variable (codes "k") 1 (Listed (negsuc 1 ∷ pos 0 ∷ pos 5 ∷ [])) ∷ [])
    (record { name = codes "g"; scope = scope 1; fold = Least (pos 7); target = VarTarget (record { 0 = 1 }) } ∷ [])
    (rule 0 ArrayBoolOr (Many (var 0 ∷ Num (pos 1) ∷ []) ∷ One (Num (pos 0)) ∷ [])
    ∷ rule 1 SetIn (one_var 1 ∷ Members (SetRange (pos 0) (pos 4)) ∷ [])
    ∷ rule 2 SetIn (one_var 1 ∷ Members (SetListed []) ∷ [])
    ∷ rule 2 IntLinLe (Numbers (pos 2 ∷ negsuc 2 ∷ []) ∷ Many (var 1 ∷ Num (pos 4) ∷ []) ∷ One (Num (pos 0)) ∷ []) ∷ [])

text_of_many_forms : canonical_text many_forms ≡
    codes "exists minimize g;\nvar bool: b;\nconstraint array_bool_or([b,true],false);\nforall;\nvar {-2,0,5}: k;\naggregate g = least(k) else 7;\nconstraint set_in(k,0..4);\ngoal;\nconstraint set_in(k,{});\nconstraint int_lin_le([2,-3],[k,4],0);\nsolve;\n"
text_of_many_forms = rw (two_text, zero_text, five_text, seven_text, four_text, three_text)

-- three variables, and two times two times two leaves
abbrev pub three_truths : Game
three_truths = game (forall ∷ exists ∷ []) (variable (codes "a") 0 Bits ∷ variable (codes "b") 0 Bits ∷ variable (codes "c") 1 Bits ∷ []) [] []

turns_of_three_truths : full_turns_of three_truths ≡ 24
turns_of_three_truths = refl

turns_of_only_goal : full_turns_of only_goal ≡ 0
turns_of_only_goal = refl

-- gaps don't count as values
turns_of_many_forms : full_turns_of many_forms ≡ 12
turns_of_many_forms = refl
