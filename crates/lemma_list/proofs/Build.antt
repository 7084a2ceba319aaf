-- Words to write games and lists of lemmas with.
use Rattle.std.specs.Prelude.{ℕ, List, [], None, ℤ}
use Rattle.qc_model.specs.declared.problem.Kind.{Kind}
use Rattle.qc_model.specs.declared.problem.Arg.{Arg}
use Rattle.qc_model.specs.declared.problem.Arg.TheVariants.{Var}
use Rattle.qc_model.specs.declared.problem.Argument.{Argument}
use Rattle.qc_model.specs.declared.problem.Pred.{Pred}
use Rattle.qc_model.specs.declared.problem.Domain.{Domain}
use Rattle.qc_model.specs.declared.problem.Scope.{Scope}
use Rattle.qc_model.specs.declared.problem.Variable.{Variable}
use Rattle.qc_model.specs.Content.{Rule}
use Rattle.lemma_list.specs.declared.lemma.Literal.{Literal}
use Rattle.lemma_list.specs.declared.lemma.SumLiteral.{SumLiteral}
use Rattle.lemma_list.specs.declared.lemma.Reason.{Reason}
use Rattle.lemma_list.specs.declared.lemma.Reason.TheVariants.{Constraint, Lemma as Earlier}
use Rattle.lemma_list.specs.declared.lemma.Step.{Step}
use Rattle.lemma_list.specs.declared.lemma.Step.TheVariants.{Cut, Choose}
use Rattle.lemma_list.specs.declared.lemma.Ending.{Ending}
use Rattle.lemma_list.specs.declared.lemma.Ending.TheVariants.{Lost}
use Rattle.lemma_list.specs.Lemmas.{Entry, shown, forget}

abbrev pub scope : Kind → Scope
scope k = record { kind = k; condition = None }

abbrev pub variable : ℕ → List ℕ → Domain → Variable
variable s name d = record { name = name; scope = record { 0 = s }; domain = d }

abbrev pub var : ℕ → Arg
var x = Var (record { 0 = x })

abbrev pub rule : ℕ → Pred → List Argument → Rule
rule s p args = record { owner = record { 0 = s }; pred = p; args = args }

-- x lies from low to high, and the sum of constraint c does
abbrev pub is : ℕ → ℤ → ℤ → Literal
is x low high = record { x = record { 0 = x }; lo = low; hi = high }

abbrev pub sum : ℕ → ℤ → ℤ → SumLiteral
sum c low high = record { c = record { 0 = c }; lo = low; hi = high }

-- by a constraint, and by a lemma
abbrev pub constraint : ℕ → Reason
constraint c = Constraint (record { 0 = c })

abbrev pub lemma : ℕ → Reason
lemma n = Earlier (record { 0 = n })

abbrev pub cut : ℕ → ℤ → ℤ → Reason → Step
cut x low high r = Cut (record { 0 = x }) low high r

abbrev pub choose : ℕ → ℤ → Step
choose x v = Choose (record { 0 = x }) v

abbrev pub lost : Reason → Ending
lost r = Lost r

abbrev pub with_sums : Kind → List Literal → List SumLiteral → List Step → Ending → Entry
with_sums k literals sums steps ending = shown (record { lemma = record { loser = k; literals = literals; sums = sums }; steps = steps; ending = ending })

abbrev pub loses : Kind → List Literal → List Step → Ending → Entry
loses k literals steps ending = with_sums k literals [] steps ending

abbrev pub forgets : ℕ → Entry
forgets n = forget (record { 0 = n })
