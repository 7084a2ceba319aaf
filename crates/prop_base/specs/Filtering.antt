-- What a filter is given, and what it does.
use Rattle.std.specs.Prelude.{List, Result, IfOk}
use Rattle.std.specs.declared.alloc.AllocError.{AllocError}
use Rattle.model_arguments.specs.Asked.{IsAsked}
use Rattle.proof_tree.specs.declared.tree.Step.{Step}
use Rattle.fd_store.specs.Held.{Held}
use Rattle.prop_base.specs.declared.answer.Filtered.{Filtered}
use Rattle.prop_base.specs.declared.asked.Asked.{Asked}
use Rattle.prop_base.specs.Pruning.{IsPruning, IsFiltered, is_just}

-- the store holds values of the problem's variables, each of which has some
abbrev pub Fits : Asked → Held → Type 0
Fits a s = IsAsked a.problem.now a.rule.now s.box

-- steps were appended, each legal at its moment by this constraint, and the store was led along them
abbrev pub Prunes : Asked → Held → Held → List Step → List Step → Type 0
Prunes a s t steps then = IsPruning (is_just a.c.0) a.problem.now s t steps then

-- where memory was given, the answer says what became of the box
abbrev pub Answers : Asked → Held → List Step → List Step → Result Filtered AllocError → Type 0
Answers a t steps then r = IfOk r (λ f. IsFiltered f a.rule.now t.box steps then)
