-- Calls that append no step, and what holds of items on each box.
use Rattle.std.proofs.Common.{◌≡◌, ◌≢◌, ℕ, ◌<◌, Bool, true, false, List, [], ◌∷◌, ◌++◌, length, cond, refl, sym, ap, ◌∙◌, arith, length-append, append-nil}
use Rattle.std.specs.Prelude.{Result, Ok, Err, IfOk}
use Rattle.std.specs.declared.alloc.AllocError.{AllocError}
use Rattle.std.specs.List.{list_all}
use Rattle.std.proofs.lemmas.Bool.{and_from}
use Rattle.qc_model.specs.declared.problem.Arg.{Arg}
use Rattle.qc_model.specs.declared.problem.Arg.TheVariants.{Var, Num}
use Rattle.qc_model.specs.Content.{Game, Rule}
use Rattle.qc_model.specs.Domains.{Box}
use Rattle.qc_model.specs.Valid.{is_domain, arg_sees}
use Rattle.qc_model.proofs.Readable.{first, second}
use Rattle.proof_tree.specs.declared.tree.Step.{Step}
use Rattle.proof_tree.specs.Steps.{after_steps}
use Rattle.fd_store.specs.Held.{Held}
use Rattle.model_arguments.specs.Asked.{IsAsked}
use Rattle.model_arguments.proofs.Boxes.{declared_below}
use Rattle.qc_refuter.specs.Met.{is_open}
use Rattle.qc_refuter.proofs.Ready.{var_open}
use Rattle.prop_base.specs.declared.answer.Filtered.{Filtered}
use Rattle.prop_base.specs.declared.answer.Filtered.TheVariants.{Emptied, Stable, Changed}
use Rattle.prop_base.specs.Pruning.{IsPruning, IsFiltered, IsAllOrNone}
use Rattle.prop_linear.specs.Sides.{IsRound}

none_more : (a more : List Step) → a ≡ a ++ more → more ≡ []
none_more a [] h = refl
none_more a (s ∷ more) h = absurd (omega (arith, ap length h, length-append a (s ∷ more)))

-- without a step the box is the same
pub same_box : (ok : ℕ → Bool) (g : Game) (s t : Held) (a b : List Step) → IsPruning ok g s t a b → b ≡ a → t.box ≡ s.box
same_box ok g s t a b p h = p.reached ∙ ap (λ steps. after_steps steps s.box) (none_more a p.more (sym h ∙ p.appended))

-- steps that are not the same are more
pub more_steps : (ok : ℕ → Bool) (g : Game) (s t : Held) (a b : List Step) → IsPruning ok g s t a b → b ≢ a → length a < length b
more_steps ok g s t a b p h = by p.more p.appended
  where
    by : (more : List Step) → b ≡ a ++ more → length a < length b
    by [] e = absurd (h (e ∙ append-nil a))
    by (x ∷ more) e = omega (arith, ap length e, length-append a (x ∷ more))

-- an answer of a filter is one of a round
pub round_of : (ok : ℕ → Bool) (g : Game) (c : Rule) (s t : Held) (a b : List Step) (f : Filtered) → IsPruning ok g s t a b → IsFiltered f c t.box a b → IsRound f c t.box a b
round_of ok g c s t a b Emptied p h = h
round_of ok g c s t a b Stable p h = h
round_of ok g c s t a b Changed p h = (h.0, more_steps ok g s t a b p h.1)

pub rounded : (ok : ℕ → Bool) (g : Game) (c : Rule) (s t : Held) (a b : List Step) (r : Result Filtered AllocError) → IsPruning ok g s t a b → IfOk r (λ f. IsFiltered f c t.box a b) → IfOk r (λ f. IsRound f c t.box a b)
rounded ok g c s t a b (Ok f) p h = round_of ok g c s t a b f p h
rounded ok g c s t a b (Err e) p h = h

-- such an answer is never that something is left to do
pub never_changed : (X : Type 0) (r : Result Filtered AllocError) → IfOk r IsAllOrNone → IfOk r (λ f. f ≡ Changed → X)
never_changed X (Ok Emptied) h = λ e. absurd cc
never_changed X (Ok Stable) h = λ e. absurd cc
never_changed X (Ok Changed) h = absurd h
never_changed X (Err e) h = h

-- items that were open are open on each box of the problem
pub open_again : (g : Game) (c : Rule) (old new : Box) (items : List Arg) → list_all (λ v. is_domain v.domain) g.variables ≡ true → IsAsked g c new → list_all (arg_sees g.variables c.owner.0) items ≡ true → list_all (is_open old) items ≡ true →
    list_all (is_open new) items ≡ true
open_again g c old new [] d a s o = refl
open_again g c old new (x ∷ items) d a s o =
    let sees = arg_sees g.variables c.owner.0 in
    and_from (is_open new x) (list_all (is_open new) items)
    (one x (first (sees x) (list_all sees items) s) (first (is_open old x) (list_all (is_open old) items) o))
    (open_again g c old new items d a (second (sees x) (list_all sees items) s) (second (is_open old x) (list_all (is_open old) items) o))
  where
    one : (x : Arg) → arg_sees g.variables c.owner.0 x ≡ true → is_open old x ≡ true → is_open new x ≡ true
    one (Var x) e o = var_open g new d a.declared a.full x.0 (declared_below g.variables c.owner.0 x.0 e)
    one (Num n) e o = o

-- after rounds that removed values, or none, one that removed nothing
pub ended_filtered : (b : Bool) (c : Rule) (box : Box) (old mid new : List Step) → (b ≡ false → mid ≡ old) → (b ≡ true → length old < length mid) → IsRound Stable c box mid new → IsFiltered (cond b Changed Stable) c box old new
ended_filtered true c box old mid new f g h = (h.0, λ e. omega (arith, g refl, ap length e, ap length h.1), h.2)
ended_filtered false c box old mid new f g h = (h.0, h.1 ∙ f refl, h.2)
