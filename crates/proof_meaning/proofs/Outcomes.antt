-- What a certificate that proves its outcome says of the game.
use Rattle.std.proofs.Common.{◌≡◌, true, false, ◌&&◌, not, List, [], ◌∷◌, map, take, refl, sym, ap, ◌∙◌, subst, arith, Option, Some, None}
use Rattle.std.specs.Prelude.{ℤ, IsTrue, is_some}
use Rattle.std.proofs.lemmas.Bool.Decides.{Decides-int_eq}
use Rattle.std.proofs.lemmas.Bool.{and_parts}
use Rattle.qc_model.specs.declared.problem.Kind.{Kind}
use Rattle.qc_model.specs.declared.problem.Kind.TheVariants.{Exists, Forall}
use Rattle.qc_model.specs.declared.problem.Scope.{Scope}
use Rattle.qc_model.specs.declared.problem.Condition.{Condition}
use Rattle.qc_model.specs.Content.{Game}
use Rattle.qc_model.specs.Domains.{Box, declared_box, least_value}
use Rattle.qc_model.specs.Optimal.{Optimal}
use Rattle.qc_model.specs.Block.{of_kind}
use Rattle.qc_model.specs.Sees.{AllVisible}
use Rattle.qc_model.specs.Verdict.{Verdict, lost, exact, at_most, unknown, is_exact, is_lost}
use Rattle.qc_model.proofs.Plans.{optimal_wins, counter_loses}
use Rattle.qc_model.proofs.Before.{before-zero}
use Rattle.model_laws.proofs.Domains.{domains_differ}
use Rattle.model_laws.proofs.Validity.{valid_differs}
use Rattle.model_laws.proofs.Existence.{optimum_same}
use Rattle.proof_tree.specs.declared.tree.Outcome.{Outcome}
use Rattle.proof_tree.specs.declared.tree.Outcome.TheVariants.{True, False, Open}
use Rattle.proof_tree.specs.Tree.{Tree}
use Rattle.proof_tree.specs.Place.{position}
use Rattle.proof_tree.specs.InPlace.{root_in_place}
use Rattle.proof_tree.specs.Finding.{Finding}
use Rattle.proof_tree.specs.Read.{root_finding, strategy_of, counter_of}
use Rattle.proof_tree.specs.Proves.{optimises_first, is_value, shows, proves}
use Rattle.proof_tree.specs.Meaning.{LostMeans, VerdictMeans, OptimumBy, IsOptimum, TrueMeans, FalseMeans, OutcomeMeans}
use Rattle.proof_meaning.proofs.Boxes.{differ}
use Rattle.proof_meaning.proofs.Premises.{sound_of}
use Rattle.qc_model.specs.Valid.{IsValid}
use Rattle.proof_meaning.proofs.Frames.{FairNode}
use Rattle.proof_meaning.proofs.Entering.{root_fair}
use Rattle.proof_meaning.proofs.Trees.{OwnBy, OwnMeans, NodeMeans, tree_means}

pub no_position : (g : Game) (box : Box) → position g 0 box ≡ []
no_position g box = ap (λ n. map least_value (take n box)) (before-zero g)

pub root_means : (g : Game) (t : Tree) → IsValid g → IsTrue (root_in_place g t) → NodeMeans g false g.scopes 0 [] [] (declared_box g) (root_finding g t)
root_means g t valid e =
    let r = sound_of g valid in
    let differs = valid_differs g valid in
    let fair : FairNode g false g.scopes 0 (position g 0 (declared_box g)) (declared_box g) =
    subst (λ a. FairNode g false g.scopes 0 a (declared_box g)) (sym (no_position g (declared_box g))) (root_fair g (domains_differ g differs)) in
    subst (λ a. NodeMeans g false g.scopes 0 [] a (declared_box g) (root_finding g t)) (no_position g (declared_box g))
    (tree_means g r t g.scopes 0 [] (declared_box g) false None (omega arith) r.valid.sees (nothing g.scopes, r.valid.bottlenecks) r.ordered.no_empty fair tt e)
  where
    nothing : (scopes : List Scope) → AllVisible g scopes 0 []
    nothing [] = tt
    nothing (x ∷ xs) = tt

pub root_verdict : (g : Game) (t : Tree) → IsValid g → IsTrue (root_in_place g t) → VerdictMeans (root_finding g t).verdict g g.scopes 0 [] [] (declared_box g) (root_finding g t) false
root_verdict g t r e = (root_means g t r e).verdict

exact_optimal : (g : Game) (f : Finding) (v : Verdict) → VerdictMeans v g g.scopes 0 [] [] (declared_box g) f false → IsTrue (is_exact v) → Optimal g g.scopes 0 [] f.strategy
exact_optimal g f lost m e = absurd (differ e)
exact_optimal g f (exact v) m e = m.is_optimal.optimal
exact_optimal g f (at_most p) m e = absurd (differ e)
exact_optimal g f unknown m e = absurd (differ e)

lost_counter : (g : Game) (f : Finding) (v : Verdict) → VerdictMeans v g g.scopes 0 [] [] (declared_box g) f false → IsTrue (is_lost v) → LostMeans g g.scopes 0 [] (declared_box g) f.counter false
lost_counter g f lost m e = m
lost_counter g f (exact v) m e = absurd (differ e)
lost_counter g f (at_most p) m e = absurd (differ e)
lost_counter g f unknown m e = absurd (differ e)

pub root_true : (g : Game) (t : Tree) → IsValid g → IsTrue (root_in_place g t) → IsTrue (is_exact (root_finding g t).verdict) → TrueMeans g t
root_true g t r e x =
    let o = exact_optimal g (root_finding g t) (root_finding g t).verdict (root_verdict g t r e) x in
    record { won = optimal_wins g g.scopes 0 [] (strategy_of g t) o; optimal = o }

pub root_false : (g : Game) (t : Tree) → IsValid g → IsTrue (root_in_place g t) → IsTrue (is_lost (root_finding g t).verdict) → FalseMeans g t
root_false g t r e x =
    let c = (lost_counter g (root_finding g t) (root_finding g t).verdict (root_verdict g t r e) x).loses refl in
    record { not_won = counter_loses g g.scopes 0 [] (counter_of g t) c; loses = c; once = (root_means g t r e).once }

own_is : (v : ℤ) (x : Option ℤ) → is_value v x ≡ true → x ≡ Some v
own_is v None e = absurd (differ e)
own_is v (Some w) e = let q : v ≡ w = (Decides-int_eq v w).0 e in cc

-- where the strategy has the value, each optimal strategy has it
optimum_is : (g : Game) (f : Finding) (v : ℤ) (scopes : List Scope) → g.scopes ≡ scopes → optimises_first scopes ≡ true → OwnMeans scopes g [] f → f.own ≡ Some v → Optimal g g.scopes 0 [] f.strategy → IsOptimum scopes g v
optimum_is g f v [] q h own x o = absurd (differ h)
optimum_is g f v (s ∷ later) q h own x o = by s.kind s.condition q h own
  where
    by : (k : Kind) (c : Option Condition) → g.scopes ≡ record { kind = k; condition = c } ∷ later → of_kind k (is_some c) false ≡ true → OwnBy c g [] f → OptimumBy c g v
    by Forall c q h own = absurd (differ h)
    by Exists None q h own = absurd (differ h)
    by Exists (Some c) q h own = record {
      won = optimal_wins g g.scopes 0 [] f.strategy o;
      has_value = λ p w. optimum_same g later c 0 [] p f.strategy (subst (λ z. Optimal g z 0 [] p) q w) (subst (λ z. Optimal g z 0 [] f.strategy) q o) ∙ own v x;
    }

pub outcome_means : (g : Game) (outcome : Outcome) (optimum : Option ℤ) (t : Tree) → IsValid g → IsTrue (proves g outcome optimum t) → OutcomeMeans outcome optimum g t
outcome_means g True None t r e =
    let p = and_parts (root_in_place g t) (shows g t (root_finding g t) True None) e in
    let q = and_parts (is_exact (root_finding g t).verdict) (not (optimises_first g.scopes)) p.1 in
    root_true g t r p.0 q.0
outcome_means g True (Some v) t r e =
    let p = and_parts (root_in_place g t) (shows g t (root_finding g t) True (Some v)) e in
    let q = and_parts (is_exact (root_finding g t).verdict && optimises_first g.scopes) (is_value v (root_finding g t).own) p.1 in
    let q1 = and_parts (is_exact (root_finding g t).verdict) (optimises_first g.scopes) q.0 in
    let m = root_true g t r p.0 q1.0 in
    (m, optimum_is g (root_finding g t) v g.scopes refl q1.1 (root_means g t r p.0).own (own_is v (root_finding g t).own q.1) m.optimal)
outcome_means g False None t r e =
    let p = and_parts (root_in_place g t) (shows g t (root_finding g t) False None) e in
    root_false g t r p.0 p.1
outcome_means g False (Some v) t r e =
    let p = and_parts (root_in_place g t) false e in
    absurd (differ p.1)
outcome_means g (Open n) v t r e = tt
