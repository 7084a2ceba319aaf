-- What comes from ends is no larger than they make it.
use Rattle.std.proofs.Common.{◌≡◌, ℕ, zero, suc, ◌+◌, ◌*◌, ◌≤◌, Bool, true, false, ◌&&◌, ◌||◌, Option, Some, None, List, [], ◌∷◌, ◌++◌, drop, refl, sym, ap, ◌∙◌, subst, arith}
use Rattle.std.specs.Prelude.{slice_get, ℤ}
use Rattle.qc_model.specs.declared.problem.Sense.{Sense}
use Rattle.qc_model.specs.declared.problem.Kind.{Kind}
use Rattle.qc_model.specs.declared.problem.Kind.TheVariants.{Exists, Forall}
use Rattle.qc_model.specs.declared.problem.Target.{Target}
use Rattle.qc_model.specs.declared.problem.Target.TheVariants.{Var, Aggregate as Agg}
use Rattle.qc_model.specs.declared.problem.Aggregate.{Aggregate}
use Rattle.qc_model.specs.declared.problem.Condition.{Condition}
use Rattle.qc_model.specs.declared.problem.Scope.{Scope}
use Rattle.qc_model.specs.Content.{Game}
use Rattle.qc_model.specs.Valid.{IsValid}
use Rattle.qc_model.specs.Demands.{demands, demands_after}
use Rattle.qc_model.specs.Verdict.{Verdict, lost, exact, at_most, unknown, Seen, seen_barred, seen_skipped, seen_bound, seen_node, is_lost, is_exact, some_node, each_node}
use Rattle.qc_model.specs.ExistsVerdict.{some_open, exists_verdict}
use Rattle.qc_model.specs.ForallVerdict.{known_numbers, is_known, one_sided, first_entry_bound, bounded_forall, forall_verdict}
use Rattle.joins.specs.Verdicts.{kind_verdict, scope_verdict, verdict_at}
use Rattle.joins.specs.Sizes.{IsSized, HasSizes, AreNumbers}
use Rattle.joins.specs.Ends.{tells_nothing, HasEnds, IsOfEnds, HasPart}
use Rattle.joins.proofs.Sizing.{nodes_join, marks_join, node_nodes, verdict_sized}

-- ---- where nothing is known
none_such : (p : Verdict → Bool) (xs : List Seen) → p unknown ≡ false → tells_nothing xs ≡ true → some_node p xs ≡ false
none_such p [] u t = refl
none_such p (seen_barred ∷ xs) u t = cc
none_such p (seen_skipped ∷ xs) u t = none_such p xs u t
none_such p (seen_bound m ∷ xs) u t = none_such p xs u t
none_such p (seen_node lost ∷ xs) u t = cc
none_such p (seen_node (exact w) ∷ xs) u t = cc
none_such p (seen_node (at_most q) ∷ xs) u t = cc
none_such p (seen_node unknown ∷ xs) u t = ap (λ b. b || some_node p xs) u ∙ none_such p xs u t

not_each : (p : Verdict → Bool) (xs : List Seen) → p unknown ≡ false → tells_nothing xs ≡ true → some_open xs ≡ true → each_node p xs ≡ false
not_each p [] u t o = cc
not_each p (seen_barred ∷ xs) u t o = cc
not_each p (seen_skipped ∷ xs) u t o = refl
not_each p (seen_bound m ∷ xs) u t o = not_each p xs u t o
not_each p (seen_node lost ∷ xs) u t o = cc
not_each p (seen_node (exact w) ∷ xs) u t o = cc
not_each p (seen_node (at_most q) ∷ xs) u t o = cc
not_each p (seen_node unknown ∷ xs) u t o = ap (λ b. b && each_node p xs) u

none_known : (xs : List Seen) → tells_nothing xs ≡ true → known_numbers xs ≡ []
none_known [] t = refl
none_known (seen_barred ∷ xs) t = cc
none_known (seen_skipped ∷ xs) t = none_known xs t
none_known (seen_bound m ∷ xs) t = none_known xs t
none_known (seen_node lost ∷ xs) t = cc
none_known (seen_node (exact w) ∷ xs) t = cc
none_known (seen_node (at_most q) ∷ xs) t = cc
none_known (seen_node unknown ∷ xs) t = none_known xs t

exists_unknown : (own : Option Condition) (d : List Condition) (xs : List Seen) → tells_nothing xs ≡ true → some_open xs ≡ true → exists_verdict own d xs ≡ unknown
exists_unknown own [] xs t o =
    let e = none_such is_exact xs refl t in
    let l = not_each is_lost xs refl t o in
    rw (e, l) refl
exists_unknown own (c ∷ d) xs t o =
    let l = not_each is_lost xs refl t o in
    rw (l, o) refl

one_side_unknown : (s : Sense) (q : Option Aggregate) → one_sided s q [] ≡ unknown
one_side_unknown s None = refl
one_side_unknown s (Some q) = refl

first_unknown : (g : Game) (s : Sense) (x : Target) (xs : List Seen) → tells_nothing xs ≡ true → some_open xs ≡ true → first_entry_bound g s x xs ≡ unknown
first_unknown g s (Var x) xs t o = refl
first_unknown g s (Agg q) xs t o =
    let k = not_each is_known xs refl t o in
    let n = none_known xs t in
    rw (k, n) (one_side_unknown s (slice_get g.aggregates q.0))

bounded_unknown : (g : Game) (d : List Condition) (xs : List Seen) → tells_nothing xs ≡ true → some_open xs ≡ true → bounded_forall g d xs ≡ unknown
bounded_unknown g [] xs t o = refl
bounded_unknown g (c ∷ d) xs t o = first_unknown g c.sense c.target xs t o

forall_unknown : (g : Game) (d : List Condition) (a : List ℤ) (xs : List Seen) → tells_nothing xs ≡ true → some_open xs ≡ true → forall_verdict g d a xs ≡ unknown
forall_unknown g d a xs t o =
    let l = none_such is_lost xs refl t in
    let e = not_each is_exact xs refl t o in
    rw (l, e) (bounded_unknown g d xs t o)

kind_unknown : (k : Kind) (own : Option Condition) (g : Game) (d : List Condition) (a : List ℤ) (xs : List Seen) → tells_nothing xs ≡ true → some_open xs ≡ true → kind_verdict k own g d a xs ≡ unknown
kind_unknown Exists own g d a xs t o = exists_unknown own (demands_after g Exists own d) xs t o
kind_unknown Forall own g d a xs t o = forall_unknown g d a xs t o

scope_unknown : (scopes : List Scope) (g : Game) (d : List Condition) (a : List ℤ) (xs : List Seen) → tells_nothing xs ≡ true → some_open xs ≡ true → scope_verdict scopes g d a xs ≡ unknown
scope_unknown [] g d a xs t o = refl
scope_unknown (s ∷ scopes) g d a xs t o = kind_unknown s.kind s.condition g d a xs t o

-- ---- sizes
pub ends_more : (m n : ℕ) (v : Verdict) → m ≤ n → IsOfEnds m v → IsOfEnds n v
ends_more m n v l h = record { sized = sized_more v h.sized; none = λ z. h.none (omega (arith, l, z)) }
  where
    sized_more : (v : Verdict) → IsSized m v → IsSized n v
    sized_more lost h = h
    sized_more (exact w) h = λ k. omega (arith, l, h k)
    sized_more (at_most p) h = omega (arith, l, h)
    sized_more unknown h = h

pub ends_sizes : (n : ℕ) (xs : List Seen) → HasEnds n xs → HasSizes (n + 1) xs
ends_sizes n xs h k = omega (arith, h.nodes k, h.marks)

some_sizes : (n : ℕ) (xs : List Seen) → HasEnds (suc n) xs → HasSizes (suc n) xs
some_sizes n xs h k = omega (arith, h.nodes k, h.marks)

-- what a scope comes to, comes from the ends that its leaves come from
pub verdict_of_ends : (g : Game) (i : ℕ) (a : List ℤ) (xs : List Seen) (n : ℕ) → IsValid g → AreNumbers a → HasEnds n xs → HasPart n xs → IsOfEnds n (verdict_at g i a xs)
verdict_of_ends g i a xs zero v e h p =
    let u = scope_unknown (drop i g.scopes) g (demands g i) a xs (h.none refl) (p refl) in
    record { sized = subst (IsSized 0) (sym u) tt; none = λ z. u }
verdict_of_ends g i a xs (suc n) v e h p = record { sized = verdict_sized g i a xs (suc n) v e (some_sizes n xs h) (omega arith); none = λ z. absurd (omega (arith, z)) }

-- ---- more leaves
tells_join : (xs ys : List Seen) → tells_nothing xs ≡ true → tells_nothing ys ≡ true → tells_nothing (xs ++ ys) ≡ true
tells_join [] ys t u = u
tells_join (seen_barred ∷ xs) ys t u = cc
tells_join (seen_skipped ∷ xs) ys t u = tells_join xs ys t u
tells_join (seen_bound m ∷ xs) ys t u = tells_join xs ys t u
tells_join (seen_node lost ∷ xs) ys t u = cc
tells_join (seen_node (exact w) ∷ xs) ys t u = cc
tells_join (seen_node (at_most q) ∷ xs) ys t u = cc
tells_join (seen_node unknown ∷ xs) ys t u = tells_join xs ys t u

pub open_join : (xs ys : List Seen) → some_open ys ≡ true → some_open (xs ++ ys) ≡ true
open_join [] ys o = o
open_join (seen_barred ∷ xs) ys o = open_join xs ys o
open_join (seen_skipped ∷ xs) ys o = refl
open_join (seen_bound m ∷ xs) ys o = open_join xs ys o
open_join (seen_node lost ∷ xs) ys o = open_join xs ys o
open_join (seen_node (exact w) ∷ xs) ys o = open_join xs ys o
open_join (seen_node (at_most q) ∷ xs) ys o = open_join xs ys o
open_join (seen_node unknown ∷ xs) ys o = refl

pub ends_none : HasEnds 0 []
ends_none = record { nodes = λ k. omega arith; marks = omega arith; none = λ z. refl }

pub ends_join : (m n : ℕ) (xs ys : List Seen) → HasEnds m xs → HasEnds n ys → HasEnds (m + n) (xs ++ ys)
ends_join m n xs ys h l = record {
  nodes = λ k. let j = nodes_join k xs ys in omega (arith, j, h.nodes k, l.nodes k);
  marks = let j = marks_join xs ys in omega (arith, j, h.marks, l.marks);
  none = λ z. tells_join xs ys (h.none (omega (arith, z))) (l.none (omega (arith, z)));
}

pub ends_node : (n : ℕ) (v : Verdict) → IsOfEnds n v → HasEnds n (seen_node v ∷ [])
ends_node n v h = record {
  nodes = λ k. node_nodes (n * 1000000000) k v h.sized;
  marks = omega arith;
  none = λ z. subst (λ w. tells_nothing (seen_node w ∷ []) ≡ true) (sym (h.none z)) refl;
}
