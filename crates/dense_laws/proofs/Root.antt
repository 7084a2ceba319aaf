-- The root of a tree, and what a certificate that proves says.
use Rattle.std.proofs.Common.{◌≡◌, ℕ, zero, suc, Bool, true, false, not, ◌&&◌, cond, List, [], ◌∷◌, map, take, refl, sym, ap, ◌∙◌, subst, arith, ℤ, Option, Some, None}
use Rattle.std.specs.Prelude.{pos, ◌+ℤ◌, ◌-ℤ◌, nat_abs, int_lt, ◌+◌, nat_le}
use Rattle.std.specs.List.{list_all}
use Rattle.std.proofs.lemmas.Int.{ints}
use Rattle.qc_model.specs.declared.problem.Kind.{Kind}
use Rattle.qc_model.specs.declared.problem.Kind.TheVariants.{Exists, Forall}
use Rattle.qc_model.specs.declared.problem.Domain.{Domain}
use Rattle.qc_model.specs.declared.problem.Domain.TheVariants.{Bits, Range, Listed}
use Rattle.qc_model.specs.declared.problem.Variable.{Variable}
use Rattle.qc_model.specs.declared.problem.Scope.{Scope}
use Rattle.qc_model.specs.Block.{block_stop}
use Rattle.qc_model.specs.Domains.{declared_box, domain_values, has_value, is_ascending, is_none_left, is_sub_box}
use Rattle.qc_model.specs.Game.{before, IsWon}
use Rattle.qc_model.specs.Lists.{numbers_from}
use Rattle.qc_model.specs.Optimal.{Optimal}
use Rattle.qc_model.specs.Plan.{Plan}
use Rattle.qc_model.specs.declared.problem.Condition.{Condition}
use Rattle.qc_model.specs.Value.{value}
use Rattle.model_laws.specs.Positions.{optimising}
use Rattle.std.proofs.lemmas.Bool.Decides.{Decides-int_eq}
use Rattle.std.proofs.lemmas.Bool.{true_from_ne_false, and_parts, and_from}
use Rattle.qc_model.specs.Valid.{IsValid, is_domain, is_listed, has_gap, width_of}
use Rattle.qc_model.specs.Verdict.{Verdict, lost, exact, at_most, unknown, is_exact, is_lost}
use Rattle.qc_model.proofs.Before.{before-zero}
use Rattle.qc_model.proofs.Widths.{listed_ascends}
use Rattle.proof_meaning.proofs.Premises.{sound_of}
use Rattle.proof_tree.specs.Fair.{bounded_within}
use Rattle.proof_tree.specs.declared.tree.Outcome.{Outcome}
use Rattle.proof_tree.specs.declared.tree.Outcome.TheVariants.{True, False, Open}
use Rattle.proof_tree.specs.Meaning.{OptimumBy, IsOptimum}
use Rattle.proof_tree.specs.Proves.{optimises_first, is_value}
use Rattle.dense_closing.proofs.Within.{all_own}
use Rattle.dense_meaning.specs.Throughout.{Says}
use Rattle.dense_meaning.proofs.Declared.{all_declared, lost_declared, won_is_won}
use Rattle.dense_tree.specs.Place.{Setting, root_place}
use Rattle.dense_tree.specs.Proves.{given_placed, are_in_order, shows}
use Rattle.dense_tree.specs.Read.{NodeRead, read_root}
use Rattle.dense_tree.specs.Tree.{Node}
use Rattle.dense_laws.specs.Stands.{OpponentStays, MovesStay, OptimalStay, StrategiesStay, kept_to, StandsNode, at_most_one}
use Rattle.dense_laws.specs.Says.{IsAt, NodeTold, OwnSays, DenseMeans}
use Rattle.dense_laws.specs.Laws.{CertificatesAreTrue}
use Rattle.dense_laws.proofs.Small.{full_drop}
use Rattle.dense_laws.proofs.Trees.{node_done}
use Rattle.dense_laws.proofs.Tuple.{tuple_lies}

numbers_ascend : (low : ℤ) (n : ℕ) → is_ascending (numbers_from low n) ≡ true
numbers_ascend low zero = refl
numbers_ascend low (suc zero) = refl
numbers_ascend low (suc (suc n)) =
    ap (λ b. b && is_ascending (numbers_from (low +ℤ pos 1) (suc n))) (true_from_ne_false (int_lt low (low +ℤ pos 1)) (λ e. omega (arith, ints))) ∙ numbers_ascend (low +ℤ pos 1) (suc n)

domain_ascends : (d : Domain) → is_domain d ≡ true → is_ascending (domain_values d) ≡ true
domain_ascends Bits e = refl
domain_ascends (Range low high) e = by (int_lt high low)
  where
    by : (b : Bool) → is_ascending (cond b [] (numbers_from low (nat_abs (high -ℤ low) + 1))) ≡ true
    by true = refl
    by false = numbers_ascend low (nat_abs (high -ℤ low) + 1)
domain_ascends (Listed ns) e =
    let p = and_parts (not (is_none_left ns) && is_listed ns && has_gap ns) (nat_le (width_of ns) 1048576) e in
    let q = and_parts (not (is_none_left ns) && is_listed ns) (has_gap ns) p.0 in
    listed_ascends ns (and_parts (not (is_none_left ns)) (is_listed ns) q.0).1

self_sub : (xs : List Variable) → list_all (λ x. is_domain x.domain) xs ≡ true → is_sub_box (map (λ x. domain_values x.domain) xs) (map (λ x. domain_values x.domain) xs) ≡ true
self_sub [] h = refl
self_sub (x ∷ xs) h =
    let q = and_parts (is_domain x.domain) (list_all (λ y. is_domain y.domain) xs) h in
    and_from (is_ascending (domain_values x.domain) && list_all (has_value (domain_values x.domain)) (domain_values x.domain)) (is_sub_box (map (λ y. domain_values y.domain) xs) (map (λ y. domain_values y.domain) xs))
    (and_from (is_ascending (domain_values x.domain)) (list_all (has_value (domain_values x.domain)) (domain_values x.domain)) (domain_ascends x.domain q.0) (all_own (domain_values x.domain))) (self_sub xs q.1)

module _ (s : Setting) (valid : IsValid s.game) where
  moves : (later : List Scope) (i : ℕ) → MovesStay s.game later i (declared_box s.game)
  moves [] i = tt
  moves (sc ∷ later) i = (by sc.kind, moves later (suc i))
    where
      by : (k : Kind) → OpponentStays k s.game i (declared_box s.game)
      by Exists = tt
      by Forall = λ a t at m. tuple_lies s.game i a t (declared_box s.game) at.count at.lies m.is_tuple

  strategies : (b : Bool) (later : List Scope) (i : ℕ) → StrategiesStay s.game b later i (declared_box s.game)
  strategies b [] i = tt
  strategies b (sc ∷ later) i = (here, strategies (bounded_within sc.kind b) later (suc i))
    where
      here : OptimalStay s.game (sc ∷ later) i (kept_to b (sc ∷ later) i) (declared_box s.game)
      here a at r o h = all_declared s.game (sc ∷ later) i a at r o

  pub root_stands : StandsNode s (root_place s.game)
  root_stands = record {
    stands = record {
      number = omega arith;
      later = refl;
      list = refl;
      box = self_sub s.game.variables valid.domains;
      behind = full_drop (before s.game (block_stop s.game.scopes 0)) (declared_box s.game) (sound_of s.game valid).ordered.no_empty;
      strict = λ l. subst (λ n. list_all at_most_one (take n (declared_box s.game)) ≡ true) (sym (before-zero s.game)) refl;
      blocked = λ l a at. tt;
    };
    full = (sound_of s.game valid).ordered.no_empty;
    moves = moves s.game.scopes 0;
    strategies = strategies false s.game.scopes 0;
  }

  root_at : IsAt s (root_place s.game) []
  root_at = record { position = record { count = sym (before-zero s.game); lies = tt }; blocked = tt }

  exact_wins : (v : Verdict) → is_exact v ≡ true → Says v s.game s.game.scopes 0 [] (declared_box s.game) [] → IsWon s.game
  exact_wins lost e h = cc
  exact_wins (exact u) e h = won_is_won s.game s.game.scopes 0 [] (declared_box s.game) [] u h
  exact_wins (at_most p) e h = cc
  exact_wins unknown e h = cc

  lost_loses : (v : Verdict) → is_lost v ≡ true → Says v s.game s.game.scopes 0 [] (declared_box s.game) [] → ¬ IsWon s.game
  lost_loses lost e h = lost_declared s.game s.game.scopes 0 [] [] (root_at.position) h
  lost_loses (exact u) e h = cc
  lost_loses (at_most p) e h = cc
  lost_loses unknown e h = cc

  -- the value of the first scope's condition
  optimum_by : (scopes : List Scope) → s.game.scopes ≡ scopes → optimises_first scopes ≡ true → (v : ℤ) → IsWon s.game →
      ((c : Condition) (later : List Scope) → s.game.scopes ≡ optimising c ∷ later → (r : Plan) → Optimal s.game s.game.scopes 0 [] r → value s.game r c.target [] ≡ v) → IsOptimum scopes s.game v
  optimum_by [] q h v won f = cc
  optimum_by (sc ∷ later) q h v won f = by sc.kind sc.condition q h
    where
      by : (k : Kind) (x : Option Condition) → s.game.scopes ≡ record { kind = k; condition = x } ∷ later → optimises_first (record { kind = k; condition = x } ∷ later) ≡ true → OptimumBy x s.game v
      by Exists None q h = cc
      by Exists (Some c) q h = record { won = won; has_value = λ r o. f c later q r o }
      by Forall x q h = cc

  is_told : (v : ℤ) (o : Option ℤ) → is_value v o ≡ true → o ≡ Some v
  is_told v None h = cc
  is_told v (Some w) h = ap Some (sym ((Decides-int_eq v w).0 h))

  outcome_means : (t : Node) (r : NodeRead) → NodeTold s (root_place s.game) r.verdict → OwnSays s (root_place s.game) r.verdict r.own → (outcome : Outcome) (optimum : Option ℤ) → shows s.game t r outcome optimum ≡ true → DenseMeans outcome optimum s.game
  outcome_means t r d own True None h = exact_wins r.verdict (and_parts (is_exact r.verdict) (not (optimises_first s.game.scopes)) h).0 (d.says [] root_at)
  outcome_means t r d own True (Some v) h =
      let q = and_parts (is_exact r.verdict && optimises_first s.game.scopes) (is_value v r.own) h in
      let w = and_parts (is_exact r.verdict) (optimises_first s.game.scopes) q.0 in
      optimum_by s.game.scopes refl w.1 v (exact_wins r.verdict w.0 (d.says [] root_at)) (λ c later e p o. own w.0 v (is_told v r.own q.1) [] root_at c later e p o)
  outcome_means t r d own False None h = lost_loses r.verdict h (d.says [] root_at)
  outcome_means t r d own False (Some v) h = cc
  outcome_means t r d own (Open n) v h = tt

-- what a certificate that proves says is so
pub certificates_true : CertificatesAreTrue
certificates_true g outcome optimum c valid placed =
    let r = read_root g c in
    let q = and_parts (are_in_order c.given && list_all (given_placed g) c.given && r.placed) (shows g c.root r outcome optimum) placed in
    let w = and_parts (are_in_order c.given && list_all (given_placed g) c.given) r.placed q.0 in
    let done = node_done (record { game = g; given = c.given }) valid c.root (root_place g) [] (root_stands (record { game = g; given = c.given }) valid) tt w.1 in
    outcome_means (record { game = g; given = c.given }) valid c.root r done.0 done.2 outcome optimum q.1
