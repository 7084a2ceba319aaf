-- The verdict of a universal scope means what it says, where its leaves do.
use Rattle.std.proofs.Common.{◌≡◌, ◌⊎◌, inl, inr, ℕ, suc, Bool, true, false, ◌||◌, List, [], ◌∷◌, ◌++◌, length, map, drop, refl, sym, ap, ◌∙◌, subst, cond, Option}
use Rattle.std.specs.Prelude.{ℤ}
use Rattle.std.specs.List.{list_all}
use Rattle.std.proofs.Math.Seq.{drop-append_seam}
use Rattle.std.proofs.lemmas.Bool.{and_parts}
use Rattle.qc_model.specs.declared.problem.Kind.{Kind}
use Rattle.qc_model.specs.declared.problem.Kind.TheVariants.{Exists, Forall}
use Rattle.qc_model.specs.declared.problem.Scope.{Scope}
use Rattle.qc_model.specs.declared.problem.Condition.{Condition}
use Rattle.qc_model.specs.Content.{Game}
use Rattle.qc_model.specs.Lists.{Among, same_values}
use Rattle.qc_model.specs.Domains.{Box, InBox, has_empty}
use Rattle.qc_model.specs.Game.{IsMove, moves}
use Rattle.qc_model.specs.Plan.{Plan, choose, answer}
use Rattle.qc_model.specs.Optimal.{ChoosesBest, Optimal}
use Rattle.qc_model.specs.Counter.{CounterWins}
use Rattle.qc_model.specs.Demands.{vector, IsBestVector, demands_through}
use Rattle.qc_model.specs.Bottlenecks.{bottleneck_last}
use Rattle.qc_model.specs.Verdict.{Verdict, lost, exact, at_most, unknown, is_lost, is_exact, some_node, each_node}
use Rattle.qc_model.specs.ForallVerdict.{entry_values, numbers_for, forall_verdict}
use Rattle.qc_model.proofs.Moves.{moves_to, moves_from}
use Rattle.model_laws.specs.Positions.{AtMost}
use Rattle.model_laws.specs.Verdicts.{Means, none_skipped}
use Rattle.model_laws.specs.Verdicts.{seen_in, EachClaim, IsComplete}
use Rattle.model_laws.proofs.Order.{moves_distinct}
use Rattle.model_laws.proofs.Domains.{EachListedDiffers, domains_differ}
use Rattle.model_laws.proofs.Universal.{branch_vectors, vector_is, optimal_universal}
use Rattle.model_laws.proofs.Existence.{best_is_one}
use Rattle.model_laws.proofs.Leaves.{best_each}
use Rattle.model_laws.proofs.Joins.{leaves_mean}
use Rattle.proof_tree.specs.Finding.{Leaf, leaf_barred, leaf_skipped, leaf_bound, leaf_node, seen_of, first_choice, strategy_at, answers, forall_finding}
use Rattle.proof_tree.specs.Meaning.{FirstIsNoBetter, ExactMeans, VerdictMeans}
use Rattle.proof_meaning.proofs.Once.{kind_once}
use Rattle.proof_meaning.proofs.Boxes.{differ}
use Rattle.proof_meaning.proofs.ForallRules.{any_forall_lost, any_forall_exact}
use Rattle.proof_meaning.proofs.LeafWords.{Reached, not_skipped, same_true, same_self, answer_tuples, answer_each, none_skipped as none_left_out}
use Rattle.proof_meaning.proofs.Frames.{FairNode, front_in}
use Rattle.proof_meaning.proofs.Entering.{declared_move, rest_declared}
use Rattle.proof_meaning.proofs.LeafLists.{EachLeaf, EachLoses, claim, LeavesMean, tuple_lies, reached_tuple}

-- the leaves as claims
claims_seen : (n : ℕ) (ls : List Leaf) → map seen_in (map (claim n) ls) ≡ map seen_of ls
claims_seen n [] = refl
claims_seen n (leaf_barred ∷ ls) = ap (λ xs. seen_of leaf_barred ∷ xs) (claims_seen n ls)
claims_seen n (leaf_skipped ∷ ls) = ap (λ xs. seen_of leaf_skipped ∷ xs) (claims_seen n ls)
claims_seen n (leaf_bound m ∷ ls) = ap (λ xs. seen_of (leaf_bound m) ∷ xs) (claims_seen n ls)
claims_seen n (leaf_node w f ∷ ls) = ap (λ xs. seen_of (leaf_node w f) ∷ xs) (claims_seen n ls)

claims_skipped : (n : ℕ) (ls : List Leaf) → none_skipped (map (claim n) ls) ≡ true → list_all not_skipped ls ≡ true
claims_skipped n [] h = refl
claims_skipped n (leaf_barred ∷ ls) h = claims_skipped n ls h
claims_skipped n (leaf_skipped ∷ ls) h = absurd (differ h)
claims_skipped n (leaf_bound m ∷ ls) h = claims_skipped n ls h
claims_skipped n (leaf_node w f ∷ ls) h = claims_skipped n ls h

never : Forall ≡ Exists → ⊥
never q = cc

bound_all : (g : Game) (d : List Condition) (a : List ℤ) (P : Plan → Type 0) (p : ℤ) → AtMost g d a P p → (s : Plan) → P s → FirstIsNoBetter g d a s p
bound_all g [] a P p h s o = tt
bound_all g (c ∷ d) a P p h s o = h s o

means_exact : (g : Game) (e : List Condition) (w : List ℤ) (P : Plan → Type 0) (x : Verdict) (v : List ℤ) → x ≡ exact v → Means g e w P x → IsBestVector g e w P v
means_exact g e w P x v q m = subst (Means g e w P) q m

exact_one : (x : Verdict) → is_exact x ≡ true → (v : List ℤ) × (x ≡ exact v)
exact_one lost e = absurd (differ e)
exact_one (exact v) e = (v, refl)
exact_one (at_most p) e = absurd (differ e)
exact_one unknown e = absurd (differ e)

module _ (g : Game) (later : List Scope) (i : ℕ) (a : List ℤ) (box : Box) (e : List Condition) where
  claims_mean : (ls : List Leaf) → EachLeaf g Forall later i e a box ls → EachClaim g e i a (Optimal g later (suc i)) (map (claim (length a)) ls)
  claims_mean [] h = tt
  claims_mean (leaf_barred ∷ ls) h = (tt, claims_mean ls h)
  claims_mean (leaf_skipped ∷ ls) h = (tt, claims_mean ls h)
  claims_mean (leaf_bound m ∷ ls) h = (tt, claims_mean ls h)
  claims_mean (leaf_node w f ∷ ls) h =
      let p = h.0.move in
      let t : drop (length a) w ≡ p.tuple = ap (drop (length a)) p.after ∙ drop-append_seam a p.tuple in
      let u : w ≡ a ++ drop (length a) w = p.after ∙ ap (λ z. a ++ z) (sym t) in
      ((subst (IsMove g i a) (sym t) p.is_move, subst (λ z. Means g e z (Optimal g later (suc i) z) f.verdict) u (h.0.means refl)), claims_mean ls h.1)

  -- the strategy at each tuple is optimal there, and has the best vector
  strategy_best : (w : List ℤ) (ls : List Leaf) → EachLeaf g Forall later i e a box ls → each_node is_exact (map seen_of ls) ≡ true → Reached w ls →
      Optimal g later (suc i) w (strategy_at w ls) × IsBestVector g e w (Optimal g later (suc i) w) (vector g e w (strategy_at w ls))
  strategy_best w [] h q r = absurd r
  strategy_best w (leaf_barred ∷ ls) h q r = strategy_best w ls h q r
  strategy_best w (leaf_skipped ∷ ls) h q r = absurd (differ q)
  strategy_best w (leaf_bound m ∷ ls) h q r = strategy_best w ls h q r
  strategy_best w (leaf_node u f ∷ ls) h q r =
      let p = and_parts (is_exact f.verdict) (each_node is_exact (map seen_of ls)) q in
      pick (same_values u w) refl (exact_one f.verdict p.0) r (strategy_best w ls h.1 p.1)
    where
      pick : (b : Bool) → same_values u w ≡ b → (v : List ℤ) × (f.verdict ≡ exact v) → (u ≡ w) ⊎ Reached w ls → (Reached w ls → Optimal g later (suc i) w (strategy_at w ls) × IsBestVector g e w (Optimal g later (suc i) w) (vector g e w (strategy_at w ls))) →
          Optimal g later (suc i) w (cond b f.strategy (strategy_at w ls)) × IsBestVector g e w (Optimal g later (suc i) w) (vector g e w (cond b f.strategy (strategy_at w ls)))
      pick true q v r rest =
          let s = h.0.shown v.0 v.1 in
          let b = means_exact g e u (Optimal g later (suc i) u) f.verdict v.0 v.1 (h.0.means refl) in
          let k = same_true u w q in (
            subst (λ z. Optimal g later (suc i) z f.strategy) k s.optimal,
            subst (λ z. IsBestVector g e z (Optimal g later (suc i) z) (vector g e z f.strategy)) k (subst (IsBestVector g e u (Optimal g later (suc i) u)) (sym s.has_vector) b),
          )
      pick false q v r rest =
          elim r [ inl k ↦ absurd (differ (sym q ∙ subst (λ z. same_values u z ≡ true) k (same_self u))) | inr m ↦ rest m ]

  -- the first lost leaf
  first_lost : (k : Kind) (ls : List Leaf) → EachLeaf g k later i e a box ls → EachLoses g later i ls → some_node is_lost (map seen_of ls) ≡ true →
      (t : List ℤ) × (s : Plan) × (first_choice is_lost (λ f. f.counter) (length a) ls ≡ choose t s) × IsMove g i a t × CounterWins g later (suc i) (a ++ t) s
  first_lost k [] h l q = absurd (differ q)
  first_lost k (leaf_barred ∷ ls) h l q = first_lost k ls h l q
  first_lost k (leaf_skipped ∷ ls) h l q = first_lost k ls h l q
  first_lost k (leaf_bound m ∷ ls) h l q = first_lost k ls h l q
  first_lost k (leaf_node w f ∷ ls) h l q = pick (is_lost f.verdict) refl q (first_lost k ls h.1 l.1)
    where
      pick : (b : Bool) → is_lost f.verdict ≡ b → (b || some_node is_lost (map seen_of ls)) ≡ true →
          (some_node is_lost (map seen_of ls) ≡ true → (t : List ℤ) × (s : Plan) × (first_choice is_lost (λ f. f.counter) (length a) ls ≡ choose t s) × IsMove g i a t × CounterWins g later (suc i) (a ++ t) s) →
          (t : List ℤ) × (s : Plan) × (cond b (choose (drop (length a) w) f.counter) (first_choice is_lost (λ f. f.counter) (length a) ls) ≡ choose t s) × IsMove g i a t × CounterWins g later (suc i) (a ++ t) s
      pick true z q rest =
          let p = h.0.move in
          (p.tuple, f.counter, ap (λ t. choose t f.counter) (ap (drop (length a)) p.after ∙ drop-append_seam a p.tuple), p.is_move, subst (λ u. CounterWins g later (suc i) u f.counter) p.after (l.0 z))
      pick false z q rest = rest q

-- the vectors in the branches of an answer made of leaves
answer_vectors : (g : Game) (e : List Condition) (a : List ℤ) (ls : List Leaf) (ts : List (List ℤ)) → branch_vectors g e (answers a ls ts) a ≡ map (λ t. vector g e (a ++ t) (strategy_at (a ++ t) ls)) ts
answer_vectors g e a ls [] = refl
answer_vectors g e a ls (t ∷ ts) = ap (λ ws. vector g e (a ++ t) (strategy_at (a ++ t) ls) ∷ ws) (answer_vectors g e a ls ts)

-- the answer's vector, by the vectors of its branches
answer_vector : (g : Game) (a : List ℤ) (ls : List Leaf) (ts : List (List ℤ)) (d : List Condition) →
    vector g d a (answer (answers a ls ts)) ≡ entry_values g d a (numbers_for d (map (λ t. vector g (demands_through g d) (a ++ t) (strategy_at (a ++ t) ls)) ts))
answer_vector g a ls ts d = vector_is g a (answers a ls ts) d ∙ ap (λ ws. entry_values g d a (numbers_for d ws)) (answer_vectors g (demands_through g d) a ls ts)

module _ (g : Game) (later : List Scope) (i : ℕ) (a : List ℤ) (box : Box) (b : Bool) (x : Option Condition) (d : List Condition) (ls : List Leaf)
    (mean : LeavesMean g false Forall later i (demands_through g d) a box ls) (fair : FairNode g b (record { kind = Forall; condition = x } ∷ later) i a box) (full : has_empty box ≡ false)
    (last : bottleneck_last g d ≡ true) (differs : EachListedDiffers g.variables) where
  abbrev after : List Condition
  after = demands_through g d

  abbrev scope : Scope
  scope = record { kind = Forall; condition = x }

  lies : (t : List ℤ) → IsMove g i a t → InBox (a ++ t) box
  lies t m = declared_move g i a t box fair.frame.count (front_in g i a box fair.frame full) (rest_declared g b x later i a box full fair) m

  complete : list_all not_skipped ls ≡ true → (t : List ℤ) → IsMove g i a t → Reached (a ++ t) ls
  complete q t m = mean.complete (λ n. absurd (never n)) q t (a ++ t) m refl (lies t m)

  reordering : IsComplete g i a (map (claim (length a)) ls)
  reordering q = record {
    first = moves_distinct g i a (domains_differ g differs);
    second = mean.distinct;
    there = λ t m. reached_tuple a t ls (complete (claims_skipped (length a) ls q) t (moves_to g i a t m));
    back = λ t m. moves_from g i a t (tuple_lies g Forall later i after a box ls mean.each t m).0;
  }

  all_mean : Means g d a (Optimal g (scope ∷ later) i a) (forall_verdict g d a (map seen_of ls))
  all_mean =
      subst (λ xs. Means g d a (Optimal g (scope ∷ later) i a) (forall_verdict g d a xs)) (claims_seen (length a) ls)
      (leaves_mean g i a (Optimal g later (suc i)) (ChoosesBest x g i a (Optimal g later (suc i))) d (map (claim (length a)) ls) last (claims_mean g later i a box after ls mean.each) reordering)

  the_answer : each_node is_exact (map seen_of ls) ≡ true → (v : List ℤ) → IsBestVector g d a (Optimal g (scope ∷ later) i a) v → ExactMeans g (scope ∷ later) i d a box (answer (answers a ls (moves g i a))) v
  the_answer q v best =
      let branch = λ (t : List ℤ) (m : Among t (moves g i a)). strategy_best g later i a box after (a ++ t) ls mean.each q (complete (none_left_out is_exact ls q) t (moves_to g i a t m)) in
      let ws = map (λ t. vector g after (a ++ t) (strategy_at (a ++ t) ls)) (moves g i a) in
      let is = optimal_universal g later x i a d ws last (best_each g after a (Optimal g later (suc i)) (λ t. vector g after (a ++ t) (strategy_at (a ++ t) ls)) (moves g i a) (λ t m. (branch t m).1)) in
      record {
        is_optimal = record {
          optimal = record {
            tuples = answer_tuples a ls (moves g i a);
            each = answer_each (λ t p. Optimal g later (suc i) (a ++ t) p) a ls (moves g i a) (λ t m. (branch t m).0);
          };
          lies = front_in g i a box fair.frame full;
        };
        has_vector = answer_vector g a ls (moves g i a) d ∙ best_is_one g d a (Optimal g (scope ∷ later) i a) (entry_values g d a (numbers_for d ws)) v is best;
        best = λ r o. best.none_better r o.optimal;
      }

  pub forall_node : VerdictMeans (forall_finding g i d a ls).verdict g (scope ∷ later) i d a box (forall_finding g i d a ls) b
  forall_node = by (forall_verdict g d a (map seen_of ls)) refl all_mean
    where
      by : (v : Verdict) → forall_verdict g d a (map seen_of ls) ≡ v → Means g d a (Optimal g (record { kind = Forall; condition = x } ∷ later) i a) v →
          VerdictMeans v g (record { kind = Forall; condition = x } ∷ later) i d a box (forall_finding g i d a ls) b
      by lost q m =
          let r = first_lost g later i a box (demands_through g d) Forall ls mean.each (mean.loses refl (λ n. absurd (never n))) (any_forall_lost g d a (map seen_of ls) (ap is_lost q)) in
          record {
            none = λ s o. m s o.optimal;
            loses = λ _. subst (λ p. CounterWins g (record { kind = Forall; condition = x } ∷ later) i a p) (sym r.2) (record { is_move = r.3; after = r.4 });
            once = kind_once Forall x g i d a ls mean.once mean.distinct;
          }
      by (exact v) q m = the_answer (any_forall_exact g d a (map seen_of ls) (ap is_exact q)) v m
      by (at_most p) q m = λ s o. bound_all g d a (Optimal g (record { kind = Forall; condition = x } ∷ later) i a) p m s o.optimal
      by unknown q m = tt
