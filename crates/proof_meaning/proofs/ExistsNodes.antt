-- The verdict of an existential scope means what it says, where its leaves do.
use Rattle.std.proofs.Common.{◌≡◌, inl, inr, ℕ, suc, Bool, true, false, not, ◌&&◌, List, [], ◌∷◌, ◌++◌, length, map, drop, refl, sym, ap, ◌∙◌, subst, cond, Option, Some, None, arith}
use Rattle.std.specs.Prelude.{ℤ, pos}
use Rattle.std.specs.Ordering.{int_eq}
use Rattle.std.proofs.lemmas.Bool.Decides.{Decides-int_eq}
use Rattle.std.proofs.lemmas.Bool.{or_parts, and_parts}
use Rattle.qc_model.specs.declared.problem.Kind.TheVariants.{Exists}
use Rattle.qc_model.specs.declared.problem.Scope.{Scope}
use Rattle.qc_model.specs.declared.problem.Condition.{Condition}
use Rattle.qc_model.specs.Content.{Game}
use Rattle.qc_model.specs.Lists.{Among}
use Rattle.qc_model.specs.Domains.{Box, InBox, has_empty}
use Rattle.qc_model.specs.Game.{IsMove}
use Rattle.qc_model.specs.Plan.{Plan, finish, choose, answer}
use Rattle.qc_model.specs.Value.{value}
use Rattle.qc_model.specs.Optimal.{Optimal, is_better}
use Rattle.qc_model.specs.Counter.{CanPassBlock, RepliesTo, CounterWins}
use Rattle.qc_model.specs.Demands.{vector, is_better_vector, with_condition}
use Rattle.qc_model.specs.Verdict.{Verdict, lost, exact, at_most, unknown, Seen, seen_barred, seen_skipped, seen_bound, seen_node, is_lost, is_exact, some_node, each_node, exact_vectors, bounds, is_none_of, first_value}
use Rattle.qc_model.specs.ExistsVerdict.{best_vector, without_own, some_open, exists_verdict, exists_own}
use Rattle.qc_model.proofs.Vectors.{AllLong}
use Rattle.qc_model.proofs.ExistsMeans.{SomeAllows, exact_is_best}
use Rattle.model_laws.proofs.Better.{not_better}
use Rattle.model_laws.proofs.Existence.{neither_better}
use Rattle.model_laws.proofs.Choosing.{best_one, vector_long, choose_vector}
use Rattle.proof_tree.specs.Finding.{Leaf, seen_of, all_replies, exists_finding}
use Rattle.proof_tree.specs.Meaning.{PlanLies, FirstIsNoBetter, ExactMeans, VerdictMeans}
use Rattle.proof_meaning.proofs.Once.{kind_once}
use Rattle.proof_meaning.proofs.Boxes.{differ}
use Rattle.proof_meaning.proofs.GoodValues.{pass_good}
use Rattle.proof_meaning.proofs.LeafWords.{exists_lost, none_skipped, decide_reached}
use Rattle.proof_meaning.proofs.Reach.{reach, lies_to, lies_from, plan_good}
use Rattle.proof_meaning.proofs.Frames.{stop_of, FairNode}
use Rattle.proof_meaning.proofs.Entering.{all_good}
use Rattle.proof_meaning.proofs.LeafLists.{Shown, is_unmarked, LeavesMean}
use Rattle.proof_meaning.proofs.Picking.{Picked, picked, all_long, none_allowed, unmarked_of, replies, held_by_numbers}

-- which rule gave a verdict
lost_rule : (a o n k : Bool) (u : List ℤ) (p : ℤ) → cond a lost (cond o unknown (cond n (exact u) (cond k (at_most p) unknown))) ≡ lost → a ≡ true
lost_rule true o n k u p h = refl
lost_rule false true n k u p h = cc
lost_rule false false true k u p h = cc
lost_rule false false false true u p h = cc
lost_rule false false false false u p h = cc

exact_rule : (a o n k : Bool) (u v : List ℤ) (p : ℤ) → cond a lost (cond o unknown (cond n (exact u) (cond k (at_most p) unknown))) ≡ exact v → (n ≡ true) × (u ≡ v)
exact_rule true o n k u v p h = cc
exact_rule false true n k u v p h = cc
exact_rule false false true k u v p h = (refl, cc)
exact_rule false false false true u v p h = cc
exact_rule false false false false u v p h = cc

at_most_rule : (a o n k : Bool) (u : List ℤ) (p q : ℤ) → cond a lost (cond o unknown (cond n (exact u) (cond k (at_most p) unknown))) ≡ at_most q → (o ≡ false) × (k ≡ true) × (p ≡ q)
at_most_rule true o n k u p q h = cc
at_most_rule false true n k u p q h = cc
at_most_rule false false true k u p q h = cc
at_most_rule false false false true u p q h = (refl, refl, cc)
at_most_rule false false false false u p q h = cc

plain_rule : (a b : Bool) (v : List ℤ) → cond a (exact []) (cond b lost unknown) ≡ exact v → (a ≡ true) × (v ≡ [])
plain_rule true b v h = (refl, cc)
plain_rule false true v h = cc
plain_rule false false v h = cc

plain_no_number : (a b : Bool) (p : ℤ) → ¬ (cond a (exact []) (cond b lost unknown) ≡ at_most p)
plain_no_number true b p h = cc
plain_no_number false true p h = cc
plain_no_number false false p h = cc

some_vector : (xs : List Seen) → some_node is_exact xs ≡ true → not (is_none_of (exact_vectors xs)) ≡ true
some_vector [] h = absurd (differ h)
some_vector (seen_barred ∷ xs) h = some_vector xs h
some_vector (seen_skipped ∷ xs) h = some_vector xs h
some_vector (seen_bound m ∷ xs) h = some_vector xs h
some_vector (seen_node lost ∷ xs) h = some_vector xs h
some_vector (seen_node (exact v) ∷ xs) h = refl
some_vector (seen_node (at_most p) ∷ xs) h = some_vector xs h
some_vector (seen_node unknown ∷ xs) h = some_vector xs h

no_value : (vs : List (List ℤ)) (v : List ℤ) → AllLong [] vs → Among v vs → v ≡ []
no_value [] v l m = absurd m
no_value (u ∷ vs) v l m = elim m [ inl q ↦ q ∙ none u l.0 | inr n ↦ no_value vs v l.1 n ]
  where
    none : (u : List ℤ) → length u ≡ 0 → u ≡ []
    none [] e = refl
    none (x ∷ u) e = absurd (omega arith)

-- an exact verdict is by the best vector
exact_by : (x : Option Condition) (d : List Condition) (xs : List Seen) (v : List ℤ) → AllLong (with_condition x d) (exact_vectors xs) → exists_verdict x (with_condition x d) xs ≡ exact v →
    (not (is_none_of (exact_vectors xs)) ≡ true) × (without_own x (best_vector (with_condition x d) (exact_vectors xs)) ≡ v)
exact_by None [] xs v l h =
    let q = plain_rule (some_node is_exact xs) (each_node is_lost xs) v h in
    let some = some_vector xs q.0 in
    (some, no_value (exact_vectors xs) (best_vector [] (exact_vectors xs)) l (best_one [] (exact_vectors xs) some) ∙ sym q.1)
exact_by None (c ∷ d) xs v l h =
    let q = exact_rule (each_node is_lost xs && is_none_of (bounds xs)) (some_open xs) _ true _ v _ h in
    ((and_parts (not (is_none_of (exact_vectors xs))) _ q.0).0, q.1)
exact_by (Some c) d xs v l h =
    let q = exact_rule (each_node is_lost xs && is_none_of (bounds xs)) (some_open xs) _ false _ v (pos 0) h in
    ((and_parts (not (is_none_of (exact_vectors xs))) _ q.0).0, q.1)

-- and no vector that is left possible beats it
unbeaten_by : (x : Option Condition) (d : List Condition) (xs : List Seen) (v w : List ℤ) → AllLong (with_condition x d) (exact_vectors xs) → exists_verdict x (with_condition x d) xs ≡ exact v →
    length w ≡ length (with_condition x d) → SomeAllows (with_condition x d) xs w → is_better_vector (with_condition x d) w (best_vector (with_condition x d) (exact_vectors xs)) ≡ false
unbeaten_by None [] xs v w l h n a = refl
unbeaten_by None (c ∷ d) xs v w l h n a = exact_is_best None c d xs v w l h n a
unbeaten_by (Some c) d xs v w l h n a = exact_is_best (Some c) c d xs v w l h n a

-- a lost verdict has lost leaves alone, and no mark
lost_by : (x : Option Condition) (d : List Condition) (ls : List Leaf) → (with_condition x d ≡ [] → is_unmarked ls ≡ true) → exists_verdict x (with_condition x d) (map seen_of ls) ≡ lost →
    (each_node is_lost (map seen_of ls) ≡ true) × (is_unmarked ls ≡ true)
lost_by None [] ls n h = (exists_lost (map seen_of ls) (ap is_lost h), n refl)
lost_by None (c ∷ d) ls n h =
    let q = and_parts (each_node is_lost (map seen_of ls)) (is_none_of (bounds (map seen_of ls))) (lost_rule _ (some_open (map seen_of ls)) _ true _ _ h) in
    (q.0, unmarked_of ls q.1)
lost_by (Some c) d ls n h =
    let q = and_parts (each_node is_lost (map seen_of ls)) (is_none_of (bounds (map seen_of ls))) (lost_rule _ (some_open (map seen_of ls)) _ false _ (pos 0) h) in
    (q.0, unmarked_of ls q.1)

module _ (g : Game) (later : List Scope) (i : ℕ) (a : List ℤ) (box : Box) where
  abbrev scope : Option Condition → Scope
  scope c = record { kind = Exists; condition = c }

  -- a choice in the box
  abbrev Within : List ℤ → Plan → Type 0
  Within t s = IsMove g i a t × Optimal g later (suc i) (a ++ t) s × InBox (reach (a ++ t) s) box

  abbrev Unbeaten : List Condition → List ℤ → Type 0
  Unbeaten e v = (t : List ℤ) (s : Plan) → Within t s → is_better_vector e (vector g e (a ++ t) s) v ≡ false

  -- without a condition the best choice is optimal
  plain_exact : (d : List Condition) (t : List ℤ) (s : Plan) (v : List ℤ) → IsMove g i a t → Shown g later (suc i) d (a ++ t) box s v → Unbeaten d v → ExactMeans g (scope None ∷ later) i d a box (choose t s) v
  plain_exact d t s v m h f = record {
    is_optimal = record { optimal = record { is_move = m; after = h.optimal; best = tt }; lies = lies_from box a (choose t s) h.lies };
    has_vector = choose_vector g d a t s ∙ h.has_vector;
    best = λ r o. no_better r o.optimal o.lies;
  }
    where
      no_better : (r : Plan) → Optimal g (scope None ∷ later) i a r → PlanLies box a r → is_better_vector d (vector g d a r) v ≡ false
      no_better finish o l = absurd o
      no_better (choose u r) o l = ap (λ w. is_better_vector d w v) (choose_vector g d a u r) ∙ f u r (o.is_move, o.after, lies_to box (a ++ u) r l)
      no_better (answer es) o l = absurd o

  -- with a condition too, where all choices lie in the box
  optimised_exact : (c : Condition) (d : List Condition) (t : List ℤ) (s : Plan) (v : List ℤ) → IsMove g i a t → Shown g later (suc i) (c ∷ d) (a ++ t) box s v → Unbeaten (c ∷ d) v →
      ((u : List ℤ) (r : Plan) → IsMove g i a u → Optimal g later (suc i) (a ++ u) r → InBox (reach (a ++ u) r) box) → ExactMeans g (scope (Some c) ∷ later) i d a box (choose t s) (drop 1 v)
  optimised_exact c d t s v m h f all = record {
    is_optimal = record { optimal = record { is_move = m; after = h.optimal; best = λ u r mv o. (parts u r (mv, o, all u r mv o)).0 }; lies = lies_from box a (choose t s) h.lies };
    has_vector = choose_vector g d a t s ∙ ap (drop 1) h.has_vector;
    best = λ r o. no_better r o.optimal o.lies;
  }
    where
      parts : (u : List ℤ) (r : Plan) → Within u r → (is_better c.sense (value g r c.target (a ++ u)) (value g s c.target (a ++ t)) ≡ false)
          × (int_eq (value g r c.target (a ++ u)) (value g s c.target (a ++ t)) && is_better_vector d (vector g d (a ++ u) r) (vector g d (a ++ t) s) ≡ false)
      parts u r w =
          or_parts (is_better c.sense (value g r c.target (a ++ u)) (value g s c.target (a ++ t))) _
          (subst (λ z. is_better_vector (c ∷ d) (vector g (c ∷ d) (a ++ u) r) z ≡ false) (sym h.has_vector) (f u r w))

      same : (x y : ℤ) (q : Bool) → x ≡ y → (int_eq x y && q) ≡ false → q ≡ false
      same x y q e k = sym (ap (λ b. b && q) ((Decides-int_eq x y).1 e)) ∙ k

      no_better : (r : Plan) → Optimal g (scope (Some c) ∷ later) i a r → PlanLies box a r → is_better_vector d (vector g d a r) (drop 1 v) ≡ false
      no_better finish o l = absurd o
      no_better (choose u r) o l =
          let p = parts u r (o.is_move, o.after, lies_to box (a ++ u) r l) in
          let x = value g r c.target (a ++ u) in
          let y = value g s c.target (a ++ t) in
          let e : x ≡ y = neither_better c.sense x y (not_better c.sense x y p.0) (not_better c.sense y x (o.best t s m h.optimal)) in
          ap (λ w. is_better_vector d w (drop 1 v)) (choose_vector g d a u r)
          ∙ ap (λ z. is_better_vector d (vector g d (a ++ u) r) (drop 1 z)) (sym h.has_vector)
          ∙ same x y (is_better_vector d (vector g d (a ++ u) r) (vector g d (a ++ t) s)) e p.1
      no_better (answer es) o l = absurd o

  module _ (b : Bool) (x : Option Condition) (d : List Condition) (ls : List Leaf) (mean : LeavesMean g b Exists later i (with_condition x d) a box ls) (fair : FairNode g b (scope x ∷ later) i a box) (full : has_empty box ≡ false) where
    abbrev demanded : List Condition
    demanded = with_condition x d

    abbrev best : List ℤ
    best = best_vector demanded (exact_vectors (map seen_of ls))

    long : AllLong demanded (exact_vectors (map seen_of ls))
    long = all_long g Exists later i demanded a box ls mean.each

    possible : (t : List ℤ) (s : Plan) → Within t s → SomeAllows demanded (map seen_of ls) (vector g demanded (a ++ t) s)
    possible t s w = mean.covers refl t s w.0 w.1 w.2

    -- the choice of the first leaf with the best vector
    pub the_choice : (v : List ℤ) → exists_verdict x demanded (map seen_of ls) ≡ exact v → Picked g later i demanded a box (exists_finding x demanded a ls).strategy best
    the_choice v q = picked g Exists later i demanded a box best ls mean.each (best_one demanded (exact_vectors (map seen_of ls)) (exact_by x d (map seen_of ls) v long q).0)

    unbeaten : (v : List ℤ) → exists_verdict x demanded (map seen_of ls) ≡ exact v → Unbeaten demanded best
    unbeaten v q t s w = unbeaten_by x d (map seen_of ls) v (vector g demanded (a ++ t) s) long q (vector_long g demanded (a ++ t) s) (possible t s w)

    -- at a scope with a condition all choices lie in the box
    all_within : (c : Condition) → x ≡ Some c → (u : List ℤ) (r : Plan) → IsMove g i a u → Optimal g later (suc i) (a ++ u) r → InBox (reach (a ++ u) r) box
    all_within c q u r m o = all_good g b (scope x ∷ later) i a box full (stop b x c q) fair (reach (a ++ u) r) (u, m, plan_good g later (suc i) (a ++ u) r o)
      where
        stop : (b : Bool) (x : Option Condition) (c : Condition) → x ≡ Some c → stop_of b (record { kind = Exists; condition = x } ∷ later) i ≡ i
        stop true None c q = cc
        stop true (Some y) c q = refl
        stop false x c q = refl

  -- without and with a condition
  exists_exact : (b : Bool) (x : Option Condition) (d : List Condition) (ls : List Leaf) → LeavesMean g b Exists later i (with_condition x d) a box ls → FairNode g b (scope x ∷ later) i a box → has_empty box ≡ false →
      (v : List ℤ) → exists_verdict x (with_condition x d) (map seen_of ls) ≡ exact v → ExactMeans g (scope x ∷ later) i d a box (exists_finding x (with_condition x d) a ls).strategy v
  exists_exact b None d ls mean fair full v q =
      let p = the_choice b None d ls mean fair full v q in
      let l = long b None d ls mean fair full in
      let u = exact_by None d (map seen_of ls) v l q in
      subst (λ s. ExactMeans g (scope None ∷ later) i d a box s v) (sym p.is_choice)
      (subst (ExactMeans g (scope None ∷ later) i d a box (choose p.tuple p.plan)) u.1
      (plain_exact d p.tuple p.plan (best b None d ls mean fair full) p.is_move p.shown (unbeaten b None d ls mean fair full v q)))
  exists_exact b (Some c) d ls mean fair full v q =
      let p = the_choice b (Some c) d ls mean fair full v q in
      let l = long b (Some c) d ls mean fair full in
      let u = exact_by (Some c) d (map seen_of ls) v l q in
      subst (λ s. ExactMeans g (scope (Some c) ∷ later) i d a box s v) (sym p.is_choice)
      (subst (ExactMeans g (scope (Some c) ∷ later) i d a box (choose p.tuple p.plan)) u.1
      (optimised_exact c d p.tuple p.plan (best b (Some c) d ls mean fair full) p.is_move p.shown (unbeaten b (Some c) d ls mean fair full v q) (all_within b (Some c) d ls mean fair full c refl)))

  exists_none : (b : Bool) (x : Option Condition) (d : List Condition) (ls : List Leaf) → LeavesMean g b Exists later i (with_condition x d) a box ls → exists_verdict x (with_condition x d) (map seen_of ls) ≡ lost →
      (r : Plan) → Optimal g (scope x ∷ later) i a r → PlanLies box a r → ⊥
  exists_none b x d ls mean q finish o l = o
  exists_none b x d ls mean q (choose t s) o l =
      let n = lost_by x d ls mean.no_marks q in
      none_allowed (with_condition x d) ls (vector g (with_condition x d) (a ++ t) s) n.0 n.1 (mean.covers refl t s o.is_move o.after (lies_to box (a ++ t) s l))
  exists_none b x d ls mean q (answer es) o l = o

  exists_loses : (b : Bool) (x : Option Condition) (d : List Condition) (ls : List Leaf) → LeavesMean g b Exists later i (with_condition x d) a box ls → FairNode g b (scope x ∷ later) i a box → has_empty box ≡ false →
      exists_verdict x (with_condition x d) (map seen_of ls) ≡ lost → b ≡ false → RepliesTo g i a (CanPassBlock g later (suc i)) (CounterWins g later (suc i)) (all_replies (length a) ls)
  exists_loses b x d ls mean fair full q z t m =
      let n = lost_by x d ls mean.no_marks q in
      elim (decide_reached (a ++ t) ls) [
        | inl k ↦ inl (replies g later i a t ls (mean.loses z (λ _. n.1)) n.0 k)
        | inr k ↦ inr (λ pass.
            let w = pass_good g later (suc i) (a ++ t) pass in
            k (mean.complete (λ _. n.1) (none_skipped is_lost ls n.0) t w.0 m w.1
            (all_good g b (scope x ∷ later) i a box full (ap (λ y. stop_of y (scope x ∷ later) i) z) fair w.0 (t, m, w.1))))
      ]

  at_most_none : (b : Bool) (x : Option Condition) (d : List Condition) (ls : List Leaf) → LeavesMean g b Exists later i (with_condition x d) a box ls → (p : ℤ) → exists_verdict x (with_condition x d) (map seen_of ls) ≡ at_most p →
      (r : Plan) → Optimal g (scope x ∷ later) i a r → PlanLies box a r → FirstIsNoBetter g d a r p
  at_most_none b x d ls mean p q finish o l = absurd o
  at_most_none b x d ls mean p q (answer es) o l = absurd o
  at_most_none b (Some c) d ls mean p q (choose t s) o l =
      let k = at_most_rule _ (some_open (map seen_of ls)) _ false _ (pos 0) p q in
      absurd (differ k.1)
  at_most_none b None [] ls mean p q (choose t s) o l = tt
  at_most_none b None (c ∷ d) ls mean p q (choose t s) o l =
      let k = at_most_rule _ (some_open (map seen_of ls)) _ true _ _ p q in
      subst (λ n. is_better c.sense (value g s c.target (a ++ t)) n ≡ false) k.2
      (held_by_numbers c d ls (vector g (c ∷ d) (a ++ t) s) (vector_long g (c ∷ d) (a ++ t) s) (all_long g Exists later i (c ∷ d) a box ls mean.each) k.0
      (mean.covers refl t s o.is_move o.after (lies_to box (a ++ t) s l)))

  pub exists_node : (b : Bool) (x : Option Condition) (d : List Condition) (ls : List Leaf) → LeavesMean g b Exists later i (with_condition x d) a box ls → FairNode g b (scope x ∷ later) i a box → has_empty box ≡ false →
      VerdictMeans (exists_finding x (with_condition x d) a ls).verdict g (scope x ∷ later) i d a box (exists_finding x (with_condition x d) a ls) b
  exists_node b x d ls mean fair full = by (exists_verdict x (with_condition x d) (map seen_of ls)) refl
    where
      by : (v : Verdict) → exists_verdict x (with_condition x d) (map seen_of ls) ≡ v → VerdictMeans v g (record { kind = Exists; condition = x } ∷ later) i d a box (exists_finding x (with_condition x d) a ls) b
      by lost q = record { none = λ r o. exists_none b x d ls mean q r o.optimal o.lies; loses = exists_loses b x d ls mean fair full q; once = kind_once Exists x g i d a ls mean.once mean.distinct }
      by (exact v) q = exists_exact b x d ls mean fair full v q
      by (at_most p) q = λ r o. at_most_none b x d ls mean p q r o.optimal o.lies
      by unknown q = tt

  -- the strategy has the value that is stated for the scope's own condition
  pub own_value : (b : Bool) (c : Condition) (d : List Condition) (ls : List Leaf) → LeavesMean g b Exists later i (c ∷ d) a box ls → FairNode g b (scope (Some c) ∷ later) i a box → has_empty box ≡ false →
      (n : ℤ) → exists_own (Some c) (c ∷ d) (map seen_of ls) ≡ Some n → value g (exists_finding (Some c) (c ∷ d) a ls).strategy c.target a ≡ n
  own_value b c d ls mean fair full n = by (exists_verdict (Some c) (c ∷ d) (map seen_of ls)) refl
    where
      by : (v : Verdict) → exists_verdict (Some c) (c ∷ d) (map seen_of ls) ≡ v → cond (is_exact v) (Some (first_value (best_vector (c ∷ d) (exact_vectors (map seen_of ls))))) None ≡ Some n →
          value g (exists_finding (Some c) (c ∷ d) a ls).strategy c.target a ≡ n
      by lost q h = cc
      by (at_most p) q h = cc
      by unknown q h = cc
      by (exact v) q h =
          let p = the_choice b (Some c) d ls mean fair full v q in
          let f : first_value (best_vector (c ∷ d) (exact_vectors (map seen_of ls))) ≡ n = cc in
          ap (λ s. value g s c.target a) p.is_choice ∙ ap first_value p.shown.has_vector ∙ f
