-- The leaves of an existential scope: the first with a vector, those that are lost, and the numbers that hold choices back.
use Rattle.std.proofs.Common.{◌≡◌, inl, inr, ℕ, suc, Bool, true, false, List, [], ◌∷◌, ◌++◌, length, map, drop, refl, sym, ap, ◌∙◌, subst, cond, arith}
use Rattle.std.specs.Prelude.{ℤ}
use Rattle.std.proofs.Math.Seq.{drop-append_seam}
use Rattle.std.proofs.lemmas.Bool.{or_parts, and_parts}
use Rattle.qc_model.specs.declared.problem.Kind.{Kind}
use Rattle.qc_model.specs.declared.problem.Scope.{Scope}
use Rattle.qc_model.specs.declared.problem.Condition.{Condition}
use Rattle.qc_model.specs.Content.{Game}
use Rattle.qc_model.specs.Lists.{Among, same_values}
use Rattle.qc_model.specs.Domains.{Box}
use Rattle.qc_model.specs.Game.{IsMove}
use Rattle.qc_model.specs.Plan.{Plan, choose}
use Rattle.qc_model.specs.Optimal.{is_better}
use Rattle.qc_model.specs.Counter.{HasEntry, CounterWins}
use Rattle.qc_model.specs.Demands.{is_better_vector}
use Rattle.qc_model.specs.Verdict.{Verdict, lost, exact, at_most, unknown, is_lost, each_node, exact_vectors, bounds, is_none_of, first_value}
use Rattle.qc_model.specs.ExistsVerdict.{best_number, some_open}
use Rattle.qc_model.proofs.Moves.{among_left, among_right, among_map}
use Rattle.qc_model.proofs.Vectors.{AllLong}
use Rattle.qc_model.proofs.ExistsMeans.{SomeAllows, cover}
use Rattle.model_laws.proofs.Choosing.{best_weaker, vector_long}
use Rattle.proof_tree.specs.Finding.{Leaf, leaf_barred, leaf_skipped, leaf_bound, leaf_node, seen_of, is_exact_at, first_choice, all_replies}
use Rattle.proof_meaning.proofs.Boxes.{differ}
use Rattle.proof_meaning.proofs.LeafWords.{Reached, same_true, same_self}
use Rattle.proof_meaning.proofs.LeafLists.{Shown, EachLeaf, EachLoses, is_unmarked}

exact_at_is : (v : List ℤ) (x : Verdict) → is_exact_at v x ≡ true → x ≡ exact v
exact_at_is v lost e = absurd (differ e)
exact_at_is v (exact w) e = ap exact (sym (same_true v w e))
exact_at_is v (at_most p) e = absurd (differ e)
exact_at_is v unknown e = absurd (differ e)

-- the choice of a leaf that is exact with the vector v
pub record Picked (g : Game) (later : List Scope) (i : ℕ) (e : List Condition) (a : List ℤ) (box : Box) (p : Plan) (v : List ℤ) : Type 0 where
  pub tuple : List ℤ
  pub plan : Plan
  pub is_choice : p ≡ choose tuple plan
  pub is_move : IsMove g i a tuple
  pub shown : Shown g later (suc i) e (a ++ tuple) box plan v

pub picked : (g : Game) (k : Kind) (later : List Scope) (i : ℕ) (e : List Condition) (a : List ℤ) (box : Box) (v : List ℤ) (ls : List Leaf) → EachLeaf g k later i e a box ls → Among v (exact_vectors (map seen_of ls)) →
    Picked g later i e a box (first_choice (is_exact_at v) (λ f. f.strategy) (length a) ls) v
picked g k later i e a box v [] h m = absurd m
picked g k later i e a box v (leaf_barred ∷ ls) h m = picked g k later i e a box v ls h m
picked g k later i e a box v (leaf_skipped ∷ ls) h m = picked g k later i e a box v ls h m
picked g k later i e a box v (leaf_bound n ∷ ls) h m = picked g k later i e a box v ls h m
picked g k later i e a box v (leaf_node w f ∷ ls) h m = by (is_exact_at v f.verdict) refl (picked g k later i e a box v ls h.1)
  where
    others : (x : Verdict) → is_exact_at v x ≡ false → Among v (exact_vectors (seen_of (leaf_node w (record f { verdict = x })) ∷ map seen_of ls)) → Among v (exact_vectors (map seen_of ls))
    others lost q m = m
    others (exact u) q m = elim m [ inl r ↦ absurd (differ (sym q ∙ subst (λ z. same_values v z ≡ true) r (same_self v))) | inr n ↦ n ]
    others (at_most p) q m = m
    others unknown q m = m

    by : (b : Bool) → is_exact_at v f.verdict ≡ b → (Among v (exact_vectors (map seen_of ls)) → Picked g later i e a box (first_choice (is_exact_at v) (λ x. x.strategy) (length a) ls) v) →
        Picked g later i e a box (cond b (choose (drop (length a) w) f.strategy) (first_choice (is_exact_at v) (λ x. x.strategy) (length a) ls)) v
    by true q rest =
        let p = h.0.move in
        record {
          tuple = p.tuple;
          plan = f.strategy;
          is_choice = ap (λ t. choose t f.strategy) (ap (drop (length a)) p.after ∙ drop-append_seam a p.tuple);
          is_move = p.is_move;
          shown = subst (λ u. Shown g later (suc i) e u box f.strategy v) p.after (h.0.shown v (exact_at_is v f.verdict q));
        }
    by false q rest = rest (others f.verdict q m)

-- the vectors of exact leaves have a value for each entry
pub all_long : (g : Game) (k : Kind) (later : List Scope) (i : ℕ) (e : List Condition) (a : List ℤ) (box : Box) (ls : List Leaf) → EachLeaf g k later i e a box ls → AllLong e (exact_vectors (map seen_of ls))
all_long g k later i e a box [] h = tt
all_long g k later i e a box (leaf_barred ∷ ls) h = all_long g k later i e a box ls h
all_long g k later i e a box (leaf_skipped ∷ ls) h = all_long g k later i e a box ls h
all_long g k later i e a box (leaf_bound n ∷ ls) h = all_long g k later i e a box ls h
all_long g k later i e a box (leaf_node w f ∷ ls) h = by f.verdict (λ v q. ap length (sym (h.0.shown v q).has_vector) ∙ vector_long g e w f.strategy) (all_long g k later i e a box ls h.1)
  where
    by : (x : Verdict) → ((v : List ℤ) → x ≡ exact v → length v ≡ length e) → AllLong e (exact_vectors (map seen_of ls)) → AllLong e (exact_vectors (seen_of (leaf_node w (record f { verdict = x })) ∷ map seen_of ls))
    by lost l r = r
    by (exact v) l r = (l v refl, r)
    by (at_most p) l r = r
    by unknown l r = r

-- lost leaves without a mark leave no choice possible
pub none_allowed : (e : List Condition) (ls : List Leaf) (v : List ℤ) → each_node is_lost (map seen_of ls) ≡ true → is_unmarked ls ≡ true → ¬ SomeAllows e (map seen_of ls) v
none_allowed e [] v l u h = h
none_allowed e (leaf_barred ∷ ls) v l u h = elim h [ inl q ↦ q | inr r ↦ none_allowed e ls v l u r ]
none_allowed e (leaf_skipped ∷ ls) v l u h = differ l
none_allowed e (leaf_bound m ∷ ls) v l u h = differ u
none_allowed e (leaf_node w f ∷ ls) v l u h = by f.verdict l h (λ q. none_allowed e ls v q u)
  where
    by : (x : Verdict) → each_node is_lost (seen_of (leaf_node w (record f { verdict = x })) ∷ map seen_of ls) ≡ true → SomeAllows e (seen_of (leaf_node w (record f { verdict = x })) ∷ map seen_of ls) v →
        (each_node is_lost (map seen_of ls) ≡ true → ¬ SomeAllows e (map seen_of ls) v) → ⊥
    by lost l h n = elim h [ inl q ↦ q | inr r ↦ n l r ]
    by (exact u) l h n = differ l
    by (at_most p) l h n = differ l
    by unknown l h n = differ l

pub unmarked_of : (ls : List Leaf) → is_none_of (bounds (map seen_of ls)) ≡ true → is_unmarked ls ≡ true
unmarked_of [] h = refl
unmarked_of (leaf_barred ∷ ls) h = unmarked_of ls h
unmarked_of (leaf_skipped ∷ ls) h = unmarked_of ls h
unmarked_of (leaf_bound m ∷ ls) h = absurd (differ h)
unmarked_of (leaf_node w f ∷ ls) h = by f.verdict h (unmarked_of ls)
  where
    by : (x : Verdict) → is_none_of (bounds (seen_of (leaf_node w (record f { verdict = x })) ∷ map seen_of ls)) ≡ true → (is_none_of (bounds (map seen_of ls)) ≡ true → is_unmarked ls ≡ true) → is_unmarked ls ≡ true
    by lost h n = n h
    by (exact u) h n = n h
    by (at_most p) h n = absurd (differ h)
    by unknown h n = n h

-- each lost leaf has a reply
pub replies : (g : Game) (later : List Scope) (i : ℕ) (a t : List ℤ) (ls : List Leaf) → EachLoses g later i ls → each_node is_lost (map seen_of ls) ≡ true → Reached (a ++ t) ls →
    HasEntry (CounterWins g later (suc i)) a t (all_replies (length a) ls)
replies g later i a t [] h e r = absurd r
replies g later i a t (leaf_barred ∷ ls) h e r = replies g later i a t ls h e r
replies g later i a t (leaf_skipped ∷ ls) h e r = absurd (differ e)
replies g later i a t (leaf_bound m ∷ ls) h e r = replies g later i a t ls h e r
replies g later i a t (leaf_node w f ∷ ls) h e r =
    let p = and_parts (is_lost f.verdict) (each_node is_lost (map seen_of ls)) e in
    elim r [
      | inl q ↦ inl (ap (drop (length a)) q ∙ drop-append_seam a t, subst (λ u. CounterWins g later (suc i) u f.counter) q (h.0 p.0))
      | inr m ↦ inr (replies g later i a t ls h.1 p.1 m)
    ]

-- a choice's first value is held by the best of the first values and the bounds
first_no_better : (c : Condition) (d : List Condition) (w v : List ℤ) → length w ≡ length (c ∷ d) → length v ≡ length (c ∷ d) → is_better_vector (c ∷ d) w v ≡ false → is_better c.sense (first_value w) (first_value v) ≡ false
first_no_better c d [] v lw lv h = absurd (omega arith)
first_no_better c d (x ∷ w) [] lw lv h = absurd (omega arith)
first_no_better c d (x ∷ w) (y ∷ v) lw lv h = (or_parts (is_better c.sense x y) _ h).0

long_one : (e : List Condition) (vs : List (List ℤ)) (v : List ℤ) → AllLong e vs → Among v vs → length v ≡ length e
long_one e [] v l m = absurd m
long_one e (u ∷ vs) v l m = elim m [ inl q ↦ ap length q ∙ l.0 | inr n ↦ long_one e vs v l.1 n ]

pub held_by_numbers : (c : Condition) (d : List Condition) (ls : List Leaf) (w : List ℤ) → length w ≡ length (c ∷ d) → AllLong (c ∷ d) (exact_vectors (map seen_of ls)) → some_open (map seen_of ls) ≡ false → SomeAllows (c ∷ d) (map seen_of ls) w →
    is_better c.sense (first_value w) (best_number c.sense (map first_value (exact_vectors (map seen_of ls)) ++ bounds (map seen_of ls))) ≡ false
held_by_numbers c d ls w lw long none h =
    let xs = map seen_of ls in
    let fs = map first_value (exact_vectors xs) in
    elim (cover c d xs w none h) [
      | inl b ↦ best_weaker c.sense (first_value w) (first_value b.vector) (fs ++ bounds xs) (among_left (first_value b.vector) fs (bounds xs) (among_map first_value b.vector (exact_vectors xs) b.is_one))
          (first_no_better c d w b.vector lw (long_one (c ∷ d) (exact_vectors xs) b.vector long b.is_one) b.no_better)
      | inr b ↦ best_weaker c.sense (first_value w) b.bound (fs ++ bounds xs) (among_right b.bound fs (bounds xs) b.is_one) b.no_better
    ]
