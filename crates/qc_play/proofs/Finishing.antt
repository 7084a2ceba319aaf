-- What a scope shows, by what is gathered of its leaves.
use Rattle.std.proofs.Common.{◌≡◌, ℕ, Bool, true, false, not, ◌&&◌, cond, Option, Some, None, List, [], ◌∷◌, map, length, drop, refl, sym, ap, ◌∙◌, ℤ}
use Rattle.std.specs.Prelude.{is_none}
use Rattle.std.specs.List.{list_all}
use Rattle.std.specs.List.Sorted.{IsPermutation, IsSorted}
use Rattle.std.proofs.lemmas.Bool.{false≢true}
use Rattle.qc_model.specs.declared.problem.Condition.{Condition}
use Rattle.qc_model.specs.Content.{Game}
use Rattle.qc_model.specs.Valid.{IsValid}
use Rattle.qc_model.specs.Plan.{answer, entry}
use Rattle.qc_model.specs.Verdict.{lost, exact, at_most, unknown, Seen, is_lost, is_exact, some_node, each_node, exact_vectors, bounds, is_none_of, first_value}
use Rattle.qc_model.specs.ExistsVerdict.{best_vector, beats, some_open, exists_verdict}
use Rattle.joins.proofs.Bests.{some_exact_is}
use Rattle.proof_tree.specs.Finding.{Leaf, leaf_barred, leaf_skipped, leaf_bound, leaf_node, seen_of, is_exact_at, first_choice, all_replies, exists_finding, forall_finding}
use Rattle.proof_meaning.proofs.ForallRules.{any_forall_exact}
use Rattle.qc_play.specs.declared.best.Best.{Best}
use Rattle.qc_play.specs.declared.plan.PlanEntry.{PlanEntry}
use Rattle.qc_play.specs.declared.counter.CounterEntry.{CounterEntry}
use Rattle.qc_play.specs.Shape.{all_entries, all_replies as replies_in}
use Rattle.qc_play.specs.EntryOrder.{entry_order}
use Rattle.qc_play.specs.Entries.{entries_on, KeepsBest, KeepsFirst, KeepsReplies, KeepsAnswers, best_choice, lost_choice}
use Rattle.proof_meaning.specs.Answered.{GoOnWithAll}
use Rattle.qc_play.proofs.SortedAnswers.{answers_sorted}

-- ---- the verdict of a scope of the player
-- where it is exact, some leaf is
some_exact : (own : Option Condition) (d : List Condition) (xs : List Seen) → is_exact (exists_verdict own d xs) ≡ true → is_none_of (exact_vectors xs) ≡ false
some_exact own [] xs e = by (some_node is_exact xs) (each_node is_lost xs) (is_none_of (exact_vectors xs)) (some_exact_is xs) e
  where
    by : (a b c : Bool) → a ≡ not c → is_exact (cond a (exact []) (cond b lost unknown)) ≡ true → c ≡ false
    by a b false q e = refl
    by true b true q e = cc
    by false true true q e = cc
    by false false true q e = cc
some_exact own (c ∷ d) xs e =
    let v = best_vector (c ∷ d) (exact_vectors xs) in
    by (each_node is_lost xs && is_none_of (bounds xs)) (some_open xs) (is_none_of (exact_vectors xs)) (list_all (beats c.sense (is_none_of d) (first_value v)) (bounds xs)) (is_none own) _ _ e
  where
    by : (a o b l n : Bool) (w : List ℤ) (m : ℤ) → is_exact (cond a lost (cond o unknown (cond (not b && l) (exact w) (cond n (at_most m) unknown)))) ≡ true → b ≡ false
    by a o false l n w m e = refl
    by true o true l n w m e = cc
    by false true true l n w m e = cc
    by false false true l true w m e = cc
    by false false true l false w m e = cc

-- where it is lost, each is
each_lost : (own : Option Condition) (d : List Condition) (xs : List Seen) → is_lost (exists_verdict own d xs) ≡ true → each_node is_lost xs ≡ true
each_lost own [] xs e = by (some_node is_exact xs) (each_node is_lost xs) e
  where
    by : (a b : Bool) → is_lost (cond a (exact []) (cond b lost unknown)) ≡ true → b ≡ true
    by a true e = refl
    by true false e = cc
    by false false e = cc
each_lost own (c ∷ d) xs e =
    let v = best_vector (c ∷ d) (exact_vectors xs) in
    by (each_node is_lost xs) (is_none_of (bounds xs)) (some_open xs) (not (is_none_of (exact_vectors xs)) && list_all (beats c.sense (is_none_of d) (first_value v)) (bounds xs)) (is_none own) _ _ e
  where
    by : (a b o l n : Bool) (w : List ℤ) (m : ℤ) → is_lost (cond (a && b) lost (cond o unknown (cond l (exact w) (cond n (at_most m) unknown)))) ≡ true → a ≡ true
    by true b o l n w m e = refl
    by false b true l n w m e = cc
    by false b false true n w m e = cc
    by false b false false true w m e = cc
    by false b false false false w m e = cc

-- ---- a scope of the player, where the list d is demanded after it
best_is : (d : List Condition) (n : ℕ) (o : Option Best) (ls : List Leaf) → is_none_of (exact_vectors (map seen_of ls)) ≡ false → KeepsBest d n o ls → best_choice o ≡ first_choice (is_exact_at (best_vector d (exact_vectors (map seen_of ls)))) (λ f. f.strategy) n ls
best_is d n None ls e k = absurd (false≢true (sym e ∙ ap is_none_of k))
best_is d n (Some b) ls e k = sym k.first ∙ ap (λ v. first_choice (is_exact_at v) (λ f. f.strategy) n ls) k.vector

pub player_strategy : (own : Option Condition) (d : List Condition) (a : List ℤ) (n : ℕ) (o : Option Best) (ls : List Leaf) → length a ≡ n → KeepsBest d n o ls → is_exact (exists_finding own d a ls).verdict ≡ true → best_choice o ≡ (exists_finding own d a ls).strategy
player_strategy own d a n o ls l k e =
    best_is d n o ls (some_exact own d (map seen_of ls) e) k
    ∙ ap (λ m. first_choice (is_exact_at (best_vector d (exact_vectors (map seen_of ls)))) (λ f. f.strategy) m ls) (sym l)

replies_are : (n : ℕ) (ls : List Leaf) → entries_on (λ f. f.counter) n ls ≡ all_replies n ls
replies_are n [] = refl
replies_are n (leaf_barred ∷ ls) = replies_are n ls
replies_are n (leaf_skipped ∷ ls) = replies_are n ls
replies_are n (leaf_bound m ∷ ls) = replies_are n ls
replies_are n (leaf_node w f ∷ ls) = ap (entry (drop n w) f.counter) (replies_are n ls)

pub player_counter : (own : Option Condition) (d : List Condition) (a : List ℤ) (n : ℕ) (es : List CounterEntry) (ls : List Leaf) → length a ≡ n → KeepsReplies n es ls → is_lost (exists_finding own d a ls).verdict ≡ true → answer (replies_in es) ≡ (exists_finding own d a ls).counter
player_counter own d a n es ls l k e =
    ap answer (k (each_lost own d (map seen_of ls) e) ∙ (replies_are n ls ∙ ap (λ m. all_replies m ls) (sym l)))

-- ---- a scope of the opponent
pub opponent_counter : (g : Game) (i : ℕ) (d : List Condition) (a : List ℤ) (n : ℕ) (o : Option CounterEntry) (ls : List Leaf) → length a ≡ n → KeepsFirst n o ls → lost_choice o ≡ (forall_finding g i d a ls).counter
opponent_counter g i d a n o ls l k = sym k ∙ ap (λ m. first_choice is_lost (λ f. f.counter) m ls) (sym l)

pub opponent_strategy : (g : Game) (i : ℕ) (d : List Condition) (a : List ℤ) (n : ℕ) (es ks : List PlanEntry) (ls : List Leaf) → length a ≡ n → IsValid g → (each_node is_exact (map seen_of ls) ≡ true → GoOnWithAll g i a ls) → KeepsAnswers n es ls → IsPermutation es ks → IsSorted entry_order ks →
    is_exact (forall_finding g i d a ls).verdict ≡ true → answer (all_entries ks) ≡ (forall_finding g i d a ls).strategy
opponent_strategy g i d a n es ks ls l v w k p s e =
    let x = any_forall_exact g d a (map seen_of ls) e in
    let h : all_entries es ≡ entries_on (λ f. f.strategy) (length a) ls = k x ∙ ap (λ m. entries_on (λ f. f.strategy) m ls) (sym l) in
    ap answer (answers_sorted g i a ls es ks v (w x) h p s)
