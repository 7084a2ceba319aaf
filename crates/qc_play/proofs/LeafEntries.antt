-- The entries for leaves, and the first lost leaf, as leaves come.
use Rattle.std.proofs.Common.{◌≡◌, ℕ, true, false, cond, Option, Some, None, List, [], ◌∷◌, ◌++◌, drop, refl, sym, ap, ◌∙◌, ℤ}
use Rattle.std.specs.Option.{is_some}
use Rattle.std.proofs.lemmas.Bool.{false≢true}
use Rattle.qc_model.specs.Plan.{Plan, finish, choose, Entries, entry}
use Rattle.qc_model.specs.Verdict.{is_lost, is_exact}
use Rattle.proof_tree.specs.Finding.{Finding, Leaf, leaf_node}
use Rattle.qc_play.specs.declared.plan.PlanEntry.{PlanEntry}
use Rattle.qc_play.specs.declared.counter.CounterEntry.{CounterEntry}
use Rattle.qc_play.specs.Shape.{plan_of, tree_of_counter, all_entries, all_replies}
use Rattle.qc_play.specs.Entries.{entries_on, KeepsFirst, KeepsReplies, KeepsAnswers}
use Rattle.qc_play.proofs.LeavesMore.{IsQuiet, each_before, each_last, choice_none, choice_some, choice_quiet, no_choice, add_entry, entries_more, entries_quiet}

replies_more : (es : List CounterEntry) (e : CounterEntry) → all_replies (es ++ e ∷ []) ≡ add_entry (all_replies es) e.tuple (tree_of_counter e.counter)
replies_more [] e = refl
replies_more (d ∷ es) e = ap (entry d.tuple (tree_of_counter d.counter)) (replies_more es e)

answers_more : (es : List PlanEntry) (e : PlanEntry) → all_entries (es ++ e ∷ []) ≡ add_entry (all_entries es) e.tuple (plan_of e.plan)
answers_more [] e = refl
answers_more (d ∷ es) e = ap (entry d.tuple (plan_of d.plan)) (answers_more es e)

same_entry : (l k : Entries) (t u : List ℤ) (r s : Plan) → l ≡ k → t ≡ u → r ≡ s → add_entry l t r ≡ add_entry k u s
same_entry l k t u r s e f g = ap (λ m. add_entry m t r) e ∙ (ap (λ v. add_entry k v r) f ∙ ap (add_entry k u) g)

-- a lost leaf, and one that isn't
pub replies_add : (n : ℕ) (es : List CounterEntry) (ls : List Leaf) (e : CounterEntry) (w : List ℤ) (f : Finding) → KeepsReplies n es ls → e.tuple ≡ drop n w → tree_of_counter e.counter ≡ f.counter → KeepsReplies n (es ++ e ∷ []) (ls ++ leaf_node w f ∷ [])
replies_add n es ls e w f k t s = λ h.
    replies_more es e
    ∙ (same_entry (all_replies es) (entries_on (λ f. f.counter) n ls) e.tuple (drop n w) (tree_of_counter e.counter) f.counter (k (each_last is_lost ls w f h).0) t s
    ∙ sym (entries_more (λ f. f.counter) n ls w f))

pub replies_not : (n : ℕ) (es : List CounterEntry) (ls : List Leaf) (w : List ℤ) (f : Finding) → is_lost f.verdict ≡ false → KeepsReplies n es (ls ++ leaf_node w f ∷ [])
replies_not n es ls w f e = λ h. absurd (false≢true (sym e ∙ (each_last is_lost ls w f h).1))

-- an exact leaf, and one that isn't
pub answers_add : (n : ℕ) (es : List PlanEntry) (ls : List Leaf) (e : PlanEntry) (w : List ℤ) (f : Finding) → KeepsAnswers n es ls → e.tuple ≡ drop n w → plan_of e.plan ≡ f.strategy → KeepsAnswers n (es ++ e ∷ []) (ls ++ leaf_node w f ∷ [])
answers_add n es ls e w f k t s = λ h.
    answers_more es e
    ∙ (same_entry (all_entries es) (entries_on (λ f. f.strategy) n ls) e.tuple (drop n w) (plan_of e.plan) f.strategy (k (each_last is_exact ls w f h).0) t s
    ∙ sym (entries_more (λ f. f.strategy) n ls w f))

pub answers_not : (n : ℕ) (es : List PlanEntry) (ls : List Leaf) (w : List ℤ) (f : Finding) → is_exact f.verdict ≡ false → KeepsAnswers n es (ls ++ leaf_node w f ∷ [])
answers_not n es ls w f e = λ h. absurd (false≢true (sym e ∙ (each_last is_exact ls w f h).1))

-- a leaf that doesn't go on
pub replies_quiet : (n : ℕ) (es : List CounterEntry) (ls : List Leaf) (l : Leaf) → IsQuiet l → KeepsReplies n es ls → KeepsReplies n es (ls ++ l ∷ [])
replies_quiet n es ls l q k = λ h. k (each_before is_lost ls (l ∷ []) h).0 ∙ sym (entries_quiet (λ f. f.counter) n ls l q)

pub answers_quiet : (n : ℕ) (es : List PlanEntry) (ls : List Leaf) (l : Leaf) → IsQuiet l → KeepsAnswers n es ls → KeepsAnswers n es (ls ++ l ∷ [])
answers_quiet n es ls l q k = λ h. k (each_before is_exact ls (l ∷ []) h).0 ∙ sym (entries_quiet (λ f. f.strategy) n ls l q)

-- the first lost leaf, and one after it
pub first_taken : (n : ℕ) (o : Option CounterEntry) (ls : List Leaf) (e : CounterEntry) (w : List ℤ) (f : Finding) → is_some o ≡ false → KeepsFirst n o ls → is_lost f.verdict ≡ true → e.tuple ≡ drop n w → tree_of_counter e.counter ≡ f.counter →
    KeepsFirst n (Some e) (ls ++ leaf_node w f ∷ [])
first_taken n None ls e w f h k x t s =
    choice_none is_lost (λ f. f.counter) n ls (leaf_node w f ∷ []) k
    ∙ (ap (λ b. cond b (choose (drop n w) f.counter) finish) x
    ∙ (ap (λ u. choose u f.counter) (sym t) ∙ ap (choose e.tuple) (sym s)))
first_taken n (Some d) ls e w f h k x t s = cc

pub first_kept : (n : ℕ) (o : Option CounterEntry) (ls : List Leaf) (w : List ℤ) (f : Finding) → is_some o ≡ true → KeepsFirst n o ls → KeepsFirst n o (ls ++ leaf_node w f ∷ [])
first_kept n None ls w f h k = cc
first_kept n (Some e) ls w f h k = choice_some is_lost (λ f. f.counter) n ls (leaf_node w f ∷ []) e.tuple (tree_of_counter e.counter) k

pub first_not : (n : ℕ) (o : Option CounterEntry) (ls : List Leaf) (w : List ℤ) (f : Finding) → is_lost f.verdict ≡ false → KeepsFirst n o ls → KeepsFirst n o (ls ++ leaf_node w f ∷ [])
first_not n o ls w f e k = choice_quiet is_lost (λ f. f.counter) n ls (leaf_node w f) (ap (λ b. cond b (choose (drop n w) f.counter) finish) e) ∙ k

pub first_quiet : (n : ℕ) (o : Option CounterEntry) (ls : List Leaf) (l : Leaf) → IsQuiet l → KeepsFirst n o ls → KeepsFirst n o (ls ++ l ∷ [])
first_quiet n o ls l q k = choice_quiet is_lost (λ f. f.counter) n ls l (no_choice is_lost (λ f. f.counter) n l q) ∙ k
