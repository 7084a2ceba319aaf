-- The counterstrategy read from a node has one reply for each tuple that it answers.
use Rattle.std.proofs.Common.{◌≡◌, ℕ, Bool, true, false, List, [], ◌∷◌, length, drop, refl, sym, ap, subst, cond, Option}
use Rattle.std.specs.Prelude.{ℤ}
use Rattle.qc_model.specs.declared.problem.Kind.{Kind}
use Rattle.qc_model.specs.declared.problem.Kind.TheVariants.{Exists, Forall}
use Rattle.qc_model.specs.declared.problem.Scope.{Scope}
use Rattle.qc_model.specs.declared.problem.Condition.{Condition}
use Rattle.qc_model.specs.Content.{Game}
use Rattle.qc_model.specs.Lists.{Distinct}
use Rattle.qc_model.specs.Plan.{choose, entry_tuples}
use Rattle.qc_model.specs.Counter.{AnswersOnce, EachAnswersOnce}
use Rattle.qc_model.specs.Verdict.{Verdict, is_lost}
use Rattle.proof_tree.specs.Finding.{Leaf, leaf_barred, leaf_skipped, leaf_bound, leaf_node, first_choice, all_replies, kind_finding, kind_stuck, stuck_finding}
use Rattle.proof_meaning.proofs.LeafLists.{EachOnce, leaf_tuples}

reply_tuples : (n : ℕ) (ls : List Leaf) → entry_tuples (all_replies n ls) ≡ leaf_tuples n ls
reply_tuples n [] = refl
reply_tuples n (leaf_barred ∷ ls) = reply_tuples n ls
reply_tuples n (leaf_skipped ∷ ls) = reply_tuples n ls
reply_tuples n (leaf_bound m ∷ ls) = reply_tuples n ls
reply_tuples n (leaf_node w f ∷ ls) = ap (λ ts. drop n w ∷ ts) (reply_tuples n ls)

replies_once : (n : ℕ) (ls : List Leaf) → EachOnce ls → EachAnswersOnce (all_replies n ls)
replies_once n [] h = tt
replies_once n (leaf_barred ∷ ls) h = replies_once n ls h
replies_once n (leaf_skipped ∷ ls) h = replies_once n ls h
replies_once n (leaf_bound m ∷ ls) h = replies_once n ls h
replies_once n (leaf_node w f ∷ ls) h = (h.0, replies_once n ls h.1)

choice_once : (p : Verdict → Bool) (n : ℕ) (ls : List Leaf) → EachOnce ls → AnswersOnce (first_choice p (λ f. f.counter) n ls)
choice_once p n [] h = tt
choice_once p n (leaf_barred ∷ ls) h = choice_once p n ls h
choice_once p n (leaf_skipped ∷ ls) h = choice_once p n ls h
choice_once p n (leaf_bound m ∷ ls) h = choice_once p n ls h
choice_once p n (leaf_node w f ∷ ls) h = by (p f.verdict) (choice_once p n ls h.1)
  where
    by : (b : Bool) → AnswersOnce (first_choice p (λ x. x.counter) n ls) → AnswersOnce (cond b (choose (drop n w) f.counter) (first_choice p (λ x. x.counter) n ls))
    by true r = h.0
    by false r = r

pub kind_once : (k : Kind) (x : Option Condition) (g : Game) (i : ℕ) (d : List Condition) (a : List ℤ) (ls : List Leaf) → EachOnce ls → Distinct (leaf_tuples (length a) ls) → AnswersOnce (kind_finding k x g i d a ls).counter
kind_once Exists x g i d a ls h n = (subst Distinct (sym (reply_tuples (length a) ls)) n, replies_once (length a) ls h)
kind_once Forall x g i d a ls h n = choice_once is_lost (length a) ls h

pub stuck_once : (later : List Scope) (g : Game) (d : List Condition) (a : List ℤ) → AnswersOnce (stuck_finding later g d a).counter
stuck_once [] g d a = tt
stuck_once (s ∷ later) g d a = by s.kind
  where
    by : (k : Kind) → AnswersOnce (kind_stuck k g d a).counter
    by Exists = (tt, tt)
    by Forall = tt
