-- A text has no fault.
use Rattle.std.proofs.Common.{◌≡◌, refl, sym, ◌∙◌, ap, subst, ℕ, List, ◌++◌, length, take, drop, arith, length-append}
use Rattle.std.proofs.lemmas.List.{take_at, drop_at}
use Rattle.lemma_text.specs.Places.{IsText, IsFault, NeverBoth as NeverBothOfList}
use Rattle.best_text.specs.Text.{head_text}
use Rattle.best_text.proofs.Sequence.{head_one}
use Rattle.best_judge.specs.Proof.{IsFaultOfLists, in_first, cut_off, in_second, in_head, behind}
use Rattle.best_judge.specs.Laws.{NeverBoth}

two_lists : NeverBothOfList → (n : ℕ) (lists first second : List ℕ) (place : ℕ) → length first ≡ n → first ++ second ≡ lists → IsText first → IsText second → IsFaultOfLists n lists place → ⊥
two_lists never n lists first second place e s p q (in_first f) = never first place p (subst (IsFault place) (ap (take n) (sym s) ∙ take_at first second n e) f)
two_lists never n lists first second place e s p q (cut_off lt t is) = let k = length-append first second in let m = ap length s in omega arith
two_lists never n lists first second place e s p q (in_second later le t f is) = never second later q (subst (IsFault later) (ap (drop n) (sym s) ∙ drop_at first second n e) f)

pub no_fault : NeverBothOfList → NeverBoth
no_fault never bytes v first second place t (in_head p) = p.unfinished (head_text v (length first)) (first ++ second) (v, length first, t.fits, refl) t.spelled
no_fault never bytes v first second place t (behind f) =
    let s = head_one v f.value (length first) f.many (first ++ second) f.lists t.fits f.fits (sym t.spelled ∙ f.whole) in
    two_lists never f.many f.lists first second f.later s.many s.behind t.first_is t.second_is f.is
