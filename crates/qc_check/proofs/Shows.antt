-- What a certificate proves, by the answer for its lines, if there is one.
use Rattle.std.proofs.Common.{◌≡◌, ℕ, ◌<◌, ◌-◌, ◌^◌, min, Bool, true, false, ◌&&◌, ◌||◌, refl, sym, ap, ◌∙◌, arith, Option, Some, None, ℤ}
use Rattle.std.specs.Prelude.{◌==◌, nat_le, nat_lt}
use Rattle.std.proofs.lemmas.Bool.Decides.{nat_tests}
use Rattle.qc_model.specs.Content.{Game}
use Rattle.qc_model.specs.Verdict.{is_unknown}
use Rattle.proof_tree.specs.declared.tree.Outcome.{Outcome}
use Rattle.proof_tree.specs.declared.tree.Outcome.TheVariants.{True, False, Open}
use Rattle.proof_tree.specs.Tree.{Tree}
use Rattle.proof_tree.specs.InPlace.{root_in_place}
use Rattle.proof_tree.specs.Read.{root_finding}
use Rattle.proof_tree.specs.Proves.{proves, shows}
use Rattle.proof_tree.specs.Counts.{turns_of}
use Rattle.proof_tree.specs.Text.{outcome_fits}
use Rattle.check_lines.specs.declared.answer.Answer.{Answer}
use Rattle.check_lines.specs.Found.{IsAnswer}
use Rattle.check_lines.specs.Shown.{answer_shows, bare_verdict}
use Rattle.check_lines.proofs.Showing.{IsCounted, shows_answer, three, bare_unknown}
use Rattle.qc_check.specs.Shown.{found_shows, counts_turns, IsStatable}

second : (a b : Bool) → (a && b) ≡ true → b ≡ true
second true b h = h
second false b h = cc

countable : (n : ℕ) → nat_le n 10000000 ≡ true → n < 2 ^ 64 - 1
countable n h = grind (arith, nat_tests)

pub counted : (o : Outcome) (p : Option ℤ) → outcome_fits o p ≡ true → IsCounted o
counted True p fits = tt
counted False p fits = tt
counted (Open n) None fits = countable n (second (nat_le 1 n) (nat_le n 10000000) fits)
counted (Open n) (Some v) fits = cc

and_true : (b : Bool) → (b && true) ≡ b
and_true true = refl
and_true false = refl

and_false : (b : Bool) → (b && false) ≡ false
and_false true = refl
and_false false = refl

moved : (u x y o : Bool) → (u && (x && y) && o) ≡ ((u && x && o) && y)
moved false x y o = refl
moved true false y o = refl
moved true true true true = refl
moved true true true false = refl
moved true true false true = refl
moved true true false false = refl

below_most : (a n : ℕ) → nat_lt n (2 ^ 64 - 1) ≡ true → (a == n) ≡ (min a (2 ^ 64 - 1) == n)
below_most a n h = grind (arith, nat_tests)

most_counted : (a n : ℕ) → n < 2 ^ 64 → nat_lt n (2 ^ 64 - 1) ≡ false → (a == n) ≡ true → (min a (2 ^ 64 - 1) == n) ≡ true
most_counted a n r h e = grind (arith, nat_tests)

-- what is counted up to a limit tells how many there are, but at the limit
count_split : (a n : ℕ) → n < 2 ^ 64 → (a == n) ≡ ((min a (2 ^ 64 - 1) == n) && (nat_lt n (2 ^ 64 - 1) || (a == n)))
count_split a n r = by (nat_lt n (2 ^ 64 - 1)) refl (a == n) refl
  where
    by : (b : Bool) → nat_lt n (2 ^ 64 - 1) ≡ b → (c : Bool) → (a == n) ≡ c → (a == n) ≡ ((min a (2 ^ 64 - 1) == n) && (nat_lt n (2 ^ 64 - 1) || (a == n)))
    by true e c f = below_most a n e ∙ (sym (and_true _) ∙ ap (λ d. (min a (2 ^ 64 - 1) == n) && (d || (a == n))) (sym e))
    by false e false f = f ∙ (sym (and_false _) ∙ (ap (λ d. (min a (2 ^ 64 - 1) == n) && (false || d)) (sym f) ∙ ap (λ d. (min a (2 ^ 64 - 1) == n) && (d || (a == n))) (sym e)))
    by false e true f =
        f ∙ (ap (λ d. d && true) (sym (most_counted a n r e f)) ∙ (ap (λ d. (min a (2 ^ 64 - 1) == n) && (false || d)) (sym f) ∙ ap (λ d. (min a (2 ^ 64 - 1) == n) && (d || (a == n))) (sym e)))

-- an answer shows what its tree does, where the turns stated are those of the tree
pub shows_counted : (g : Game) (t : Tree) (f : Answer) → IsAnswer g t f → (o : Outcome) (p : Option ℤ) → IsStatable o → shows g t (root_finding g t) o p ≡ (answer_shows g.scopes f o p && counts_turns (turns_of t) o)
shows_counted g t f a True p fits = shows_answer g t f a True p tt ∙ sym (and_true _)
shows_counted g t f a False p fits = shows_answer g t f a False p tt ∙ sym (and_true _)
shows_counted g t f a (Open n) (Some v) fits = refl
shows_counted g t f a (Open n) None fits =
    three _ _ _ _ _ _ (ap is_unknown a.verdict ∙ bare_unknown f.found a.vector)
    (count_split (turns_of t) n fits ∙ ap (λ k. (k == n) && counts_turns (turns_of t) (Open n)) (sym a.turns)) (sym a.has_open)
    ∙ moved (is_unknown (bare_verdict f)) (f.turns == n) (counts_turns (turns_of t) (Open n)) f.has_open

module _ (g : Game) (t : Tree) where
  -- it proves what is shown by what its lines come to
  pub proves_shown : (found : Option Answer) → (root_in_place g t ≡ true → (f : Answer) × (found ≡ Some f) × IsAnswer g t f) → ((f : Answer) → found ≡ Some f → IsAnswer g t f) →
      (o : Outcome) (p : Option ℤ) → ((f : Answer) → IsAnswer g t f → shows g t (root_finding g t) o p ≡ answer_shows g.scopes f o p) → proves g o p t ≡ found_shows g.scopes found o p
  proves_shown found all own o p alike = by (root_in_place g t) refl
    where
      none : (q : Option Answer) → found ≡ q → root_in_place g t ≡ false → false ≡ found_shows g.scopes q o p
      none None e n = refl
      none (Some f) e n = let y = (own f e).in_place in cc

      by : (b : Bool) → root_in_place g t ≡ b → (b && shows g t (root_finding g t) o p) ≡ found_shows g.scopes found o p
      by true e = let x = all e in alike x.0 x.2 ∙ ap (λ q. found_shows g.scopes q o p) (sym x.1)
      by false e = none found refl e

  -- the same, where something else is asked too
  pub proves_shown_so : (found : Option Answer) → (root_in_place g t ≡ true → (f : Answer) × (found ≡ Some f) × IsAnswer g t f) → ((f : Answer) → found ≡ Some f → IsAnswer g t f) →
      (o : Outcome) (p : Option ℤ) (c : Bool) → ((f : Answer) → IsAnswer g t f → shows g t (root_finding g t) o p ≡ (answer_shows g.scopes f o p && c)) → proves g o p t ≡ (found_shows g.scopes found o p && c)
  proves_shown_so found all own o p c alike = by (root_in_place g t) refl
    where
      none : (q : Option Answer) → found ≡ q → root_in_place g t ≡ false → false ≡ (found_shows g.scopes q o p && c)
      none None e n = refl
      none (Some f) e n = let y = (own f e).in_place in cc

      by : (b : Bool) → root_in_place g t ≡ b → (b && shows g t (root_finding g t) o p) ≡ (found_shows g.scopes found o p && c)
      by true e = let x = all e in alike x.0 x.2 ∙ ap (λ q. found_shows g.scopes q o p && c) (sym x.1)
      by false e = none found refl e
