-- Relations of numbers by the ends of what is left to them.
use Rattle.std.proofs.Common.{◌≡◌, ℕ, ◌≤◌, ◌^◌, Bool, true, false, refl, sym, ap, ◌∙◌, subst, arith, ℤ}
use Rattle.std.specs.Prelude.{◌+ℤ◌, unsigned_abs}
use Rattle.std.proofs.lemmas.Bool.{leb-true}
use Rattle.qc_model.specs.declared.problem.Arg.{Arg}
use Rattle.qc_model.specs.Arguments.{variables_of}
use Rattle.qc_model.specs.Content.{Rule}
use Rattle.qc_model.specs.Domains.{Box}
use Rattle.qc_model.specs.Left.{Lefts, span, range_at}
use Rattle.qc_model.specs.Lists.{Distinct}
use Rattle.qc_model.specs.Meaning.{meaning_of}
use Rattle.qc_model.specs.Ranges.{Range}
use Rattle.qc_model.specs.Refuted.{left_to, refuted_as}
use Rattle.qc_model.specs.Valid.{is_number}
use Rattle.model_arguments.specs.Written.{arg_at}
use Rattle.qc_refuter.proofs.Terms.{abs_sum}
use Rattle.dense_closing.specs.Takes.{Takes}
use Rattle.dense_quiet.specs.declared.relating.Relation.{Relation}
use Rattle.dense_quiet.specs.declared.relating.Relation.TheVariants.{AtMost, Below, Sum, Product, Lesser, Greater}
use Rattle.dense_quiet.specs.Quiet.{FailsAtPoints, SparesThree, by_spans, refuted_in, meaning_in}
use Rattle.dense_quiet.specs.Slack.{is_taken, SparesTaken}
use Rattle.dense_quiet.proofs.OneEnd.{quiet_three}

-- three arguments by what is known of their ranges
module _ (test : Range → Range → Range → Bool) (ok : ℕ → Bool) (x y z : Arg) (box : Box) where
  abbrev pub Claim : Range → Range → Range → Type 0
  Claim a b c = test a b c ≡ false → (is_taken ok x ≡ true → FailsAtPoints (λ r. test r b c) a) → (is_taken ok y ≡ true → FailsAtPoints (λ r. test a r c) b) → (is_taken ok z ≡ true → FailsAtPoints (λ r. test a b r) c) → SparesThree (by_spans test) ok x y z box

  pub three_ranges : (a b c : Range) → a ≡ span (left_to box x) → b ≡ span (left_to box y) → c ≡ span (left_to box z) → Claim a b c
  three_ranges a b c i j k =
      subst (λ a. Claim a b c) (sym i)
      (subst (λ b. Claim (span (left_to box x)) b c) (sym j)
      (subst (λ c. Claim (span (left_to box x)) (span (left_to box y)) c) (sym k)
      (λ w f g h. record {
        whole = w;
        first = λ t. record { least = (f t).least; greatest = (f t).greatest };
        second = λ t. record { least = (g t).least; greatest = (g t).greatest };
        third = λ t. record { least = (h t).least; greatest = (h t).greatest };
      })))

-- a relation tests ranges alone
pub by_ranges : (r : Relation) (ls : Lefts) → refuted_as (meaning_in r) ls ≡ refuted_in r (range_at ls 0) (range_at ls 1) (range_at ls 2)
by_ranges AtMost ls = refl
by_ranges Below ls = refl
by_ranges Sum ls = refl
by_ranges Product ls = refl
by_ranges Lesser ls = refl
by_ranges Greater ls = refl

pub quiet_relation : (r : Relation) (takes : Takes) (c : Rule) (box : Box) → meaning_of c.pred ≡ meaning_in r → Distinct (variables_of c.args) → SparesThree (by_spans (refuted_in r)) (takes c) (arg_at c.args 0) (arg_at c.args 1) (arg_at c.args 2) box → SparesTaken takes c box
quiet_relation r takes c box e d s = quiet_three (meaning_in r) (by_spans (refuted_in r)) (by_ranges r) takes c box e d s

-- the sum of two numbers within the limit
pub sum_small : (a b : ℤ) → is_number a ≡ true → is_number b ≡ true → unsigned_abs (a +ℤ b) ≤ 10 ^ 10
sum_small a b h k =
    let m = leb-true (unsigned_abs a) 1000000000 h in
    let n = leb-true (unsigned_abs b) 1000000000 k in
    omega (arith, abs_sum a b, m, n)

-- the least or the greatest of four
pub of_four : (f : ℤ → ℤ → ℤ) (p q r s l m n a b c d : ℤ) → l ≡ f r s → m ≡ f q l → n ≡ f p m → p ≡ a → q ≡ b → r ≡ c → s ≡ d → n ≡ f a (f b (f c d))
of_four f p q r s l m n a b c d i j k pa qb rc sd = k ∙ (ap (λ z. f z m) pa ∙ ap (f a) (j ∙ (ap (λ z. f z l) qb ∙ ap (f b) (i ∙ (ap (λ z. f z s) rc ∙ ap (f c) sd)))))
