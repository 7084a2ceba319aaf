use Rattle.std.proofs.Common.{◌≡◌, ◌∙◌, ◌++◌, ◌∷◌, [], ℕ, zero, suc, length, refl, ap, arith}
use Rattle.std.specs.Prelude.{replicate}
use Rattle.std.proofs.lemmas.List.{length-replicate, replicate_more}
use Rattle.check_assignment.specs.Terms.{terms_at}
use Rattle.check_assignment.proofs.terms.Terms.new.Goals as goal

-- where no variable has terms, x has none
none_at : (n x : ℕ) → terms_at (replicate n []) x ≡ []
none_at zero x = refl
none_at (suc n) zero = refl
none_at (suc n) (suc x) = none_at n x

pub loop-preserved : goal.loop-preserved
loop-preserved c =
    c.in_ok-push.ensures.items
    ∙ ap (λ ts. c.loop.lists.items ++ ts ∷ []) c.new.ensures.items
    ∙ ap (λ lists. lists ++ [] ∷ []) c.loop.invariant
    ∙ replicate_more c.loop.counter []

pub returns-clause-count : goal.returns-clause-count
returns-clause-count c =
    let all : c.loop.counter ≡ c.args.count = omega arith in
    ap length c.loop.invariant ∙ length-replicate c.loop.counter [] ∙ all

pub returns-clause-empty : goal.returns-clause-empty
returns-clause-empty c = λ x. ap (λ lists. terms_at lists x) c.loop.invariant ∙ none_at c.loop.counter x
