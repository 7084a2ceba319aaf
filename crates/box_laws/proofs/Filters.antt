-- What is kept of values, and what passes among items.
use Rattle.std.proofs.Common.{◌≡◌, ℕ, zero, suc, Bool, true, false, not, ◌&&◌, cond, List, [], ◌∷◌, take, drop, refl, ap, ◌∙◌, ℤ}
use Rattle.std.specs.Prelude.{filter}
use Rattle.std.specs.List.{list_all}
use Rattle.std.proofs.lemmas.Bool.{and_from}
use Rattle.qc_model.specs.Domains.{Values}
use Rattle.qc_model.proofs.Readable.{first, second}

-- twice in a row
pub filter_two : (p q : ℤ → Bool) (vs : Values) → filter q (filter p vs) ≡ filter (λ v. p v && q v) vs
filter_two p q [] = refl
filter_two p q (v ∷ vs) = by (p v) (filter_two p q vs)
  where
    again : (b : Bool) → filter q (filter p vs) ≡ filter (λ v. p v && q v) vs → cond b (v ∷ filter q (filter p vs)) (filter q (filter p vs)) ≡ cond b (v ∷ filter (λ v. p v && q v) vs) (filter (λ v. p v && q v) vs)
    again true e = ap (λ us. v ∷ us) e
    again false e = e

    by : (a : Bool) → filter q (filter p vs) ≡ filter (λ v. p v && q v) vs → filter q (cond a (v ∷ filter p vs) (filter p vs)) ≡ cond (a && q v) (v ∷ filter (λ v. p v && q v) vs) (filter (λ v. p v && q v) vs)
    by true e = again (q v) e
    by false e = e

-- tests that agree, on all values or on those that pass another
pub filter_same : (p q : ℤ → Bool) → ((v : ℤ) → p v ≡ q v) → (vs : Values) → filter p vs ≡ filter q vs
filter_same p q f [] = refl
filter_same p q f (v ∷ vs) = ap (λ b. cond b (v ∷ filter p vs) (filter p vs)) (f v) ∙ ap (λ us. cond (q v) (v ∷ us) us) (filter_same p q f vs)

pub filter_agree : (r p q : ℤ → Bool) → ((v : ℤ) → r v ≡ true → p v ≡ q v) → (vs : Values) → list_all r vs ≡ true → filter p vs ≡ filter q vs
filter_agree r p q f [] h = refl
filter_agree r p q f (v ∷ vs) h =
    ap (λ b. cond b (v ∷ filter p vs) (filter p vs)) (f v (first (r v) (list_all r vs) h)) ∙ ap (λ us. cond (q v) (v ∷ us) us) (filter_agree r p q f vs (second (r v) (list_all r vs) h))

-- where none passes, and where all do
pub filter_none : (p : ℤ → Bool) (vs : Values) → list_all (λ v. not (p v)) vs ≡ true → filter p vs ≡ []
filter_none p [] h = refl
filter_none p (v ∷ vs) h = by (p v) (first (not (p v)) (list_all (λ v. not (p v)) vs) h) (filter_none p vs (second (not (p v)) (list_all (λ v. not (p v)) vs) h))
  where
    by : (b : Bool) → not b ≡ true → filter p vs ≡ [] → cond b (v ∷ filter p vs) (filter p vs) ≡ []
    by true e f = cc
    by false e f = f

pub filter_all : (p : ℤ → Bool) (vs : Values) → list_all p vs ≡ true → filter p vs ≡ vs
filter_all p [] h = refl
filter_all p (v ∷ vs) h = ap (λ b. cond b (v ∷ filter p vs) (filter p vs)) (first (p v) (list_all p vs) h) ∙ ap (λ us. v ∷ us) (filter_all p vs (second (p v) (list_all p vs) h))

pub all_weaker : (p q : ℤ → Bool) → ((v : ℤ) → p v ≡ true → q v ≡ true) → (vs : Values) → list_all p vs ≡ true → list_all q vs ≡ true
all_weaker p q f [] h = refl
all_weaker p q f (v ∷ vs) h = and_from (q v) (list_all q vs) (f v (first (p v) (list_all p vs) h)) (all_weaker p q f vs (second (p v) (list_all p vs) h))

-- some of the items that all pass
pub all_filter : {X : Type 0} (p q : X → Bool) (xs : List X) → list_all p xs ≡ true → list_all p (filter q xs) ≡ true
all_filter p q [] h = refl
all_filter p q (x ∷ xs) h = by (q x) (all_filter p q xs (second (p x) (list_all p xs) h))
  where
    by : (b : Bool) → list_all p (filter q xs) ≡ true → list_all p (cond b (x ∷ filter q xs) (filter q xs)) ≡ true
    by true k = and_from (p x) (list_all p (filter q xs)) (first (p x) (list_all p xs) h) k
    by false k = k

pub all_take : {X : Type 0} (p : X → Bool) (n : ℕ) (xs : List X) → list_all p xs ≡ true → list_all p (take n xs) ≡ true
all_take p zero xs h = refl
all_take p (suc n) [] h = refl
all_take p (suc n) (x ∷ xs) h = and_from (p x) (list_all p (take n xs)) (first (p x) (list_all p xs) h) (all_take p n xs (second (p x) (list_all p xs) h))

pub all_drop : {X : Type 0} (p : X → Bool) (n : ℕ) (xs : List X) → list_all p xs ≡ true → list_all p (drop n xs) ≡ true
all_drop p zero xs h = h
all_drop p (suc n) [] h = refl
all_drop p (suc n) (x ∷ xs) h = all_drop p n xs (second (p x) (list_all p xs) h)
