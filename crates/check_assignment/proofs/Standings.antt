-- What terms make of standings, one term after another.
use Rattle.std.proofs.Common.{◌≡◌, ◌∙◌, sym, ap, refl, subst, ◌<◌, ◌≤◌, ◌+◌, ◌*◌, ◌^◌, ℕ, zero, suc, Bool, true, false, not, ◌&&◌, ◌||◌, cond, List, [], ◌∷◌, length, take, set, get_or, slice_get, Some, arith, ℤ, inl, inr}
use Rattle.std.specs.Prelude.{pos, ◌+ℤ◌, ◌*ℤ◌, unsigned_abs}
use Rattle.std.specs.List.{list_all}
use Rattle.std.proofs.Math.IntN.{+ℤ_assoc, +ℤ_idr}
use Rattle.std.proofs.lemmas.Bool.{cases_eq, eq-eqb, ne_eqb}
use Rattle.std.proofs.lemmas.Int.{unsigned_abs-mul}
use Rattle.std.proofs.lemmas.List.{length-set, get_or-set_same}
use Rattle.std.proofs.lemmas.Option.{slice_get-get_or, get_or_from_slice_get}
use Rattle.std.proofs.Math.Nat.{mul-le-mul}
use Rattle.model_evaluation.proofs.Items.{abs_sum}
use Rattle.check_assignment.specs.declared.term.Term.{Term}
use Rattle.check_assignment.specs.declared.standing.Standing.{Standing}
use Rattle.check_assignment.specs.Terms.{is_term, factor_sum, names, moved}
use Rattle.check_assignment.specs.Keeping.{AreSmall}
use Rattle.check_assignment.proofs.TermSums.{factor_sum_more, names_more, plus_times, term_at, factors_small}

pub get_here : {X : Type 0} (xs : List X) (i : ℕ) (x : X) → i < length xs → slice_get (set xs i x) i ≡ Some x
get_here xs i x h = slice_get-get_or (set xs i x) i x (omega (arith, length-set xs i x)) ∙ ap Some (get_or-set_same xs i x x h)

pub get_other : {X : Type 0} (xs : List X) (i k : ℕ) (x : X) → (k ≡ i → ⊥) → slice_get (set xs i x) k ≡ slice_get xs k
get_other [] i k x h = refl
get_other (y ∷ xs) zero zero x h = absurd (h refl)
get_other (y ∷ xs) zero (suc k) x h = refl
get_other (y ∷ xs) (suc i) zero x h = refl
get_other (y ∷ xs) (suc i) (suc k) x h = get_other xs i k x (λ e. h (ap suc e))

-- what a term of the standing's own constraint makes of it
abbrev pub struck : ℤ → ℤ → Standing → Standing
struck factor step s = record { total = s.total +ℤ (factor *ℤ step); test = s.test; holds = false }

-- the standings now are the earlier ones, moved by the first j terms
abbrev pub AreMoved : List Standing → List Term → ℤ → ℕ → List Standing → Type 0
AreMoved old ts step j now = (k : ℕ) (s : Standing) → slice_get old k ≡ Some s → slice_get now k ≡ Some (moved (take j ts) k step s)

total_more : (a f g b : ℤ) → (a +ℤ ((f +ℤ g) *ℤ b)) ≡ ((a +ℤ (f *ℤ b)) +ℤ (g *ℤ b))
total_more a f g b = ap (λ z. a +ℤ z) (plus_times f g b) ∙ sym (+ℤ_assoc a (f *ℤ b) (g *ℤ b))

-- the standing of the term's constraint, and of any other
moved_here : (ts : List Term) (j : ℕ) (t : Term) (k : ℕ) (step : ℤ) (s : Standing) → j < length ts → (get_or ts j t).rule ≡ k →
    moved (take (j + 1) ts) k step s ≡ struck (get_or ts j t).factor step (moved (take j ts) k step s)
moved_here ts j t k step s h e =
    let u = get_or ts j t in
    let same = eq-eqb u.rule k e in
    let sum : factor_sum k (take (j + 1) ts) ≡ (factor_sum k (take j ts) +ℤ u.factor) = factor_sum_more k ts j t h ∙ ap (λ b. factor_sum k (take j ts) +ℤ cond b u.factor (pos 0)) same in
    let named : names k (take (j + 1) ts) ≡ true = names_more k ts j t h ∙ (ap (λ b. names k (take j ts) || b) same ∙ or_true (names k (take j ts))) in
    ap (λ z. record { total = s.total +ℤ (z *ℤ step); test = s.test; holds = s.holds && not (names k (take (j + 1) ts)) }) sum
    ∙ (ap (λ z. record { total = z; test = s.test; holds = s.holds && not (names k (take (j + 1) ts)) }) (total_more s.total (factor_sum k (take j ts)) u.factor step)
    ∙ ap (λ b. record { total = (s.total +ℤ (factor_sum k (take j ts) *ℤ step)) +ℤ (u.factor *ℤ step); test = s.test; holds = b }) (ap (λ b. s.holds && not b) named ∙ and_false s.holds))
  where
    or_true : (b : Bool) → (b || true) ≡ true
    or_true true = refl
    or_true false = refl

    and_false : (b : Bool) → (b && false) ≡ false
    and_false true = refl
    and_false false = refl

moved_other : (ts : List Term) (j : ℕ) (t : Term) (k : ℕ) (step : ℤ) (s : Standing) → j < length ts → ((get_or ts j t).rule ≡ k → ⊥) →
    moved (take (j + 1) ts) k step s ≡ moved (take j ts) k step s
moved_other ts j t k step s h e =
    let u = get_or ts j t in
    let apart = ne_eqb u.rule k e in
    let sum : factor_sum k (take (j + 1) ts) ≡ factor_sum k (take j ts) =
    factor_sum_more k ts j t h ∙ (ap (λ b. factor_sum k (take j ts) +ℤ cond b u.factor (pos 0)) apart ∙ +ℤ_idr (factor_sum k (take j ts))) in
    let named : names k (take (j + 1) ts) ≡ names k (take j ts) = names_more k ts j t h ∙ (ap (λ b. names k (take j ts) || b) apart ∙ or_false (names k (take j ts))) in
    ap (λ z. record { total = s.total +ℤ (z *ℤ step); test = s.test; holds = s.holds && not (names k (take (j + 1) ts)) }) sum
    ∙ ap (λ b. record { total = s.total +ℤ (factor_sum k (take j ts) *ℤ step); test = s.test; holds = s.holds && not b }) named
  where
    or_false : (b : Bool) → (b || false) ≡ b
    or_false true = refl
    or_false false = refl

-- the step of the loop over the terms, at constraint r
moved_once : (old now : List Standing) (ts : List Term) (step : ℤ) (j : ℕ) (t : Term) (d : Standing) (r : ℕ) (x : Standing) →
    AreMoved old ts step j now → j < length ts → r < length now → (get_or ts j t).rule ≡ r → x ≡ struck (get_or ts j t).factor step (get_or now r d) →
    AreMoved old ts step (j + 1) (set now r x)
moved_once old now ts step j t d r x are h within at is k s e = elim (cases_eq r k) [
  | inl same ↦ here same
  | inr apart ↦ get_other now r k x (λ q. apart (sym q)) ∙ (are k s e ∙ ap Some (sym (moved_other ts j t k step s h (λ q. apart (sym at ∙ q)))))
]
  where
    here : r ≡ k → slice_get (set now r x) k ≡ Some (moved (take (j + 1) ts) k step s)
    here same =
        let was : get_or now r d ≡ moved (take j ts) k step s = ap (λ i. get_or now i d) same ∙ get_or_from_slice_get now k (moved (take j ts) k step s) d (are k s e) in
        ap (slice_get (set now r x)) (sym same)
        ∙ (get_here now r x within ∙ (ap Some is ∙ (ap (λ z. Some (struck (get_or ts j t).factor step z)) was ∙ ap Some (sym (moved_here ts j t k step s h (at ∙ same))))))

pub moved_more : (old now : List Standing) (ts : List Term) (step : ℤ) (j : ℕ) (t : Term) (d : Standing) (x : Standing) →
    AreMoved old ts step j now → length now ≡ length old → list_all (is_term (length old)) ts ≡ true → j < length ts →
    x ≡ struck (get_or ts j t).factor step (get_or now (get_or ts j t).rule d) →
    AreMoved old ts step (j + 1) (set now (get_or ts j t).rule x)
moved_more old now ts step j t d x are l all h is =
    moved_once old now ts step j t d (get_or ts j t).rule x are h (omega (arith, l, (term_at (length old) ts j t all h).0)) refl is

-- what one term adds
pub product_small : (f b : ℤ) → unsigned_abs f ≤ 1000000000 → unsigned_abs b ≤ 2000000000 → unsigned_abs (f *ℤ b) ≤ 2 * 10 ^ 18
product_small f b p q = let m = mul-le-mul p q in omega (arith, unsigned_abs-mul f b, m)

pub grown_small : (a f b : ℤ) → unsigned_abs a ≤ 10 ^ 38 → unsigned_abs f ≤ 1000000000 → unsigned_abs b ≤ 2000000000 → unsigned_abs (a +ℤ (f *ℤ b)) ≤ 11 * 10 ^ 37
grown_small a f b o p q = omega (arith, abs_sum a (f *ℤ b), product_small f b p q, o)

-- a standing's balance on the way
pub total_small : (old now : List Standing) (ts : List Term) (step : ℤ) (j r : ℕ) (d : Standing) →
    AreMoved old ts step j now → AreSmall old → list_all (is_term (length old)) ts ≡ true → unsigned_abs step ≤ 2000000000 → r < length old → j < 2 ^ 64 →
    unsigned_abs (get_or now r d).total ≤ 10 ^ 38
total_small old now ts step j r d are small all far within few =
    let s = get_or old r d in
    let there = slice_get-get_or old r d within in
    let is = get_or_from_slice_get now r (moved (take j ts) r step s) d (are r s there) in
    let first = small r s there in
    let sum = factors_small (length old) r ts j all in
    let times = mul-le-mul sum far in
    let more = by s.total (factor_sum r (take j ts)) step first (omega (arith, unsigned_abs-mul (factor_sum r (take j ts)) step, times, few)) in
    subst (λ (z : Standing). unsigned_abs z.total ≤ 10 ^ 38) (sym is) more
  where
    by : (a f b : ℤ) → unsigned_abs a ≤ 10 ^ 22 → unsigned_abs (f *ℤ b) ≤ 37 * 10 ^ 36 → unsigned_abs (a +ℤ (f *ℤ b)) ≤ 10 ^ 38
    by a f b p q = omega (arith, abs_sum a (f *ℤ b), p, q)
