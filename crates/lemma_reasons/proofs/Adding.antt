-- Terms of a sum, one by one.
use Rattle.std.proofs.Common.{◌≡◌, ◌⊎◌, inl, inr, ℕ, ◌+◌, ◌<◌, ◌≤◌, Bool, true, false, cond, List, [], ◌∷◌, length, map, drop, get_or, refl, sym, ap, ◌∙◌, arith, ℤ, Option, Some, None, ◌^◌}
use Rattle.std.specs.Prelude.{pos, ◌+ℤ◌, ◌==◌, unsigned_abs, ◌||◌}
use Rattle.std.specs.List.{list_any}
use mir.Val.{SFits}
use mir.Syntax.{w64, w128}
use Rattle.std.proofs.lemmas.Int.{fits_signed_from_abs}
use Rattle.qc_refuter.proofs.Terms.{abs_sum}
use Rattle.std.proofs.lemmas.Int.{ints}
use Rattle.std.proofs.lemmas.List.{at_drop_more, at_drop_all}
use Rattle.qc_model.specs.declared.problem.Arg.{Arg}
use Rattle.qc_model.specs.Domains.{Box}
use Rattle.qc_model.specs.Left.{span, sum_range}
use Rattle.qc_model.specs.Ranges.{Range, range_of, point, product, range_sum}
use Rattle.qc_model.specs.Refuted.{left_to}
use Rattle.qc_model.specs.Content.{Game}
use Rattle.lemma_list.specs.declared.lemma.SumLiteral.{SumLiteral}
use Rattle.lemma_list.specs.Sums.{Linear, common, counts, sum_known, terms_range}
use Rattle.lemma_reasons.specs.Steps.{is_counted}
use Rattle.lemma_reasons.specs.Terms.{with_all}

zero_more : (a : ℤ) → a +ℤ pos 0 ≡ a
zero_more a = omega (arith, ints)

-- a sum of one term
one_term : (r : Range) → range_sum r (point (pos 0)) ≡ r
one_term r = ap (λ z. range_of z (r.to +ℤ pos 0)) (zero_more r.from) ∙ ap (range_of r.from) (zero_more r.to)

-- a term that counts
pub counted : (x r : Range) (b : Bool) → x ≡ range_sum r (point (pos 0)) → true ≡ b → x ≡ cond b r (point (pos 0))
counted x r b e f = e ∙ (one_term r ∙ ap (λ t. cond t r (point (pos 0))) f)

abbrev pub term_of : (Arg → Bool) → Box → ℤ → Arg → Range
term_of p box n x = cond (p x) (product (point n) (span (left_to box x))) (point (pos 0))

pub terms_step : (p : Arg → Bool) (box : Box) (ns : List ℤ) (xs : List Arg) (k : ℕ) (a : Arg) → k < length ns → k < length xs →
    terms_range p (drop k ns) (drop k xs) box ≡ range_sum (term_of p box (get_or ns k (pos 0)) (get_or xs k a)) (terms_range p (drop (k + 1) ns) (drop (k + 1) xs) box)
terms_step p box ns xs k a h m =
    at_drop_more (λ l. terms_range p l (drop k xs) box) ns k (pos 0) h
    ∙ at_drop_more (λ l. terms_range p (get_or ns k (pos 0) ∷ drop (k + 1) ns) l box) xs k a m

no_terms : (p : Arg → Bool) (box : Box) (ns : List ℤ) → terms_range p ns [] box ≡ point (pos 0)
no_terms p box [] = refl
no_terms p box (n ∷ ns) = refl

pub terms_end : (p : Arg → Bool) (box : Box) (ns : List ℤ) (xs : List Arg) (k : ℕ) → (length ns ≤ k) ⊎ (length xs ≤ k) → terms_range p (drop k ns) (drop k xs) box ≡ point (pos 0)
terms_end p box ns xs k (inl h) = at_drop_all (λ l. terms_range p l (drop k xs) box) ns k h
terms_end p box ns xs k (inr h) = at_drop_all (λ l. terms_range p (drop k ns) l box) xs k h ∙ no_terms p box (drop k ns)

-- an end of a sum's range, and what the terms beyond it come to
pub wide : (v : ℤ) → SFits w64 v → SFits w128 v
wide v f = fits_signed_from_abs w128 v (small v f)
  where
    small : (v : ℤ) → SFits w64 v → unsigned_abs v < 2 ^ 127
    small v f = omega (arith, ints, f)

pub end_fits : (v b : ℤ) → SFits w64 v → unsigned_abs b ≤ 10 ^ 24 → SFits w128 (v +ℤ b)
end_fits v b f h = fits_signed_from_abs w128 (v +ℤ b) (omega (arith, abs_sum v b, small v f, h))
  where
    small : (v : ℤ) → SFits w64 v → unsigned_abs v ≤ 2 ^ 63
    small v f = omega (arith, ints, f)

-- from sum to sum, the last one first
pub with_start : (sums : List SumLiteral) (k : ℕ) (b known : Range) → known ≡ with_all (drop (length sums) sums) k b known
with_start sums k b known = sym (at_drop_all (λ l. with_all l k b known) sums (length sums) (omega arith))

pub with_step : (sums : List SumLiteral) (n next : ℕ) (z : SumLiteral) (k : ℕ) (b known now new : Range) → n < length sums → next ≡ n + 1 → now ≡ with_all (drop next sums) k b known →
    new ≡ cond ((get_or sums n z).c.0 == k) (common (range_sum (range_of (get_or sums n z).lo (get_or sums n z).hi) b) now) now → new ≡ with_all (drop n sums) k b known
with_step sums n next z k b known now new h q e f =
    let y = get_or sums n z in
    f ∙ (ap (λ r. cond (y.c.0 == k) (common (range_sum (range_of y.lo y.hi) b) r) r) (e ∙ ap (λ i. with_all (drop i sums) k b known) q) ∙ sym (at_drop_more (λ l. with_all l k b known) sums n z h))

pub none_own : (sums : List SumLiteral) (k : ℕ) (b known : Range) → list_any (λ z. z.c.0 == k) sums ≡ false → with_all sums k b known ≡ known
none_own [] k b known e = refl
none_own (z ∷ sums) k b known e =
    let r = neither (z.c.0 == k) (list_any (λ y. y.c.0 == k) sums) e in
    ap (λ t. cond t (common (range_sum (range_of z.lo z.hi) b) (with_all sums k b known)) (with_all sums k b known)) r.0 ∙ none_own sums k b known r.1
  where
    neither : (a b : Bool) → (a || b) ≡ false → (a ≡ false) × (b ≡ false)
    neither true b e = cc
    neither false b e = (refl, e)

pub all_known : (g : Game) (i : ℕ) (sums : List SumLiteral) (k : ℕ) (t : Option ℕ) (l : Linear) (box : Box) →
    with_all sums k (terms_range (is_counted g t (Some i)) l.factors l.items box) (terms_range (is_counted g t None) l.factors l.items box) ≡ sum_known g i sums k t l box
all_known g i [] k t l box = refl
all_known g i (z ∷ sums) k t l box =
    let b = terms_range (is_counted g t (Some i)) l.factors l.items box in
    ap (λ r. cond (z.c.0 == k) (common (range_sum (range_of z.lo z.hi) b) r) r) (all_known g i sums k t l box)

-- all terms
pub terms_all : (g : Game) (box : Box) (ns : List ℤ) (xs : List Arg) → sum_range ns (map (left_to box) xs) ≡ terms_range (counts g None) ns xs box
terms_all g box [] xs = refl
terms_all g box (n ∷ ns) [] = refl
terms_all g box (n ∷ ns) (x ∷ xs) = ap (range_sum (product (point n) (span (left_to box x)))) (terms_all g box ns xs)
