-- What is known of a sum tells of its constraint.
use Rattle.std.proofs.Common.{◌≡◌, ◌∙◌, ℕ, Bool, List, [], sym, ap, Option, Some, None}
use Rattle.std.specs.Prelude.{int_le, ◌&&◌}
use Rattle.qc_model.specs.declared.problem.Arg.{Arg}
use Rattle.qc_model.specs.Content.{Game}
use Rattle.qc_model.specs.Domains.{Box}
use Rattle.qc_model.specs.Ranges.{Range, range_of}
use Rattle.lemma_list.specs.declared.lemma.SumLiteral.{SumLiteral}
use Rattle.lemma_list.specs.Lemmas.{Lemma}
use Rattle.lemma_list.specs.Sums.{Linear, sum_known, last_scope, linear_refuted, linear_entailed, refuted_by_sums, entailed_by_sums, sum_shown}
use Rattle.lemma_reasons.specs.declared.sums.Given.{Given}
use Rattle.lemma_reasons.specs.declared.sums.Sum.{Sum}
use Rattle.lemma_reasons.specs.Known.{IsKnown, compared}

-- the sums of a lemma, asked for a constraint
pub record AreGiven (g : Game) (m : Lemma) (k : ℕ) (q : Given) : Type 0 where
  pub sums : q.sums.now ≡ m.sums
  pub scope : q.scope ≡ last_scope g m
  pub number : q.c.0 ≡ k

module _ (g : Game) (m : Lemma) (k : ℕ) (q : Given) (a : AreGiven g m k q) (box : Box) where
  pub same_range : (t : Option ℕ) (l : Linear) → sum_known g q.scope q.sums.now q.c.0 t l box ≡ sum_known g (last_scope g m) m.sums k t l box
  same_range t l =
      ap (λ i. sum_known g i q.sums.now q.c.0 t l box) a.scope
      ∙ (ap (λ (zs : List SumLiteral). sum_known g (last_scope g m) zs q.c.0 t l box) a.sums
      ∙ ap (λ n. sum_known g (last_scope g m) m.sums n t l box) a.number)

  abbrev bare : Bool → Arg → Linear
  bare e b = record { is_equal = e; factors = []; items = []; bound = b }

  -- whatever looks at a sum's range, and at what it is compared with, alone
  by_known : {X : Type 0} (f : Bool → Arg → Range → X) (t : Option ℕ) (l : Linear) (s : Sum) → IsKnown g q t box (Some l) s →
      f s.is_equal s.bound (range_of s.from s.to) ≡ f l.is_equal l.bound (sum_known g (last_scope g m) m.sums k t l box)
  by_known f t l s h =
      ap (λ (e : Bool). f e s.bound (range_of s.from s.to)) (sym h.0)
      ∙ (ap (λ (b : Arg). f l.is_equal b (range_of s.from s.to)) (sym h.1)
      ∙ ap (f l.is_equal l.bound) (h.2 ∙ same_range t l))

  pub told_refuted : (o : Option Linear) (s : Sum) → IsKnown g q None box o s → linear_refuted (compared s) (range_of s.from s.to) box ≡ refuted_by_sums g m k o box
  told_refuted None s h = absurd h
  told_refuted (Some l) s h = by_known (λ e b r. linear_refuted (bare e b) r box) None l s h

  pub told_entailed : (o : Option Linear) (s : Sum) → IsKnown g q None box o s → linear_entailed (compared s) (range_of s.from s.to) box ≡ entailed_by_sums g m k o box
  told_entailed None s h = absurd h
  told_entailed (Some l) s h = by_known (λ e b r. linear_entailed (bare e b) r box) None l s h

  pub told_shown : (t : ℕ) (z : SumLiteral) → z.c.0 ≡ k → (o : Option Linear) (s : Sum) → IsKnown g q (Some t) box o s → (int_le z.lo s.from && int_le s.to z.hi) ≡ sum_shown g m t box z o
  told_shown t z e None s h = absurd h
  told_shown t z e (Some l) s h =
      by_known (λ i b r. int_le z.lo r.from && int_le r.to z.hi) (Some t) l s h
      ∙ ap (λ n. int_le z.lo (sum_known g (last_scope g m) m.sums n (Some t) l box).from && int_le (sum_known g (last_scope g m) m.sums n (Some t) l box).to z.hi) (sym e)
