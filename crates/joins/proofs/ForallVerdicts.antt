-- The verdict by what a universal join keeps is that of the leaves.
use Rattle.std.proofs.Common.{◌≡◌, ℕ, Bool, true, false, not, ◌&&◌, cond, Option, Some, None, List, [], ◌∷◌, map, refl, sym, ap, ◌∙◌}
use Rattle.std.specs.Prelude.{ℤ, pos, slice_get, slice_index_or}
use Rattle.qc_model.specs.declared.problem.Sense.{Sense}
use Rattle.qc_model.specs.declared.problem.Sense.TheVariants.{Min, Max}
use Rattle.qc_model.specs.declared.problem.Fold.{Fold}
use Rattle.qc_model.specs.declared.problem.Fold.TheVariants.{Sum, Least, Greatest}
use Rattle.qc_model.specs.declared.problem.Target.{Target}
use Rattle.qc_model.specs.declared.problem.Target.TheVariants.{Var, Aggregate as Agg}
use Rattle.qc_model.specs.declared.problem.Aggregate.{Aggregate}
use Rattle.qc_model.specs.declared.problem.Condition.{Condition}
use Rattle.qc_model.specs.Content.{Game}
use Rattle.qc_model.specs.Value.{fold_of, aggregate_fold}
use Rattle.qc_model.specs.Demands.{place_of}
use Rattle.qc_model.specs.Verdict.{Verdict, lost, exact, at_most, unknown, Seen, is_lost, is_exact, some_node, each_node, exact_vectors, is_none_of}
use Rattle.qc_model.specs.ForallVerdict.{entry_value, entry_values, numbers_for, known_numbers, is_known, one_sided, first_entry_bound, bounded_forall, forall_verdict}
use Rattle.qc_model.specs.ForallVerdict.{fold_bound as bound_by_fold}
use Rattle.joins.specs.declared.columns.Source.{Source}
use Rattle.joins.specs.declared.columns.Column.{Column}
use Rattle.joins.specs.Columns.{total_of, TotalsAre, known_by, known_of, folded_at, source_of, sources_of, first_sense, value_by, values_by, side_by, bound_by, bounded_by, is_one_sided, side_of_fold, side_bound, side_by_source, side_by_columns}
use Rattle.joins.specs.ForallJoin.{Gathers}

value_folded : (o : Option Aggregate) (k : ℕ) (s : Source) (t : ℤ) (a : List ℤ) (ws : List (List ℤ)) → s ≡ folded_at o k → t ≡ total_of s ws →
    value_by a s t ≡ aggregate_fold o (map (λ w. slice_index_or w k (pos 0)) ws)
value_folded None k s t a ws e h = ap (λ (z : Source). value_by a z t) e
value_folded (Some p) k s t a ws e h =
    ap (λ (z : Source). value_by a z t) e ∙ h ∙ ap (λ (z : Source). total_of z ws) e

value_is : (g : Game) (d : List Condition) (x : Target) (s : Source) (t : ℤ) (a : List ℤ) (ws : List (List ℤ)) → s ≡ source_of g d x → t ≡ total_of s ws →
    value_by a s t ≡ entry_value g a (numbers_for d ws) x
value_is g d (Var x) s t a ws e h = ap (λ (z : Source). value_by a z t) e
value_is g d (Agg q) s t a ws e h = value_folded (slice_get g.aggregates q.0) (place_of q.0 d) s t a ws e h

values_among : (g : Game) (d e : List Condition) (a : List ℤ) (ws : List (List ℤ)) (cs : List Column) → map (λ c. c.source) cs ≡ map (λ c. source_of g d c.target) e → TotalsAre ws cs →
    values_by a cs ≡ map (λ c. entry_value g a (numbers_for d ws) c.target) e
values_among g d [] a ws [] q t = refl
values_among g d [] a ws (c ∷ cs) q t = cc
values_among g d (x ∷ e) a ws [] q t = cc
values_among g d (x ∷ e) a ws (c ∷ cs) q t =
    let h : c.source ≡ source_of g d x.target = cc in
    let r : map (λ c. c.source) cs ≡ map (λ c. source_of g d c.target) e = cc in
    ap (λ (z : ℤ). z ∷ values_by a cs) (value_is g d x.target c.source c.total a ws h t.0)
    ∙ ap (λ (zs : List ℤ). entry_value g a (numbers_for d ws) x.target ∷ zs) (values_among g d e a ws cs r t.1)

pub side_is : (s : Sense) (p : Aggregate) (ns : List ℤ) → cond (not (is_none_of ns)) (side_by s p.fold (fold_of p.fold ns)) unknown ≡ one_sided s (Some p) ns
side_is s p [] = refl
side_is s p (n ∷ ns) = by s p.fold
  where
    by : (s : Sense) (f : Fold) → side_by s f (fold_of f (n ∷ ns)) ≡ bound_by_fold s f n ns
    by Min Sum = refl
    by Min (Least e) = refl
    by Min (Greatest e) = refl
    by Max Sum = refl
    by Max (Least e) = refl
    by Max (Greatest e) = refl

bound_folded : (o : Option Aggregate) (k : ℕ) (s : Sense) (c : Source) (b : Bool) (n : ℤ) (ns : List ℤ) → c ≡ folded_at o k → n ≡ known_by c ns →
    bound_by s c b (not (is_none_of ns)) n ≡ cond b (at_most (aggregate_fold o ns)) (one_sided s o ns)
bound_folded None k s c b n ns e h = ap (λ (z : Source). bound_by s z b (not (is_none_of ns)) n) e
bound_folded (Some p) k s c b n ns e h =
    let q : n ≡ fold_of p.fold ns = h ∙ ap (λ (z : Source). known_by z ns) e in
    ap (λ (z : Source). bound_by s z b (not (is_none_of ns)) n) e
    ∙ ap (λ (z : ℤ). cond b (at_most z) (cond (not (is_none_of ns)) (side_by s p.fold z) unknown)) q
    ∙ ap (λ (z : Verdict). cond b (at_most (fold_of p.fold ns)) z) (side_is s p ns)

bound_is : (g : Game) (d : List Condition) (x : Target) (s : Sense) (c : Source) (n : ℤ) (xs : List Seen) → c ≡ source_of g d x → n ≡ known_by c (known_numbers xs) →
    bound_by s c (each_node is_known xs) (not (is_none_of (known_numbers xs))) n ≡ first_entry_bound g s x xs
bound_is g d (Var x) s c n xs e h = ap (λ (z : Source). bound_by s z (each_node is_known xs) (not (is_none_of (known_numbers xs))) n) e
bound_is g d (Agg q) s c n xs e h = bound_folded (slice_get g.aggregates q.0) (place_of q.0 d) s c (each_node is_known xs) n (known_numbers xs) e h

bounded_is : (g : Game) (d e : List Condition) (cs : List Column) (n : ℤ) (xs : List Seen) → map (λ c. c.source) cs ≡ map (λ c. source_of g d c.target) e → n ≡ known_of cs (known_numbers xs) →
    bounded_by (first_sense e) cs (each_node is_known xs) (not (is_none_of (known_numbers xs))) n ≡ bounded_forall g e xs
bounded_is g d [] [] n xs q h = refl
bounded_is g d [] (c ∷ cs) n xs q h = cc
bounded_is g d (x ∷ e) [] n xs q h = cc
bounded_is g d (x ∷ e) (c ∷ cs) n xs q h =
    let r : c.source ≡ source_of g d x.target = cc in
    bound_is g d x.target x.sense c.source n xs r h

bounded_kept : (g : Game) (d : List Condition) (s : Sense) (cs : List Column) (l e k h a : Bool) (t : ℤ) (xs : List Seen) → map (λ c. c.source) cs ≡ sources_of g d → s ≡ first_sense d → Gathers cs l e k h a t xs →
    bounded_by s cs k a t ≡ bounded_forall g d xs
bounded_kept g d s cs l e k h a t xs q r w =
    ap (λ (z : Sense). bounded_by z cs k a t) r
    ∙ ap (λ (z : Bool). bounded_by (first_sense d) cs z a t) w.all_known_is
    ∙ ap (λ (z : Bool). bounded_by (first_sense d) cs (each_node is_known xs) z t) w.any_known_is
    ∙ bounded_is g d d cs t xs q w.known_is

-- the bound that the leaves give by themselves
number_folded : (o : Option Aggregate) (k : ℕ) (s : Sense) (c : Source) (n : ℤ) (ns : List ℤ) → c ≡ folded_at o k → n ≡ known_by c ns → side_by_source s c (not (is_none_of ns)) n ≡ side_of_fold s o ns
number_folded None k s c n ns e h = ap (λ (z : Source). side_by_source s z (not (is_none_of ns)) n) e
number_folded (Some p) k s c n ns e h =
    let q : n ≡ fold_of p.fold ns = h ∙ ap (λ (z : Source). known_by z ns) e in
    ap (λ (z : Source). side_by_source s z (not (is_none_of ns)) n) e
    ∙ ap (λ (z : ℤ). cond (not (is_none_of ns) && is_one_sided s p.fold) (Some z) None) q

number_is : (g : Game) (d e : List Condition) (cs : List Column) (n : ℤ) (ns : List ℤ) → map (λ c. c.source) cs ≡ map (λ c. source_of g d c.target) e → n ≡ known_of cs ns →
    side_by_columns (first_sense e) cs (not (is_none_of ns)) n ≡ side_bound g e ns
number_is g d [] [] n ns q h = refl
number_is g d [] (c ∷ cs) n ns q h = cc
number_is g d (x ∷ e) [] n ns q h = cc
number_is g d (x ∷ e) (c ∷ cs) n ns q h =
    let r : c.source ≡ source_of g d x.target = cc in
    by x.target r
  where
    by : (y : Target) → c.source ≡ source_of g d y → side_by_source x.sense c.source (not (is_none_of ns)) n ≡ side_bound g (record { sense = x.sense; target = y } ∷ e) ns
    by (Var v) r = ap (λ (z : Source). side_by_source x.sense z (not (is_none_of ns)) n) r
    by (Agg q) r = number_folded (slice_get g.aggregates q.0) (place_of q.0 d) x.sense c.source n ns r h

pub side_is_bound : (g : Game) (d : List Condition) (s : Sense) (cs : List Column) (l e k h a : Bool) (t : ℤ) (xs : List Seen) → map (λ c. c.source) cs ≡ sources_of g d → s ≡ first_sense d → Gathers cs l e k h a t xs →
    side_by_columns s cs a t ≡ side_bound g d (known_numbers xs)
side_is_bound g d s cs l e k h a t xs q r w =
    ap (λ (z : Sense). side_by_columns z cs a t) r
    ∙ ap (λ (z : Bool). side_by_columns (first_sense d) cs z t) w.any_known_is
    ∙ number_is g d d cs t (known_numbers xs) q w.known_is

cond_true : (b : Bool) (x y : Verdict) → b ≡ true → x ≡ cond b x y
cond_true true x y e = refl
cond_true false x y e = cc

cond_false : (b : Bool) (x y : Verdict) → b ≡ false → y ≡ cond b x y
cond_false true x y e = cc
cond_false false x y e = refl

pub lost_is : (g : Game) (d : List Condition) (v : List ℤ) (cs : List Column) (l e k h a : Bool) (t : ℤ) (xs : List Seen) → l ≡ true → Gathers cs l e k h a t xs →
    lost ≡ forall_verdict g d v xs
lost_is g d v cs l e k h a t xs b w =
    cond_true (some_node is_lost xs) lost (cond (each_node is_exact xs) (exact (entry_values g d v (numbers_for d (exact_vectors xs)))) (bounded_forall g d xs)) (sym w.any_lost_is ∙ b)

pub exact_is : (g : Game) (d : List Condition) (v : List ℤ) (cs : List Column) (l e k h a : Bool) (t : ℤ) (xs : List Seen) → l ≡ false → e ≡ true → map (λ c. c.source) cs ≡ sources_of g d → Gathers cs l e k h a t xs →
    exact (values_by v cs) ≡ forall_verdict g d v xs
exact_is g d v cs l e k h a t xs b p q w =
    let x = entry_values g d v (numbers_for d (exact_vectors xs)) in
    ap exact (values_among g d d v (exact_vectors xs) cs q w.totals)
    ∙ cond_true (each_node is_exact xs) (exact x) (bounded_forall g d xs) (sym w.all_exact_is ∙ p)
    ∙ cond_false (some_node is_lost xs) lost (cond (each_node is_exact xs) (exact x) (bounded_forall g d xs)) (sym w.any_lost_is ∙ b)

pub bound_of : (g : Game) (d : List Condition) (v : List ℤ) (s : Sense) (cs : List Column) (l e k h a : Bool) (t : ℤ) (xs : List Seen) → l ≡ false → e ≡ false → map (λ c. c.source) cs ≡ sources_of g d → s ≡ first_sense d → Gathers cs l e k h a t xs →
    bounded_by s cs k a t ≡ forall_verdict g d v xs
bound_of g d v s cs l e k h a t xs b p q r w =
    let x = entry_values g d v (numbers_for d (exact_vectors xs)) in
    bounded_kept g d s cs l e k h a t xs q r w
    ∙ cond_false (each_node is_exact xs) (exact x) (bounded_forall g d xs) (sym w.all_exact_is ∙ p)
    ∙ cond_false (some_node is_lost xs) lost (cond (each_node is_exact xs) (exact x) (bounded_forall g d xs)) (sym w.any_lost_is ∙ b)
