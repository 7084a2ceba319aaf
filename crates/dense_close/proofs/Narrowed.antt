-- What a closing leaves as it goes on, and which constraints keep it.
use Rattle.std.proofs.Common.{◌≡◌, ◌≢◌, ℕ, zero, suc, ◌==◌, Bool, true, false, not, ◌&&◌, ◌||◌, cond, List, [], ◌∷◌, length, set, refl, sym, ap, ◌∙◌, subst, arith, ℤ}
use Rattle.std.specs.Prelude.{slice_get, Some}
use Rattle.std.specs.List.{list_all}
use Rattle.std.proofs.lemmas.List.{length-set}
use Rattle.std.proofs.lemmas.Bool.{not_from_false, false_from_ne_true, and_from}
use Rattle.qc_model.specs.Arguments.{variables_of}
use Rattle.qc_model.specs.Block.{is_owned_within}
use Rattle.qc_model.specs.Closed.{refutes_at}
use Rattle.qc_model.specs.Content.{Game, Rule}
use Rattle.qc_model.specs.Domains.{Values, Box, declared_box, values_left, box_at, has_value, has_empty, is_sub_box, is_single, least_value, greatest_value}
use Rattle.qc_model.specs.Lists.{Among}
use Rattle.qc_model.specs.Refuted.{refuted_by}
use Rattle.qc_model.specs.Valid.{IsValid}
use Rattle.qc_model.specs.Visible.{ArgumentsBelow}
use Rattle.qc_model.proofs.Readable.{first}
use Rattle.model_arguments.specs.Asked.{is_box_of}
use Rattle.model_arguments.proofs.Bools.{clash}
use Rattle.model_arguments.proofs.Boxes.{set_full, set_same}
use Rattle.model_levels.specs.Spans.{is_between, is_rule_within, IsSpanOf}
use Rattle.model_table.proofs.Fits.{all_at, any_from}
use Rattle.model_table.proofs.Smaller.{valid_smaller}
use Rattle.proof_alike.specs.Alike.{is_among}
use Rattle.proof_alike.proofs.ByValue.{same_by_value}
use Rattle.proof_alike.proofs.Filling.{same_number}
use Rattle.dense_closing.specs.Takes.{Takes, keeps_at, keeps_box}
use Rattle.dense_closing.proofs.Own.{own_of, rule_below}
use Rattle.dense_closing.proofs.Within.{sub_self, sub_set}
use Rattle.dense_quiet.specs.declared.taking.Taking.{Taking}
use Rattle.dense_close.specs.Cutting.{IsCut}
use Rattle.dense_close.specs.Index.{Index, has_it, IsIndexOf}
use Rattle.dense_close.specs.Narrowing.{IsNarrowed, OthersSettled, spares}
use Rattle.dense_quiet.specs.Taking.{takes_of}
use Rattle.dense_close.specs.Waiting.{Waiting, is_marked}
use Rattle.dense_close.proofs.Own.{all_if}

pub narrowed_more : (t : Taking) (g : Game) (i stop : ℕ) (a b c : Box) → IsNarrowed t g i stop a b → IsNarrowed t g i stop b c → IsNarrowed t g i stop a c
narrowed_more t g i stop a b c p q = record { fewer = λ large h. q.fewer large (p.fewer large h); around = λ small s k. q.around small (p.around small s k) k }

-- a constraint of the span is of its scopes
pub owned_by : (g : Game) (i stop first end k : ℕ) (c : Rule) → IsSpanOf g i stop first end → is_between first end k ≡ true → slice_get g.constraints k ≡ Some c → is_owned_within i stop c ≡ true
owned_by g i stop first end k c s b e = sym (s.numbers k ∙ ap (is_rule_within i stop) e) ∙ b

pub between_of : (g : Game) (i stop first end k : ℕ) (c : Rule) → IsSpanOf g i stop first end → is_owned_within i stop c ≡ true → slice_get g.constraints k ≡ Some c → is_between first end k ≡ true
between_of g i stop first end k c s o e = (s.numbers k ∙ ap (is_rule_within i stop) e) ∙ o

-- a constraint sees its own variables alone
pub among_is : (xs : List ℕ) (x : ℕ) → Among x xs → is_among xs x ≡ true
among_is xs x m = any_from (λ y. y == x) xs x m (same_number x)

set_both : (b d : Box) (x y : ℕ) (us : Values) → length b ≡ length d → values_left b y ≡ values_left d y → values_left (set b x us) y ≡ values_left (set d x us) y
set_both [] [] x y us l h = refl
set_both [] (e ∷ d) x y us l h = cc
set_both (e ∷ b) [] x y us l h = cc
set_both (e ∷ b) (f ∷ d) zero zero us l h = refl
set_both (e ∷ b) (f ∷ d) zero (suc y) us l h = h
set_both (e ∷ b) (f ∷ d) (suc x) zero us l h = h
set_both (e ∷ b) (f ∷ d) (suc x) (suc y) us l h = set_both b d x y us (omega (arith, l)) h

-- so it keeps a box in which they have the same
module _ (g : Game) (c : Rule) (b d : Box) (l : length b ≡ length d) (h : (y : ℕ) → is_among (variables_of c.args) y ≡ true → values_left b y ≡ values_left d y) where
  same_at : (x : ℕ) (v : ℤ) → refutes_at c b x v ≡ refutes_at c d x v
  same_at x v = (same_by_value g 0 c (box_at b x v) (box_at d x v) (λ y m. set_both b d x y (v ∷ []) l (h y m))).refutes

  same_whole : refuted_by c b ≡ refuted_by c d
  same_whole = (same_by_value g 0 c b d h).refutes

  tests_same : (t p q r s u v : Bool) → p ≡ q → r ≡ s → u ≡ v → cond t (not p && not r) (not u) ≡ cond t (not q && not s) (not v)
  tests_same t p q r s u v e f k = ap (λ z. cond t (not z && not r) (not u)) e ∙ (ap (λ z. cond t (not q && not z) (not u)) f ∙ ap (λ z. cond t (not q && not s) (not z)) k)

  pub keeps_same : (takes : Takes) → keeps_box takes d c ≡ true → keeps_box takes b c ≡ true
  keeps_same takes k =
      all_if (keeps_at takes b c) (variables_of c.args) (λ x m.
      (let e = h x (among_is (variables_of c.args) x m) in
      tests_same (takes c x) (refutes_at c b x (least_value (values_left b x))) (refutes_at c d x (least_value (values_left d x)))
      (refutes_at c b x (greatest_value (values_left b x))) (refutes_at c d x (greatest_value (values_left d x))) (refuted_by c b) (refuted_by c d)
      (same_at x (least_value (values_left b x)) ∙ ap (λ vs. refutes_at c d x (least_value vs)) e)
      (same_at x (greatest_value (values_left b x)) ∙ ap (λ vs. refutes_at c d x (greatest_value vs)) e) same_whole
      ∙ all_at (keeps_at takes d c) (variables_of c.args) x k m))

pub less_marked : (was then : Waiting) (k : ℕ) → ((j : ℕ) → is_marked was j ≡ true → is_marked then j ≡ true) → is_marked then k ≡ false → is_marked was k ≡ false
less_marked was then k f u = false_from_ne_true (is_marked was k) (λ m. clash (is_marked then k) (f k m) u)

-- after one constraint took values of x, and the others that have x wait, the others are settled as before
pub others_told : (t : Taking) (g : Game) (ix : Index) (first end own x : ℕ) (was then : Waiting) (box now : Box) → IsIndexOf g ix → IsCut g own x box now → ((j : ℕ) → is_marked was j ≡ true → is_marked then j ≡ true) →
    ((k : ℕ) → is_between first end k ≡ true → k ≢ own → has_it ix.having k x ≡ true → is_marked then k ≡ true) → OthersSettled own t g first end was box → OthersSettled own t g first end then now
others_told t g ix first end own x was then box now i h kept woken old k b n u c e = by (is_among (variables_of c.args) x) refl
  where
    by : (a : Bool) → is_among (variables_of c.args) x ≡ a → keeps_box (takes_of t g) now c ≡ true
    by true m = absurd (clash (is_marked then k) (woken k b n (all_at (has_it ix.having k) (variables_of c.args) x (i.told k c e) (own_of (variables_of c.args) x m))) u)
    by false m =
        keeps_same g c now box h.count (λ y a. h.others y (λ q. clash (is_among (variables_of c.args) x) (subst (λ z. is_among (variables_of c.args) z ≡ true) q a) m)) (takes_of t g)
        (old k b n (less_marked was then k kept u) c e)

pub others_woken : (t : Taking) (g : Game) (ix : Index) (first end own x : ℕ) (was then : Waiting) (box now : Box) → IsIndexOf g ix → IsCut g own x box now → ((j : ℕ) → is_marked was j ≡ true → is_marked then j ≡ true) →
    ((k : ℕ) → is_between first end k ≡ true → has_it ix.having k x ≡ true → is_marked then k ≡ true) → OthersSettled own t g first end was box → OthersSettled own t g first end then now
others_woken t g ix first end own x was then box now i h kept woken old = others_told t g ix first end own x was then box now i h kept (λ k b n m. woken k b m) old

-- where it doesn't refute the box with one value of x, it doesn't refute the box
pub stands_by : (g : Game) → IsValid g → (k : ℕ) (c : Rule) (box : Box) (x : ℕ) (v : ℤ) → slice_get g.constraints k ≡ Some c → is_box_of g box ≡ true → has_empty box ≡ false → has_value (values_left box x) v ≡ true → refutes_at c box x v ≡ false → refuted_by c box ≡ false
stands_by g valid k c box x v e d full m f =
    false_from_ne_true (refuted_by c box) (λ r.
    clash (refutes_at c box x v)
    (valid_smaller g valid k c (box_at box x v) box e (subst (λ n. ArgumentsBelow n c.args) (sym (length-set box x (v ∷ []))) (rule_below g valid box d k c e)) smaller (set_full box x (v ∷ []) full refl) r) f)
  where
    smaller : is_sub_box (box_at box x v) box ≡ true
    smaller =
        subst (λ b. is_sub_box (box_at box x v) b ≡ true) (set_same box x (values_left box x) refl)
        (sub_set box box x (v ∷ []) (values_left box x) (sub_self box (declared_box g) d) refl (and_from (has_value (values_left box x) v) true m refl))

-- one that spares all its variables and doesn't refute the box keeps it
single_is : (vs : Values) → is_single vs ≡ true → (least_value vs ∷ [] ≡ vs) × (greatest_value vs ∷ [] ≡ vs)
single_is [] h = cc
single_is (v ∷ []) h = (refl, refl)
single_is (v ∷ w ∷ vs) h = cc

pub keeps_all : (takes : Takes) (box : Box) (c : Rule) → list_all (spares takes box c) (variables_of c.args) ≡ true → refuted_by c box ≡ false → keeps_box takes box c ≡ true
keeps_all takes box c s r = all_if (keeps_at takes box c) (variables_of c.args) (λ x m. at x (takes c x) refl (all_at (spares takes box c) (variables_of c.args) x s m))
  where
    ends : ℕ → Bool
    ends x = not (refutes_at c box x (least_value (values_left box x))) && not (refutes_at c box x (greatest_value (values_left box x)))

    either : (x : ℕ) (b : Bool) → is_single (values_left box x) ≡ b → (b || ends x) ≡ true → ends x ≡ true
    either x true q h =
        let one = single_is (values_left box x) q in
        and_from (not (refutes_at c box x (least_value (values_left box x)))) (not (refutes_at c box x (greatest_value (values_left box x))))
        (not_from_false (refutes_at c box x (least_value (values_left box x))) (ap (refuted_by c) (set_same box x (least_value (values_left box x) ∷ []) one.0) ∙ r))
        (not_from_false (refutes_at c box x (greatest_value (values_left box x))) (ap (refuted_by c) (set_same box x (greatest_value (values_left box x) ∷ []) one.1) ∙ r))
    either x false q h = h

    at : (x : ℕ) (b : Bool) → takes c x ≡ b → (not (takes c x) || (is_single (values_left box x) || ends x)) ≡ true → keeps_at takes box c x ≡ true
    at x true t h =
        subst (λ b. cond b (ends x) (not (refuted_by c box)) ≡ true) (sym t)
        (either x (is_single (values_left box x)) refl (subst (λ b. (not b || (is_single (values_left box x) || ends x)) ≡ true) t h))
    at x false t h = subst (λ b. cond b (ends x) (not (refuted_by c box)) ≡ true) (sym t) (not_from_false (refuted_by c box) r)
