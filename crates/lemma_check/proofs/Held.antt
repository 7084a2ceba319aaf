-- What is known of the values that are left stays so.
use Rattle.std.proofs.Common.{◌≡◌, refl, sym, ap, ◌∙◌, subst, ℕ, zero, suc, ◌<◌, List, [], ◌∷◌, length, Bool, true, false, not, ◌&&◌, ◌||◌, cond, ℤ, arith, set}
use Rattle.std.specs.Prelude.{IsTrue, filter, int_le, slice_get, nat_lt}
use Rattle.std.specs.List.{list_all, list_any}
use Rattle.std.specs.Ordering.{int_eq}
use Rattle.std.proofs.lemmas.Int.{ints}
use Rattle.std.proofs.lemmas.Bool.Decides.{nat_tests}
use Rattle.std.proofs.lemmas.List.{get_or-set_same, get_or_past, length-map}
use Rattle.qc_model.specs.declared.problem.Variable.{Variable}
use Rattle.qc_model.specs.Content.{Game}
use Rattle.qc_model.specs.Domains.{Box, Values, values_left, values_within, is_within, is_none_left, is_sub_box, has_value, box_within, box_at, declared_box, domain_values}
use Rattle.model_arguments.specs.Asked.{is_box_of}
use Rattle.model_arguments.proofs.Values.{only_within}
use Rattle.model_arguments.proofs.Boxes.{sub_ascending}
use Rattle.fd_store.specs.Held.{Held, trail_len, past_box, Follows, IsUndone}
use Rattle.qc_model.proofs.Conjunctions.{first, second}
use Rattle.box_laws.proofs.Sides.{set_twice}
use Rattle.box_laws.proofs.Filters.{filter_two, filter_same}
use Rattle.lemma_list.specs.declared.lemma.Literal.{Literal}
use Rattle.lemma_list.specs.Places.{is_chosen_before, of_its_scope, place}
use Rattle.lemma_list.specs.Lemmas.{Lemma}
use Rattle.lemma_list.specs.Literals.{are_in_order}
use Rattle.lemma_list.specs.Sums.{are_linear}
use Rattle.lemma_list.specs.InPlace.{is_lemma}
use Rattle.lemma_check.specs.Gaps.{kept_up_to, kept_from, are_inside}
use Rattle.lemma_check.specs.Held.{IsHeldOf}

pub follows_held : (g : Game) (s t : Held) → IsHeldOf g s → Follows s t → ((large : Box) → is_sub_box s.box large ≡ true → is_sub_box t.box large ≡ true) → IsHeldOf g t
follows_held g s t h f k = record { declared = k (declared_box g) h.declared; first = f.boxes 0 (omega arith) ∙ h.first }

pub undone_held : (g : Game) (n : ℕ) (s t : Held) (box : Box) → past_box s 0 ≡ declared_box g → IsUndone n s t → t.box ≡ box → IsTrue (is_box_of g box) → IsHeldOf g t
undone_held g n s t box h u e b = record { declared = subst (λ (x : Box). IsTrue (is_box_of g x)) (sym e) b; first = u.boxes 0 (omega arith) ∙ h }

-- the box is the past one at the trail's end
pub past_now : (s : Held) → past_box s (trail_len s) ≡ s.box
past_now s = get_or_past s.past (trail_len s) s.box (omega arith)

pub past_after : (s t : Held) → Follows s t → past_box t (trail_len s) ≡ s.box
past_after s t f = f.boxes (trail_len s) (omega arith) ∙ past_now s

swapped : (a b : Bool) → (b && a) ≡ (a && b)
swapped true true = refl
swapped true false = refl
swapped false true = refl
swapped false false = refl

-- values up to one number and from another
pub both_ends : (box : Box) (x : ℕ) (lo hi : ℤ) → x < length box → kept_from (kept_up_to box x hi) x lo ≡ box_within box x lo hi
both_ends box x lo hi h =
    let us : Values = filter (λ v. int_le v hi) (values_left box x) in
    ap (λ (ws : Values). set (set box x us) x (filter (int_le lo) ws)) (get_or-set_same box x us [] h)
    ∙ set_twice box x us (filter (int_le lo) us)
    ∙ ap (set box x) (filter_two (λ v. int_le v hi) (int_le lo) (values_left box x) ∙ filter_same (λ v. int_le v hi && int_le lo v) (is_within lo hi) (λ v. swapped (int_le lo v) (int_le v hi)) (values_left box x))

-- a variable of a scope is one of the box
pub chosen_inside : (g : Game) (i x : ℕ) → is_chosen_before g i x ≡ true → x < length g.variables
chosen_inside g i x h = inside g.variables x h
  where
    inside : (xs : List Variable) (x : ℕ) → of_its_scope (λ j. nat_lt j i) (slice_get xs x) ≡ true → x < length xs
    inside [] x h = cc
    inside (y ∷ xs) zero h = omega arith
    inside (y ∷ xs) (suc x) h = let r : x < length xs = inside xs x h in omega arith

pub all_inside : (g : Game) (i n : ℕ) (ls : List Literal) → n ≡ length g.variables → list_all (λ l. is_chosen_before g i l.x.0) ls ≡ true → are_inside n ls ≡ true
all_inside g i n [] e h = refl
all_inside g i n (l ∷ ls) e h =
    let one : l.x.0 < length g.variables = chosen_inside g i l.x.0 (first (is_chosen_before g i l.x.0) (list_all (λ l. is_chosen_before g i l.x.0) ls) h) in
    let test : nat_lt l.x.0 n ≡ true = grind (arith, nat_tests) in
    ap (λ (b : Bool). b && are_inside n ls) test ∙ all_inside g i n ls e (second (is_chosen_before g i l.x.0) (list_all (λ l. is_chosen_before g i l.x.0) ls) h)

pub box_count : (g : Game) → length (declared_box g) ≡ length g.variables
box_count g = length-map g.variables (λ x. domain_values x.domain)

-- a value is left where the range of it alone isn't empty
some_kept : (p : ℤ → Bool) (vs : Values) → list_any p vs ≡ not (is_none_left (filter p vs))
some_kept p [] = refl
some_kept p (v ∷ vs) = by (p v) (some_kept p vs)
  where
    by : (b : Bool) → list_any p vs ≡ not (is_none_left (filter p vs)) → (b || list_any p vs) ≡ not (is_none_left (cond b (v ∷ filter p vs) (filter p vs)))
    by true e = refl
    by false e = e

any_same : (p q : ℤ → Bool) → ((v : ℤ) → p v ≡ q v) → (vs : Values) → list_any p vs ≡ list_any q vs
any_same p q f [] = refl
any_same p q f (v ∷ vs) = ap (λ (b : Bool). b || list_any p vs) (f v) ∙ ap (λ (b : Bool). q v || b) (any_same p q f vs)

pub has_single : (vs : Values) (v : ℤ) → has_value vs v ≡ not (is_none_left (values_within v v vs))
has_single vs v = any_same (int_eq v) (is_within v v) same vs ∙ some_kept (is_within v v) vs
  where
    same : (w : ℤ) → int_eq v w ≡ is_within v v w
    same w = grind (arith, ints)

pub taken_box : (box : Box) (x : ℕ) (v : ℤ) (large : Box) → is_sub_box box large ≡ true → has_value (values_left box x) v ≡ true → box_within box x v v ≡ box_at box x v
taken_box box x v large s h = ap (set box x) (only_within v (values_left box x) (sub_ascending box large x s) h)

-- literals of a lemma, and the box of the declared domains
pub lemma_inside : (g : Game) (m : Lemma) (box : Box) → box ≡ declared_box g → is_lemma g m ≡ true → are_inside (length box) m.literals ≡ true
lemma_inside g m box e h =
    all_inside g (place g m) (length box) m.literals (ap length e ∙ box_count g)
    (second (are_in_order m.literals) (list_all (λ l. is_chosen_before g (place g m) l.x.0) m.literals)
    (first (are_in_order m.literals && list_all (λ l. is_chosen_before g (place g m) l.x.0) m.literals) (are_linear g m.sums) h))
