-- What is kept once a variable has another value.
use Rattle.std.proofs.Common.{◌≡◌, ◌∙◌, sym, ap, subst, refl, ◌<◌, ◌≤◌, ℕ, zero, suc, true, false, not, ◌&&◌, List, [], ◌∷◌, length, set, get_or, slice_get, Option, Some, inl, inr, arith, ℤ}
use Rattle.std.specs.Prelude.{pos, ◌+ℤ◌, ◌-ℤ◌, ◌*ℤ◌, unsigned_abs}
use Rattle.std.specs.List.{list_all}
use Rattle.std.proofs.lemmas.Bool.{and_parts, and_from, not-true, cases_Bool, leb-true, both_ways}
use Rattle.std.proofs.lemmas.Int.{ints}
use Rattle.std.proofs.lemmas.List.{length-set}
use Rattle.std.proofs.lemmas.Option.{slice_get_within, slice_get-get_or, slice_get_read, get_or_from_slice_get}
use Rattle.qc_model.specs.Content.{Game, Rule}
use Rattle.qc_model.specs.Holds.{holds_on}
use Rattle.qc_model.specs.Valid.{IsValid, is_number}
use Rattle.model_evaluation.proofs.Readable.{passes_at}
use Rattle.check_assignment.specs.declared.standing.Standing.{Standing}
use Rattle.check_assignment.specs.Balance.{test_of, total_of, slope_of}
use Rattle.check_assignment.specs.Terms.{Terms, terms_at, factor_sum, names, mentions, moved, AreTermsOf}
use Rattle.check_assignment.specs.Keeping.{Stands, Keeps, AreSmall}
use Rattle.check_assignment.proofs.Apart.{holds_apart}
use Rattle.check_assignment.proofs.Fronts.{some_at}
use Rattle.check_assignment.proofs.Moves.{total_set}
use Rattle.check_assignment.proofs.Told.{constraint_at, stands_small}

pub small_standings : (g : Game) (vs : List ℤ) (ts : Terms) (ss : List Standing) → IsValid g → Keeps g vs ts ss → AreSmall ss
small_standings g vs ts ss valid keeps k s e =
    let at = some_at g.constraints k (omega (arith, keeps.standing_each, slice_get_within ss k s e)) in
    stands_small g vs k at.0 s valid keeps.numbers at.1 (keeps.standings k at.0 s at.1 e)

number_within : (vs : List ℤ) (x : ℕ) → list_all is_number vs ≡ true → x < length vs → unsigned_abs (get_or vs x (pos 0)) ≤ 1000000000
number_within vs x h l = leb-true (unsigned_abs (get_or vs x (pos 0))) 1000000000 (passes_at is_number vs x (get_or vs x (pos 0)) h (slice_get-get_or vs x (pos 0) l))

pub numbers_set : (vs : List ℤ) (x : ℕ) (u : ℤ) → list_all is_number vs ≡ true → is_number u ≡ true → list_all is_number (set vs x u) ≡ true
numbers_set [] x u h n = refl
numbers_set (v ∷ vs) zero u h n = and_from (is_number u) (list_all is_number vs) n (and_parts (is_number v) (list_all is_number vs) h).1
numbers_set (v ∷ vs) (suc x) u h n = let b = and_parts (is_number v) (list_all is_number vs) h in and_from (is_number v) (list_all is_number (set vs x u)) b.0 (numbers_set vs x u b.1 n)

-- one constraint's standing
stands_moved : (g : Game) (vs : List ℤ) (ts : Terms) (x : ℕ) (u step : ℤ) (k : ℕ) (c : Rule) (s : Standing) → IsValid g → AreTermsOf g x (terms_at ts x) → x < length vs →
    step ≡ u -ℤ get_or vs x (pos 0) → slice_get g.constraints k ≡ Some c → Stands vs c s → Stands (set vs x u) c (moved (terms_at ts x) k step s)
stands_moved g vs ts x u step k c s valid terms within by e was = record { test = was.test; total = total; holds = holds }
  where
    total : (s.total +ℤ (factor_sum k (terms_at ts x) *ℤ step)) ≡ total_of (test_of c) (set vs x u) c
    total =
        ap (λ z. z +ℤ (factor_sum k (terms_at ts x) *ℤ step)) was.total
        ∙ (ap (λ z. total_of (test_of c) vs c +ℤ (z *ℤ step)) (terms.sums k c e)
        ∙ (ap (λ z. total_of (test_of c) vs c +ℤ (slope_of (test_of c) x c *ℤ z)) by ∙ sym (total_set vs x u g.variables c (constraint_at g k c valid e) within)))

    apart : names k (terms_at ts x) ≡ false → mentions c x ≡ false
    apart n = elim (cases_Bool (mentions c x)) [ inl m ↦ absurd (both_ways (names k (terms_at ts x)) n (terms.all k c e m)) | inr m ↦ m ]

    holds : (s.holds && not (names k (terms_at ts x))) ≡ true → holds_on c (set vs x u) ≡ true
    holds h =
        let b = and_parts s.holds (not (names k (terms_at ts x))) h in
        holds_apart vs x u c (apart (not-true (names k (terms_at ts x)) b.1)) ∙ was.holds b.0

pub changed : (g : Game) (vs : List ℤ) (ts : Terms) (ss now : List Standing) (x : ℕ) (u step : ℤ) → IsValid g → Keeps g vs ts ss → x < length vs → is_number u ≡ true →
    step ≡ u -ℤ get_or vs x (pos 0) → length now ≡ length ss → ((k : ℕ) (s : Standing) → slice_get ss k ≡ Some s → slice_get now k ≡ Some (moved (terms_at ts x) k step s)) →
    Keeps g (set vs x u) ts now
changed g vs ts ss now x u step valid keeps within number by long are = record {
  value_each = length-set vs x u ∙ keeps.value_each;
  numbers = numbers_set vs x u keeps.numbers number;
  term_each = keeps.term_each;
  standing_each = long ∙ keeps.standing_each;
  terms = keeps.terms;
  standings = each;
}
  where
    some_same : {a b : Standing} → ◌≡◌ {A = Option Standing} (Some a) (Some b) → a ≡ b
    some_same h = cc

    each : (k : ℕ) (c : Rule) (t : Standing) → slice_get g.constraints k ≡ Some c → slice_get now k ≡ Some t → Stands (set vs x u) c t
    each k c t e f =
        let was = some_at ss k (omega (arith, long, slice_get_within now k t f)) in
        subst (Stands (set vs x u) c) (some_same (sym (are k was.0 was.1) ∙ f))
        (stands_moved g vs ts x u step k c was.0 valid (keeps.terms x) within by e (keeps.standings k c was.0 e was.1))

pub value_at : (vs : List ℤ) (x : ℕ) (v : ℤ) → x < length vs → v ≡ get_or vs x v → v ≡ get_or vs x (pos 0)
value_at vs x v h e = sym (get_or_from_slice_get vs x v (pos 0) (slice_get_read vs (length vs) x v refl h e))

-- how large a value is that stands within the number limit
pub value_small : (vs : List ℤ) (x : ℕ) (v : ℤ) → list_all is_number vs ≡ true → x < length vs → v ≡ get_or vs x v → unsigned_abs v ≤ 1000000000
value_small vs x v numbers h e = subst (λ z. unsigned_abs z ≤ 1000000000) (sym (value_at vs x v h e)) (number_within vs x numbers h)

pub step_small : (u v : ℤ) → unsigned_abs u ≤ 1000000000 → unsigned_abs v ≤ 1000000000 → unsigned_abs (u -ℤ v) ≤ 2000000000
step_small u v h l = grind (arith, ints)
