-- What the laws of the table ask of arguments besides: truth values are 0 or 1, and the like.
use Rattle.std.proofs.Common.{◌≡◌, ℕ, Bool, true, false, List, [], ◌∷◌, sym, subst}
use Rattle.std.specs.Ordering.{int_eq}
use Rattle.std.specs.Prelude.{not, ◌&&◌, ◌||◌, ℤ, pos, ⊤}
use Rattle.qc_model.specs.Meaning.{Meaning, equal, different, at_most, below, sum_equal, sum_different, sum_at_most, minimum, maximum, member, both, either, all_items, some_item, clause, reified}
use Rattle.qc_model.specs.Domains.{Values, least_value, has_value, is_single}
use Rattle.qc_model.specs.Holds.{Given, value_at, values_at, last_value, same_truth, is_one}
use Rattle.qc_model.specs.Left.{Lefts, left_at}

-- 1 for true, 0 for false
abbrev pub number_of : Bool → ℤ
number_of true = pos 1
number_of false = pos 0

abbrev pub IsTruth : ℤ → Type 0
IsTruth v = (b : Bool) × (v ≡ number_of b)

abbrev pub AllTruths : List ℤ → Type 0
AllTruths [] = ⊤
AllTruths (v ∷ vs) = IsTruth v × AllTruths vs

-- the argument at this place is a number, or a variable that has one value
abbrev pub IsLiteral : Given → Lefts → ℕ → Type 0
IsLiteral vs ds k = left_at ds k ≡ value_at vs k ∷ []

abbrev pub HasItem : List ℤ → Type 0
HasItem [] = ⊥
HasItem (v ∷ vs) = ⊤

-- the meanings that have a reified form
abbrev pub IsReifiable : Meaning → Type 0
IsReifiable equal = ⊤
IsReifiable different = ⊤
IsReifiable at_most = ⊤
IsReifiable below = ⊤
IsReifiable sum_equal = ⊤
IsReifiable sum_different = ⊤
IsReifiable sum_at_most = ⊤
IsReifiable member = ⊤
IsReifiable clause = ⊤
IsReifiable _ = ⊥

abbrev pub Kinds : Meaning → Given → Lefts → Type 0
Kinds sum_equal vs ds = IsLiteral vs ds 2
Kinds sum_different vs ds = IsLiteral vs ds 2
Kinds sum_at_most vs ds = IsLiteral vs ds 2
Kinds minimum vs ds = HasItem (values_at vs 1)
Kinds maximum vs ds = HasItem (values_at vs 1)
Kinds both vs ds = IsTruth (value_at vs 0) × IsTruth (value_at vs 1) × IsTruth (value_at vs 2)
Kinds either vs ds = IsTruth (value_at vs 0) × IsTruth (value_at vs 1) × IsTruth (value_at vs 2)
Kinds all_items vs ds = AllTruths (values_at vs 0) × IsTruth (value_at vs 1)
Kinds some_item vs ds = AllTruths (values_at vs 0) × IsTruth (value_at vs 1)
Kinds clause vs ds = AllTruths (values_at vs 0) × AllTruths (values_at vs 1)
Kinds (reified m) vs ds = IsTruth (last_value vs) × Kinds m vs ds × IsReifiable m
Kinds _ vs ds = ⊤

-- to show a fact of truth values, show it of 0 and 1
pub by_truth : (P : ℤ → Type 0) → ((b : Bool) → P (number_of b)) → (x : ℤ) → IsTruth x → P x
by_truth P f x h = subst P (sym h.1) (f h.0)

pub by_truths : (P : ℤ → ℤ → ℤ → Type 0) → ((a b c : Bool) → P (number_of a) (number_of b) (number_of c)) → (x y z : ℤ) → IsTruth x → IsTruth y → IsTruth z → P x y z
by_truths P f x y z h k l =
    by_truth (λ (n : ℤ). P n y z) (λ a. by_truth (λ (n : ℤ). P (number_of a) n z) (λ b. by_truth (λ (n : ℤ). P (number_of a) (number_of b) n) (λ c. f a b c) z l) y k) x h

-- each value of a truth value is contradicted: 1 where the plain meaning is refuted, 0 where it is entailed
abbrev pub is_contradicted : Values → Bool → Bool → Bool
is_contradicted d refuted entailed = (not (has_value d (pos 1)) || refuted) && (not (has_value d (pos 0)) || entailed)

-- three single values of which the third isn't whether the first two differ
abbrev pub is_wrong_xor : Values → Values → Values → Bool
is_wrong_xor a b c =
    is_single a && is_single b && is_single c && not (same_truth (is_one (least_value c)) (not (int_eq (least_value a) (least_value b))))
