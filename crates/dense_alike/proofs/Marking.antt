-- Marks that are added one after the other, and what they say of a game.
use Rattle.std.proofs.Common.{◌≡◌, ◌∙◌, sym, ap, refl, ℕ, ◌<◌, ◌≤◌, ◌==◌, Bool, true, false, ◌||◌, List, [], ◌∷◌, length, drop, arith, get_or, ◌⊎◌, inl, inr}
use Rattle.std.specs.Prelude.{nat_lt, nat_le, slice_index}
use Rattle.std.specs.List.{list_any}
use Rattle.std.proofs.lemmas.Bool.Decides.{nat_tests}
use Rattle.qc_model.specs.declared.problem.Argument.{Argument}
use Rattle.qc_model.specs.Arguments.{variables_of, argument_variables}
use Rattle.qc_model.specs.Content.{Game, Rule}
use Rattle.qc_model.specs.Game.{before}
use Rattle.proof_alike.specs.Alike.{is_among, constrains, is_named, is_seen, is_looked_at}
use Rattle.proof_alike.specs.Reading.{Reading, as_sum, as_plus, as_clause, by_value, reading, read_alone, variables_by_value}
use Rattle.std.proofs.lemmas.List.{get_or_default}
use Rattle.std.proofs.lemmas.List.Sums.{count_by-le-length}
use Rattle.std.proofs.lemmas.List.Folds.{list_any-append}
use Rattle.std.proofs.lemmas.Bool.{or_left, or_right, and_parts, and_from, or_cases}
use Rattle.dense_tree.specs.Alike.{is_from, is_read}
use Rattle.dense_alike.specs.Marked.{is_marked, has_from, AddsMarks, AreMarksOf}

regroup : (a b c d : Bool) → (b || c) ≡ d → ((a || b) || c) ≡ (a || d)
regroup true b c d e = refl
regroup false b c d e = e

-- first the ones and then the others
pub adds_both : (f h k : ℕ → ℕ → Bool) (a b c : List ℕ) → AddsMarks f a b → AddsMarks h b c → ((i x : ℕ) → (f i x || h i x) ≡ k i x) → AddsMarks k a c
adds_both f h k a b c m n e = record {
  count = n.count ∙ m.count;
  each = λ i x l q.
      n.each i x l (omega (arith, q, m.count)) ∙ ap (λ r. r || h i x) (m.each i x l q) ∙ regroup (is_marked a i x) (f i x) (h i x) (k i x) (e i x);
}

-- what a constraint reads by value is among its variables
read_among : (args : List Argument) (r : Reading) (x : ℕ) → is_among (variables_by_value r args) x ≡ true → is_among (variables_of args) x ≡ true
read_among args as_sum x e = by args e
  where
    later : (a : Argument) (args : List Argument) → is_among (variables_of args) x ≡ true → is_among (variables_of (a ∷ args)) x ≡ true
    later a args e = list_any-append (λ y. y == x) (argument_variables a) (variables_of args) ∙ or_right (is_among (argument_variables a) x) (is_among (variables_of args) x) e

    by : (args : List Argument) → is_among (variables_of (drop 2 args)) x ≡ true → is_among (variables_of args) x ≡ true
    by [] e = e
    by (a ∷ []) e = later a [] e
    by (a ∷ b ∷ args) e = later a (b ∷ args) (later b args e)
read_among args as_plus x e = cc
read_among args as_clause x e = cc
read_among args by_value x e = e

seen_among : (i x : ℕ) (cs : List Rule) → list_any (constrains i x) cs ≡ true → list_any (has_from i x) cs ≡ true
seen_among i x [] e = e
seen_among i x (c ∷ cs) e = by (or_cases (constrains i x c) (list_any (constrains i x) cs) e) (λ k. seen_among i x cs k)
  where
    by : ((constrains i x c ≡ true) ⊎ (list_any (constrains i x) cs ≡ true)) → (list_any (constrains i x) cs ≡ true → list_any (has_from i x) cs ≡ true) → list_any (has_from i x) (c ∷ cs) ≡ true
    by (inl k) f =
        let p = and_parts (nat_le i c.owner.0) (is_among (read_alone c) x) k in
        or_left (has_from i x c) (list_any (has_from i x) cs) (and_from (is_from i c) (is_among (variables_of c.args) x) p.0 (read_among c.args (reading c) x p.1))
    by (inr k) f = or_right (has_from i x c) (list_any (has_from i x) cs) (f k)

-- so a variable is read where some constraint has it, or where it is seen
pub read_is : (g : Game) (i x : ℕ) → (list_any (has_from i x) g.constraints || is_seen g i x) ≡ is_read g i x
read_is g i x = by (list_any (has_from i x) g.constraints) (list_any (constrains i x) g.constraints) (is_named g x) (λ e. seen_among i x g.constraints e)
  where
    by : (a b c : Bool) → (b ≡ true → a ≡ true) → (a || (b || c)) ≡ (a || c)
    by true b c f = refl
    by false true c f = let e : false ≡ true = f refl in cc
    by false false c f = refl

pub seen_read : (g : Game) (i x : ℕ) → is_seen g i x ≡ true → is_read g i x ≡ true
seen_read g i x e = sym (read_is g i x) ∙ or_right (list_any (has_from i x) g.constraints) (is_seen g i x) e

-- an earlier variable is looked at where it is seen
pub early_seen : (g : Game) (i x : ℕ) → x < before g i → is_looked_at g i x ≡ is_seen g i x
early_seen g i x l = ap (λ b. b || is_seen g i x) (not_ahead (before g i) x l)
  where
    not_ahead : (n x : ℕ) → x < n → nat_le n x ≡ false
    not_ahead n x l = grind (arith, nat_tests)

-- an earlier variable that no constraint has is read where it is looked at
pub read_else : (g : Game) (stops : List ℕ) (i x n : ℕ) → AreMarksOf g stops → i ≤ 254 → x < before g i → x < length g.variables → n ≡ get_or stops x n → n ≤ i → is_looked_at g i x ≡ is_read g i x
read_else g stops i x n m l early within e k =
    early_seen g i x early
    ∙ (ap (λ b. b || is_seen g i x) (sym (sym (m.each i x l within) ∙ unmarked (slice_index stops x) (is_stop stops x n (omega (arith, within, m.count)) e) k)) ∙ read_is g i x)
  where
    is_stop : (stops : List ℕ) (x n : ℕ) → x < length stops → n ≡ get_or stops x n → slice_index stops x ≡ n
    is_stop stops x n l e = get_or_default stops x 0 n l ∙ sym e

    unmarked : (s : ℕ) → s ≡ n → n ≤ i → nat_lt i s ≡ false
    unmarked s e k = grind (arith, nat_tests)

pub before_most : (g : Game) (i : ℕ) → before g i ≤ length g.variables
before_most g i = count_by-le-length (λ v. nat_lt v.scope.0 i) g.variables
