-- Constraints do the same in boxes that look the same, whatever is left to the variables that are looked at.
use Rattle.std.proofs.Common.{◌≡◌, ℕ, true, not, [], ◌∷◌, refl, arith, ap, ℤ, pos}
use Rattle.std.specs.Prelude.{nat_le, slice_index_or}
use Rattle.std.specs.List.{list_any}
use Rattle.std.proofs.lemmas.Bool.{or_left, or_right, and_from}
use Rattle.qc_model.specs.Content.{Game, Rule}
use Rattle.qc_model.specs.Domains.{Box}
use Rattle.qc_model.specs.Game.{before}
use Rattle.qc_model.specs.Lists.{Among}
use Rattle.proof_tree.specs.Place.{position}
use Rattle.proof_alike.specs.Alike.{is_among, constrains, is_named, is_seen, is_looked_at, AreAlike}
use Rattle.proof_alike.specs.Reading.{Reading, as_sum, as_plus, as_clause, by_value, reading, variables_by_value, read_alone, seen_as, known_sum, known_plus}
use Rattle.proof_alike.proofs.Boxes.{SameRule, RuleAlike, Look}
use Rattle.proof_alike.proofs.ByValue.{same_by_value}
use Rattle.proof_alike.proofs.Clauses.{same_clause}
use Rattle.proof_alike.proofs.Filling.{any_of}
use Rattle.proof_alike.proofs.Pluses.{same_plus}
use Rattle.proof_alike.proofs.Sums.{same_sum}

-- what a constraint of the game, of a scope from i on, reads by value is looked at
rule_looks : (g : Game) (i : ℕ) (c : Rule) → Among c g.constraints → nat_le i c.owner.0 ≡ true → (x : ℕ) → is_among (read_alone c) x ≡ true → is_looked_at g i x ≡ true
rule_looks g i c m e x a =
    or_right (nat_le (before g i) x) (is_seen g i x)
    (or_left (list_any (constrains i x) g.constraints) (is_named g x)
    (any_of (constrains i x) g.constraints c m (and_from (nat_le i c.owner.0) (is_among (read_alone c) x) e a)))

same_head : (p q : ℤ) → (p ∷ []) ≡ (q ∷ []) → p ≡ q
same_head p q e = ap (λ vs. slice_index_or vs 0 (pos 0)) e

rule_alike : (g : Game) (i : ℕ) (a b : Box) → AreAlike g i a b → (c : Rule) → Among c g.constraints → nat_le i c.owner.0 ≡ true → RuleAlike g i c a b
rule_alike g i a b l c m e u w v = by (reading c) refl (rule_looks g i c m e) (l.rules c m e)
  where
    by : (r : Reading) → reading c ≡ r → ((x : ℕ) → is_among (variables_by_value r c.args) x ≡ true → is_looked_at g i x ≡ true) →
        seen_as r (λ x. not (is_looked_at g i x)) (position g i a) c ≡ seen_as r (λ x. not (is_looked_at g i x)) (position g i b) c → SameRule g i c u w
    by as_sum q looks s = same_sum g i a b l u w v c q looks (same_head (known_sum (position g i a) c) (known_sum (position g i b) c) s)
    by as_plus q looks s = same_plus g i a b l u w v c q (same_head (known_plus (position g i a) c) (known_plus (position g i b) c) s)
    by as_clause q looks s = same_clause g i a b l u w v c q s
    by by_value q looks s = same_by_value g i c u w (λ x h. v.same x (looks x h))

pub look : (g : Game) (i : ℕ) (a b : Box) → AreAlike g i a b → Look g i i a b
look g i a b l = record { below = omega arith; size = l.size; same = l.same; single = l.others; rules = rule_alike g i a b l }
