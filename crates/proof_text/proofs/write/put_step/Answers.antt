use Rattle.std.proofs.Common.{◌≡◌, ◌++◌, List, ℕ, append_assoc, rules, Result, Ok, Err, OnOk, is_ok, if◌then◌else◌}
use mir.Val.{SFits}
use mir.Syntax.{w64}
use Rattle.std.proofs.lemmas.Int.{to_z-of_z}
use Rattle.std.specs.Prelude.{codes}
use Rattle.std.specs.Fmt.{signed_decimal}
use Rattle.proof_tree.specs.Text.{place_text}
use Rattle.proof_text.proofs.write.put_step.Goals as goal

-- the pieces of a line, one after the other
pieces : (o p x s low high y n a b d e f g : List ℕ) → a ≡ o ++ p → b ≡ a ++ x → d ≡ b ++ (s ++ low ++ s ++ high) → e ≡ d ++ s → f ≡ e ++ y → g ≡ f ++ n →
    g ≡ o ++ (p ++ x ++ s ++ (low ++ s ++ high) ++ s ++ y ++ n)
pieces o p x s low high y n a b d e f g i j k l m q = rw (q, m, l, k, j, i) (simp append_assoc)

pub returns-in_ok-extend_from_slice-in-Prune-3 : goal.returns-in_ok-extend_from_slice-in-Prune-3
returns-in_ok-extend_from_slice-in-Prune-3 c =
    let k = c.in-Prune in
    let lo_fits : SFits w64 k.lo = search rules in
    let hi_fits : SFits w64 k.hi = search rules in
    let i : c.extend_from_slice.new.self.items ≡ c.args.out.now.items ++ codes "p " = c.in_ok-extend_from_slice-in-Prune.ensures.items in
    let j : c.put_place.new.out.items ≡ c.extend_from_slice.new.self.items ++ place_text k.x.0 = c.in_ok-put_place-in-Prune.ensures in
    let l : c.put_range.new.out.items ≡ c.put_place.new.out.items ++ (codes " " ++ signed_decimal k.lo ++ codes " " ++ signed_decimal k.hi) = simp to_z-of_z at c.in_ok-put_range-in-Prune.ensures in
    let m : c.extend_from_slice-in-Prune.new.self.items ≡ c.put_range.new.out.items ++ codes " " = c.in_ok-extend_from_slice-in-Prune-2.ensures.items in
    let n : c.put_place-in-Prune.new.out.items ≡ c.extend_from_slice-in-Prune.new.self.items ++ place_text k.c.0 = c.in_ok-put_place-in-Prune-2.ensures in
    let o : c.extend_from_slice-in-Prune-2.new.self.items ≡ c.put_place-in-Prune.new.out.items ++ codes "\n" = c.in_ok-extend_from_slice-in-Prune-3.ensures.items in
    rw c.in-Prune.is (pieces _ _ _ _ _ _ _ _ _ _ _ _ _ _ i j l m n o)

-- the same of a line without a constraint, where its last bytes are written or aren't
bound_pieces : {E : Type 0} (r : Result (Unit {0}) E) (o p x s low high n a b d g : List ℕ) → a ≡ o ++ p → b ≡ a ++ x → d ≡ b ++ (s ++ low ++ s ++ high) → g ≡ (if is_ok r then d ++ n else d) → OnOk r (g ≡ o ++ (p ++ x ++ s ++ (low ++ s ++ high) ++ n))
bound_pieces (Ok u) o p x s low high n a b d g i j l m = rw (m, l, j, i) (simp append_assoc)
bound_pieces (Err e) o p x s low high n a b d g i j l m = tt

pub returns-in_ok-put_range-in-Bound : goal.returns-in_ok-put_range-in-Bound
returns-in_ok-put_range-in-Bound c =
    let k = c.in-Bound in
    let lo_fits : SFits w64 k.lo = search rules in
    let hi_fits : SFits w64 k.hi = search rules in
    let i : c.extend_from_slice-in-Bound.new.self.items ≡ c.args.out.now.items ++ codes "b " = c.in_ok-extend_from_slice-in-Bound.ensures.items in
    let j : c.put_place-in-Bound.new.out.items ≡ c.extend_from_slice-in-Bound.new.self.items ++ place_text k.x.0 = c.in_ok-put_place-in-Bound.ensures in
    let l : c.put_range-in-Bound.new.out.items ≡ c.put_place-in-Bound.new.out.items ++ (codes " " ++ signed_decimal k.lo ++ codes " " ++ signed_decimal k.hi) = simp to_z-of_z at c.in_ok-put_range-in-Bound.ensures in
    rw k.is (bound_pieces _ _ _ _ _ _ _ _ _ _ _ _ i j l c.extend_from_slice-in-Bound-2.ensures.items)
