-- The value that a variable has, as it is read.
use Rattle.std.proofs.Common.{◌≡◌, ◌∙◌, ℕ, ◌≤◌, true, false, List, length, get_or, ltb, refl, sym, ap, arith, ℤ}
use Rattle.std.specs.Prelude.{slice_get, nat_eq}
use Rattle.std.specs.Ordering.{int_eq}
use Rattle.std.proofs.lemmas.Bool.{ltb-true}
use Rattle.std.proofs.lemmas.Bool.Decides.{nat_tests}
use Rattle.std.proofs.lemmas.Int.{ints}
use Rattle.std.proofs.lemmas.Option.{slice_get_read, slice_get_past}
use mir.Val.{SFits, of_z}
use mir.Syntax.{w64}
use Rattle.proof_alike.specs.Reading.{is_known_as}

-- two numbers are equal where their words are
same_value : (v w : ℤ) → SFits w64 v → SFits w64 w → nat_eq (of_z w64 v) (of_z w64 w) ≡ int_eq v w
same_value v w f g = grind (arith, ints, nat_tests)

-- it has one, and it has none
pub known_there : (vs : List ℤ) (x : ℕ) (v w : ℤ) → SFits w64 v → SFits w64 w → true ≡ ltb x (length vs) → v ≡ get_or vs x v → nat_eq (of_z w64 v) (of_z w64 w) ≡ is_known_as w (slice_get vs x)
known_there vs x v w f g h e = same_value v w f g ∙ sym (ap (is_known_as w) (slice_get_read vs (length vs) x v refl (ltb-true x (length vs) (sym h)) e))

pub none_known : (vs : List ℤ) (x : ℕ) (w : ℤ) → false ≡ ltb x (length vs) → false ≡ is_known_as w (slice_get vs x)
none_known vs x w h = sym (ap (is_known_as w) (slice_get_past vs x (past x (length vs) h)))
  where
    past : (a b : ℕ) → false ≡ ltb a b → b ≤ a
    past a b h = grind (arith, nat_tests)
