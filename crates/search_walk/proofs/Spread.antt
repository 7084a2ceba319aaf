-- The values left at a branch, and how the machine passes them.
use Rattle.std.proofs.Common.{◌≡◌, ◌∙◌, ℕ, true, false, List, ◌∷◌, Option, None, Some, sym, ap, subst, ℤ, w64, to_z, of_z}
use Rattle.std.specs.List.{list_all}
use Rattle.qc_model.specs.declared.problem.Variable.{Variable}
use Rattle.qc_model.specs.Content.{Game}
use Rattle.qc_model.specs.Domains.{Values, declared_box, has_value, is_ascending, is_none_left, values_left}
use Rattle.qc_model.specs.Valid.{is_domain, is_number}
use Rattle.model_levels.proofs.Numbers.{passed}
use Rattle.model_arguments.specs.Asked.{is_box_of}
use Rattle.model_arguments.proofs.Boxes.{sub_ascending, left_small}
use Rattle.fd_store.specs.Held.{values_from}
use Rattle.search_box.specs.Boxed.{Boxed}
use Rattle.search_box.specs.Rests.{IsAfter, IsFirst, IsLast, IsPrevious}
use Rattle.search_parts.specs.Uppers.{upto_all, upto_between}
use Rattle.search_parts.proofs.Fitting.{number_among}
use Rattle.search_walk.proofs.Covering.{ComesAfter, rest_of}

-- values that a text can have, in order
pub record IsSpread (vs : Values) : Type 0 where
  pub numbers : list_all is_number vs ≡ true
  pub rises : is_ascending vs ≡ true

pub spread_here : (g : Game) (b : Boxed) (x : ℕ) → list_all (λ y. is_domain y.domain) g.variables ≡ true → b.game ≡ g → is_box_of b.game b.store.box ≡ true → IsSpread (values_left b.store.box x)
spread_here g b x domains same declared =
    let here : is_box_of g b.store.box ≡ true = subst (λ (f : Game). is_box_of f b.store.box ≡ true) same declared in
    record { numbers = left_small g b.store.box x domains here; rises = sub_ascending b.store.box (declared_box g) x here }

-- one of them, passed on
pub passed_on : (vs : Values) (v : ℤ) → IsSpread vs → has_value vs v ≡ true → to_z w64 (of_z w64 v) ≡ v
passed_on vs v s h = passed v (number_among vs v s.numbers h)

-- the first of them, passed on
pub first_case : (vs : Values) (v : ℤ) → IsSpread vs → IsFirst vs v → (has_value vs (to_z w64 (of_z w64 v)) ≡ true) × (values_from (to_z w64 (of_z w64 v)) vs ≡ vs)
first_case vs v s first =
    let same = sym (passed_on vs v s first.left) in
    (subst (λ u. has_value vs u ≡ true) same first.left, subst (λ u. values_from u vs ≡ vs) same first.all)

-- the one after v, passed on
pub next_case : (vs : Values) (v w : ℤ) → IsSpread vs → IsAfter vs v w → (has_value vs (to_z w64 (of_z w64 w)) ≡ true) × (values_from v vs ≡ v ∷ values_from (to_z w64 (of_z w64 w)) vs)
next_case vs v w s after =
    let same = sym (passed_on vs w s after.left) in
    (subst (λ u. has_value vs u ≡ true) same after.left, subst (λ u. values_from v vs ≡ v ∷ values_from u vs) same after.rest)

-- those from v on, of which the last is passed on
pub record IsRestOn (vs : Values) (v u : ℤ) : Type 0 where
  pub some : is_none_left (values_from v vs) ≡ false
  pub numbers : list_all is_number (values_from v vs) ≡ true
  pub upto : upto_between v (to_z w64 (of_z w64 u)) ≡ upto_all (values_from v vs)

pub rest_on : (vs : Values) (v u : ℤ) → IsSpread vs → has_value vs v ≡ true → IsLast vs u → IsRestOn vs v u
rest_on vs v u s h l =
    let r = rest_of vs v u s.rises s.numbers h l in
    record { some = r.some; numbers = r.numbers; upto = ap (upto_between v) (passed_on vs u s l.left) ∙ sym r.upto }

-- what comes before v
pub comes_after : (vs : Values) (v : ℤ) (before : Option ℤ) → IsPrevious vs v before → ComesAfter vs before v
comes_after vs v None first = first.all
comes_after vs v (Some u) before = record { left = before.left; rest = before.after.rest }
