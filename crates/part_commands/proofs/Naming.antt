-- The variables that are named, one after another.
use Rattle.std.proofs.Common.{◌≡◌, ◌<◌, ◌+◌, ℕ, suc, Bool, true, false, List, [], ◌∷◌, ◌++◌, length, Option, Some, None, Result, Ok, Err, IfOk, refl, sym, ap, subst, arith, append_assoc}
use Rattle.std.specs.Prelude.{if◌then◌else◌}
use Rattle.std.specs.Option.{option_map}
use Rattle.std.specs.Str.{bytes_eq}
use Rattle.qc_model.specs.declared.problem.Variable.{Variable}
use Rattle.qc_model.specs.Content.{Game}
use Rattle.game_search.specs.declared.pieces.Keep.{Keep}
use Rattle.game_search.specs.Pieces.{IsKeep, AreKeeps}
use Rattle.part_commands.specs.declared.words.Kept.{Kept as KeptWords}
use Rattle.part_commands.specs.Words.{Kept}
use Rattle.part_commands.specs.Pieces.{place_from, place_named, keep_at, keep_put, keeps_of, name_first, first_unknown}
use Rattle.part_commands.specs.View.{kept_seen, keeps_seen, IsRange, AreRanges}

-- a place is one of a variable
by_test : (k : ℕ) (later : Option ℕ) (p n : ℕ) (b : Bool) → (later ≡ Some p → p < suc k + n) → (if b then Some k else later) ≡ Some p → p < k + suc n
by_test k later p n true f h = let same : k ≡ p = cc in omega (arith, same)
by_test k later p n false f h = let below : p < suc k + n = f h in omega (arith, below)

pub place_within : (k : ℕ) (xs : List Variable) (name : List ℕ) (p : ℕ) → place_from k xs name ≡ Some p → p < k + length xs
place_within k [] name p e = cc
place_within k (x ∷ xs) name p e = by_test k (place_from (suc k) xs name) p (length xs) (bytes_eq x.name name) (place_within (suc k) xs name p) e

-- a keep that was found
pub keep_within : (g : Game) (kept : KeptWords) (place : Option ℕ) (keep : Keep) → place_named g kept.name.now ≡ place → IsRange kept
    → keep_at place (kept_seen kept) ≡ Some keep → IsKeep g keep
keep_within g kept None keep e is h = cc
keep_within g kept (Some p) keep e is h =
    let at : p < 0 + length g.variables = place_within 0 g.variables kept.name.now p e in
    let k : Keep = record { x = record { 0 = p }; lo = kept.lo; hi = kept.hi } in
    let found : k ≡ keep = cc in
    let is_keep : IsKeep g k = record { exists = omega (arith, at); lo = is.0; hi = is.1 } in
    subst (IsKeep g) found is_keep

by_first : (g : Game) (first : Option Keep) (later : Option (List Keep)) (found : List Keep) → ((keep : Keep) → first ≡ Some keep → IsKeep g keep)
    → ((more : List Keep) → later ≡ Some more → AreKeeps g more) → keep_put first later ≡ Some found → AreKeeps g found
by_first g None later found one all h = cc
by_first g (Some keep) None found one all h = cc
by_first g (Some keep) (Some more) found one all h = let split : keep ∷ more ≡ found = cc in subst (AreKeeps g) split (one keep refl, all more refl)

pub are_keeps : (g : Game) (keeps : List KeptWords) (found : List Keep) → AreRanges keeps → keeps_of g (keeps_seen keeps) ≡ Some found → AreKeeps g found
are_keeps g [] found are e = let none : [] ≡ found = cc in subst (AreKeeps g) none tt
are_keeps g (kept ∷ keeps) found are e =
    by_first g (keep_at (place_named g kept.name.now) (kept_seen kept)) (keeps_of g (keeps_seen keeps)) found
    (λ keep h. keep_within g kept (place_named g kept.name.now) keep refl are.0 h)
    (λ more h. are_keeps g keeps more are.1 h) e

-- those before are put before those that are left
abbrev pub put_all : List Keep → Option (List Keep) → Option (List Keep)
put_all before later = option_map (λ ks. before ++ ks) later

-- one more was found
pub put_more : (before : List Keep) (keep : Keep) (later : Option (List Keep)) → put_all before (keep_put (Some keep) later) ≡ put_all (before ++ keep ∷ []) later
put_more before keep None = refl
put_more before keep (Some ks) = ap Some (sym (append_assoc before (keep ∷ []) ks))

-- the first of the names is there, and so are those that are left
pub first_known : (g : Game) (kept : Kept) (keeps : List Kept) → first_unknown g (kept ∷ keeps) ≡ None → first_unknown g keeps ≡ None
first_known g kept keeps e = by_place (place_named g kept.name) e
  where
    by_place : (place : Option ℕ) → name_first place kept.name (first_unknown g keeps) ≡ None → first_unknown g keeps ≡ None
    by_place None h = cc
    by_place (Some k) h = h

pub never_unknown : (g : Game) (kept : Kept) (keeps : List Kept) → first_unknown g (kept ∷ keeps) ≡ None → keep_at (place_named g kept.name) kept ≡ None → ⊥
never_unknown g kept keeps e h = by_place (place_named g kept.name) e h
  where
    by_place : (place : Option ℕ) → name_first place kept.name (first_unknown g keeps) ≡ None → keep_at place kept ≡ None → ⊥
    by_place None f k = cc
    by_place (Some p) f k = cc
