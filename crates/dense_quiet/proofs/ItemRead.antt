-- The item at a place that is counted from 1, as the code reads it.
use Rattle.std.proofs.Common.{◌≡◌, ◌∙◌, ℕ, ◌-◌, ◌<◌, ◌≤◌, true, false, cond, List, length, get_or, Some, None, sym, ap, subst, ℤ}
use Rattle.std.specs.Prelude.{pos, int_lt, slice_get, unsigned_abs}
use Rattle.std.specs.List.{list_all}
use Rattle.std.proofs.lemmas.Option.{slice_get_past, same_Some}
use mir.Val.{SFits}
use mir.Syntax.{w64}
use Rattle.qc_model.specs.declared.problem.Arg.{Arg}
use Rattle.qc_model.specs.Domains.{Box}
use Rattle.qc_refuter.specs.Met.{is_open}
use Rattle.dense_quiet.specs.Quiet.{item_at}
use Rattle.dense_quiet.proofs.ItemPlaces.{got_at}
use Rattle.dense_quiet.proofs.RoomSteps.{passed, passed_is}
use Rattle.dense_quiet.proofs.Spread.{passes_at}

from_one : (xs : List Arg) (p : ℤ) → SFits w64 p → int_lt (passed p) (pos 1) ≡ false → slice_get xs (unsigned_abs (passed p) - 1) ≡ item_at xs p
from_one xs p f t =
    ap (λ z. slice_get xs (unsigned_abs z - 1)) (passed_is p f)
    ∙ sym (ap (λ b. cond b None (slice_get xs (unsigned_abs p - 1))) (subst (λ z. int_lt z (pos 1) ≡ false) (passed_is p f) t))

-- past the last item, and before
pub past_items : (xs : List Arg) (p : ℤ) → SFits w64 p → int_lt (passed p) (pos 1) ≡ false → length xs ≤ unsigned_abs (passed p) - 1 → None ≡ item_at xs p
past_items xs p f t h = sym (slice_get_past xs (unsigned_abs (passed p) - 1) h) ∙ from_one xs p f t

pub item_read : (xs : List Arg) (p : ℤ) (d : Arg) → SFits w64 p → int_lt (passed p) (pos 1) ≡ false → unsigned_abs (passed p) - 1 < length xs → Some (get_or xs (unsigned_abs (passed p) - 1) d) ≡ item_at xs p
item_read xs p d f t h = sym (got_at xs (unsigned_abs (passed p) - 1) d h) ∙ from_one xs p f t

-- it is open
pub read_open : (box : Box) (xs : List Arg) (k : ℕ) (d : Arg) → k < length xs → list_all (is_open box) xs ≡ true → (item : Arg) → Some (get_or xs k d) ≡ Some item → is_open box item ≡ true
read_open box xs k d l h item e = subst (λ a. is_open box a ≡ true) (same_Some (get_or xs k d) item e) (passes_at (is_open box) xs k d l h)
