-- A box that is kept to some values, one variable after the other.
use Rattle.std.proofs.Common.{◌≡◌, ◌∙◌, ◌<◌, ◌≤◌, ◌-◌, length, take, drop, get_or, Result, Ok, Err, OnOk, IfOk, ℕ, zero, suc, Bool, true, false, not, ◌&&◌, ◌||◌, List, [], ◌∷◌, refl, sym, ap, subst, arith, ℤ, cond, Option, Some}
use Rattle.std.specs.Prelude.{filter, negsuc, pos, int_le, ◌-ℤ◌, ◌+ℤ◌}
use Rattle.std.specs.List.{list_all}
use Rattle.std.specs.declared.alloc.AllocError.{AllocError}
use Rattle.std.proofs.lemmas.Int.{ints}
use Rattle.std.proofs.lemmas.List.{take_all}
use Rattle.std.proofs.lemmas.Bool.Decides.{nat_tests}
use Rattle.qc_model.specs.Content.{Game}
use Rattle.qc_model.specs.Domains.{Box, Values, box_within, box_without, has_empty, is_none_left, is_within, values_left, values_outside, values_within}
use Rattle.qc_model.specs.Valid.{IsValid, is_number}
use Rattle.model_arguments.specs.Asked.{is_box_of}
use Rattle.model_arguments.proofs.Boxes.{left_small}
use Rattle.qc_model.specs.declared.problem.Sense.{Sense}
use Rattle.qc_model.specs.declared.problem.VarId.{VarId}
use Rattle.proof_tree.specs.declared.tree.Step.{Step}
use Rattle.search_box.specs.Bounds.{BoundAnswers}
use Rattle.search_box.specs.declared.bounding.Bounded.{Bounded}
use Rattle.search_box.specs.Boxed.{Boxed}
use Rattle.search_box.specs.Entered.{IsEntered}
use Rattle.box_laws.proofs.Emptying.{nothing_goes}
use Rattle.box_laws.proofs.Sides.{kept_box as sides_gone}
use Rattle.game_search.specs.Pieces.{AreKeeps, IsKeep, kept_from}
use Rattle.game_search.specs.declared.pieces.Keep.{Keep}

-- ---- a variable that has no value left gets none
or_true : (a : Bool) → (a || true) ≡ true
or_true true = refl
or_true false = refl

pub within_empty : (box : Box) (x : ℕ) (lo hi : ℤ) → has_empty box ≡ true → has_empty (box_within box x lo hi) ≡ true
within_empty [] x lo hi e = cc
within_empty ([] ∷ box) zero lo hi e = refl
within_empty ((v ∷ vs) ∷ box) zero lo hi e = ap (λ b. is_none_left (values_within lo hi (v ∷ vs)) || b) e ∙ or_true (is_none_left (values_within lo hi (v ∷ vs)))
within_empty ([] ∷ box) (suc x) lo hi e = refl
within_empty ((v ∷ vs) ∷ box) (suc x) lo hi e = within_empty box x lo hi e

without_empty : (box : Box) (x : ℕ) (lo hi : ℤ) → has_empty box ≡ true → has_empty (box_without box x lo hi) ≡ true
without_empty [] x lo hi e = cc
without_empty ([] ∷ box) zero lo hi e = refl
without_empty ((v ∷ vs) ∷ box) zero lo hi e = ap (λ b. is_none_left (values_outside lo hi (v ∷ vs)) || b) e ∙ or_true (is_none_left (values_outside lo hi (v ∷ vs)))
without_empty ([] ∷ box) (suc x) lo hi e = refl
without_empty ((v ∷ vs) ∷ box) (suc x) lo hi e = without_empty box x lo hi e

unnot : (b : Bool) → true ≡ not b → b ≡ false
unnot true e = e
unnot false e = refl

not_none : (b : Bool) → false ≡ not b → b ≡ true
not_none true e = refl
not_none false e = e

pub kept_empty : (box : Box) (keeps : List Keep) → has_empty box ≡ true → has_empty (kept_from box keeps) ≡ true
kept_empty box [] e = e
kept_empty box (k ∷ keeps) e = kept_empty (box_within box k.x.0 k.lo k.hi) keeps (within_empty box k.x.0 k.lo k.hi e)

-- ---- the keeps that are left to be done
pub record IsKeeping (g : Game) (keeps : List Keep) (old : Boxed) (rest : List Keep) (now : Boxed) : Type 0 where
  pub box : kept_from now.store.box rest ≡ kept_from old.store.box keeps
  pub full : has_empty now.store.box ≡ false
  pub here : (f : Game) → IsEntered f 0 old → IsEntered f 0 now
  pub game : now.game ≡ g
  pub each : AreKeeps g rest

pub kept_begun : (g : Game) (keeps : List Keep) (old : Boxed) → old.game ≡ g → has_empty old.store.box ≡ false → AreKeeps g keeps → IsKeeping g keeps old keeps old
kept_begun g keeps old game full each = record { box = refl; full = full; here = λ f e. e; game = game; each = each }

pub kept_more : (g : Game) (keeps : List Keep) (old : Boxed) (k : Keep) (later : List Keep) (now next : Boxed) → IsKeeping g keeps old (k ∷ later) now → next.store.box ≡ box_within now.store.box k.x.0 k.lo k.hi → true ≡ not (has_empty (box_within now.store.box k.x.0 k.lo k.hi)) →
    ((f : Game) → IsEntered f 0 now → IsEntered f 0 next) → next.game ≡ now.game → IsKeeping g keeps old later next
kept_more g keeps old k later now next i content some here game = record {
  box = ap (λ (b : Box). kept_from b later) content ∙ i.box;
  full = ap has_empty content ∙ unnot (has_empty (box_within now.store.box k.x.0 k.lo k.hi)) some;
  here = λ f e. here f (i.here f e);
  game = game ∙ i.game;
  each = i.each.1;
}

pub kept_stops : (g : Game) (keeps : List Keep) (old : Boxed) (k : Keep) (later : List Keep) (now : Boxed) → IsKeeping g keeps old (k ∷ later) now → false ≡ not (has_empty (box_within now.store.box k.x.0 k.lo k.hi)) → false ≡ not (has_empty (kept_from old.store.box keeps))
kept_stops g keeps old k later now i e =
    ap not (sym (ap has_empty (sym i.box) ∙ kept_empty (box_within now.store.box k.x.0 k.lo k.hi) later (not_none (has_empty (box_within now.store.box k.x.0 k.lo k.hi)) e)))

-- the first of those that are left, and the later ones, as a slice has them
later_ones : (k : Keep) (later : List Keep) → take (length (k ∷ later) - 1) (drop 1 (k ∷ later)) ≡ later
later_ones k later = take_all (length (k ∷ later) - 1) later (omega arith)

pub first_keep : (g : Game) (keeps : List Keep) (none : Keep) → 1 ≤ length keeps → AreKeeps g keeps → IsKeep g (get_or keeps 0 none)
first_keep g [] none some each = absurd (omega (arith, some))
first_keep g (k ∷ keeps) none some each = each.0

pub stops_first : (g : Game) (keeps : List Keep) (old : Boxed) (rest : List Keep) (none : Keep) (now : Boxed) → 1 ≤ length rest → IsKeeping g keeps old rest now → false ≡ not (has_empty (box_within now.store.box (get_or rest 0 none).x.0 (get_or rest 0 none).lo (get_or rest 0 none).hi)) →
    false ≡ not (has_empty (kept_from old.store.box keeps))
stops_first g keeps old [] none now some i e = absurd (omega (arith, some))
stops_first g keeps old (k ∷ later) none now some i e = kept_stops g keeps old k later now i e

pub goes_on : (g : Game) (keeps : List Keep) (old : Boxed) (rest : List Keep) (none : Keep) (now next : Boxed) → 1 ≤ length rest → IsKeeping g keeps old rest now → next.store.box ≡ box_within now.store.box (get_or rest 0 none).x.0 (get_or rest 0 none).lo (get_or rest 0 none).hi →
    true ≡ not (has_empty (box_within now.store.box (get_or rest 0 none).x.0 (get_or rest 0 none).lo (get_or rest 0 none).hi)) → ((f : Game) → IsEntered f 0 now → IsEntered f 0 next) → next.game ≡ now.game → IsKeeping g keeps old (take (length rest - 1) (drop 1 rest)) next
goes_on g keeps old [] none now next some i content e here game = absurd (omega (arith, some))
goes_on g keeps old (k ∷ later) none now next some i content e here game = subst (λ ks. IsKeeping g keeps old ks next) (sym (later_ones k later)) (kept_more g keeps old k later now next i content e here game)

pub all_kept : (g : Game) (keeps : List Keep) (old : Boxed) (rest : List Keep) (now : Boxed) → length rest < 1 → IsKeeping g keeps old rest now → now.store.box ≡ kept_from old.store.box keeps
all_kept g keeps old [] now few i = i.box
all_kept g keeps old (k ∷ rest) now few i = absurd (omega (arith, few))

-- ---- one of them: first the values below, then those above
pub numbers_left : (g : Game) (b : Boxed) (x : ℕ) → IsValid g → b.game ≡ g → is_box_of b.game b.store.box ≡ true → list_all is_number (values_left b.store.box x) ≡ true
numbers_left g b x valid game declared = left_small g b.store.box x valid.domains (subst (λ (f : Game). is_box_of f b.store.box ≡ true) game declared)

pub one_kept : (box mid new : Box) (k : Keep) → k.x.0 < length box → list_all is_number (values_left box k.x.0) ≡ true → mid ≡ box_without box k.x.0 (negsuc 999999999) (k.lo -ℤ pos 1) → new ≡ box_without mid k.x.0 (k.hi +ℤ pos 1) (pos 1000000000) → new ≡ box_within box k.x.0 k.lo k.hi
one_kept box mid new k inside numbers below above = sides_gone box mid new k.x.0 k.lo k.hi inside numbers below above

pub one_stopped : (box mid : Box) (k : Keep) → k.x.0 < length box → list_all is_number (values_left box k.x.0) ≡ true → mid ≡ box_without box k.x.0 (negsuc 999999999) (k.lo -ℤ pos 1) → false ≡ not (has_empty mid) → false ≡ not (has_empty (box_within box k.x.0 k.lo k.hi))
one_stopped box mid k inside numbers below e =
    let x = k.x.0 in
    let last = box_without mid x (k.hi +ℤ pos 1) (pos 1000000000) in
    ap not (sym (ap has_empty (sym (sides_gone box mid last x k.lo k.hi inside numbers below refl)) ∙ without_empty mid x (k.hi +ℤ pos 1) (pos 1000000000) (not_none (has_empty mid) e)))

-- whether the variable has a value left, by what bounding answered
pub gone_emptied : (s : Sense) (x : VarId) (lo hi : ℤ) (box left : Box) (old new : List Step) (r : Option Bounded) (b : Bounded) → r ≡ Some b → BoundAnswers s x lo hi box left old new r → b.is_empty ≡ has_empty left
gone_emptied s x lo hi box left old new r b e a = (subst (λ (o : Option Bounded). BoundAnswers s x lo hi box left old new o) e a).emptied

-- what is said of a call that is done, of what it answered
pub of_answer : {P : Type 0} {Q : Bool → Type 0} (r : Result Bool AllocError) → ((b : Bool) → P → Q b) → OnOk r P → IfOk r Q
of_answer (Ok b) f p = f b p
of_answer (Err e) f p = tt

pub of_both : {P Q R : Bool → Type 0} (r : Result Bool AllocError) → ((b : Bool) → P b → Q b → R b) → IfOk r P → IfOk r Q → IfOk r R
of_both (Ok b) f p q = f b p q
of_both (Err e) f p q = tt

-- ---- the values below the first one, and above the last one, where there are none
none_outside : (p : ℤ → Bool) (vs : Values) → ((v : ℤ) → is_number v ≡ true → p v ≡ false) → list_all is_number vs ≡ true → is_none_left (filter p vs) ≡ true
none_outside p [] f h = refl
none_outside p (v ∷ vs) f h = by (is_number v) (list_all is_number vs) refl refl h (none_outside p vs f)
  where
    passed : (b : Bool) → b ≡ false → is_none_left (filter p vs) ≡ true → is_none_left (cond b (v ∷ filter p vs) (filter p vs)) ≡ true
    passed true q r = cc
    passed false q r = r

    by : (a b : Bool) → is_number v ≡ a → list_all is_number vs ≡ b → (a && b) ≡ true → (list_all is_number vs ≡ true → is_none_left (filter p vs) ≡ true) → is_none_left (cond (p v) (v ∷ filter p vs) (filter p vs)) ≡ true
    by true true e q h rest = passed (p v) (f v e) (rest q)
    by true false e q h rest = cc
    by false b e q h rest = cc

pub none_under : (box : Box) (x : ℕ) (lo : ℤ) → list_all is_number (values_left box x) ≡ true → int_le lo (negsuc 999999999) ≡ true → box ≡ box_without box x (negsuc 999999999) (lo -ℤ pos 1)
none_under box x lo numbers h = nothing_goes box x (negsuc 999999999) (lo -ℤ pos 1) (none_outside (is_within (negsuc 999999999) (lo -ℤ pos 1)) (values_left box x) (outside lo h) numbers)
  where
    outside : (lo : ℤ) → int_le lo (negsuc 999999999) ≡ true → (v : ℤ) → is_number v ≡ true → is_within (negsuc 999999999) (lo -ℤ pos 1) v ≡ false
    outside lo h v n = grind (arith, nat_tests, ints)

pub none_over : (box : Box) (x : ℕ) (hi : ℤ) → list_all is_number (values_left box x) ≡ true → int_le (pos 1000000000) hi ≡ true → box ≡ box_without box x (hi +ℤ pos 1) (pos 1000000000)
none_over box x hi numbers h = nothing_goes box x (hi +ℤ pos 1) (pos 1000000000) (none_outside (is_within (hi +ℤ pos 1) (pos 1000000000)) (values_left box x) (outside hi h) numbers)
  where
    outside : (hi : ℤ) → int_le (pos 1000000000) hi ≡ true → (v : ℤ) → is_number v ≡ true → is_within (hi +ℤ pos 1) (pos 1000000000) v ≡ false
    outside hi h v n = grind (arith, nat_tests, ints)
