-- Boxes in which one variable keeps its greatest value, and the box of the declared domains.
use Rattle.std.proofs.Common.{◌≡◌, ℕ, zero, suc, ◌≤◌, ◌==◌, Bool, true, false, ◌&&◌, ◌||◌, List, [], ◌∷◌, length, map, set, refl, sym, ap, subst, ◌∙◌, ℤ, arith, Option, Some, None, IfSome, Result, Ok, Err, IfOk}
use Rattle.std.specs.Prelude.{slice_index_or}
use Rattle.std.specs.List.{list_all}
use Rattle.std.specs.Ordering.{int_eq}
use Rattle.std.proofs.lemmas.Bool.Decides.{nat_tests}
use Rattle.std.proofs.lemmas.List.{length-set, length-map}
use Rattle.std.proofs.lemmas.Bool.{and_from}
use Rattle.qc_model.specs.declared.problem.Variable.{Variable}
use Rattle.qc_model.specs.declared.problem.VarId.{VarId}
use Rattle.qc_model.specs.Content.{Game}
use Rattle.qc_model.specs.Domains.{Values, Box, domain_values, declared_box, values_left, is_none_left, has_value, values_outside, values_within, box_without, is_ascending, is_sub_box}
use Rattle.qc_model.specs.Valid.{is_domain}
use Rattle.qc_model.proofs.Readable.{first, second}
use Rattle.model_arguments.proofs.Values.{has_first}
use Rattle.model_arguments.proofs.Boxes.{set_full, sub_length, sub_without}
use Rattle.fd_store.specs.Held.{Held, Follows, trail_len, past_box, removal}
use Rattle.fd_store.specs.declared.answer.Removed.TheVariants.{Some as SomeGone}
use Rattle.prop_yard.specs.Closing.{IsClosedBox, IsChangedAt, is_any}
use Rattle.model_levels.proofs.Ascends.{domain_ascends}
use Rattle.prop_engine.specs.Closing.{EachRule, IsClosedFor}
use Rattle.prop_engine.specs.Watching.{WasKept}
use Rattle.qc_model.specs.Closed.{keeps_ends}

left_other : (box : Box) (x y : ℕ) (us : Values) → ((x ≡ y) → ⊥) → values_left (set box x us) y ≡ values_left box y
left_other [] x y us h = refl
left_other (vs ∷ box) zero zero us h = absurd (h refl)
left_other (vs ∷ box) zero (suc y) us h = refl
left_other (vs ∷ box) (suc x) zero us h = refl
left_other (vs ∷ box) (suc x) (suc y) us h = left_other box x y us (λ e. h (ap suc e))

alone : (b : Bool) → (b || false) ≡ false → b ≡ false
alone true h = cc
alone false h = refl

apart : (x y : ℕ) → (x == y) ≡ false → (x ≡ y) → ⊥
apart x y h e = grind (arith, nat_tests)

-- x alone has lost values
was_kept : (ok : ℕ → Bool) (g : Game) (x : VarId) (v : ℤ) (box : Box) → is_sub_box box (declared_box g) ≡ true → EachRule ok g (keeps_ends box) → WasKept ok g (x ∷ []) (box_without box x.0 v v)
was_kept ok g x v box d h =
    let us = values_outside v v (values_left box x.0) in
    record {
      earlier = box;
      declared = d;
      count = length-set box x.0 us;
      fewer = λ large k. sub_without box large x.0 v v k;
      kept = h;
      others = λ y n. left_other box x.0 y us (apart x.0 y (alone (x.0 == y) n));
    }

some_stays : (go stay : Values) → removal go stay ≡ SomeGone → is_none_left stay ≡ false
some_stays [] stay h = cc
some_stays (v ∷ go) [] h = cc
some_stays (v ∷ go) (w ∷ stay) h = refl

-- a value of x is gone, and some are left
pub changed_at : (g : Game) (x : VarId) (v : ℤ) (box new : Box) → IsClosedBox g box → new ≡ box_without box x.0 v v →
    SomeGone ≡ removal (values_within v v (values_left box x.0)) (values_outside v v (values_left box x.0)) → IsChangedAt g x new
changed_at g x v box new h e r = subst (IsChangedAt g x) (sym e) (record {
  declared = sub_without box (declared_box g) x.0 v v h.declared;
  full = set_full box x.0 (values_outside v v (values_left box x.0)) h.closed.0 (some_stays (values_within v v (values_left box x.0)) (values_outside v v (values_left box x.0)) (sym r));
  earlier = was_kept (is_any g) g x v box h.declared h.closed.1;
})

at_end : {X : Type 0} (xs : List X) (d : X) → slice_index_or xs (length xs) d ≡ d
at_end [] d = refl
at_end (x ∷ xs) d = at_end xs d

le-refl : (n : ℕ) → n ≤ n
le-refl n = omega arith

-- undoing to where the box was
pub undone : (s t u : Held) (n : ℕ) → n ≡ trail_len s → Follows s t → u.box ≡ past_box t n → u.box ≡ s.box
undone s t u n e f h = h ∙ ap (past_box t) e ∙ f.boxes (trail_len s) (le-refl (trail_len s)) ∙ at_end s.past s.box

has_self : (us vs : Values) → ((v : ℤ) → has_value vs v ≡ true → has_value us v ≡ true) → list_all (has_value us) vs ≡ true
has_self us [] f = refl
has_self us (v ∷ vs) f =
    and_from (has_value us v) (list_all (has_value us) vs) (f v (has_first v vs)) (has_self us vs (λ w h. f w (later (int_eq w v) (has_value vs w) h)))
  where
    later : (a b : Bool) → b ≡ true → (a || b) ≡ true
    later true b h = refl
    later false b h = h

self_sub : (xs : List Variable) → list_all (λ x. is_domain x.domain) xs ≡ true → is_sub_box (map (λ x. domain_values x.domain) xs) (map (λ x. domain_values x.domain) xs) ≡ true
self_sub [] h = refl
self_sub (x ∷ xs) h =
    let d = domain_values x.domain in
    let rest = map (λ y. domain_values y.domain) xs in
    and_from (is_ascending d && list_all (has_value d) d) (is_sub_box rest rest)
    (and_from (is_ascending d) (list_all (has_value d) d) (domain_ascends x.domain (first (is_domain x.domain) (list_all (λ y. is_domain y.domain) xs) h)) (has_self d d (λ v m. m)))
    (self_sub xs (second (is_domain x.domain) (list_all (λ y. is_domain y.domain) xs) h))

-- the declared domains hold their own values
pub declared_sub : (g : Game) → list_all (λ x. is_domain x.domain) g.variables ≡ true → is_sub_box (declared_box g) (declared_box g) ≡ true
declared_sub g h = self_sub g.variables h

-- a closed box
pub closed_box : (g : Game) (box : Box) → is_sub_box box (declared_box g) ≡ true → IsClosedFor (is_any g) g box → IsClosedBox g box
closed_box g box h c = record {
  count = sub_length box (declared_box g) h ∙ length-map g.variables (λ (x : Variable). domain_values x.domain);
  declared = h;
  closed = c;
}

if_some : (o : Option Held) (g : Game) → IfSome o (λ s. IsClosedBox g s.box) → IfSome o (λ s. length s.box ≡ length g.variables)
if_some None g h = tt
if_some (Some s) g h = h.count

pub counted : {E : Type 0} (r : Result (Option Held) E) (g : Game) → IfOk r (λ o. IfSome o (λ s. IsClosedBox g s.box)) → IfOk r (λ o. IfSome o (λ s. length s.box ≡ length g.variables))
counted (Ok o) g h = if_some o g h
counted (Err e) g h = tt
