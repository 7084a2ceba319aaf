-- Values laid into the declared box, one after the other.
use Rattle.std.proofs.Common.{◌≡◌, ◌≤◌, ◌<◌, ◌∙◌, ◌+◌, ℕ, zero, suc, true, false, List, [], ◌∷◌, length, take, set, refl, sym, ap, subst, arith, add-one, ℤ}
use Rattle.std.specs.Prelude.{get_or, pos}
use Rattle.std.specs.List.{list_all}
use Rattle.qc_model.specs.Content.{Game}
use Rattle.qc_model.specs.Domains.{Box, InBox, declared_box, values_left, values_within, box_within, has_empty, is_sub_box, is_ascending, has_value}
use Rattle.qc_model.specs.Valid.{is_domain}
use Rattle.qc_model.proofs.Sound.{has_it}
use Rattle.box_laws.proofs.Declared.{declared_is, declared_full}
use Rattle.model_arguments.specs.Asked.{is_box_of}
use Rattle.model_arguments.proofs.Boxes.{set_full, sub_ascending}
use Rattle.model_arguments.proofs.Values.{only_within}
use Rattle.fd_store.specs.Held.{Held, Follows}
use Rattle.dense_alike.specs.Laid.{laid_in}

-- the first k of the values are laid
pub record IsLaid (g : Game) (old : Held) (vs : List ℤ) (k : ℕ) (now : Held) : Type 0 where
  pub content : now.box ≡ laid_in old.box (take k vs)
  pub declared : is_box_of g now.box ≡ true
  pub full : has_empty now.box ≡ false
  pub past : Follows old now

-- the next variable has its declared domain, and the next value lies in it
next_left : (box : Box) (vs : List ℤ) (k : ℕ) → k < length vs → length vs ≤ length box → values_left (laid_in box (take k vs)) k ≡ values_left box k
next_left box vs zero l m = refl
next_left box [] (suc k) l m = absurd (omega arith)
next_left [] (v ∷ vs) (suc k) l m = absurd (omega arith)
next_left (d ∷ box) (v ∷ vs) (suc k) l m = next_left box vs k (omega arith) (omega arith)

next_lies : (box : Box) (vs : List ℤ) (k : ℕ) → k < length vs → InBox vs box → length vs ≤ length box → has_value (values_left box k) (get_or vs k (pos 0)) ≡ true
next_lies box [] k l i m = absurd (omega arith)
next_lies [] (v ∷ vs) k l i m = absurd (omega arith)
next_lies (d ∷ box) (v ∷ vs) zero l i m = has_it d v i.0
next_lies (d ∷ box) (v ∷ vs) (suc k) l i m = next_lies box vs k (omega arith) i.1 (omega arith)

next_laid : (box : Box) (vs : List ℤ) (k : ℕ) → k < length vs → length vs ≤ length box → set (laid_in box (take k vs)) k (get_or vs k (pos 0) ∷ []) ≡ laid_in box (take (suc k) vs)
next_laid box [] k l m = absurd (omega arith)
next_laid [] (v ∷ vs) k l m = absurd (omega arith)
next_laid (d ∷ box) (v ∷ vs) zero l m = refl
next_laid (d ∷ box) (v ∷ vs) (suc k) l m = ap (λ ds. (v ∷ []) ∷ ds) (next_laid box vs k (omega arith) (omega arith))

follows_on : (s t u : Held) → Follows s t → Follows t u → Follows s u
follows_on s t u f h = record {
  longer = omega (arith, f.longer, h.longer);
  boxes = λ k l. h.boxes k (omega (arith, l, f.longer)) ∙ f.boxes k l;
}

pub none_laid : (g : Game) (old : Held) (vs : List ℤ) → list_all (λ x. is_domain x.domain) g.variables ≡ true → old.box ≡ declared_box g → IsLaid g old vs 0 old
none_laid g old vs valid e = record {
  content = refl;
  declared = declared_is g old.box valid e;
  full = ap has_empty e ∙ declared_full g valid;
  past = record { longer = omega arith; boxes = λ k l. refl };
}

-- one more
pub one_laid : (g : Game) (old now new : Held) (vs : List ℤ) (k : ℕ) (v : ℤ) → InBox vs old.box → length vs ≤ length old.box → k < length vs → v ≡ get_or vs k (pos 0) → IsLaid g old vs k now → old.box ≡ declared_box g →
    new.box ≡ box_within now.box k v v → Follows now new → ((large : Box) → is_sub_box now.box large ≡ true → is_sub_box new.box large ≡ true) → list_all (λ x. is_domain x.domain) g.variables ≡ true → IsLaid g old vs (k + 1) new
one_laid g old now new vs k v lie within l is p whole content follows fewer valid =
    let left : values_left now.box k ≡ values_left old.box k = ap (λ b. values_left b k) p.content ∙ next_left old.box vs k l within in
    let there : has_value (values_left old.box k) v ≡ true = subst (λ u. has_value (values_left old.box k) u ≡ true) (sym is) (next_lies old.box vs k l lie within) in
    let ascends : is_ascending (values_left old.box k) ≡ true = sub_ascending old.box (declared_box g) k (declared_is g old.box valid whole) in
    let one : values_within v v (values_left now.box k) ≡ v ∷ [] = ap (values_within v v) left ∙ only_within v (values_left old.box k) ascends there in
    let new_is : new.box ≡ set now.box k (v ∷ []) = content ∙ ap (set now.box k) one in
    record {
      content =
          new_is ∙ (ap (λ b. set b k (v ∷ [])) p.content ∙ (ap (λ u. set (laid_in old.box (take k vs)) k (u ∷ [])) is ∙ (next_laid old.box vs k l within ∙ ap (λ n. laid_in old.box (take n vs)) (sym (add-one k)))));
      declared = fewer (declared_box g) p.declared;
      full = ap has_empty new_is ∙ set_full now.box k (v ∷ []) p.full refl;
      past = follows_on old now new p.past follows;
    }
