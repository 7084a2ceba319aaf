-- Stores that lose values of one variable.
use Rattle.std.proofs.Common.{◌≡◌, ◌<◌, ℕ, Bool, true, false, ◌||◌, [], ◌∷◌, length, refl, sym, ap, ◌∙◌, subst, arith, length-set}
use Rattle.std.specs.Prelude.{◌==◌, nat_lt, ℤ}
use Rattle.std.proofs.lemmas.Bool.Decides.{nat_tests}
use Rattle.std.proofs.lemmas.List.{get_or-set_other, get_or-set_same}
use Rattle.qc_model.specs.declared.problem.VarId.{VarId}
use Rattle.qc_model.specs.Content.{Game}
use Rattle.qc_model.specs.Domains.{Values, values_left, values_outside, box_without, has_empty, is_none_left, is_sub_box}
use Rattle.model_arguments.specs.Asked.{is_box_of}
use Rattle.model_arguments.proofs.Boxes.{sub_without, set_full}
use Rattle.fd_store.specs.Held.{Held, Follows}
use Rattle.prop_base.proofs.Steps.{follows_same, follows_more}
use Rattle.prop_engine.specs.Closing.{IsClosedFor}
use Rattle.prop_engine.specs.Watching.{WasKept}
use Rattle.search_scout.specs.Narrowed.{IsNarrowed}

apart : (j k : ℕ) → (j == k) ≡ false → k ≡ j → ⊥
apart j k h e = grind (arith, nat_tests)

pub narrowed_same : (x : ℕ) (s t : Held) → t.box ≡ s.box → t.past ≡ s.past → IsNarrowed x s t
narrowed_same x s t b p = record {
  follows = follows_same s t b p;
  count = ap length b;
  others = λ y n. ap (λ box. values_left box y) b;
  within = λ large h. ap (λ box. is_sub_box box large) b ∙ h;
}

-- values are taken out of x, once there is room for it
pub narrowed_cut : (x : ℕ) (lo hi : ℤ) (s m t : Held) → m.box ≡ s.box → m.past ≡ s.past → t.box ≡ box_without m.box x lo hi → Follows m t → IsNarrowed x s t
narrowed_cut x lo hi s m t b p e f =
    let left = values_outside lo hi (values_left m.box x) in
    record {
      follows = follows_more s m t (follows_same s m b p) f;
      count = ap length e ∙ (length-set m.box x left ∙ ap length b);
      others = λ y n. ap (λ box. values_left box y) e ∙ (get_or-set_other m.box x y left [] (apart x y n) ∙ ap (λ box. values_left box y) b);
      within = λ large h. ap (λ box. is_sub_box box large) e ∙ sub_without m.box large x lo hi (ap (λ box. is_sub_box box large) b ∙ h);
    }

pub narrowed_more : (x : ℕ) (s t u : Held) → IsNarrowed x s t → IsNarrowed x t u → IsNarrowed x s u
narrowed_more x s t u p q = record {
  follows = follows_more s t u p.follows q.follows;
  count = q.count ∙ p.count;
  others = λ y n. q.others y n ∙ p.others y n;
  within = λ large h. q.within large (p.within large h);
}

-- no domain is empty where x has some value left
some_left : (vs : Values) → (0 < length vs) → is_none_left vs ≡ false
some_left [] h = absurd (omega (arith, h))
some_left (v ∷ vs) h = refl

pub full_cut : (x : ℕ) (lo hi : ℤ) (m t : Held) → x < length m.box → t.box ≡ box_without m.box x lo hi → 0 < length (values_left t.box x) → has_empty m.box ≡ false → has_empty t.box ≡ false
full_cut x lo hi m t l e h f =
    let left = values_outside lo hi (values_left m.box x) in
    let here : values_left t.box x ≡ left = ap (λ box. values_left box x) e ∙ get_or-set_same m.box x left [] l in
    ap has_empty e ∙ set_full m.box x left f (some_left left (subst (λ vs. 0 < length vs) here h))

-- the same where room was made before, by the number of values left
pub full_after : (x : ℕ) (lo hi : ℤ) (s m t : Held) (n : ℕ) → x < length s.box → m.box ≡ s.box → t.box ≡ box_without m.box x lo hi → n ≡ length (values_left t.box x) → nat_lt 0 n ≡ true →
    has_empty s.box ≡ false → has_empty t.box ≡ false
full_after x lo hi s m t n l b e size some full =
    full_cut x lo hi m t (subst (λ k. x < k) (sym (ap length b)) l) e (subst (λ k. 0 < k) size (grind (arith, nat_tests))) (ap has_empty b ∙ full)

-- a box that was closed before values of x went
neither : (a b : Bool) → (a || b) ≡ false → a ≡ false
neither true b h = cc
neither false b h = refl

pub kept_after : (ok : ℕ → Bool) (g : Game) (x : VarId) (s t : Held) → is_box_of g s.box ≡ true → IsClosedFor ok g s.box → IsNarrowed x.0 s t → WasKept ok g (x ∷ []) t.box
kept_after ok g x s t d c n = record {
  earlier = s.box;
  declared = d;
  count = n.count;
  fewer = n.within;
  kept = c.1;
  others = λ y h. n.others y (neither (x.0 == y) false h);
}
