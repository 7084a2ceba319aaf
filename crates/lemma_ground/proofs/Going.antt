-- Stores that go on, and come back.
use Rattle.std.proofs.Common.{◌≡◌, ◌<◌, ◌∙◌, ℕ, false, List, [], ◌∷◌, length, get_or, ext_get_or, refl, sym, ap, subst, arith}
use Rattle.std.specs.Prelude.{ℤ}
use Rattle.std.proofs.lemmas.List.{get_or-set_same}
use Rattle.qc_model.specs.Domains.{Values, values_left, values_outside, box_without, has_empty, is_none_left, is_sub_box}
use Rattle.model_arguments.proofs.Boxes.{sub_without, set_full}
use Rattle.fd_store.specs.Held.{Held, Follows, IsUndone, trail_len}
use Rattle.prop_base.proofs.Steps.{follows_same, follows_more}
use Rattle.lemma_ground.specs.Steady.{GoesOn}

pub goes_same : (s t : Held) → t.box ≡ s.box → t.past ≡ s.past → GoesOn s t
goes_same s t b p = record { follows = follows_same s t b p; within = λ large h. ap (λ box. is_sub_box box large) b ∙ h }

pub goes_more : (s t u : Held) → GoesOn s t → GoesOn t u → GoesOn s u
goes_more s t u p q = record { follows = follows_more s t u p.follows q.follows; within = λ large h. q.within large (p.within large h) }

-- values are taken out of x
pub goes_cut : (x : ℕ) (lo hi : ℤ) (s t : Held) → t.box ≡ box_without s.box x lo hi → Follows s t → GoesOn s t
goes_cut x lo hi s t e f = record { follows = f; within = λ large h. ap (λ box. is_sub_box box large) e ∙ sub_without s.box large x lo hi h }

-- no domain is empty where x has some value left
some_left : (vs : Values) → (0 < length vs) → is_none_left vs ≡ false
some_left [] h = absurd (omega (arith, h))
some_left (v ∷ vs) h = refl

pub full_cut : (x : ℕ) (lo hi : ℤ) (s t : Held) (n : ℕ) → x < length s.box → t.box ≡ box_without s.box x lo hi → n ≡ length (values_left t.box x) → 0 < n → has_empty s.box ≡ false → has_empty t.box ≡ false
full_cut x lo hi s t n l e size h f =
    let left = values_outside lo hi (values_left s.box x) in
    let here : values_left t.box x ≡ left = ap (λ box. values_left box x) e ∙ get_or-set_same s.box x left [] l in
    ap has_empty e ∙ set_full s.box x left f (some_left left (subst (λ vs. 0 < length vs) here (subst (λ k. 0 < k) size h)))

past_the_end : {X : Type 0} (xs : List X) (d : X) → get_or xs (length xs) d ≡ d
past_the_end [] d = refl
past_the_end (x ∷ xs) d = past_the_end xs d

-- undone to where it was
pub box_back : (s m t : Held) (n : ℕ) → n ≡ trail_len s → Follows s m → IsUndone n m t → t.box ≡ s.box
box_back s m t n e f u =
    sym (past_the_end t.past t.box)
    ∙ (ap (λ k. get_or t.past k t.box) (u.len ∙ e) ∙ (u.boxes (length s.past) (omega (arith, e)) ∙ (f.boxes (length s.past) (omega arith) ∙ past_the_end s.past s.box)))

pub past_back : (s m t : Held) (n : ℕ) → n ≡ trail_len s → Follows s m → IsUndone n m t → t.past ≡ s.past
past_back s m t n e f u =
    ext_get_or s.box t.past s.past (u.len ∙ e)
    (λ k l. ap (get_or t.past k) (sym (box_back s m t n e f u)) ∙ (u.boxes k (omega (arith, l, u.len)) ∙ f.boxes k (omega (arith, l, u.len, e))))

pub goes_back : (s m t : Held) (n : ℕ) → n ≡ trail_len s → GoesOn s m → IsUndone n m t → GoesOn s t
goes_back s m t n e g u = goes_same s t (box_back s m t n e g.follows u) (past_back s m t n e g.follows u)
