-- Past boxes, and stores that are led on and back.
use Rattle.std.proofs.Common.{◌≡◌, ℕ, List, [], ◌∷◌, length, get_or, refl, sym, ap, ◌∙◌, arith}
use Rattle.std.specs.Prelude.{slice_index_or}
use Rattle.std.proofs.lemmas.List.{ext_get_or}
use Rattle.qc_model.specs.Domains.{Box}
use Rattle.fd_store.specs.Held.{Held, trail_len, past_box, Follows, IsUndone}

-- at the trail's length the past box is the box itself
pub past_now : (s : Held) (n : ℕ) → n ≡ trail_len s → past_box s n ≡ s.box
past_now s n e = ap (past_box s) e ∙ beyond s.past s.box
  where
    beyond : (xs : List Box) (b : Box) → slice_index_or xs (length xs) b ≡ b
    beyond [] b = refl
    beyond (x ∷ xs) b = beyond xs b

-- a store that was led on and then undone to where it began is the store that it was
past_the_end : {X : Type 0} (xs : List X) (d : X) → get_or xs (length xs) d ≡ d
past_the_end [] d = refl
past_the_end (x ∷ xs) d = past_the_end xs d

pub box_back : (s m t : Held) (n : ℕ) → trail_len s ≡ n → Follows s m → IsUndone n m t → t.box ≡ s.box
box_back s m t n e f u =
    sym (past_the_end t.past t.box)
    ∙ (ap (λ k. get_or t.past k t.box) (u.len ∙ sym e) ∙ (u.boxes (length s.past) (omega (arith, e)) ∙ (f.boxes (length s.past) (omega arith) ∙ past_the_end s.past s.box)))

pub past_back : (s m t : Held) (n : ℕ) → trail_len s ≡ n → Follows s m → IsUndone n m t → t.past ≡ s.past
past_back s m t n e f u =
    ext_get_or s.box t.past s.past (u.len ∙ sym e)
    (λ k l. ap (get_or t.past k) (sym (box_back s m t n e f u)) ∙ (u.boxes k (omega (arith, l, u.len)) ∙ f.boxes k (omega (arith, l, u.len, e))))
