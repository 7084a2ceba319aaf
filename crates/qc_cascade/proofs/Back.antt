-- A store that was led on and then undone to where it began is the store that it was.
use Rattle.std.proofs.Common.{◌≡◌, List, [], ◌∷◌, length, get_or, refl, sym, ap, ◌∙◌, arith}
use Rattle.std.proofs.lemmas.List.{ext_get_or}
use Rattle.fd_store.specs.Held.{Held, trail_len, Follows, IsUndone}

past_the_end : {X : Type 0} (xs : List X) (d : X) → get_or xs (length xs) d ≡ d
past_the_end [] d = refl
past_the_end (x ∷ xs) d = past_the_end xs d

pub box_back : (s m t : Held) → Follows s m → IsUndone (trail_len s) m t → t.box ≡ s.box
box_back s m t f u =
    sym (past_the_end t.past t.box)
    ∙ (ap (λ n. get_or t.past n t.box) u.len ∙ (u.boxes (length s.past) (omega arith) ∙ (f.boxes (length s.past) (omega arith) ∙ past_the_end s.past s.box)))

pub past_back : (s m t : Held) → Follows s m → IsUndone (trail_len s) m t → t.past ≡ s.past
past_back s m t f u =
    ext_get_or s.box t.past s.past u.len
    (λ k l. ap (get_or t.past k) (sym (box_back s m t f u)) ∙ (u.boxes k (omega (arith, l, u.len)) ∙ f.boxes k (omega (arith, l, u.len))))
