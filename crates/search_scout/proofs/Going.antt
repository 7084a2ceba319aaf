-- Stores that are led on and come back.
use Rattle.std.proofs.Common.{◌≡◌, ◌∷◌, ◌∙◌, ℕ, Bool, List, [], length, get_or, ext_get_or, refl, sym, ap, subst, arith, ◌≤◌}
use Rattle.std.proofs.lemmas.List.{length-map}
use Rattle.qc_model.specs.Content.{Game}
use Rattle.qc_model.specs.Domains.{declared_box, domain_values}
use Rattle.model_arguments.specs.Asked.{is_box_of}
use Rattle.model_arguments.proofs.Boxes.{sub_length}
use Rattle.fd_store.specs.Held.{Held, Follows, IsUndone, trail_len}
use Rattle.proof_tree.specs.declared.tree.Step.{Step}
use Rattle.prop_base.specs.Pruning.{IsPruning}
use Rattle.prop_base.proofs.Steps.{follows_same, follows_more, pruning_sub}
use Rattle.prop_engine.specs.Closing.{IsClosedFor}
use Rattle.prop_engine.specs.Watching.{Knowing, IsReady}
use Rattle.search_scout.specs.Ground.{IsSound, Went, CameBack}
use Rattle.search_scout.specs.Narrowed.{IsNarrowed}

pub went_same : (g : Game) (e : Knowing) (s : Held) → IsSound g e s → Went g s e s
went_same g e s h = record { sound = h; follows = follows_same s s refl refl }

pub went_more : (g : Game) (s t u : Held) (e f : Knowing) → Went g s e t → Went g t f u → Went g s f u
went_more g s t u e f p q = record { sound = q.sound; follows = follows_more s t u p.follows q.follows }

-- after filters
pub went_pruned : (ok : ℕ → Bool) (g : Game) (d e : Knowing) (s t : Held) (xs ys : List Step) → IsSound g d s → IsPruning ok g s t xs ys → IsReady g e → Went g s e t
went_pruned ok g d e s t xs ys h p r = record {
  sound = record { declared = pruning_sub ok g s t xs ys (declared_box g) p h.declared; ready = r };
  follows = p.follows;
}

-- after values of one variable have gone
pub went_narrowed : (g : Game) (x : ℕ) (e : Knowing) (s t : Held) → IsSound g e s → IsNarrowed x s t → Went g s e t
went_narrowed g x e s t h n = record {
  sound = record { declared = n.within (declared_box g) h.declared; ready = h.ready };
  follows = n.follows;
}

past_the_end : {X : Type 0} (xs : List X) (d : X) → get_or xs (length xs) d ≡ d
past_the_end [] d = refl
past_the_end (x ∷ xs) d = past_the_end xs d

box_back : (s m t : Held) (n : ℕ) → n ≡ trail_len s → Follows s m → IsUndone n m t → t.box ≡ s.box
box_back s m t n e f u =
    sym (past_the_end t.past t.box)
    ∙ (ap (λ k. get_or t.past k t.box) (u.len ∙ e) ∙ (u.boxes (length s.past) (omega (arith, e)) ∙ (f.boxes (length s.past) (omega arith) ∙ past_the_end s.past s.box)))

past_back : (s m t : Held) (n : ℕ) → n ≡ trail_len s → Follows s m → IsUndone n m t → t.past ≡ s.past
past_back s m t n e f u =
    ext_get_or s.box t.past s.past (u.len ∙ e)
    (λ k l. ap (get_or t.past k) (sym (box_back s m t n e f u)) ∙ (u.boxes k (omega (arith, l, u.len)) ∙ f.boxes k (omega (arith, l, u.len, e))))

-- undone to where it was
pub back_undone : (g : Game) (d e : Knowing) (s m t : Held) (n : ℕ) → IsSound g d s → Went g s e m → n ≡ trail_len s → IsUndone n m t → CameBack g s e t
back_undone g d e s m t n h w k u =
    let box = box_back s m t n k w.follows u in
    record {
      sound = record { declared = ap (is_box_of g) box ∙ h.declared; ready = w.sound.ready };
      box = box;
      past = past_back s m t n k w.follows u;
    }

pub back_same : (g : Game) (e : Knowing) (s : Held) → IsSound g e s → CameBack g s e s
back_same g e s h = record { sound = h; box = refl; past = refl }

pub back_more : (g : Game) (s t u : Held) (e f : Knowing) → CameBack g s e t → CameBack g t f u → CameBack g s f u
back_more g s t u e f p q = record { sound = q.sound; box = q.box ∙ p.box; past = q.past ∙ p.past }

pub went_back : (g : Game) (s t : Held) (e : Knowing) → CameBack g s e t → Went g s e t
went_back g s t e c = record { sound = c.sound; follows = follows_same s t c.box c.past }

-- a box that is back is closed as it was
pub closed_back : (ok : ℕ → Bool) (g : Game) (s t : Held) (e : Knowing) → CameBack g s e t → IsClosedFor ok g s.box → IsClosedFor ok g t.box
closed_back ok g s t e c h = subst (IsClosedFor ok g) (sym c.box) h

-- how many variables a store has
pub box_size : (g : Game) (e : Knowing) (s : Held) → IsSound g e s → length s.box ≡ length g.variables
box_size g e s h = sub_length s.box (declared_box g) h.declared ∙ length-map g.variables (λ x. domain_values x.domain)

pub few_left : (g : Game) (e : Knowing) (s : Held) → IsSound g e s → length g.variables ≤ 500 → length s.box ≤ 500
few_left g e s h few = omega (arith, box_size g e s h, few)

pub within_box : (g : Game) (e : Knowing) (s : Held) (stop : ℕ) → IsSound g e s → stop ≤ length g.variables → stop ≤ length s.box
within_box g e s stop h few = omega (arith, box_size g e s h, few)
