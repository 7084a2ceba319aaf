-- What standings say of bytes.
use Rattle.std.proofs.Common.{◌≡◌, refl, sym, ap, ◌∙◌, subst, ℕ, suc, ◌-◌, List, [], ◌∷◌, ◌++◌, length, Option, Some, None, Bool, true, false, cond, arith, append_assoc}
use Rattle.std.specs.List.{list_all}
use Rattle.std.proofs.lemmas.List.{append-nil}
use Rattle.proof_text.specs.Symbols.{Symbol, after, start}
use Rattle.proof_text.specs.Running.{nests_within, run, Verdict, whole, wrong, deep}
use Rattle.proof_text.specs.Standing.{Standing, owing, too_deep, no_text, chosen_standing, next_standing, standing_from, standing, Tells}
use Rattle.proof_text.specs.Places.{IsText, BeginsText}
use Rattle.proof_text.proofs.Grammar.{Runs}
use Rattle.proof_text.proofs.Owed.{sound_after}
use Rattle.proof_text.proofs.Verdicts.{Says, says, AreReady, can_end, ready_parts, append_ready}
use Rattle.proof_text.proofs.PlacesFound.{runs_text, text_runs, wrong_place, deep_place, wrong_within, deep_within}

-- what reading these bytes from here gives, whatever is read then
abbrev pub Leads : Standing → List Symbol → List ℕ → Type 0
Leads (owing owed) k bytes = AreReady 1000 owed × ((rest : List ℕ) → run k (bytes ++ rest) ≡ run owed rest)
Leads too_deep k bytes = (n : ℕ) × (run k bytes ≡ deep (suc n))
Leads no_text k bytes = (n : ℕ) × (run k bytes ≡ wrong (suc n))

stuck_deep : (bs : List ℕ) → standing_from too_deep bs ≡ too_deep
stuck_deep [] = refl
stuck_deep (b ∷ bs) = stuck_deep bs

stuck_wrong : (bs : List ℕ) → standing_from no_text bs ≡ no_text
stuck_wrong [] = refl
stuck_wrong (b ∷ bs) = stuck_wrong bs

onward_leads : (t : Bool) (s : Symbol) (k owed : List Symbol) (b : ℕ) (bs : List ℕ) → AreReady 1000 (s ∷ k) → after s b ≡ Some owed → list_all (nests_within 1000) owed ≡ t
    → (AreReady 1000 (owed ++ k) → Leads (standing_from (owing (owed ++ k)) bs) (owed ++ k) bs) → Leads (standing_from (cond t (owing (owed ++ k)) too_deep) bs) (s ∷ k) (b ∷ bs)
onward_leads false s k owed b bs h e f more =
    let d : run (s ∷ k) (b ∷ bs) ≡ deep (suc (length bs)) = rw (e, f) refl in
    subst (λ (g : Standing). Leads g (s ∷ k) (b ∷ bs)) (sym (stuck_deep bs)) (length bs, d)
onward_leads true s k owed b bs h e f more =
    let p = ready_parts 1000 s k h in
    carry (standing_from (owing (owed ++ k)) bs) (more (append_ready 1000 owed k (sound_after s b owed p.0 e) f p.2))
  where
    one : (r : List ℕ) → run (s ∷ k) (b ∷ r) ≡ run (owed ++ k) r
    one r = rw (e, f) refl

    carry : (g : Standing) → Leads g (owed ++ k) bs → Leads g (s ∷ k) (b ∷ bs)
    carry (owing left) l = (l.0, λ rest. one (bs ++ rest) ∙ l.1 rest)
    carry too_deep l = (l.0, one bs ∙ l.1)
    carry no_text l = (l.0, one bs ∙ l.1)

after_leads : (o : Option (List Symbol)) (s : Symbol) (k : List Symbol) (b : ℕ) (bs : List ℕ) → AreReady 1000 (s ∷ k) → after s b ≡ o
    → ((l : List Symbol) → AreReady 1000 l → Leads (standing_from (owing l) bs) l bs) → Leads (standing_from (chosen_standing o k) bs) (s ∷ k) (b ∷ bs)
after_leads None s k b bs h e more =
    let d : run (s ∷ k) (b ∷ bs) ≡ wrong (suc (length bs)) = rw e refl in
    subst (λ (g : Standing). Leads g (s ∷ k) (b ∷ bs)) (sym (stuck_wrong bs)) (length bs, d)
after_leads (Some owed) s k b bs h e more = onward_leads (list_all (nests_within 1000) owed) s k owed b bs h e refl (more (owed ++ k))

pub leads : (bytes : List ℕ) (k : List Symbol) → AreReady 1000 k → Leads (standing_from (owing k) bytes) k bytes
leads [] k h = (h, λ rest. refl)
leads (b ∷ bs) [] h = subst (λ (g : Standing). Leads g [] (b ∷ bs)) (sym (stuck_wrong bs)) (length bs, refl)
leads (b ∷ bs) (s ∷ k) h = after_leads (after s b) s k b bs h refl (leads bs)

ready : AreReady 1000 start
ready = record { sound = refl; nests = refl }

-- a verdict that is whole makes a text
pub whole_text : (w : List ℕ) → run start w ≡ whole → IsText 1000 w
whole_text w h = runs_text 1000 w (subst (λ (v : Verdict). Says v start w) h (says w start ready))

joined : (u : List ℕ) (c : ℕ) (r : List ℕ) → (u ++ c ∷ []) ++ r ≡ u ++ c ∷ r
joined u c r = append_assoc u (c ∷ []) r

-- what can be had is read as a whole
had_whole : (v : Verdict) (k : List Symbol) (w : List ℕ) → Says v k w → Runs 1000 k w [] → v ≡ whole
had_whole whole k w h r = refl
had_whole (wrong left) k w h r = absurd (none h.rest refl)
  where
    none : (rest : List ℕ) → h.rest ≡ rest → ⊥
    none [] e = h.unfinished e 1000 r
    none (c ∷ cs) e = h.here c cs e 1000 (cs, subst (λ (l : List ℕ). Runs 1000 k l []) (h.is ∙ ap (λ (l : List ℕ). h.u ++ l) e ∙ sym (joined h.u c cs)) r)
had_whole (deep left) k w h r = absurd (h.deeper (h.r, subst (λ (l : List ℕ). Runs 1000 k l []) (h.is ∙ sym (joined h.u h.c h.r)) r))

reads_whole : (k : List Symbol) (w : List ℕ) → AreReady 1000 k → Runs 1000 k w [] → run k w ≡ whole
reads_whole k w h r = had_whole (run k w) k w (says w k h) r

begins : (owed : List Symbol) (bytes : List ℕ) → Leads (owing owed) start bytes → BeginsText 1000 bytes
begins owed bytes h =
    let r = can_end 1000 owed h.0 in
    (r.0, whole_text (bytes ++ r.0) (h.1 r.0 ∙ reads_whole owed r.0 h.0 r.1))

empty_whole : (k : List Symbol) → run k [] ≡ whole → k ≡ []
empty_whole [] h = refl
empty_whole (s ∷ k) h = absurd (cc)

tells_of : (g : Standing) (bytes : List ℕ) → Leads g start bytes → Tells g bytes
tells_of (owing owed) bytes h = record {
  begins = begins owed bytes h;
  ended = λ e. whole_text bytes (here ∙ ap (λ (k : List Symbol). run k []) e);
  unended = λ t. empty_whole owed (sym here ∙ reads_whole start bytes ready (text_runs 1000 bytes t));
}
  where
    here : run start bytes ≡ run owed []
    here = ap (run start) (sym (append-nil bytes)) ∙ h.1 []
tells_of too_deep bytes h =
    let w = deep_within bytes (suc h.0) h.1 in
    (length bytes - suc h.0, omega arith, deep_place bytes (suc h.0) _ h.1 refl)
tells_of no_text bytes h =
    let w = wrong_within bytes (suc h.0) h.1 in
    (length bytes - suc h.0, omega arith, wrong_place bytes (suc h.0) _ h.1 refl)

-- each standing is right
pub tells : (bytes : List ℕ) → Tells (standing bytes) bytes
tells bytes = tells_of (standing bytes) bytes (leads bytes start ready)

pub standing_append : (g : Standing) (bytes : List ℕ) (b : ℕ) → standing_from g (bytes ++ b ∷ []) ≡ next_standing (standing_from g bytes) b
standing_append g [] b = refl
standing_append g (c ∷ bytes) b = standing_append (next_standing g c) bytes b
