-- From verdicts on what is owed to places in texts.
use Rattle.std.proofs.Common.{◌≡◌, ◌⊎◌, inl, inr, refl, sym, ap, ◌∙◌, subst, ℕ, suc, ◌+◌, ◌-◌, ◌≤◌, List, [], ◌∷◌, ◌++◌, length, take, drop, get_or, arith, length-append, take-append-drop}
use Rattle.std.specs.Prelude.{codes}
use Rattle.std.proofs.lemmas.Bool.{and_from, and_parts, cases_lt}
use Rattle.std.proofs.lemmas.List.{append-nil}
use Rattle.proof_tree.specs.declared.tree.Version.{Version}
use Rattle.proof_tree.specs.declared.tree.Version.TheVariants.{One, Two}
use Rattle.proof_tree.specs.Text.{version_text, outcome_text, outcome_fits, tree_fits}
use Rattle.proof_text.specs.Parts.{tree_text}
use Rattle.proof_text.specs.declared.part_fault.PartFault.TheVariants.{Wrong, Deep}
use Rattle.proof_text.specs.Symbols.{certificate, start}
use Rattle.proof_text.specs.Running.{Verdict}
use Rattle.proof_text.specs.Places.{IsText, BeginsText, IsNotACertificate, IsTooDeep}
use Rattle.proof_text.specs.Reading.{Stops}
use Rattle.proof_text.proofs.LinesRead.{certificate_told}
use Rattle.proof_text.proofs.Grammar.{Runs, bytes_then, then_bytes}
use Rattle.proof_text.proofs.Verdicts.{Says, says, StopsAt, DeepAt, CanGo, AreReady}

-- the texts of certificates are what is owed at the start
after_version : (ver : Version) (u : List ℕ) → (w : List ℕ) × (version_text ver ++ u ≡ codes "qcert " ++ w)
after_version One u = (_, refl)
after_version Two u = (_, refl)

pub text_runs : (m : ℕ) (u : List ℕ) → IsText m u → Runs m start u []
text_runs m u h =
    let p = and_parts (outcome_fits h.1 h.2) (tree_fits h.0 h.3) h.4 in
    let w = after_version h.0 (outcome_text h.1 h.2 ++ tree_text h.3) in
    let told = sym w.1 ∙ ap (λ (l : List ℕ). version_text h.0 ++ (outcome_text h.1 h.2 ++ l)) (sym (append-nil (tree_text h.3))) in
    subst (λ (l : List ℕ). Runs m start l []) (sym (h.6 ∙ certificate_told h.0 h.1 h.2 h.3 ∙ w.1))
    (then_bytes m (codes "qcert ") (certificate ∷ []) w.0 [] ([], record { ver = h.0; o = h.1; v = h.2; t = h.3; outcome = p.0; fits = p.1; shallow = h.5; told = told }, refl))

pub runs_text : (m : ℕ) (u : List ℕ) → Runs m start u [] → IsText m u
runs_text m u h =
    let r = bytes_then m (codes "qcert ") (certificate ∷ []) u [] h in
    let c = r.2.1 in (
      c.ver,
      c.o,
      c.v,
      c.t,
      and_from (outcome_fits c.o c.v) (tree_fits c.ver c.t) c.outcome c.fits,
      c.shallow,
      r.1 ∙ c.told ∙ ap (λ (l : List ℕ). version_text c.ver ++ (outcome_text c.o c.v ++ l)) (ap (λ (l : List ℕ). tree_text c.t ++ l) r.2.2 ∙ append-nil (tree_text c.t))
          ∙ sym (certificate_told c.ver c.o c.v c.t),
    )

goes_text : (m : ℕ) (u : List ℕ) → CanGo m start u → BeginsText m u
goes_text m u h = (h.0, runs_text m (u ++ h.0) h.1)

text_goes : (m : ℕ) (u : List ℕ) → BeginsText m u → CanGo m start u
text_goes m u h = (h.0, text_runs m (u ++ h.0) h.1)

ready : AreReady 1000 start
ready = record { sound = refl; nests = refl }

take_front : (u r : List ℕ) → take (length u) (u ++ r) ≡ u
take_front [] r = refl
take_front (x ∷ u) r = ap (λ (l : List ℕ). x ∷ l) (take_front u r)

take_one : (u : List ℕ) (c : ℕ) (r : List ℕ) → take (suc (length u)) (u ++ c ∷ r) ≡ u ++ c ∷ []
take_one [] c r = refl
take_one (x ∷ u) c r = ap (λ (l : List ℕ). x ∷ l) (take_one u c r)

get_front : (u : List ℕ) (c : ℕ) (r : List ℕ) → get_or (u ++ c ∷ r) (length u) 0 ≡ c
get_front [] c r = refl
get_front (x ∷ u) c r = get_front u c r

front_at : (w u rest : List ℕ) (at : ℕ) → w ≡ u ++ rest → at ≡ length u → take at w ≡ u
front_at w u rest at is place = ap (λ (i : ℕ). take i w) place ∙ ap (take (length u)) is ∙ take_front u rest

one_at : (w u : List ℕ) (c : ℕ) (r : List ℕ) (at : ℕ) → w ≡ u ++ c ∷ r → at ≡ length u → take (at + 1) w ≡ u ++ c ∷ []
one_at w u c r at is place =
    let more : at + 1 ≡ suc (length u) = omega arith in
    ap (λ (i : ℕ). take i w) more ∙ ap (take (suc (length u))) is ∙ take_one u c r

byte_at : (w u : List ℕ) (c : ℕ) (r : List ℕ) (at : ℕ) → w ≡ u ++ c ∷ r → at ≡ length u → get_or w at 0 ≡ c
byte_at w u c r at is place = ap (λ (i : ℕ). get_or w i 0) place ∙ ap (λ (l : List ℕ). get_or l (length u) 0) is ∙ get_front u c r

stops_by : (w u rest : List ℕ) (left at : ℕ) → at ≡ length w - left → w ≡ u ++ rest → length rest ≡ left → CanGo 1000 start u
    → ((c : ℕ) (r : List ℕ) → rest ≡ c ∷ r → (m : ℕ) → CanGo m start (u ++ c ∷ []) → ⊥) → (rest ≡ [] → (m : ℕ) → Runs m start w [] → ⊥) → IsNotACertificate at w
stops_by w u [] left at e is many front here unfinished =
    let l = ap length is ∙ length-append u [] in
    let none : length {A = ℕ} [] ≡ 0 = refl in
    let place : at ≡ length u = omega arith in
    record {
      within = omega arith;
      before = goes_text 1000 _ (subst (CanGo 1000 start) (sym (front_at w u [] at is place)) front);
      here = λ lt. absurd (omega arith);
      unfinished = λ f m g. unfinished refl m (text_runs m w g);
    }
stops_by w u (c ∷ r) left at e is many front here unfinished =
    let l = ap length is ∙ length-append u (c ∷ r) in
    let some : length (c ∷ r) ≡ suc (length r) = refl in
    let place : at ≡ length u = omega arith in
    record {
      within = omega arith;
      before = goes_text 1000 _ (subst (CanGo 1000 start) (sym (front_at w u (c ∷ r) at is place)) front);
      here = λ lt m x. here c r refl m (subst (CanGo m start) (one_at w u c r at is place) (text_goes m _ x));
      unfinished = λ f. absurd (omega arith);
    }

deep_by : (w : List ℕ) (left at : ℕ) → at ≡ length w - left → DeepAt start w left → IsTooDeep at w
deep_by w left at e h =
    let l = ap length h.is ∙ length-append h.u (h.c ∷ h.r) in
    let some : length (h.c ∷ h.r) ≡ suc (length h.r) = refl in
    let many = h.many in
    let place : at ≡ length h.u = omega arith in
    record {
      within = omega arith;
      before = goes_text 1000 _ (subst (CanGo 1000 start) (sym (front_at w h.u (h.c ∷ h.r) at h.is place)) h.front);
      opens = goes_text 1001 _ (subst (CanGo 1001 start) (sym (one_at w h.u h.c h.r at h.is place)) h.opens);
      deeper = λ x. h.deeper (subst (CanGo 1000 start) (one_at w h.u h.c h.r at h.is place) (text_goes 1000 _ x));
      letter = subst (λ (x : ℕ). (x ≡ 118) ⊎ (x ≡ 110)) (sym (byte_at w h.u h.c h.r at h.is place)) h.letter;
    }

stops_at : (w : List ℕ) (left : ℕ) → Stops start w (Wrong left) → StopsAt start w left
stops_at w left h = subst (λ (v : Verdict). Says v start w) h (says w start ready)

deep_at : (w : List ℕ) (left : ℕ) → Stops start w (Deep left) → DeepAt start w left
deep_at w left h = subst (λ (v : Verdict). Says v start w) h (says w start ready)

-- the places that reading gives
pub wrong_place : (w : List ℕ) (left at : ℕ) → Stops start w (Wrong left) → at ≡ length w - left → IsNotACertificate at w
wrong_place w left at h e = let s = stops_at w left h in stops_by w s.u s.rest left at e s.is s.many s.front s.here s.unfinished

pub deep_place : (w : List ℕ) (left at : ℕ) → Stops start w (Deep left) → at ≡ length w - left → IsTooDeep at w
deep_place w left at h e = deep_by w left at e (deep_at w left h)

pub wrong_within : (w : List ℕ) (left : ℕ) → Stops start w (Wrong left) → left ≤ length w
wrong_within w left h =
    let s = stops_at w left h in
    let l = ap length s.is ∙ length-append s.u s.rest in
    let many = s.many in
    omega arith

pub deep_within : (w : List ℕ) (left : ℕ) → Stops start w (Deep left) → left ≤ length w
deep_within w left h =
    let s = deep_at w left h in
    let l = ap length s.is ∙ length-append s.u (s.c ∷ s.r) in
    let some : length (s.c ∷ s.r) ≡ suc (length s.r) = refl in
    let many = s.many in
    omega arith

-- a text within the limit has neither place
whole_begins : (w : List ℕ) (m at : ℕ) → IsText m w → BeginsText m (take at w)
whole_begins w m at h = (drop at w, subst (IsText m) (sym (take-append-drop at w)) h)

pub no_wrong_text : (w : List ℕ) (at : ℕ) → IsNotACertificate at w → IsText 1000 w → ⊥
no_wrong_text w at h t =
    let within = h.within in
    elim (cases_lt at (length w)) [
      | inl lt ↦ h.here lt 1000 (whole_begins w 1000 (at + 1) t)
      | inr ge ↦ h.unfinished (omega arith) 1000 t
    ]

pub no_deep_text : (w : List ℕ) (at : ℕ) → IsTooDeep at w → IsText 1000 w → ⊥
no_deep_text w at h t = h.deeper (whole_begins w 1000 (at + 1) t)
