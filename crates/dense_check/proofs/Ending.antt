-- The ends of a scope's own tree.
use Rattle.std.proofs.Common.{◌≡◌, ◌∙◌, refl, sym, ap, subst, ℕ, suc, ◌≤◌, ◌<◌, Bool, true, false, ◌&&◌, ◌||◌, not, Some, None, List, [], ◌∷◌, ◌++◌, length, drop, arith, ◌⊎◌, inl, inr}
use Rattle.std.proofs.lemmas.Bool.Decides.{nat_tests}
use Rattle.std.specs.Prelude.{Result, Ok, Err, OnOk, ℤ}
use Rattle.qc_model.specs.declared.problem.ScopeId.{ScopeId}
use Rattle.qc_model.specs.Content.{Game}
use Rattle.std.proofs.lemmas.List.{length-map}
use Rattle.qc_model.specs.Domains.{Box, declared_box, domain_values, has_empty, is_single, values_left}
use Rattle.qc_model.specs.Game.{before, is_of_scope}
use Rattle.qc_model.proofs.Before.{before-le}
use Rattle.qc_model.specs.Verdict.{lost, seen_node}
use Rattle.model_arguments.specs.Asked.{is_box_of}
use Rattle.fd_store.specs.Held.{Held, Follows}
use Rattle.proof_tree.specs.Place.{is_fixed}
use Rattle.qc_model.specs.Valid.{IsValid}
use Rattle.box_laws.proofs.Readings.{box_size}
use Rattle.dense_box.specs.Here.{IsHere}
use Rattle.dense_box.specs.Standing.{StandsFor}
use Rattle.dense_tree.specs.Free.{joint_stop}
use Rattle.dense_tree.specs.Tree.{Given}
use Rattle.dense_tree.specs.Place.{Setting, Place, with_box, closed_box, restricted, is_free_choice, is_players, is_opponents, place_below}
use Rattle.std.specs.List.{list_any}
use Rattle.qc_model.specs.Block.{constraints_within}
use Rattle.dense_close.specs.Answerless.{is_answerless}
use Rattle.dense_tree.specs.InPlace.{is_empty_in, empty_placed, best_placed, dead_placed, next_placed, chosen_placed, branch_placed, place_taken, list_best}
use Rattle.dense_tree.specs.Lines.{empty_line, best_line, no_play_line, chosen_line}
use Rattle.dense_tree.specs.Read.{empty_leaves}
use Rattle.dense_tree.specs.Tuples.{is_tuple_of, all_hold, some_fails}
use Rattle.dense_ledger.specs.Ledger.{Ledger, Own, setting_of, only_ledger, part_line, part_ended, with_seen, node_due, entry_at, waiting}
use Rattle.dense_nest.specs.declared.nest.Nest.{Nest}
use Rattle.dense_nest.specs.declared.place.Due.TheVariants as due
use Rattle.dense_nest.specs.Telling as nest
use Rattle.dense_nest.specs.Goes as goes
use Rattle.dense_check.specs.declared.machine.DenseMachine.{DenseMachine}
use Rattle.dense_check.specs.Telling.{game_of, InPart, IsPart, Tells, TellsOf, PartGoes, IsGathered, with_remains, here_in}
use Rattle.dense_check.proofs.Going.{part_held, part_follows, tells_by, with_nest, at_held, refuses, accepts, seen_none, ends_with, NestStays, NestEnds}
use Rattle.dense_check.proofs.Stepping.{here_is, stop_above, stop_within}
use Rattle.dense_check.proofs.Gathered.{gathered}

-- what is so whatever is answered, and what follows from it
pub always : {T E : Type 0} (r : Result T E) {P : Type 0} → P → OnOk r P
always (Ok x) p = p
always (Err e) p = tt

pub on_ok : {T E : Type 0} (r : Result T E) {P Q : Type 0} → (P → Q) → OnOk r P → OnOk r Q
on_ok (Ok x) f h = f h
on_ok (Err e) f h = tt

-- a line that isn't in place, and one that is
pub refused_end : {T E : Type 0} (r : Result T E) (m o : DenseMachine) (placed : Ledger → Bool) (k : Ledger → Ledger) → o.nest.due ≡ due.Wrong → ((d : Ledger) → IsPart m d → placed d ≡ false) →
    OnOk r (PartGoes m o (λ d. only_ledger (placed d) (k d)))
refused_end r m o placed k w f = always r (λ d h. refuses o (placed d) (k d) (f d h) w)

pub accepted_end : {T E : Type 0} (r : Result T E) (m o : DenseMachine) (placed : Ledger → Bool) (k : Ledger → Ledger) → ((d : Ledger) → IsPart m d → placed d ≡ true) → OnOk r ((d : Ledger) → IsPart m d → Tells o (k d)) →
    OnOk r (PartGoes m o (λ d. only_ledger (placed d) (k d)))
accepted_end r m o placed k f h = on_ok r (λ g d p. accepts o (placed d) (k d) (f d p) (g d p)) h

-- some ledger is told where some was
pub nest_part : (m : DenseMachine) → InPart m → goes.InPart m.nest
nest_part m (d, h) = (d.given, m.positions.boxes, d, h.part)

pub nest_part_held : (m : DenseMachine) (s : Held) → Follows m.nest.remains s → is_box_of (game_of m) s.box ≡ true → InPart m → goes.InPart (at_held s m.nest)
nest_part_held m s f b (d, h) = (d.given, m.positions.boxes, d, part_follows m.nest s d.given m.positions.boxes d f b h.part)

pub nest_part_after : (m : DenseMachine) (n : Nest) (f : Own → Own) → NestStays m.nest n f → InPart m → goes.InPart n
nest_part_after m n f s (d, h) = (d.given, m.positions.boxes, record d { own = f d.own }, s d.given m.positions.boxes d h.part)

pub scope_there : (m : DenseMachine) → InPart m → m.nest.entry.spot.number < length (game_of m).scopes
scope_there m (d, h) = h.part.own.scope

pub box_there : (m : DenseMachine) → InPart m → is_box_of (game_of m) m.nest.remains.box ≡ true
box_there m (d, h) = h.part.box

-- the machine with another box
pub part_on : (m n : DenseMachine) (d : Ledger) → n ≡ with_remains n.nest.remains m → Follows m.nest.remains n.nest.remains → is_box_of (game_of m) n.nest.remains.box ≡ true → IsPart m d → IsPart n d
part_on m n d e f b h = subst (λ z. IsPart z d) (sym e) (part_held m n.nest.remains d f b h)

pub in_part_on : (m n : DenseMachine) → n ≡ with_remains n.nest.remains m → Follows m.nest.remains n.nest.remains → is_box_of (game_of m) n.nest.remains.box ≡ true → InPart m → InPart n
in_part_on m n e f b (d, h) = (d, part_on m n d e f b h)

pub game_on : (m n : DenseMachine) (s : Held) → n ≡ with_remains s m → game_of n ≡ game_of m
game_on m n s e = ap game_of e

-- a part ends
pub over_here : (n : DenseMachine) (o : Nest) (d : Ledger) → nest.game_of o ≡ game_of n → NestEnds n.nest o → IsPart n d → Tells (with_nest o n) (part_ended (setting_of (game_of n) d) d d.own d.frames)
over_here n o d e ends h = tells_by n o d.given (Some (part_ended (setting_of (game_of n) d) d d.own d.frames)) e h.knows (ends d.given n.positions.boxes d h.part)

-- an end with a lost leaf
abbrev pub lost_own : Own → Own
lost_own o = with_seen (seen_node lost ∷ []) o

-- ---- e
module _ (m n : DenseMachine) (rest : n ≡ with_remains n.nest.remains m) (past : Follows m.nest.remains n.nest.remains) (declared : is_box_of (game_of m) n.nest.remains.box ≡ true) (bounded : Bool) where
  abbrev Left : Ledger → Ledger
  Left d = part_ended (setting_of (game_of m) d) d (with_seen (empty_leaves (is_free_choice (setting_of (game_of m) d) (here_in m bounded))) d.own) d.frames

  here_after : (d : Ledger) → IsHere (game_of n) n.nest.entry.spot.number m.nest.remains.box (setting_of (game_of m) d) (here_in m bounded)
  here_after d = subst (λ z. IsHere (game_of z) z.nest.entry.spot.number m.nest.remains.box (setting_of (game_of m) d) (here_in m bounded)) (sym rest) (here_is m d bounded)

  pub empty_lost : {T E : Type 0} (r : Result T E) (o : DenseMachine) → ((d : Ledger) → IsPart m d → empty_placed (setting_of (game_of m) d) (here_in m bounded) ≡ true) →
      ((box : Box) (s : Setting) (p : Place) → IsHere (game_of n) n.nest.entry.spot.number box s p → true ≡ is_free_choice s p) →
      OnOk r (PartGoes n o (λ d. Some (part_ended (setting_of (game_of n) d) d (with_seen (seen_node lost ∷ []) d.own) d.frames))) → OnOk r (PartGoes m o (λ d. part_line (setting_of (game_of m) d) d (here_in m bounded) empty_line))
  empty_lost r o placed free ends = accepted_end r m o (λ d. empty_placed (setting_of (game_of m) d) (here_in m bounded)) Left placed (on_ok r by ends)
    where
      by : PartGoes n o (λ d. Some (part_ended (setting_of (game_of n) d) d (with_seen (seen_node lost ∷ []) d.own) d.frames)) → (d : Ledger) → IsPart m d → Tells o (Left d)
      by f d h =
          let told : Tells o (part_ended (setting_of (game_of n) d) d (with_seen (seen_node lost ∷ []) d.own) d.frames) = f d (part_on m n d rest past declared h) in
          let here : Tells o (part_ended (setting_of (game_of m) d) d (with_seen (seen_node lost ∷ []) d.own) d.frames) =
          subst (λ g. Tells o (part_ended (setting_of g d) d (with_seen (seen_node lost ∷ []) d.own) d.frames)) (ap game_of rest) told in
          subst (λ b. Tells o (part_ended (setting_of (game_of m) d) d (with_seen (empty_leaves b) d.own) d.frames)) (free m.nest.remains.box (setting_of (game_of m) d) (here_in m bounded) (here_after d)) here

  pub empty_over : {T E : Type 0} (r : Result T E) (o : Nest) → nest.game_of o ≡ game_of n → ((d : Ledger) → IsPart m d → empty_placed (setting_of (game_of m) d) (here_in m bounded) ≡ true) →
      ((box : Box) (s : Setting) (p : Place) → IsHere (game_of n) n.nest.entry.spot.number box s p → false ≡ is_free_choice s p) →
      OnOk r (NestEnds n.nest o) → OnOk r (PartGoes m (with_nest o n) (λ d. part_line (setting_of (game_of m) d) d (here_in m bounded) empty_line))
  empty_over r o same placed free ends = accepted_end r m (with_nest o n) (λ d. empty_placed (setting_of (game_of m) d) (here_in m bounded)) Left placed (on_ok r by ends)
    where
      by : NestEnds n.nest o → (d : Ledger) → IsPart m d → Tells (with_nest o n) (Left d)
      by f d h =
          let told : Tells (with_nest o n) (part_ended (setting_of (game_of n) d) d d.own d.frames) = over_here n o d same f (part_on m n d rest past declared h) in
          let here : Tells (with_nest o n) (part_ended (setting_of (game_of m) d) d d.own d.frames) =
          subst (λ g. Tells (with_nest o n) (part_ended (setting_of g d) d d.own d.frames)) (ap game_of rest) told in
          let none : Tells (with_nest o n) (part_ended (setting_of (game_of m) d) d (with_seen [] d.own) d.frames) =
          subst (λ own. Tells (with_nest o n) (part_ended (setting_of (game_of m) d) d own d.frames)) (sym (ap (λ (x : Ledger). x.own) (seen_none d))) here in
          subst (λ b. Tells (with_nest o n) (part_ended (setting_of (game_of m) d) d (with_seen (empty_leaves b) d.own) d.frames)) (free m.nest.remains.box (setting_of (game_of m) d) (here_in m bounded) (here_after d)) none

  -- an end l K
  pub dead_lost : {T E : Type 0} (r : Result T E) (o : DenseMachine) (k : ScopeId) → ((d : Ledger) → IsPart m d → dead_placed (setting_of (game_of m) d) (here_in m bounded) k ≡ true) →
      OnOk r (PartGoes n o (λ d. Some (part_ended (setting_of (game_of n) d) d (with_seen (seen_node lost ∷ []) d.own) d.frames))) → OnOk r (PartGoes m o (λ d. part_line (setting_of (game_of m) d) d (here_in m bounded) (no_play_line k)))
  dead_lost r o k placed ends =
      accepted_end r m o (λ d. dead_placed (setting_of (game_of m) d) (here_in m bounded) k) (λ d. part_ended (setting_of (game_of m) d) d (with_seen (seen_node lost ∷ []) d.own) d.frames) placed (on_ok r by ends)
    where
      by : PartGoes n o (λ d. Some (part_ended (setting_of (game_of n) d) d (with_seen (seen_node lost ∷ []) d.own) d.frames)) → (d : Ledger) → IsPart m d →
          Tells o (part_ended (setting_of (game_of m) d) d (with_seen (seen_node lost ∷ []) d.own) d.frames)
      by f d h =
          subst (λ g. Tells o (part_ended (setting_of g d) d (with_seen (seen_node lost ∷ []) d.own) d.frames)) (ap game_of rest) (f d (part_on m n d rest past declared h))

-- ---- an end after which what was seen is a function of what was
pub over_after : {T E : Type 0} (r : Result T E) (m : DenseMachine) (n o : Nest) (f : Own → Own) → nest.game_of n ≡ game_of m → nest.game_of o ≡ nest.game_of n → NestStays m.nest n f → OnOk r (NestEnds n o) →
    OnOk r ((d : Ledger) → IsPart m d → Tells (with_nest o m) (part_ended (setting_of (game_of m) d) d (f d.own) d.frames))
over_after r m n o f e e2 stays ends = on_ok r (λ x d h. ends_with m n o f d e e2 stays x h) ends

pub best_over : {T E : Type 0} (r : Result T E) (m : DenseMachine) (n o : Nest) (bounded : Bool) (v : ℤ) → nest.game_of n ≡ game_of m → nest.game_of o ≡ nest.game_of n → NestStays m.nest n (λ w. record w { bests = w.bests ++ v ∷ [] }) →
    OnOk r (NestEnds n o) → ((d : Ledger) → IsPart m d → best_placed (here_in m bounded) ≡ true) → ((d : Ledger) → IsPart m d → list_best (here_in m bounded).list (here_in m bounded).box ≡ v ∷ []) →
    OnOk r (PartGoes m (with_nest o m) (λ d. part_line (setting_of (game_of m) d) d (here_in m bounded) best_line))
best_over r m n o bounded v e e2 stays ends placed list =
    accepted_end r m (with_nest o m) (λ d. best_placed (here_in m bounded))
    (λ d. part_ended (setting_of (game_of m) d) d (record (d.own) { bests = d.own.bests ++ list_best (here_in m bounded).list (here_in m bounded).box }) d.frames) placed
    (on_ok r by (over_after r m n o (λ w. record w { bests = w.bests ++ v ∷ [] }) e e2 stays ends))
  where
    by : ((d : Ledger) → IsPart m d → Tells (with_nest o m) (part_ended (setting_of (game_of m) d) d (record (d.own) { bests = d.own.bests ++ v ∷ [] }) d.frames)) → (d : Ledger) → IsPart m d →
        Tells (with_nest o m) (part_ended (setting_of (game_of m) d) d (record (d.own) { bests = d.own.bests ++ list_best (here_in m bounded).list (here_in m bounded).box }) d.frames)
    by f d h = subst (λ vs. Tells (with_nest o m) (part_ended (setting_of (game_of m) d) d (record (d.own) { bests = d.own.bests ++ vs }) d.frames)) (sym (list d h)) (f d h)

-- what a nest goes on to
pub nest_goes : {T E : Type 0} (r : Result T E) (m : DenseMachine) (n : Nest) (k : Ledger → Ledger) → nest.game_of n ≡ game_of m → OnOk r (goes.PartGoes m.nest n (λ d. Some (k d))) →
    OnOk r ((d : Ledger) → IsPart m d → Tells (with_nest n m) (k d))
nest_goes r m n k e f = on_ok r (λ (g : goes.PartGoes m.nest n (λ d. Some (k d))) d h. tells_by m n d.given (Some (k d)) e h.knows (g d.given m.positions.boxes d h.part)) f

-- ---- w: with the values that were gathered of the tuple
module _ (m : DenseMachine) (bounded : Bool) (vs t : List ℤ) (few : length m.nest.remains.box ≤ 500) (g : IsGathered vs t) where
  abbrev Chosen : Ledger → List ℤ → Bool
  Chosen d us = chosen_placed (setting_of (game_of m) d) us (here_in m bounded)

  abbrev Below : Ledger → List ℤ → Ledger
  Below d us = record d { due = node_due (entry_at (place_below (setting_of (game_of m) d) (place_taken (setting_of (game_of m) d) us (here_in m bounded))) true); frames = waiting d.own ∷ d.frames }

  chosen_same : (d : Ledger) → (vs ≡ t) ⊎ ((Chosen d vs ≡ false) × (Chosen d t ≡ false))
  chosen_same d = by (gathered (game_of m) m.nest.entry.spot.number m.nest.remains.box vs t few g)
    where
      none : (b c : Bool) → b ≡ false → (b && c) ≡ false
      none true c e = cc
      none false c e = refl

      by : (vs ≡ t) ⊎ ((is_tuple_of (game_of m) m.nest.entry.spot.number m.nest.remains.box vs ≡ false) × (is_tuple_of (game_of m) m.nest.entry.spot.number m.nest.remains.box t ≡ false)) →
          (vs ≡ t) ⊎ ((Chosen d vs ≡ false) × (Chosen d t ≡ false))
      by (inl e) = inl e
      by (inr h) = inr (
        none (is_tuple_of (game_of m) m.nest.entry.spot.number m.nest.remains.box vs) (next_placed (setting_of (game_of m) d) (place_taken (setting_of (game_of m) d) vs (here_in m bounded))) h.0,
        none (is_tuple_of (game_of m) m.nest.entry.spot.number m.nest.remains.box t) (next_placed (setting_of (game_of m) d) (place_taken (setting_of (game_of m) d) t (here_in m bounded))) h.1,
      )

  pub chosen_refused : (o : DenseMachine) → o.nest.due ≡ due.Wrong → ((d : Ledger) → IsPart m d → Chosen d vs ≡ false) → PartGoes m o (λ d. part_line (setting_of (game_of m) d) d (here_in m bounded) (chosen_line t))
  chosen_refused o w f d h = refuses o (Chosen d t) (Below d t) (by (chosen_same d)) w
    where
      by : (vs ≡ t) ⊎ ((Chosen d vs ≡ false) × (Chosen d t ≡ false)) → Chosen d t ≡ false
      by (inl e) = subst (λ us. Chosen d us ≡ false) e (f d h)
      by (inr x) = x.1

  pub chosen_goes : (o : DenseMachine) (s : Held) → Follows m.nest.remains s → is_box_of (game_of m) s.box ≡ true → ((d : Ledger) → IsPart m d → Chosen d vs ≡ true) →
      ((d : Ledger) → IsPart m d → s.box ≡ (place_taken (setting_of (game_of m) d) vs (here_in m bounded)).box) →
      PartGoes (with_remains s m) o (λ d. Some (record d { due = node_due (entry_at (place_below (setting_of (game_of m) d) (here_in (with_remains s m) bounded)) true); frames = waiting d.own ∷ d.frames })) →
      PartGoes m o (λ d. part_line (setting_of (game_of m) d) d (here_in m bounded) (chosen_line t))
  chosen_goes o s past declared placed box f d h = by (chosen_same d)
    where
      told : Tells o (Below d vs)
      told = subst (λ b. Tells o (record d { due = node_due (entry_at (place_below (setting_of (game_of m) d) (with_box b (here_in m bounded))) true); frames = waiting d.own ∷ d.frames })) (box d h) (f d (part_held m s d past declared h))

      by : (vs ≡ t) ⊎ ((Chosen d vs ≡ false) × (Chosen d t ≡ false)) → TellsOf o (only_ledger (Chosen d t) (Below d t))
      by (inl e) = subst (λ us. TellsOf o (only_ledger (Chosen d us) (Below d us))) e (accepts o (Chosen d vs) (Below d vs) (placed d h) told)
      by (inr x) = let yes = placed d h in let no = x.0 in absurd (clash (Chosen d vs) yes no)
        where
          clash : (b : Bool) → b ≡ true → b ≡ false → ⊥
          clash b p q = cc

first_full : (a b : Bool) → (not a && b) ≡ true → a ≡ false
first_full true b e = cc
first_full false b e = refl

-- ---- what is in place has a value for each variable
pub next_full : (s : Setting) (p : Place) → next_placed s p ≡ true → has_empty p.box ≡ false
next_full s p e =
    first_full (has_empty p.box)
    ((is_players p && not (some_fails (restricted s p) p.box)) || (is_opponents p && is_fixed s.game p.number p.box && all_hold (restricted s p) p.box)) e

pub branch_full : (s : Setting) (p : Place) (x : ℕ) → branch_placed s p x ≡ true → has_empty p.box ≡ false
branch_full s p x e = first_of_three (has_empty p.box) (is_of_scope s.game p.number x) (is_single (values_left p.box x)) e
  where
    first_of_three : (a b c : Bool) → (not a && b && not c) ≡ true → a ≡ false
    first_of_three true b c q = cc
    first_of_three false b c q = refl

pub branch_there : (s : Setting) (p : Place) (x : ℕ) → branch_placed s p x ≡ true → x < length s.game.variables
branch_there s p x e =
    let of_scope : is_of_scope s.game p.number x ≡ true = third (has_empty p.box) (is_of_scope s.game p.number x) (is_single (values_left p.box x)) e in
    let most = before-le s.game (suc p.number) in
    let size : length (declared_box s.game) ≡ length s.game.variables = length-map s.game.variables (λ v. domain_values v.domain) in
    let below = below_stop s.game p.number x of_scope in
    omega (arith, most, size, below)
  where
    third : (a b c : Bool) → (not a && b && not c) ≡ true → b ≡ true
    third true b c q = cc
    third false true c q = refl
    third false false c q = cc

    below_stop : (g : Game) (i x : ℕ) → is_of_scope g i x ≡ true → x < before g (suc i)
    below_stop g i x q = grind (arith, nat_tests)

-- ---- where the constraints in force end
pub stop_order : (m : DenseMachine) (i stop : ℕ) → InPart m → i ≡ m.nest.entry.spot.number → ((g : Game) (us : List Given) → StandsFor g us m.freedom → stop ≡ joint_stop g us (drop i g.scopes) i) → i ≤ stop
stop_order m i stop (d, h) e f =
    let at = h.part.own.scope in
    let s = f (game_of m) d.given h.knows.given in
    let l = stop_above (game_of m) d.given i (omega (arith, at, e)) in
    omega (arith, s, l)

pub stop_bound : (m : DenseMachine) (i stop : ℕ) → InPart m → i ≡ m.nest.entry.spot.number → ((g : Game) (us : List Given) → StandsFor g us m.freedom → stop ≡ joint_stop g us (drop i g.scopes) i) → stop ≤ suc (length (game_of m).scopes)
stop_bound m i stop (d, h) e f =
    let at = h.part.own.scope in
    let s = f (game_of m) d.given h.knows.given in
    let l = stop_within (game_of m) d.given i (omega (arith, at, e)) in
    omega (arith, s, l)

-- ---- e: what closing shows
abbrev Answerless : Game → ℕ → ℕ → Box → Bool
Answerless g i stop box = list_any (is_answerless g i box) (constraints_within g i stop)

pub emptied_not : (s : Setting) (p : Place) → closed_box s p ≡ None → true ≡ empty_placed s p
emptied_not s p e = sym (ap (is_empty_in s p) e)

pub emptied_by : (m n : DenseMachine) (d : Ledger) (bounded : Bool) (i stop : ℕ) (r : Bool) → n ≡ with_remains n.nest.remains m → i ≡ n.nest.entry.spot.number → stop ≡ joint_stop (game_of n) d.given (drop i (game_of n).scopes) i →
    closed_box (setting_of (game_of m) d) (here_in m bounded) ≡ Some n.nest.remains.box → r ≡ Answerless (game_of n) i stop n.nest.remains.box → r ≡ empty_placed (setting_of (game_of m) d) (here_in m bounded)
emptied_by m n d bounded i stop r rest ei es closed er =
    let t = n.nest.remains in
    let at : i ≡ m.nest.entry.spot.number = ei ∙ ap (λ (z : DenseMachine). z.nest.entry.spot.number) rest in
    let in_game : r ≡ Answerless (game_of m) i stop t.box = subst (λ (g : Game). r ≡ Answerless g i stop t.box) (ap game_of rest) er in
    let stops : stop ≡ joint_stop (game_of m) d.given (drop i (game_of m).scopes) i = subst (λ (g : Game). stop ≡ joint_stop g d.given (drop i g.scopes) i) (ap game_of rest) es in
    let by_stop : r ≡ Answerless (game_of m) i (joint_stop (game_of m) d.given (drop i (game_of m).scopes) i) t.box = subst (λ k. r ≡ Answerless (game_of m) i k t.box) stops in_game in
    let here : r ≡ is_empty_in (setting_of (game_of m) d) (here_in m bounded) (Some t.box) =
    subst (λ j. r ≡ Answerless (game_of m) j (joint_stop (game_of m) d.given (drop j (game_of m).scopes) j) t.box) at by_stop in
    here ∙ sym (ap (is_empty_in (setting_of (game_of m) d) (here_in m bounded)) closed)

-- ---- l K
pub may_lose_at : (m : DenseMachine) (s : Setting) (bounded : Bool) (a b : Bool) → a ≡ is_players (here_in m bounded) → b ≡ is_free_choice s (here_in m bounded) → (a || b) ≡ (is_players (here_in m bounded) || is_free_choice s (here_in m bounded))
may_lose_at m s bounded a b p q = ap (λ x. x || b) p ∙ ap (λ x. is_players (here_in m bounded) || x) q

pub box_few : (m : DenseMachine) → InPart m → IsValid (game_of m) → length m.nest.remains.box ≤ 500
box_few m (d, h) v = let few = v.few_variables in omega (arith, few, box_size (game_of m) m.nest.remains.box h.part.box)
