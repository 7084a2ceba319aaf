-- The pieces of a certificate may come one after the other, and their numbers fit.
use Rattle.std.proofs.Common.{◌≡◌, refl, sym, ap, ◌∙◌, subst, ℕ, suc, Bool, true, false, ◌&&◌, Option, Some, None, List, [], ◌∷◌}
use Rattle.std.specs.Prelude.{IsTrue, ℤ}
use Rattle.std.specs.List.{list_all}
use Rattle.std.proofs.lemmas.Bool.{and_from, and_parts}
use Rattle.qc_model.specs.declared.problem.ScopeId.{ScopeId}
use Rattle.qc_model.specs.Valid.{is_number}
use Rattle.qc_model.proofs.Sound.{is_false}
use Rattle.proof_tree.specs.declared.tree.Outcome.{Outcome}
use Rattle.proof_tree.specs.Text.{outcome_fits}
use Rattle.dense_tree.specs.Tree.{Step, close, bound, reply, Node, node, again, no_play, Body, stuck, goal, cases, Ending, empty, barred, best_left, dead, next, chosen, branch, Branches, no_more, piece, Case as CaseOf, skip, left_open, go, Given as GivenOf, Certificate}
use Rattle.dense_tree.specs.Text.{step_fits, horizon_fits, is_dead, node_fits, body_fits, ending_fits, branches_fit, case_fits, given_fits, has_text}
use Rattle.dense_text.specs.declared.piece.Tuple.{Tuple}
use Rattle.dense_text.specs.declared.piece.Tuple.TheVariants.{Given as GivenTuple, Reply as ReplyTuple, Chosen as ChosenTuple}
use Rattle.dense_text.specs.declared.piece.Piece.{Piece}
use Rattle.dense_text.specs.declared.piece.Piece.TheVariants.{Head, Given, Reply, Chosen, Value, Named, Horizon, Stuck, Goal, Again, NoPlay, Close, Bound, Empty, Barred, BestLeft, Next, Branch, Range, Skip, LeftOpen, Dot}
use Rattle.dense_text.specs.declared.parts.Due.{Due}
use Rattle.dense_text.specs.declared.parts.Due.TheVariants.{Givens, Node as NodeDue, AfterName, AfterHorizon, AfterStep, Case, AfterRange, Ended}
use Rattle.dense_text.specs.Pieces.{piece_fits, is_none, certificate_pieces}
use Rattle.dense_text.specs.Grammar.{Place, at_start, at_value, at, may_begin, may_limit, may_end, may_step, may_give_up, may_skip, is_same, allows, open_after, onward, due_after, after_value, place_after, accepts, end_place}
use Rattle.dense_text.proofs.Then.{values_then, givens_then, step_then, steps_then, named_then, horizon_then, node_then, body_then, ending_then, branches_then, case_then, certificate_are}

-- the pieces may come there, with so many branches open, and the text ends with the last
pub record Comes (p : Place) (n : ℕ) (is : List Piece) : Type 0 where
  pub accepted : accepts p n is ≡ true
  pub ended : end_place p n is ≡ at Ended
  pub fits : list_all piece_fits is ≡ true

pub comes : (p : Place) (n : ℕ) (i : Piece) (is : List Piece) → allows p i ≡ true → piece_fits i ≡ true → Comes (place_after (open_after n i) i) (open_after n i) is → Comes p n (i ∷ is)
comes p n i is a f c = record { accepted = and_from _ _ a c.accepted; ended = c.ended; fits = and_from _ _ f c.fits }

pub same_is : (u : Tuple) → is_same u u ≡ true
same_is GivenTuple = refl
same_is ReplyTuple = refl
same_is ChosenTuple = refl

values_come : (u : Tuple) (vs : List ℤ) (n : ℕ) (r : List Piece) → list_all is_number vs ≡ true → Comes (at (due_after u)) n r → Comes (after_value u (is_none vs)) n (values_then u vs r)
values_come u [] n r f c = c
values_come u (v ∷ vs) n r f c =
    let q = and_parts (is_number v) (list_all is_number vs) f in
    comes (at_value u) n (Value u v (is_none vs)) (values_then u vs r) (same_is u) q.0 (values_come u vs n r q.1 c)

-- what may come where
pub limit_ends : (d : Due) → may_limit d ≡ true → may_end d ≡ true
limit_ends Givens h = refl
limit_ends NodeDue h = refl
limit_ends AfterName h = refl
limit_ends AfterHorizon h = refl
limit_ends AfterStep h = absurd (cc)
limit_ends Case h = absurd (cc)
limit_ends AfterRange h = absurd (cc)
limit_ends Ended h = absurd (cc)

pub end_steps : (d : Due) → may_end d ≡ true → may_step d ≡ true
end_steps Givens h = refl
end_steps NodeDue h = refl
end_steps AfterName h = refl
end_steps AfterHorizon h = refl
end_steps AfterStep h = refl
end_steps Case h = refl
end_steps AfterRange h = refl
end_steps Ended h = absurd (cc)

pub begin_limits : (d : Due) → may_begin d ≡ true → may_limit d ≡ true
begin_limits Givens h = refl
begin_limits NodeDue h = refl
begin_limits AfterName h = refl
begin_limits AfterHorizon h = absurd (cc)
begin_limits AfterStep h = absurd (cc)
begin_limits Case h = absurd (cc)
begin_limits AfterRange h = absurd (cc)
begin_limits Ended h = absurd (cc)

begin_gives_up : (d : Due) → may_begin d ≡ true → may_give_up d ≡ true
begin_gives_up Givens h = refl
begin_gives_up NodeDue h = refl
begin_gives_up AfterName h = absurd (cc)
begin_gives_up AfterHorizon h = absurd (cc)
begin_gives_up AfterStep h = refl
begin_gives_up Case h = refl
begin_gives_up AfterRange h = refl
begin_gives_up Ended h = absurd (cc)

skip_steps : (d : Due) → may_skip d ≡ true → may_step d ≡ true
skip_steps Givens h = refl
skip_steps NodeDue h = refl
skip_steps AfterName h = refl
skip_steps AfterHorizon h = refl
skip_steps AfterStep h = refl
skip_steps Case h = refl
skip_steps AfterRange h = refl
skip_steps Ended h = absurd (cc)

skip_gives_up : (d : Due) → may_skip d ≡ true → may_give_up d ≡ true
skip_gives_up Givens h = refl
skip_gives_up NodeDue h = refl
skip_gives_up AfterName h = absurd (cc)
skip_gives_up AfterHorizon h = absurd (cc)
skip_gives_up AfterStep h = refl
skip_gives_up Case h = refl
skip_gives_up AfterRange h = refl
skip_gives_up Ended h = absurd (cc)

-- an end of that kind may come
abbrev may_come : Due → Ending → Bool
may_come d empty = may_step d
may_come d barred = may_step d
may_come d best_left = may_step d
may_come d (dead k) = may_give_up d
may_come d (next t) = may_step d
may_come d (chosen vs t) = may_step d
may_come d (branch x bs) = may_step d

both_come : (d : Due) (e : Ending) → may_step d ≡ true → may_give_up d ≡ true → may_come d e ≡ true
both_come d empty m g = m
both_come d barred m g = m
both_come d best_left m g = m
both_come d (dead k) m g = g
both_come d (next t) m g = m
both_come d (chosen vs t) m g = m
both_come d (branch x bs) m g = m

live_comes : (d : Due) (e : Ending) → may_step d ≡ true → is_dead (cases [] e) ≡ false → may_come d e ≡ true
live_comes d empty m h = m
live_comes d barred m h = m
live_comes d best_left m h = m
live_comes d (dead k) m h = absurd (cc)
live_comes d (next t) m h = m
live_comes d (chosen vs t) m h = m
live_comes d (branch x bs) m h = m

step_comes : (s : Step) (d : Due) (n : ℕ) (r : List Piece) → may_step d ≡ true → step_fits s ≡ true → Comes (at AfterStep) n r → Comes (at d) n (step_then s r)
step_comes close d n r m f c = comes (at d) n Close r m refl c
step_comes (bound x low high) d n r m f c = comes (at d) n (Bound x low high) r m f c
step_comes (reply t) d n r m f c = comes (at d) n (Reply (is_none t)) (values_then ReplyTuple t r) m refl (values_come ReplyTuple t n r f c)

steps_come : (ss : List Step) (d : Due) (n : ℕ) (r : List Piece) → may_step d ≡ true → list_all step_fits ss ≡ true → (ss ≡ [] → Comes (at d) n r) → Comes (at AfterStep) n r → Comes (at d) n (steps_then ss r)
steps_come [] d n r m f first later = first refl
steps_come (s ∷ ss) d n r m f first later =
    let q = and_parts (step_fits s) (list_all step_fits ss) f in
    step_comes s d n (steps_then ss r) m q.0 (steps_come ss AfterStep n r refl q.1 (λ e. later) later)

horizon_comes : (h : Option ScopeId) (d : Due) (n : ℕ) (r : List Piece) → may_limit d ≡ true → horizon_fits h ≡ true → ((c : Due) → may_end c ≡ true → Comes (at c) n r) → Comes (at d) n (horizon_then h r)
horizon_comes None d n r m f k = k d (limit_ends d m)
horizon_comes (Some z) d n r m f k = comes (at d) n (Horizon z) r m f (k AfterHorizon refl)

named_comes : (named : Bool) (d : Due) (n : ℕ) (r : List Piece) → may_begin d ≡ true → ((c : Due) → may_limit c ≡ true → Comes (at c) n r) → Comes (at d) n (named_then named r)
named_comes true d n r m k = comes (at d) n Named r m refl (k AfterName refl)
named_comes false d n r m k = k d (begin_limits d m)

no_steps : (ss : List Step) (e : Ending) → ss ≡ [] → is_dead (cases ss e) ≡ false → is_dead (cases [] e) ≡ false
no_steps ss e h g = sym (ap (λ (x : List Step). is_dead (cases x e)) h) ∙ g

mutual
  node_comes : (t : Node) (d : Due) (n : ℕ) (r : List Piece) → may_begin d ≡ true → node_fits t ≡ true → Comes (onward n) n r → Comes (at d) n (node_then t r)
  node_comes (node named h body) d n r m f c =
      let q = and_parts _ _ f in let o = and_parts _ _ q.0 in
      named_comes named d n (horizon_then h (body_then body r)) m
      (λ b l. horizon_comes h b n (body_then body r) l o.0 (λ e k. body_comes body e n r k (is_false (is_dead body) o.1) q.1 c))
  node_comes (again k) d n r m f c = comes (at d) n (Again k) r m f c
  node_comes (no_play k) d n r m f c = comes (at d) n (NoPlay k) r (begin_gives_up d m) f c

  body_comes : (b : Body) (d : Due) (n : ℕ) (r : List Piece) → may_end d ≡ true → is_dead b ≡ false → body_fits b ≡ true → Comes (onward n) n r → Comes (at d) n (body_then b r)
  body_comes stuck d n r m l f c = comes (at d) n Stuck r m refl c
  body_comes goal d n r m l f c = comes (at d) n Goal r m refl c
  body_comes (cases steps end) d n r m l f c =
      let q = and_parts _ _ f in
      steps_come steps d n (ending_then end r) (end_steps d m) q.0
      (λ e. ending_comes end d n r (live_comes d end (end_steps d m) (no_steps steps end e l)) q.1 c)
      (ending_comes end AfterStep n r (both_come AfterStep end refl refl) q.1 c)

  ending_comes : (e : Ending) (d : Due) (n : ℕ) (r : List Piece) → may_come d e ≡ true → ending_fits e ≡ true → Comes (onward n) n r → Comes (at d) n (ending_then e r)
  ending_comes empty d n r m f c = comes (at d) n Empty r m refl c
  ending_comes barred d n r m f c = comes (at d) n Barred r m refl c
  ending_comes best_left d n r m f c = comes (at d) n BestLeft r m refl c
  ending_comes (dead k) d n r m f c = comes (at d) n (NoPlay k) r m f c
  ending_comes (next t) d n r m f c = comes (at d) n Next (node_then t r) m refl (node_comes t NodeDue n r refl f c)
  ending_comes (chosen vs t) d n r m f c =
      let q = and_parts _ _ f in
      comes (at d) n (Chosen (is_none vs)) (values_then ChosenTuple vs (node_then t r)) m refl (values_come ChosenTuple vs n (node_then t r) q.0 (node_comes t NodeDue n r refl q.1 c))
  ending_comes (branch x bs) d n r m f c = let q = and_parts _ _ f in comes (at d) n (Branch x) (branches_then bs (Dot ∷ r)) m q.0 (branches_come bs n r q.1 c)

  branches_come : (bs : Branches) (n : ℕ) (r : List Piece) → branches_fit bs ≡ true → Comes (onward n) n r → Comes (at Case) (suc n) (branches_then bs (Dot ∷ r))
  branches_come no_more n r f c = comes (at Case) (suc n) Dot r refl refl c
  branches_come (piece None k bs) n r f c =
      let q = and_parts (case_fits k) (branches_fit bs) f in
      case_comes k Case n (branches_then bs (Dot ∷ r)) refl q.0 (branches_come bs n r q.1 c)
  branches_come (piece (Some high) k bs) n r f c =
      let q = and_parts _ _ f in let o = and_parts _ _ q.0 in
      comes (at Case) (suc n) (Range high) (case_then k (branches_then bs (Dot ∷ r))) refl o.0 (case_comes k AfterRange n (branches_then bs (Dot ∷ r)) refl o.1 (branches_come bs n r q.1 c))

  case_comes : (k : CaseOf) (d : Due) (n : ℕ) (r : List Piece) → may_skip d ≡ true → case_fits k ≡ true → Comes (at Case) (suc n) r → Comes (at d) (suc n) (case_then k r)
  case_comes skip d n r m f c = comes (at d) (suc n) Skip r m refl c
  case_comes left_open d n r m f c = comes (at d) (suc n) LeftOpen r m refl c
  case_comes (go steps end) d n r m f c =
      let q = and_parts _ _ f in
      steps_come steps d (suc n) (ending_then end r) (skip_steps d m) q.0
      (λ e. ending_comes end d (suc n) r (both_come d end (skip_steps d m) (skip_gives_up d m)) q.1 c)
      (ending_comes end AfterStep (suc n) r (both_come AfterStep end refl refl) q.1 c)

givens_come : (gs : List GivenOf) (r : List Piece) → list_all given_fits gs ≡ true → Comes (at Givens) 0 r → Comes (at Givens) 0 (givens_then gs r)
givens_come [] r f c = c
givens_come (g ∷ gs) r f c =
    let q = and_parts (given_fits g) (list_all given_fits gs) f in let o = and_parts _ _ q.0 in
    comes (at Givens) 0 (Given g.scope (is_none g.tuple)) (values_then GivenTuple g.tuple (givens_then gs r)) refl o.0 (values_come GivenTuple g.tuple 0 (givens_then gs r) o.1 (givens_come gs r q.1 c))

pub certificate_comes : (outcome : Outcome) (optimum : Option ℤ) (c : Certificate) → IsTrue (has_text outcome optimum c) → Comes at_start 0 (certificate_pieces outcome optimum c)
certificate_comes outcome optimum c h =
    let q = and_parts (outcome_fits outcome optimum && list_all given_fits c.given) (node_fits c.root) h in
    let o = and_parts (outcome_fits outcome optimum) (list_all given_fits c.given) q.0 in
    let last : Comes (onward 0) 0 [] = record { accepted = refl; ended = refl; fits = refl } in
    subst (Comes at_start 0) (sym (certificate_are outcome optimum c))
    (comes at_start 0 (Head outcome optimum) (givens_then c.given (node_then c.root [])) refl o.0 (givens_come c.given (node_then c.root []) o.1 (node_comes c.root Givens 0 [] refl q.1 last)))
