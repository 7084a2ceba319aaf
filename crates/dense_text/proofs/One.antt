-- Certificates with the same pieces are the same.
use Rattle.std.proofs.Common.{◌≡◌, refl, sym, ap, ◌∙◌, Bool, true, false, not, ◌&&◌, Option, Some, None, List, [], ◌∷◌}
use Rattle.std.specs.Prelude.{IsTrue, ℤ}
use Rattle.std.specs.List.{list_all}
use Rattle.std.proofs.lemmas.Bool.{and_parts}
use Rattle.qc_model.specs.declared.problem.ScopeId.{ScopeId}
use Rattle.qc_model.specs.declared.problem.VarId.{VarId}
use Rattle.proof_tree.specs.declared.tree.Outcome.{Outcome}
use Rattle.proof_tree.specs.Text.{outcome_fits}
use Rattle.dense_tree.specs.Tree.{Step, close, bound, reply, Node, node, again, no_play, Body, stuck, goal, cases, Ending, empty, barred, best_left, dead, next, chosen, branch, Branches, no_more, piece, Case, skip, left_open, go, Given as GivenOf, Certificate}
use Rattle.dense_tree.specs.Text.{is_dead, node_fits, body_fits, ending_fits, branches_fit, case_fits, given_fits, has_text}
use Rattle.dense_text.specs.declared.piece.Tuple.{Tuple}
use Rattle.dense_text.specs.declared.piece.Tuple.TheVariants.{Given as GivenTuple, Reply as ReplyTuple, Chosen as ChosenTuple}
use Rattle.dense_text.specs.declared.piece.Piece.{Piece}
use Rattle.dense_text.specs.declared.piece.Piece.TheVariants.{Head, Given, Reply, Chosen, Value, Named, Horizon, Stuck, Goal, Again, NoPlay, Close, Bound, Empty, Barred, BestLeft, Next, Branch, Range, Skip, LeftOpen, Dot}
use Rattle.dense_text.specs.Pieces.{certificate_pieces}
use Rattle.dense_text.proofs.Then.{values_then, givens_then, steps_then, named_then, horizon_then, node_then, body_then, ending_then, branches_then, case_then, certificate_are}

-- pieces, read from the last on: the node or the part that begins with the first of them, the cases of each open branch, the values of
-- a tuple, and the tuples given
data Back : Type 0 where
  back : Option Node → List Branches → List ℤ → List GivenOf → Back

abbrev ending_node : Ending → Node
ending_node e = node false None (cases [] e)

-- a line by which no play is left is an end until it is known to be a node
abbrev as_node : Node → Node
as_node (node false None (cases [] (dead k))) = no_play k
as_node t = t

abbrev front_of : Node → Node
front_of (node named h body) = node named h body
front_of (again n) = again n
front_of (no_play k) = ending_node (dead k)

abbrev case_of : Node → Case
case_of (node named h (cases steps end)) = go steps end
case_of t = skip

abbrev with_case : Option ℤ → Case → List Branches → List Branches
with_case upto c [] = []
with_case upto c (bs ∷ st) = piece upto c bs ∷ st

-- the part is a case of the innermost branch
abbrev committed : Back → Back
committed (back None st vs gs) = back None st vs gs
committed (back (Some t) st vs gs) = back None (with_case None (case_of t) st) vs gs

abbrev with_front : Node → Back → Back
with_front t (back f st vs gs) = back (Some t) st vs gs

abbrev stepped : Step → Node → Node
stepped s (node named h (cases steps end)) = node named h (cases (s ∷ steps) end)
stepped s t = t

abbrev with_step : Step → Back → Back
with_step s (back None st vs gs) = back None st vs gs
with_step s (back (Some t) st vs gs) = back (Some (stepped s t)) st vs gs

abbrev with_reply : Back → Back
with_reply (back None st vs gs) = back None st vs gs
with_reply (back (Some t) st vs gs) = back (Some (stepped (reply vs) t)) st [] gs

abbrev with_next : Back → Back
with_next (back None st vs gs) = back None st vs gs
with_next (back (Some t) st vs gs) = back (Some (ending_node (next (as_node t)))) st vs gs

abbrev with_chosen : Back → Back
with_chosen (back None st vs gs) = back None st vs gs
with_chosen (back (Some t) st vs gs) = back (Some (ending_node (chosen vs (as_node t)))) st [] gs

abbrev with_branch : VarId → Back → Back
with_branch x (back f [] vs gs) = back f [] vs gs
with_branch x (back f (bs ∷ st) vs gs) = back (Some (ending_node (branch x bs))) st vs gs

abbrev ranged : ℤ → Branches → Branches
ranged high no_more = no_more
ranged high (piece upto c bs) = piece (Some high) c bs

abbrev with_range : ℤ → Back → Back
with_range high (back f [] vs gs) = back f [] vs gs
with_range high (back f (bs ∷ st) vs gs) = back f (ranged high bs ∷ st) vs gs

abbrev with_other : Case → Back → Back
with_other c (back f st vs gs) = back f (with_case None c st) vs gs

abbrev with_open : Back → Back
with_open (back f st vs gs) = back f (no_more ∷ st) vs gs

abbrev with_value : ℤ → Back → Back
with_value v (back f st vs gs) = back f st (v ∷ vs) gs

abbrev with_given : ScopeId → Back → Back
with_given k (back f st vs gs) = back f st [] (record { scope = k; tuple = vs } ∷ gs)

abbrev called : Node → Node
called (node named h body) = node true h body
called (again n) = again n
called (no_play k) = no_play k

abbrev limited : ScopeId → Node → Node
limited k (node named h body) = node named (Some k) body
limited k (again n) = again n
limited k (no_play z) = no_play z

abbrev with_name : Back → Back
with_name (back None st vs gs) = back None st vs gs
with_name (back (Some t) st vs gs) = back (Some (called t)) st vs gs

abbrev with_horizon : ScopeId → Back → Back
with_horizon k (back None st vs gs) = back None st vs gs
with_horizon k (back (Some t) st vs gs) = back (Some (limited k t)) st vs gs

abbrev told_back : List Piece → Back
told_back [] = back None [] [] []
told_back (Head outcome optimum ∷ is) = told_back is
told_back (Given k bare ∷ is) = with_given k (told_back is)
told_back (Reply bare ∷ is) = with_reply (told_back is)
told_back (Chosen bare ∷ is) = with_chosen (told_back is)
told_back (Value u v last ∷ is) = with_value v (told_back is)
told_back (Named ∷ is) = with_name (told_back is)
told_back (Horizon k ∷ is) = with_horizon k (told_back is)
told_back (Stuck ∷ is) = with_front (node false None stuck) (committed (told_back is))
told_back (Goal ∷ is) = with_front (node false None goal) (committed (told_back is))
told_back (Again n ∷ is) = with_front (again n) (committed (told_back is))
told_back (NoPlay k ∷ is) = with_front (ending_node (dead k)) (committed (told_back is))
told_back (Close ∷ is) = with_step close (told_back is)
told_back (Bound x low high ∷ is) = with_step (bound x low high) (told_back is)
told_back (Empty ∷ is) = with_front (ending_node empty) (committed (told_back is))
told_back (Barred ∷ is) = with_front (ending_node barred) (committed (told_back is))
told_back (BestLeft ∷ is) = with_front (ending_node best_left) (committed (told_back is))
told_back (Next ∷ is) = with_next (told_back is)
told_back (Branch x ∷ is) = with_branch x (committed (told_back is))
told_back (Range high ∷ is) = with_range high (committed (told_back is))
told_back (Skip ∷ is) = with_other skip (committed (told_back is))
told_back (LeftOpen ∷ is) = with_other left_open (committed (told_back is))
told_back (Dot ∷ is) = with_open (committed (told_back is))

-- what comes after an end
abbrev After : List Piece → List Branches → List GivenOf → Type 0
After r st gs = committed (told_back r) ≡ back None st [] gs

abbrev IsFront : List Piece → Node → List Branches → List GivenOf → Type 0
IsFront r t st gs = told_back r ≡ back (Some t) st [] gs

values_told : (u : Tuple) (vs : List ℤ) (r : List Piece) (f : Option Node) (st : List Branches) (gs : List GivenOf) → told_back r ≡ back f st [] gs → told_back (values_then u vs r) ≡ back f st vs gs
values_told u [] r f st gs h = h
values_told u (v ∷ vs) r f st gs h = ap (with_value v) (values_told u vs r f st gs h)

steps_told : (ss : List Step) (e : Ending) (r : List Piece) (st : List Branches) (gs : List GivenOf) → IsFront r (ending_node e) st gs → IsFront (steps_then ss r) (node false None (cases ss e)) st gs
steps_told [] e r st gs h = h
steps_told (close ∷ ss) e r st gs h = ap (with_step close) (steps_told ss e r st gs h)
steps_told (bound x low high ∷ ss) e r st gs h = ap (with_step (bound x low high)) (steps_told ss e r st gs h)
steps_told (reply t ∷ ss) e r st gs h = ap with_reply (values_told ReplyTuple t (steps_then ss r) (Some (node false None (cases ss e))) st gs (steps_told ss e r st gs h))

horizon_told : (h : Option ScopeId) (body : Body) (r : List Piece) (st : List Branches) (gs : List GivenOf) → IsFront r (node false None body) st gs → IsFront (horizon_then h r) (node false h body) st gs
horizon_told None body r st gs e = e
horizon_told (Some k) body r st gs e = ap (with_horizon k) e

named_told : (named : Bool) (h : Option ScopeId) (body : Body) (r : List Piece) (st : List Branches) (gs : List GivenOf) → IsFront r (node false h body) st gs → IsFront (named_then named r) (node named h body) st gs
named_told true h body r st gs e = ap with_name e
named_told false h body r st gs e = e

live_node : (named : Bool) (h : Option ScopeId) (body : Body) → not (is_dead body) ≡ true → as_node (node named h body) ≡ node named h body
live_node true h body d = refl
live_node false (Some k) body d = refl
live_node false None stuck d = refl
live_node false None goal d = refl
live_node false None (cases (s ∷ ss) e) d = refl
live_node false None (cases [] empty) d = refl
live_node false None (cases [] barred) d = refl
live_node false None (cases [] best_left) d = refl
live_node false None (cases [] (dead k)) d = absurd (cc)
live_node false None (cases [] (next t)) d = refl
live_node false None (cases [] (chosen vs t)) d = refl
live_node false None (cases [] (branch x bs)) d = refl

node_back : (t : Node) → node_fits t ≡ true → as_node (front_of t) ≡ t
node_back (node named h body) f = let q = and_parts _ _ f in let o = and_parts _ _ q.0 in live_node named h body o.1
node_back (again n) f = refl
node_back (no_play k) f = refl

mutual
  node_told : (t : Node) (r : List Piece) (st : List Branches) (gs : List GivenOf) → node_fits t ≡ true → After r st gs → IsFront (node_then t r) (front_of t) st gs
  node_told (node named h body) r st gs f a =
      let q = and_parts _ _ f in
      named_told named h body (horizon_then h (body_then body r)) st gs (horizon_told h body (body_then body r) st gs (body_told body r st gs q.1 a))
  node_told (again n) r st gs f a = ap (with_front (again n)) a
  node_told (no_play k) r st gs f a = ap (with_front (ending_node (dead k))) a

  body_told : (body : Body) (r : List Piece) (st : List Branches) (gs : List GivenOf) → body_fits body ≡ true → After r st gs → IsFront (body_then body r) (node false None body) st gs
  body_told stuck r st gs f a = ap (with_front (node false None stuck)) a
  body_told goal r st gs f a = ap (with_front (node false None goal)) a
  body_told (cases steps end) r st gs f a = let q = and_parts _ _ f in steps_told steps end (ending_then end r) st gs (ending_told end r st gs q.1 a)

  ending_told : (e : Ending) (r : List Piece) (st : List Branches) (gs : List GivenOf) → ending_fits e ≡ true → After r st gs → IsFront (ending_then e r) (ending_node e) st gs
  ending_told empty r st gs f a = ap (with_front (ending_node empty)) a
  ending_told barred r st gs f a = ap (with_front (ending_node barred)) a
  ending_told best_left r st gs f a = ap (with_front (ending_node best_left)) a
  ending_told (dead k) r st gs f a = ap (with_front (ending_node (dead k))) a
  ending_told (next t) r st gs f a = ap with_next (node_told t r st gs f a) ∙ ap (λ (u : Node). back (Some (ending_node (next u))) st [] gs) (node_back t f)
  ending_told (chosen vs t) r st gs f a =
      let q = and_parts _ _ f in
      ap with_chosen (values_told ChosenTuple vs (node_then t r) (Some (front_of t)) st gs (node_told t r st gs q.1 a)) ∙ ap (λ (u : Node). back (Some (ending_node (chosen vs u))) st [] gs) (node_back t q.1)
  ending_told (branch x bs) r st gs f a = let q = and_parts _ _ f in ap (with_branch x) (branches_told bs r st gs q.1 a)

  branches_told : (bs : Branches) (r : List Piece) (st : List Branches) (gs : List GivenOf) → branches_fit bs ≡ true → After r st gs → After (branches_then bs (Dot ∷ r)) (bs ∷ st) gs
  branches_told no_more r st gs f a = ap (λ (b : Back). committed (with_open b)) a
  branches_told (piece None c bs) r st gs f a =
      let q = and_parts (case_fits c) (branches_fit bs) f in
      case_told c (branches_then bs (Dot ∷ r)) bs st gs q.0 (branches_told bs r st gs q.1 a)
  branches_told (piece (Some high) c bs) r st gs f a =
      let q = and_parts _ _ f in let o = and_parts _ _ q.0 in
      ap (λ (b : Back). committed (with_range high b)) (case_told c (branches_then bs (Dot ∷ r)) bs st gs o.1 (branches_told bs r st gs q.1 a))

  case_told : (c : Case) (r : List Piece) (bs : Branches) (st : List Branches) (gs : List GivenOf) → case_fits c ≡ true → After r (bs ∷ st) gs → After (case_then c r) (piece None c bs ∷ st) gs
  case_told skip r bs st gs f a = ap (λ (b : Back). committed (with_other skip b)) a
  case_told left_open r bs st gs f a = ap (λ (b : Back). committed (with_other left_open b)) a
  case_told (go steps end) r bs st gs f a =
      let q = and_parts _ _ f in
      ap committed (steps_told steps end (ending_then end r) (bs ∷ st) gs (ending_told end r (bs ∷ st) gs q.1 a))

givens_told : (gs : List GivenOf) (r : List Piece) (f : Option Node) (st : List Branches) → told_back r ≡ back f st [] [] → told_back (givens_then gs r) ≡ back f st [] gs
givens_told [] r f st h = h
givens_told (g ∷ gs) r f st h = ap (with_given g.scope) (values_told GivenTuple g.tuple (givens_then gs r) f st gs (givens_told gs r f st h))

abbrev certificate_of : Back → Certificate
certificate_of (back None st vs gs) = record { given = gs; root = again 0 }
certificate_of (back (Some t) st vs gs) = record { given = gs; root = as_node t }

certificate_told : (outcome : Outcome) (optimum : Option ℤ) (c : Certificate) → IsTrue (has_text outcome optimum c) → certificate_of (told_back (certificate_pieces outcome optimum c)) ≡ c
certificate_told outcome optimum c f =
    let q = and_parts (outcome_fits outcome optimum && list_all given_fits c.given) (node_fits c.root) f in
    ap (λ (is : List Piece). certificate_of (told_back is)) (certificate_are outcome optimum c)
    ∙ ap certificate_of (givens_told c.given (node_then c.root []) (Some (front_of c.root)) [] (node_told c.root [] [] [] q.1 refl))
    ∙ ap (λ (t : Node). record { given = c.given; root = t }) (node_back c.root q.1)

abbrev first_outcome : Outcome → List Piece → Outcome
first_outcome other (Head outcome optimum ∷ is) = outcome
first_outcome other is = other

abbrev first_optimum : List Piece → Option ℤ
first_optimum (Head outcome optimum ∷ is) = optimum
first_optimum is = None

pub one_certificate : (p q : Outcome) (v w : Option ℤ) (c d : Certificate) → IsTrue (has_text p v c) → IsTrue (has_text q w d) → certificate_pieces p v c ≡ certificate_pieces q w d → (p ≡ q) × (v ≡ w) × (c ≡ d)
one_certificate p q v w c d f g h =
    (ap (first_outcome p) h, ap first_optimum h, sym (certificate_told p v c f) ∙ ap (λ (is : List Piece). certificate_of (told_back is)) h ∙ certificate_told q w d g)
