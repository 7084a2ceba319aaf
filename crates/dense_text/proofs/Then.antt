-- The pieces of a tree, with others after them.
use Rattle.std.proofs.Common.{◌≡◌, refl, sym, ap, ◌∙◌, Bool, true, false, Option, Some, None, List, [], ◌∷◌, ◌++◌, append_assoc}
use Rattle.std.specs.Prelude.{map, flat_map, ℤ}
use Rattle.std.proofs.lemmas.Grind.{flat_map-append}
use Rattle.std.proofs.lemmas.List.{append-nil}
use Rattle.qc_model.specs.declared.problem.ScopeId.{ScopeId}
use Rattle.proof_tree.specs.declared.tree.Outcome.{Outcome}
use Rattle.dense_tree.specs.Tree.{Step, close, bound, reply, Node, node, again, no_play, Body, stuck, goal, cases, Ending, empty, barred, best_left, dead, next, chosen, branch, Branches, no_more, piece, Case, skip, left_open, go, Given as GivenOf, Certificate}
use Rattle.dense_tree.specs.Lines.{Line, given_line, dot_line, step_line, named_lines, horizon_lines, upto_lines, node_lines, body_lines, ending_lines, branches_lines, case_lines, certificate_lines}
use Rattle.dense_text.specs.declared.piece.Tuple.{Tuple}
use Rattle.dense_text.specs.declared.piece.Tuple.TheVariants.{Given as GivenTuple, Reply as ReplyTuple, Chosen as ChosenTuple}
use Rattle.dense_text.specs.declared.piece.Piece.{Piece}
use Rattle.dense_text.specs.declared.piece.Piece.TheVariants.{Head, Given, Reply, Chosen, Value, Named, Horizon, Stuck, Goal, Again, NoPlay, Close, Bound, Empty, Barred, BestLeft, Next, Branch, Range, Skip, LeftOpen, Dot}
use Rattle.dense_text.specs.Pieces.{is_none, value_pieces, line_pieces, certificate_pieces}

abbrev pub values_then : Tuple → List ℤ → List Piece → List Piece
values_then u [] r = r
values_then u (v ∷ vs) r = Value u v (is_none vs) ∷ values_then u vs r

abbrev pub given_then : GivenOf → List Piece → List Piece
given_then g r = Given g.scope (is_none g.tuple) ∷ values_then GivenTuple g.tuple r

abbrev pub givens_then : List GivenOf → List Piece → List Piece
givens_then [] r = r
givens_then (g ∷ gs) r = given_then g (givens_then gs r)

abbrev pub step_then : Step → List Piece → List Piece
step_then close r = Close ∷ r
step_then (bound x low high) r = Bound x low high ∷ r
step_then (reply t) r = Reply (is_none t) ∷ values_then ReplyTuple t r

abbrev pub steps_then : List Step → List Piece → List Piece
steps_then [] r = r
steps_then (s ∷ ss) r = step_then s (steps_then ss r)

abbrev pub named_then : Bool → List Piece → List Piece
named_then true r = Named ∷ r
named_then false r = r

abbrev pub horizon_then : Option ScopeId → List Piece → List Piece
horizon_then None r = r
horizon_then (Some k) r = Horizon k ∷ r

abbrev pub upto_then : Option ℤ → List Piece → List Piece
upto_then None r = r
upto_then (Some high) r = Range high ∷ r

abbrev mutual
  pub node_then : Node → List Piece → List Piece
  node_then (node named h body) r = named_then named (horizon_then h (body_then body r))
  node_then (again n) r = Again n ∷ r
  node_then (no_play k) r = NoPlay k ∷ r

  pub body_then : Body → List Piece → List Piece
  body_then stuck r = Stuck ∷ r
  body_then goal r = Goal ∷ r
  body_then (cases steps end) r = steps_then steps (ending_then end r)

  pub ending_then : Ending → List Piece → List Piece
  ending_then empty r = Empty ∷ r
  ending_then barred r = Barred ∷ r
  ending_then best_left r = BestLeft ∷ r
  ending_then (dead k) r = NoPlay k ∷ r
  ending_then (next t) r = Next ∷ node_then t r
  ending_then (chosen vs t) r = Chosen (is_none vs) ∷ values_then ChosenTuple vs (node_then t r)
  ending_then (branch x bs) r = Branch x ∷ branches_then bs (Dot ∷ r)

  pub branches_then : Branches → List Piece → List Piece
  branches_then no_more r = r
  branches_then (piece upto c bs) r = upto_then upto (case_then c (branches_then bs r))

  pub case_then : Case → List Piece → List Piece
  case_then skip r = Skip ∷ r
  case_then left_open r = LeftOpen ∷ r
  case_then (go steps end) r = steps_then steps (ending_then end r)

-- they are the pieces of its lines
abbrev pub pieces : List Line → List Piece
pieces ls = flat_map line_pieces ls

two_parts : (a b : List Line) (r : List Piece) → pieces (a ++ b) ++ r ≡ pieces a ++ (pieces b ++ r)
two_parts a b r = ap (λ (u : List Piece). u ++ r) (flat_map-append line_pieces a b) ∙ append_assoc (pieces a) (pieces b) r

values_are : (u : Tuple) (vs : List ℤ) (r : List Piece) → value_pieces u vs ++ r ≡ values_then u vs r
values_are u [] r = refl
values_are u (v ∷ vs) r = ap (λ (x : List Piece). Value u v (is_none vs) ∷ x) (values_are u vs r)

steps_are : (ss : List Step) (r : List Piece) → pieces (map step_line ss) ++ r ≡ steps_then ss r
steps_are [] r = refl
steps_are (close ∷ ss) r = ap (λ (x : List Piece). Close ∷ x) (steps_are ss r)
steps_are (bound x low high ∷ ss) r = ap (λ (x' : List Piece). Bound x low high ∷ x') (steps_are ss r)
steps_are (reply t ∷ ss) r =
    ap (λ (x : List Piece). Reply (is_none t) ∷ x)
    (append_assoc (value_pieces ReplyTuple t) (pieces (map step_line ss)) r ∙ ap (λ (x : List Piece). value_pieces ReplyTuple t ++ x) (steps_are ss r) ∙ values_are ReplyTuple t (steps_then ss r))

named_are : (named : Bool) (r : List Piece) → pieces (named_lines named) ++ r ≡ named_then named r
named_are true r = refl
named_are false r = refl

horizon_are : (h : Option ScopeId) (r : List Piece) → pieces (horizon_lines h) ++ r ≡ horizon_then h r
horizon_are None r = refl
horizon_are (Some k) r = refl

upto_are : (upto : Option ℤ) (r : List Piece) → pieces (upto_lines upto) ++ r ≡ upto_then upto r
upto_are None r = refl
upto_are (Some high) r = refl

mutual
  node_are : (t : Node) (r : List Piece) → pieces (node_lines t) ++ r ≡ node_then t r
  node_are (node named h body) r =
      two_parts (named_lines named) (horizon_lines h ++ body_lines body) r ∙ named_are named (pieces (horizon_lines h ++ body_lines body) ++ r)
      ∙ ap (named_then named) (two_parts (horizon_lines h) (body_lines body) r ∙ horizon_are h (pieces (body_lines body) ++ r) ∙ ap (horizon_then h) (body_are body r))
  node_are (again n) r = refl
  node_are (no_play k) r = refl

  body_are : (body : Body) (r : List Piece) → pieces (body_lines body) ++ r ≡ body_then body r
  body_are stuck r = refl
  body_are goal r = refl
  body_are (cases steps end) r = two_parts (map step_line steps) (ending_lines end) r ∙ steps_are steps (pieces (ending_lines end) ++ r) ∙ ap (steps_then steps) (ending_are end r)

  ending_are : (e : Ending) (r : List Piece) → pieces (ending_lines e) ++ r ≡ ending_then e r
  ending_are empty r = refl
  ending_are barred r = refl
  ending_are best_left r = refl
  ending_are (dead k) r = refl
  ending_are (next t) r = ap (λ (x : List Piece). Next ∷ x) (node_are t r)
  ending_are (chosen vs t) r =
      ap (λ (x : List Piece). Chosen (is_none vs) ∷ x)
      (append_assoc (value_pieces ChosenTuple vs) (pieces (node_lines t)) r ∙ ap (λ (x : List Piece). value_pieces ChosenTuple vs ++ x) (node_are t r) ∙ values_are ChosenTuple vs (node_then t r))
  ending_are (branch x bs) r = ap (λ (y : List Piece). Branch x ∷ y) (two_parts (branches_lines bs) (dot_line ∷ []) r ∙ branches_are bs (Dot ∷ r))

  branches_are : (bs : Branches) (r : List Piece) → pieces (branches_lines bs) ++ r ≡ branches_then bs r
  branches_are no_more r = refl
  branches_are (piece upto c bs) r =
      two_parts (upto_lines upto) (case_lines c ++ branches_lines bs) r ∙ upto_are upto (pieces (case_lines c ++ branches_lines bs) ++ r)
      ∙ ap (upto_then upto) (two_parts (case_lines c) (branches_lines bs) r ∙ case_are c (pieces (branches_lines bs) ++ r) ∙ ap (case_then c) (branches_are bs r))

  case_are : (c : Case) (r : List Piece) → pieces (case_lines c) ++ r ≡ case_then c r
  case_are skip r = refl
  case_are left_open r = refl
  case_are (go steps end) r = two_parts (map step_line steps) (ending_lines end) r ∙ steps_are steps (pieces (ending_lines end) ++ r) ∙ ap (steps_then steps) (ending_are end r)

abbrev given_of : GivenOf → Line
given_of g = given_line g.scope g.tuple

givens_are : (gs : List GivenOf) (r : List Piece) → pieces (map given_of gs) ++ r ≡ givens_then gs r
givens_are [] r = refl
givens_are (g ∷ gs) r =
    ap (λ (x : List Piece). Given g.scope (is_none g.tuple) ∷ x)
    (append_assoc (value_pieces GivenTuple g.tuple) (pieces (map given_of gs)) r ∙ ap (λ (x : List Piece). value_pieces GivenTuple g.tuple ++ x) (givens_are gs r)
    ∙ values_are GivenTuple g.tuple (givens_then gs r))

pub certificate_are : (outcome : Outcome) (optimum : Option ℤ) (c : Certificate) → certificate_pieces outcome optimum c ≡ Head outcome optimum ∷ givens_then c.given (node_then c.root [])
certificate_are outcome optimum c =
    ap (λ (x : List Piece). Head outcome optimum ∷ x)
    (sym (append-nil (pieces (certificate_lines c))) ∙ two_parts (map given_of c.given) (node_lines c.root) [] ∙ givens_are c.given (pieces (node_lines c.root) ++ []) ∙ ap (givens_then c.given) (node_are c.root []))
