-- Pieces that may come one after the other are those of a certificate.
use Rattle.std.proofs.Common.{◌≡◌, refl, sym, ap, ◌∙◌, subst, ℕ, zero, suc, Bool, true, false, not, Option, Some, None, List, [], ◌∷◌}
use Rattle.std.specs.Prelude.{IsTrue, ℤ}
use Rattle.std.specs.List.{list_all}
use Rattle.std.proofs.lemmas.Bool.{and_from, and_parts}
use Rattle.qc_model.specs.declared.problem.ScopeId.{ScopeId}
use Rattle.qc_model.specs.Valid.{is_number}
use Rattle.proof_tree.specs.declared.tree.Outcome.{Outcome}
use Rattle.proof_tree.specs.Text.{outcome_fits}
use Rattle.dense_tree.specs.Tree.{Step, close, bound, reply, Node, node, again, no_play, Body, stuck, goal, cases, Ending, empty, barred, best_left, dead, next, chosen, branch, Branches, no_more, piece, Case as CaseOf, skip, left_open, go, Given as GivenOf, Certificate}
use Rattle.dense_tree.specs.Text.{step_fits, horizon_fits, is_dead, node_fits, body_fits, ending_fits, branches_fit, case_fits, given_fits, has_text}
use Rattle.dense_text.specs.declared.piece.Tuple.{Tuple}
use Rattle.dense_text.specs.declared.piece.Tuple.TheVariants.{Given as GivenTuple, Reply as ReplyTuple, Chosen as ChosenTuple}
use Rattle.dense_text.specs.declared.piece.Piece.{Piece}
use Rattle.dense_text.specs.declared.piece.Piece.TheVariants.{Head, Given, Reply, Chosen, Value, Named, Horizon, Stuck, Goal, Again, NoPlay, Close, Bound, Empty, Barred, BestLeft, Next, Branch, Range, Skip, LeftOpen, Dot}
use Rattle.dense_text.specs.declared.parts.Due.{Due}
use Rattle.dense_text.specs.declared.parts.Due.TheVariants.{Givens, Node as NodeDue, AfterName, AfterHorizon, AfterStep, Case, AfterRange, Ended}
use Rattle.dense_text.specs.Pieces.{piece_fits, is_none, certificate_pieces}
use Rattle.dense_text.specs.Grammar.{Place, at_start, at_value, at, may_give, may_begin, may_limit, may_end, may_step, may_give_up, may_range, may_skip, is_same, allows, one_less, open_after, onward, due_after, after_value, place_after, accepts, end_place}
use Rattle.dense_text.proofs.Then.{values_then, givens_then, step_then, steps_then, horizon_then, node_then, body_then, ending_then, branches_then, case_then, certificate_are}

-- what comes after an end, with so many branches open
abbrev Tail : ℕ → List Piece → Type 0
Tail zero is = is ≡ []
Tail (suc n) is = (bs : Branches) × (rest : List Piece) × (branches_fit bs ≡ true) × (is ≡ branches_then bs (Dot ∷ rest)) × Tail n rest

-- what pieces begin with, and what comes after it
record ARoot (n : ℕ) (is : List Piece) : Type 0 where
  given : List GivenOf
  t : Node
  rest : List Piece
  given_fit : list_all given_fits given ≡ true
  fits : node_fits t ≡ true
  are : is ≡ givens_then given (node_then t rest)
  tail : Tail n rest

record ANode (n : ℕ) (is : List Piece) : Type 0 where
  t : Node
  rest : List Piece
  fits : node_fits t ≡ true
  are : is ≡ node_then t rest
  tail : Tail n rest

-- a node whose name was told
record ANamed (n : ℕ) (is : List Piece) : Type 0 where
  h : Option ScopeId
  body : Body
  rest : List Piece
  horizon : horizon_fits h ≡ true
  alive : not (is_dead body) ≡ true
  fits : body_fits body ≡ true
  are : is ≡ horizon_then h (body_then body rest)
  tail : Tail n rest

record ABody (n : ℕ) (is : List Piece) : Type 0 where
  body : Body
  rest : List Piece
  alive : not (is_dead body) ≡ true
  fits : body_fits body ≡ true
  are : is ≡ body_then body rest
  tail : Tail n rest

-- a part of a scope's own tree
record APart (n : ℕ) (is : List Piece) : Type 0 where
  steps : List Step
  end : Ending
  rest : List Piece
  steps_fit : list_all step_fits steps ≡ true
  fits : ending_fits end ≡ true
  are : is ≡ steps_then steps (ending_then end rest)
  tail : Tail n rest

record ACase (n : ℕ) (is : List Piece) : Type 0 where
  c : CaseOf
  rest : List Piece
  fits : case_fits c ≡ true
  are : is ≡ case_then c rest
  tail : Tail n rest

abbrev AtDue : Due → ℕ → List Piece → Type 0
AtDue Givens n is = ARoot n is
AtDue NodeDue n is = ANode n is
AtDue AfterName n is = ANamed n is
AtDue AfterHorizon n is = ABody n is
AtDue AfterStep n is = APart n is
AtDue Case n is = Tail n is
AtDue AfterRange n is = ACase n is
AtDue Ended n is = is ≡ []

-- values of a tuple, of which there is none or one
record AValues (u : Tuple) (bare : Bool) (n : ℕ) (is : List Piece) : Type 0 where
  vs : List ℤ
  rest : List Piece
  bare_is : is_none vs ≡ bare
  fits : list_all is_number vs ≡ true
  are : is ≡ values_then u vs rest
  later : AtDue (due_after u) n rest

record AWhole (is : List Piece) : Type 0 where
  outcome : Outcome
  optimum : Option ℤ
  given : List GivenOf
  t : Node
  head_fits : outcome_fits outcome optimum ≡ true
  given_fit : list_all given_fits given ≡ true
  fits : node_fits t ≡ true
  are : is ≡ Head outcome optimum ∷ givens_then given (node_then t [])

abbrev AtPlace : Place → ℕ → List Piece → Type 0
AtPlace at_start n is = n ≡ 0 → AWhole is
AtPlace (at_value u) n is = AValues u false n is
AtPlace (at d) n is = AtDue d n is

-- cases stand within a branch, and a text that has ended in none
abbrev IsSome : ℕ → Type 0
IsSome zero = ⊥
IsSome (suc n) = Unit {0}

abbrev Within : Place → ℕ → Type 0
Within (at Case) n = IsSome n
Within (at AfterRange) n = IsSome n
Within (at Ended) n = n ≡ 0
Within p n = Unit {0}

within_onward : (n : ℕ) → Within (onward n) n
within_onward zero = refl
within_onward (suc n) = tt

within_after : (u : Tuple) (last : Bool) (n : ℕ) → Within (after_value u last) n
within_after GivenTuple true n = tt
within_after ReplyTuple true n = tt
within_after ChosenTuple true n = tt
within_after u false n = tt

within_range : (d : Due) (n : ℕ) → may_range d ≡ true → Within (at d) n → IsSome n
within_range Givens n m w = absurd (cc)
within_range NodeDue n m w = absurd (cc)
within_range AfterName n m w = absurd (cc)
within_range AfterHorizon n m w = absurd (cc)
within_range AfterStep n m w = absurd (cc)
within_range Case n m w = w
within_range AfterRange n m w = absurd (cc)
within_range Ended n m w = absurd (cc)

-- after an end
tail_of : (n : ℕ) (is : List Piece) → AtPlace (onward n) n is → Tail n is
tail_of zero is h = h
tail_of (suc n) is h = h

-- a case, and the cases after it
a_case : (n : ℕ) (c : CaseOf) (is rest : List Piece) → IsSome n → case_fits c ≡ true → is ≡ case_then c rest → Tail n rest → Tail n is
a_case zero c is rest w f e t = absurd w
a_case (suc n) c is rest w f e t =
    (piece None c t.0, t.1, and_from _ _ f t.2, e ∙ ap (case_then c) t.3, t.4)

a_range : (n : ℕ) (high : ℤ) (c : CaseOf) (is rest : List Piece) → IsSome n → is_number high ≡ true → case_fits c ≡ true → is ≡ case_then c rest → Tail n rest → Tail n (Range high ∷ is)
a_range zero high c is rest w h f e t = absurd w
a_range (suc n) high c is rest w h f e t =
    (piece (Some high) c t.0, t.1, and_from _ _ (and_from _ _ h f) t.2, ap (λ (x : List Piece). Range high ∷ x) (e ∙ ap (case_then c) t.3), t.4)

-- what may begin there
node_at : (d : Due) (n : ℕ) (t : Node) (is rest : List Piece) → may_begin d ≡ true → node_fits t ≡ true → is ≡ node_then t rest → Tail n rest → AtDue d n is
node_at Givens n t is rest m f e l = record { given = []; t = t; rest = rest; given_fit = refl; fits = f; are = e; tail = l }
node_at NodeDue n t is rest m f e l = record { t = t; rest = rest; fits = f; are = e; tail = l }
node_at AfterName n t is rest m f e l = absurd (cc)
node_at AfterHorizon n t is rest m f e l = absurd (cc)
node_at AfterStep n t is rest m f e l = absurd (cc)
node_at Case n t is rest m f e l = absurd (cc)
node_at AfterRange n t is rest m f e l = absurd (cc)
node_at Ended n t is rest m f e l = absurd (cc)

body_at : (d : Due) (n : ℕ) (body : Body) (is rest : List Piece) → may_end d ≡ true → not (is_dead body) ≡ true → body_fits body ≡ true → is ≡ body_then body rest → Tail n rest → AtDue d n is
body_at Givens n body is rest m a f e l = node_at Givens n (node false None body) is rest refl (and_from _ _ a f) e l
body_at NodeDue n body is rest m a f e l = node_at NodeDue n (node false None body) is rest refl (and_from _ _ a f) e l
body_at AfterName n body is rest m a f e l = record { h = None; body = body; rest = rest; horizon = refl; alive = a; fits = f; are = e; tail = l }
body_at AfterHorizon n body is rest m a f e l = record { body = body; rest = rest; alive = a; fits = f; are = e; tail = l }
body_at AfterStep n body is rest m a f e l = absurd (cc)
body_at Case n body is rest m a f e l = absurd (cc)
body_at AfterRange n body is rest m a f e l = absurd (cc)
body_at Ended n body is rest m a f e l = absurd (cc)

part_at : (d : Due) (n : ℕ) (steps : List Step) (end : Ending) (is rest : List Piece) → may_step d ≡ true → Within (at d) n → not (is_dead (cases steps end)) ≡ true → list_all step_fits steps ≡ true → ending_fits end ≡ true
    → is ≡ steps_then steps (ending_then end rest) → Tail n rest → AtDue d n is
part_at Givens n steps end is rest m w a g f e l = body_at Givens n (cases steps end) is rest refl a (and_from _ _ g f) e l
part_at NodeDue n steps end is rest m w a g f e l = body_at NodeDue n (cases steps end) is rest refl a (and_from _ _ g f) e l
part_at AfterName n steps end is rest m w a g f e l = body_at AfterName n (cases steps end) is rest refl a (and_from _ _ g f) e l
part_at AfterHorizon n steps end is rest m w a g f e l = body_at AfterHorizon n (cases steps end) is rest refl a (and_from _ _ g f) e l
part_at AfterStep n steps end is rest m w a g f e l = record { steps = steps; end = end; rest = rest; steps_fit = g; fits = f; are = e; tail = l }
part_at Case n steps end is rest m w a g f e l = a_case n (go steps end) is rest w (and_from _ _ g f) e l
part_at AfterRange n steps end is rest m w a g f e l = record { c = go steps end; rest = rest; fits = and_from _ _ g f; are = e; tail = l }
part_at Ended n steps end is rest m w a g f e l = absurd (cc)

-- a line by which no play is left
dead_at : (d : Due) (n : ℕ) (k : ScopeId) (rest : List Piece) → may_give_up d ≡ true → Within (at d) n → piece_fits (NoPlay k) ≡ true → Tail n rest → AtDue d n (NoPlay k ∷ rest)
dead_at Givens n k rest m w f l = node_at Givens n (no_play k) (NoPlay k ∷ rest) rest refl f refl l
dead_at NodeDue n k rest m w f l = node_at NodeDue n (no_play k) (NoPlay k ∷ rest) rest refl f refl l
dead_at AfterName n k rest m w f l = absurd (cc)
dead_at AfterHorizon n k rest m w f l = absurd (cc)
dead_at AfterStep n k rest m w f l = record { steps = []; end = dead k; rest = rest; steps_fit = refl; fits = f; are = refl; tail = l }
dead_at Case n k rest m w f l = a_case n (go [] (dead k)) (NoPlay k ∷ rest) rest w f refl l
dead_at AfterRange n k rest m w f l = record { c = go [] (dead k); rest = rest; fits = f; are = refl; tail = l }
dead_at Ended n k rest m w f l = absurd (cc)

limit_at : (d : Due) (n : ℕ) (k : ScopeId) (is : List Piece) → may_limit d ≡ true → piece_fits (Horizon k) ≡ true → ABody n is → AtDue d n (Horizon k ∷ is)
limit_at Givens n k is m f b = node_at Givens n (node false (Some k) b.body) (Horizon k ∷ is) b.rest refl (and_from _ _ (and_from _ _ f b.alive) b.fits) (ap (λ (x : List Piece). Horizon k ∷ x) b.are) b.tail
limit_at NodeDue n k is m f b = node_at NodeDue n (node false (Some k) b.body) (Horizon k ∷ is) b.rest refl (and_from _ _ (and_from _ _ f b.alive) b.fits) (ap (λ (x : List Piece). Horizon k ∷ x) b.are) b.tail
limit_at AfterName n k is m f b = record { h = Some k; body = b.body; rest = b.rest; horizon = f; alive = b.alive; fits = b.fits; are = ap (λ (x : List Piece). Horizon k ∷ x) b.are; tail = b.tail }
limit_at AfterHorizon n k is m f b = absurd (cc)
limit_at AfterStep n k is m f b = absurd (cc)
limit_at Case n k is m f b = absurd (cc)
limit_at AfterRange n k is m f b = absurd (cc)
limit_at Ended n k is m f b = absurd (cc)

name_at : (d : Due) (n : ℕ) (is : List Piece) → may_begin d ≡ true → ANamed n is → AtDue d n (Named ∷ is)
name_at d n is m b =
    node_at d n (node true b.h b.body) (Named ∷ is) b.rest m (and_from _ _ (and_from _ _ b.horizon b.alive) b.fits) (ap (λ (x : List Piece). Named ∷ x) b.are) b.tail

skip_at : (d : Due) (n : ℕ) (c : CaseOf) (is rest : List Piece) → may_skip d ≡ true → Within (at d) n → case_fits c ≡ true → is ≡ case_then c rest → Tail n rest → AtDue d n is
skip_at Givens n c is rest m w f e l = absurd (cc)
skip_at NodeDue n c is rest m w f e l = absurd (cc)
skip_at AfterName n c is rest m w f e l = absurd (cc)
skip_at AfterHorizon n c is rest m w f e l = absurd (cc)
skip_at AfterStep n c is rest m w f e l = absurd (cc)
skip_at Case n c is rest m w f e l = a_case n c is rest w f e l
skip_at AfterRange n c is rest m w f e l = record { c = c; rest = rest; fits = f; are = e; tail = l }
skip_at Ended n c is rest m w f e l = absurd (cc)

range_at : (d : Due) (n : ℕ) (high : ℤ) (is : List Piece) → may_range d ≡ true → Within (at d) n → is_number high ≡ true → ACase n is → AtDue d n (Range high ∷ is)
range_at Givens n high is m w f c = absurd (cc)
range_at NodeDue n high is m w f c = absurd (cc)
range_at AfterName n high is m w f c = absurd (cc)
range_at AfterHorizon n high is m w f c = absurd (cc)
range_at AfterStep n high is m w f c = absurd (cc)
range_at Case n high is m w f c = a_range n high c.c is c.rest w f c.fits c.are c.tail
range_at AfterRange n high is m w f c = absurd (cc)
range_at Ended n high is m w f c = absurd (cc)

-- the cases end: no more of them
dots : (n : ℕ) (rest : List Piece) → IsSome n → Tail (one_less n) rest → Tail n (Dot ∷ rest)
dots zero rest w t = absurd w
dots (suc n) rest w t = (no_more, rest, refl, refl, t)

dot_at : (d : Due) (n : ℕ) (rest : List Piece) → may_range d ≡ true → Within (at d) n → Tail (one_less n) rest → AtDue d n (Dot ∷ rest)
dot_at Givens n rest m w t = absurd (cc)
dot_at NodeDue n rest m w t = absurd (cc)
dot_at AfterName n rest m w t = absurd (cc)
dot_at AfterHorizon n rest m w t = absurd (cc)
dot_at AfterStep n rest m w t = absurd (cc)
dot_at Case n rest m w t = dots n rest w t
dot_at AfterRange n rest m w t = absurd (cc)
dot_at Ended n rest m w t = absurd (cc)

-- the beginning of a tuple's line, its values, and what comes after
begun_so : (begun : Bool → Piece) (u : Tuple) (bare : Bool) (is : List Piece) (vs : List ℤ) (rest later : List Piece) → is_none vs ≡ bare → is ≡ values_then u vs rest → rest ≡ later → begun bare ∷ is ≡ begun (is_none vs) ∷ values_then u vs later
begun_so begun u bare is vs rest later b e g = ap (λ (x : List Piece). begun bare ∷ x) (e ∙ ap (values_then u vs) g) ∙ ap (λ (x : Bool). begun x ∷ values_then u vs later) (sym b)

given_at : (d : Due) (n : ℕ) (k : ScopeId) (bare : Bool) (is : List Piece) → may_give d ≡ true → piece_fits (Given k bare) ≡ true → AValues GivenTuple bare n is → AtDue d n (Given k bare ∷ is)
given_at Givens n k bare is m f v =
    let r = v.later in
    record {
      given = record { scope = k; tuple = v.vs } ∷ r.given;
      t = r.t;
      rest = r.rest;
      given_fit = and_from _ _ (and_from _ _ f v.fits) r.given_fit;
      fits = r.fits;
      are = begun_so (Given k) GivenTuple bare is v.vs v.rest (givens_then r.given (node_then r.t r.rest)) v.bare_is v.are r.are;
      tail = r.tail;
    }
given_at NodeDue n k bare is m f v = absurd (cc)
given_at AfterName n k bare is m f v = absurd (cc)
given_at AfterHorizon n k bare is m f v = absurd (cc)
given_at AfterStep n k bare is m f v = absurd (cc)
given_at Case n k bare is m f v = absurd (cc)
given_at AfterRange n k bare is m f v = absurd (cc)
given_at Ended n k bare is m f v = absurd (cc)

step_at : (d : Due) (n : ℕ) (s : Step) (is : List Piece) → may_step d ≡ true → Within (at d) n → step_fits s ≡ true → (p : APart n is) → (rest : List Piece) → rest ≡ step_then s (steps_then p.steps (ending_then p.end p.rest)) → AtDue d n rest
step_at d n s is m w f p rest e = part_at d n (s ∷ p.steps) p.end rest p.rest m w refl (and_from _ _ f p.steps_fit) p.fits e p.tail

reply_at : (d : Due) (n : ℕ) (bare : Bool) (is : List Piece) → may_step d ≡ true → Within (at d) n → AValues ReplyTuple bare n is → AtDue d n (Reply bare ∷ is)
reply_at d n bare is m w v =
    let p = v.later in
    part_at d n (reply v.vs ∷ p.steps) p.end (Reply bare ∷ is) p.rest m w refl (and_from _ _ v.fits p.steps_fit) p.fits
    (begun_so (λ (b : Bool). Reply b) ReplyTuple bare is v.vs v.rest (steps_then p.steps (ending_then p.end p.rest)) v.bare_is v.are p.are) p.tail

end_at : (d : Due) (n : ℕ) (e : Ending) (is rest : List Piece) → may_step d ≡ true → Within (at d) n → not (is_dead (cases [] e)) ≡ true → ending_fits e ≡ true → is ≡ ending_then e rest → Tail n rest → AtDue d n is
end_at d n e is rest m w a f h l = part_at d n [] e is rest m w a refl f h l

chosen_at : (d : Due) (n : ℕ) (bare : Bool) (is : List Piece) → may_step d ≡ true → Within (at d) n → AValues ChosenTuple bare n is → AtDue d n (Chosen bare ∷ is)
chosen_at d n bare is m w v =
    let t = v.later in
    end_at d n (chosen v.vs t.t) (Chosen bare ∷ is) t.rest m w refl (and_from _ _ v.fits t.fits) (begun_so (λ (b : Bool). Chosen b) ChosenTuple bare is v.vs v.rest (node_then t.t t.rest) v.bare_is v.are t.are) t.tail

same_tuple : (u w : Tuple) → is_same u w ≡ true → w ≡ u
same_tuple GivenTuple GivenTuple h = refl
same_tuple GivenTuple ReplyTuple h = absurd (cc)
same_tuple GivenTuple ChosenTuple h = absurd (cc)
same_tuple ReplyTuple GivenTuple h = absurd (cc)
same_tuple ReplyTuple ReplyTuple h = refl
same_tuple ReplyTuple ChosenTuple h = absurd (cc)
same_tuple ChosenTuple GivenTuple h = absurd (cc)
same_tuple ChosenTuple ReplyTuple h = absurd (cc)
same_tuple ChosenTuple ChosenTuple h = refl

values_of : (u : Tuple) (last : Bool) (n : ℕ) (is : List Piece) → AtPlace (after_value u last) n is → AValues u last n is
values_of u true n is h = record { vs = []; rest = is; bare_is = refl; fits = refl; are = refl; later = h }
values_of u false n is h = h

value_at : (u : Tuple) (v : ℤ) (last : Bool) (n : ℕ) (is : List Piece) → is_number v ≡ true → AValues u last n is → AValues u false n (Value u v last ∷ is)
value_at u v last n is f r = record {
  vs = v ∷ r.vs;
  rest = r.rest;
  bare_is = refl;
  fits = and_from _ _ f r.fits;
  are = ap (λ (x : List Piece). Value u v last ∷ x) r.are ∙ ap (λ (x : Bool). Value u v x ∷ values_then u r.vs r.rest) (sym r.bare_is);
  later = r.later;
}

whole_at : (o : Outcome) (v : Option ℤ) (n : ℕ) (is : List Piece) → outcome_fits o v ≡ true → ARoot n is → n ≡ 0 → AWhole (Head o v ∷ is)
whole_at o v n is f r z =
    let none : r.rest ≡ [] = subst (λ (m : ℕ). Tail m r.rest) z r.tail in
    record {
      outcome = o;
      optimum = v;
      given = r.given;
      t = r.t;
      head_fits = f;
      given_fit = r.given_fit;
      fits = r.fits;
      are = ap (λ (x : List Piece). Head o v ∷ x) (r.are ∙ ap (λ (x : List Piece). givens_then r.given (node_then r.t x)) none);
    }

ended_at : (d : Due) (n : ℕ) → at d ≡ at Ended → AtDue d n []
ended_at Givens n h = absurd (cc)
ended_at NodeDue n h = absurd (cc)
ended_at AfterName n h = absurd (cc)
ended_at AfterHorizon n h = absurd (cc)
ended_at AfterStep n h = absurd (cc)
ended_at Case n h = absurd (cc)
ended_at AfterRange n h = absurd (cc)
ended_at Ended n h = refl

accepted_parts : (p : Place) (n : ℕ) (i : Piece) (is : List Piece) → accepts p n (i ∷ is) ≡ true → (allows p i ≡ true) × (accepts (place_after (open_after n i) i) (open_after n i) is ≡ true)
accepted_parts p n i is a = and_parts (allows p i) (accepts (place_after (open_after n i) i) (open_after n i) is) a

fitting_parts : (i : Piece) (is : List Piece) → list_all piece_fits (i ∷ is) ≡ true → (piece_fits i ≡ true) × (list_all piece_fits is ≡ true)
fitting_parts i is f = and_parts (piece_fits i) (list_all piece_fits is) f

-- the pieces from a place on
parsed : (is : List Piece) (p : Place) (n : ℕ) → Within p n → accepts p n is ≡ true → end_place p n is ≡ at Ended → list_all piece_fits is ≡ true → AtPlace p n is
parsed [] at_start n w a e f = absurd (cc)
parsed [] (at_value u) n w a e f = absurd (cc)
parsed [] (at d) n w a e f = ended_at d n e
parsed (Head o v ∷ is) at_start n w a e f = let q = accepted_parts at_start n (Head o v) is a in let f' = fitting_parts (Head o v) is f in whole_at o v n is f'.0 (parsed is (at Givens) n tt q.1 e f'.1)
parsed (Head o v ∷ is) (at_value u) n w a e f = absurd (cc)
parsed (Head o v ∷ is) (at d) n w a e f = absurd (cc)
parsed (Given k bare ∷ is) at_start n w a e f = absurd (cc)
parsed (Given k bare ∷ is) (at_value u) n w a e f = absurd (cc)
parsed (Given k bare ∷ is) (at d) n w a e f =
    let q = accepted_parts (at d) n (Given k bare) is a in let o = fitting_parts (Given k bare) is f in
    given_at d n k bare is q.0 o.0 (values_of GivenTuple bare n is (parsed is (after_value GivenTuple bare) n (within_after GivenTuple bare n) q.1 e o.1))
parsed (Reply bare ∷ is) at_start n w a e f = absurd (cc)
parsed (Reply bare ∷ is) (at_value u) n w a e f = absurd (cc)
parsed (Reply bare ∷ is) (at d) n w a e f =
    let q = accepted_parts (at d) n (Reply bare) is a in let o = fitting_parts (Reply bare) is f in
    reply_at d n bare is q.0 w (values_of ReplyTuple bare n is (parsed is (after_value ReplyTuple bare) n (within_after ReplyTuple bare n) q.1 e o.1))
parsed (Chosen bare ∷ is) at_start n w a e f = absurd (cc)
parsed (Chosen bare ∷ is) (at_value u) n w a e f = absurd (cc)
parsed (Chosen bare ∷ is) (at d) n w a e f =
    let q = accepted_parts (at d) n (Chosen bare) is a in let o = fitting_parts (Chosen bare) is f in
    chosen_at d n bare is q.0 w (values_of ChosenTuple bare n is (parsed is (after_value ChosenTuple bare) n (within_after ChosenTuple bare n) q.1 e o.1))
parsed (Value w v last ∷ is) at_start n i a e f = absurd (cc)
parsed (Value w v last ∷ is) (at_value u) n i a e f =
    let q = accepted_parts (at_value u) n (Value w v last) is a in let o = fitting_parts (Value w v last) is f in
    let same = same_tuple u w q.0 in
    let r = value_at w v last n is o.0 (values_of w last n is (parsed is (after_value w last) n (within_after w last n) q.1 e o.1)) in
    subst (λ (x : Tuple). AValues x false n (Value w v last ∷ is)) same r
parsed (Value w v last ∷ is) (at d) n i a e f = absurd (cc)
parsed (Named ∷ is) at_start n w a e f = absurd (cc)
parsed (Named ∷ is) (at_value u) n w a e f = absurd (cc)
parsed (Named ∷ is) (at d) n w a e f =
    let q = accepted_parts (at d) n Named is a in let o = fitting_parts Named is f in
    name_at d n is q.0 (parsed is (at AfterName) n tt q.1 e o.1)
parsed (Horizon k ∷ is) at_start n w a e f = absurd (cc)
parsed (Horizon k ∷ is) (at_value u) n w a e f = absurd (cc)
parsed (Horizon k ∷ is) (at d) n w a e f =
    let q = accepted_parts (at d) n (Horizon k) is a in let o = fitting_parts (Horizon k) is f in
    limit_at d n k is q.0 o.0 (parsed is (at AfterHorizon) n tt q.1 e o.1)
parsed (Stuck ∷ is) at_start n w a e f = absurd (cc)
parsed (Stuck ∷ is) (at_value u) n w a e f = absurd (cc)
parsed (Stuck ∷ is) (at d) n w a e f =
    let q = accepted_parts (at d) n Stuck is a in let o = fitting_parts Stuck is f in
    body_at d n stuck (Stuck ∷ is) is q.0 refl refl refl (tail_of n is (parsed is (onward n) n (within_onward n) q.1 e o.1))
parsed (Goal ∷ is) at_start n w a e f = absurd (cc)
parsed (Goal ∷ is) (at_value u) n w a e f = absurd (cc)
parsed (Goal ∷ is) (at d) n w a e f =
    let q = accepted_parts (at d) n Goal is a in let o = fitting_parts Goal is f in
    body_at d n goal (Goal ∷ is) is q.0 refl refl refl (tail_of n is (parsed is (onward n) n (within_onward n) q.1 e o.1))
parsed (Again m ∷ is) at_start n w a e f = absurd (cc)
parsed (Again m ∷ is) (at_value u) n w a e f = absurd (cc)
parsed (Again m ∷ is) (at d) n w a e f =
    let q = accepted_parts (at d) n (Again m) is a in let o = fitting_parts (Again m) is f in
    node_at d n (again m) (Again m ∷ is) is q.0 o.0 refl (tail_of n is (parsed is (onward n) n (within_onward n) q.1 e o.1))
parsed (NoPlay k ∷ is) at_start n w a e f = absurd (cc)
parsed (NoPlay k ∷ is) (at_value u) n w a e f = absurd (cc)
parsed (NoPlay k ∷ is) (at d) n w a e f =
    let q = accepted_parts (at d) n (NoPlay k) is a in let o = fitting_parts (NoPlay k) is f in
    dead_at d n k is q.0 w o.0 (tail_of n is (parsed is (onward n) n (within_onward n) q.1 e o.1))
parsed (Close ∷ is) at_start n w a e f = absurd (cc)
parsed (Close ∷ is) (at_value u) n w a e f = absurd (cc)
parsed (Close ∷ is) (at d) n w a e f =
    let q = accepted_parts (at d) n Close is a in let o = fitting_parts Close is f in
    let p = (parsed is (at AfterStep) n tt q.1 e o.1) in step_at d n close is q.0 w refl p (Close ∷ is) (ap (λ (x : List Piece). Close ∷ x) p.are)
parsed (Bound x low high ∷ is) at_start n w a e f = absurd (cc)
parsed (Bound x low high ∷ is) (at_value u) n w a e f = absurd (cc)
parsed (Bound x low high ∷ is) (at d) n w a e f =
    let q = accepted_parts (at d) n (Bound x low high) is a in let o = fitting_parts (Bound x low high) is f in
    let p = (parsed is (at AfterStep) n tt q.1 e o.1) in step_at d n (bound x low high) is q.0 w o.0 p (Bound x low high ∷ is) (ap (λ (z : List Piece). Bound x low high ∷ z) p.are)
parsed (Empty ∷ is) at_start n w a e f = absurd (cc)
parsed (Empty ∷ is) (at_value u) n w a e f = absurd (cc)
parsed (Empty ∷ is) (at d) n w a e f =
    let q = accepted_parts (at d) n Empty is a in let o = fitting_parts Empty is f in
    end_at d n empty (Empty ∷ is) is q.0 w refl refl refl (tail_of n is (parsed is (onward n) n (within_onward n) q.1 e o.1))
parsed (Barred ∷ is) at_start n w a e f = absurd (cc)
parsed (Barred ∷ is) (at_value u) n w a e f = absurd (cc)
parsed (Barred ∷ is) (at d) n w a e f =
    let q = accepted_parts (at d) n Barred is a in let o = fitting_parts Barred is f in
    end_at d n barred (Barred ∷ is) is q.0 w refl refl refl (tail_of n is (parsed is (onward n) n (within_onward n) q.1 e o.1))
parsed (BestLeft ∷ is) at_start n w a e f = absurd (cc)
parsed (BestLeft ∷ is) (at_value u) n w a e f = absurd (cc)
parsed (BestLeft ∷ is) (at d) n w a e f =
    let q = accepted_parts (at d) n BestLeft is a in let o = fitting_parts BestLeft is f in
    end_at d n best_left (BestLeft ∷ is) is q.0 w refl refl refl (tail_of n is (parsed is (onward n) n (within_onward n) q.1 e o.1))
parsed (Next ∷ is) at_start n w a e f = absurd (cc)
parsed (Next ∷ is) (at_value u) n w a e f = absurd (cc)
parsed (Next ∷ is) (at d) n w a e f =
    let q = accepted_parts (at d) n Next is a in let o = fitting_parts Next is f in
    let t = (parsed is (at NodeDue) n tt q.1 e o.1) in end_at d n (next t.t) (Next ∷ is) t.rest q.0 w refl t.fits (ap (λ (x : List Piece). Next ∷ x) t.are) t.tail
parsed (Branch x ∷ is) at_start n w a e f = absurd (cc)
parsed (Branch x ∷ is) (at_value u) n w a e f = absurd (cc)
parsed (Branch x ∷ is) (at d) n w a e f =
    let q = accepted_parts (at d) n (Branch x) is a in let o = fitting_parts (Branch x) is f in
    let t = parsed is (at Case) (suc n) tt q.1 e o.1 in end_at d n (branch x t.0) (Branch x ∷ is) t.1 q.0 w refl (and_from _ _ o.0 t.2) (ap (λ (z : List Piece). Branch x ∷ z) t.3) t.4
parsed (Range high ∷ is) at_start n w a e f = absurd (cc)
parsed (Range high ∷ is) (at_value u) n w a e f = absurd (cc)
parsed (Range high ∷ is) (at d) n w a e f =
    let q = accepted_parts (at d) n (Range high) is a in let o = fitting_parts (Range high) is f in
    range_at d n high is q.0 w o.0 (parsed is (at AfterRange) n (within_range d n q.0 w) q.1 e o.1)
parsed (Skip ∷ is) at_start n w a e f = absurd (cc)
parsed (Skip ∷ is) (at_value u) n w a e f = absurd (cc)
parsed (Skip ∷ is) (at d) n w a e f =
    let q = accepted_parts (at d) n Skip is a in let o = fitting_parts Skip is f in
    skip_at d n skip (Skip ∷ is) is q.0 w refl refl (tail_of n is (parsed is (onward n) n (within_onward n) q.1 e o.1))
parsed (LeftOpen ∷ is) at_start n w a e f = absurd (cc)
parsed (LeftOpen ∷ is) (at_value u) n w a e f = absurd (cc)
parsed (LeftOpen ∷ is) (at d) n w a e f =
    let q = accepted_parts (at d) n LeftOpen is a in let o = fitting_parts LeftOpen is f in
    skip_at d n left_open (LeftOpen ∷ is) is q.0 w refl refl (tail_of n is (parsed is (onward n) n (within_onward n) q.1 e o.1))
parsed (Dot ∷ is) at_start n w a e f = absurd (cc)
parsed (Dot ∷ is) (at_value u) n w a e f = absurd (cc)
parsed (Dot ∷ is) (at d) n w a e f =
    let q = accepted_parts (at d) n Dot is a in let o = fitting_parts Dot is f in
    dot_at d n is q.0 w (tail_of (one_less n) is (parsed is (onward (one_less n)) (one_less n) (within_onward (one_less n)) q.1 e o.1))

-- from the beginning to the end
pub record IsCertificate (is : List Piece) : Type 0 where
  pub outcome : Outcome
  pub optimum : Option ℤ
  pub c : Certificate
  pub fits : IsTrue (has_text outcome optimum c)
  pub are : is ≡ certificate_pieces outcome optimum c

pub certificate_parsed : (is : List Piece) → accepts at_start 0 is ≡ true → end_place at_start 0 is ≡ at Ended → list_all piece_fits is ≡ true → IsCertificate is
certificate_parsed is a e f =
    let r = parsed is at_start 0 tt a e f refl in
    record {
      outcome = r.outcome;
      optimum = r.optimum;
      c = record { given = r.given; root = r.t };
      fits = and_from _ _ (and_from _ _ r.head_fits r.given_fit) r.fits;
      are = r.are ∙ sym (certificate_are r.outcome r.optimum (record { given = r.given; root = r.t }));
    }
