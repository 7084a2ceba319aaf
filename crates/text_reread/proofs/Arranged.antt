-- Items that stand for the parts of a valid problem are arranged as a text asks.
use Rattle.std.proofs.Common.{◌≡◌, refl, sym, ap, ◌∙◌, ◌==◌, ◌&&◌, ℕ, suc, true, false, List, [], ◌∷◌, ◌++◌, map, filter, append_assoc, append-nil, Option, None}
use Rattle.std.specs.List.{list_all}
use Rattle.std.proofs.lemmas.Bool.{and_parts, and_from}
use Rattle.qc_model.specs.declared.problem.Kind.{Kind}
use Rattle.qc_model.specs.declared.problem.Kind.TheVariants.{Exists, Forall}
use Rattle.qc_model.specs.declared.problem.Condition.{Condition}
use Rattle.qc_model.specs.declared.problem.Scope.{Scope}
use Rattle.qc_model.specs.declared.problem.Variable.{Variable as ModelVariable}
use Rattle.qc_model.specs.declared.problem.Aggregate.{Aggregate}
use Rattle.qc_model.specs.Content.{Game, Rule}
use Rattle.qc_model.specs.Block.{of_kind}
use Rattle.qc_model.specs.Valid.{IsValid}
use Rattle.text_grammar.specs.declared.tree.Item.{Item}
use Rattle.text_grammar.specs.declared.tree.Item.TheVariants.{Exists as ExistsItem, Forall as ForallItem, Goal as GoalItem, Variable, Aggregate as AggregateItem, Constraint}
use Rattle.text_grammar.specs.Grammar.{before_goal, in_scope, in_universal, in_restriction, may_stand, phase_after, are_arranged}
use Rattle.text_grammar.specs.declared.tree.DomainText.TheVariants.{Bits}
use Rattle.text_grammar.specs.declared.tree.FoldText.TheVariants.{Sum}
use Rattle.text_reread.specs.Parts.{Part, head, variable, aggregate, constraint, goal, constraint_parts, parts_from, parts_of}
use Rattle.text_reread.specs.Stands.{StandsHead, Stands, AllStand}
use Rattle.text_reread.proofs.ValidItems.{StandFrom, all_stand, first_stands, later_stand}
use Rattle.text_reread.proofs.ValidParts.{of_scope, universal_here}

-- a head of each kind. What may stand where, and what may follow, depends on the sort of an item alone; so samples tell it
abbrev head_sample : Kind → Item
head_sample Exists = ExistsItem 0 None
head_sample Forall = ForallItem 0

-- an item of each part's sort
abbrev sample : Part → Item
sample (head s) = head_sample s.kind
sample (variable x) = Variable 0 (Bits 0) (record { start = 0; end = 0 })
sample (aggregate q) = AggregateItem 0 (record { start = 0; end = 0 }) Sum (record { start = 0; end = 0 })
sample (constraint c) = Constraint 0 (record { start = 0; end = 0 }) []
sample goal = GoalItem

-- a head stands where the sample of its kind may, and the same may follow it
same_head : (text : List ℕ) (g : Game) (p : _) (k : Kind) (c : Option Condition) (i : Item) → StandsHead text g k c i → (may_stand p i ≡ may_stand p (head_sample k)) × (phase_after p i ≡ phase_after p (head_sample k))
same_head text g p Exists c (ExistsItem at d) h = (refl, refl)
same_head text g p Forall c (ForallItem at) h = (refl, refl)
same_head text g p k c i h = absurd h

-- so does any item that stands for a part
same_phase : (text : List ℕ) (g : Game) (p : _) (a : Part) (i : Item) → Stands text g a i → (may_stand p i ≡ may_stand p (sample a)) × (phase_after p i ≡ phase_after p (sample a))
same_phase text g p (head s) i h = same_head text g p s.kind s.condition i h
same_phase text g p (variable x) (Variable at d w) h = (refl, refl)
same_phase text g p (aggregate q) (AggregateItem at w f t) h = (refl, refl)
same_phase text g p (constraint c) (Constraint at w args) h = (refl, refl)
same_phase text g p goal GoalItem h = (refl, refl)
same_phase text g p a i h = absurd h

-- so items are arranged where the samples of their parts are
items_arranged : (text : List ℕ) (g : Game) (p : _) (ps : List Part) (items : List Item) → AllStand text g ps items → are_arranged p items ≡ are_arranged p (map sample ps)
items_arranged text g p [] [] h = refl
items_arranged text g p [] (i ∷ items) h = absurd h
items_arranged text g p (a ∷ ps) [] h = absurd h
items_arranged text g p (a ∷ ps) (i ∷ items) h =
    let s = same_phase text g p a i h.0 in
    ap (λ t. t && are_arranged (phase_after p i) items) s.0
    ∙ ap (λ q. may_stand p (sample a) && are_arranged q items) s.1
    ∙ ap (λ t. may_stand p (sample a) && t) (items_arranged text g (phase_after p (sample a)) ps items h.1)

-- parts of one kind before others
variables_first : (p : _) (xs : List ModelVariable) (later : List Part) → in_scope p ≡ true → are_arranged p (map sample later) ≡ true → are_arranged p (map sample (map variable xs ++ later)) ≡ true
variables_first p [] later h k = k
variables_first p (x ∷ xs) later h k = and_from (in_scope p) (are_arranged p (map sample (map variable xs ++ later))) h (variables_first p xs later h k)

-- aggregates, where their scope is universal
aggregates_first : (p : _) (qs : List Aggregate) (later : List Part) → list_all (λ q. in_universal p) qs ≡ true → are_arranged p (map sample later) ≡ true → are_arranged p (map sample (map aggregate qs ++ later)) ≡ true
aggregates_first p [] later h k = k
aggregates_first p (q ∷ qs) later h k =
    let t = and_parts (in_universal p) (list_all (λ (q : Aggregate). in_universal p) qs) h in
    and_from (in_universal p) (are_arranged p (map sample (map aggregate qs ++ later))) t.0 (aggregates_first p qs later t.1 k)

-- constraints, of a scope or of the goal
constraints_first : (p : _) (cs : List Rule) (later : List Part) → in_restriction p ≡ true → are_arranged p (map sample later) ≡ true → are_arranged p (map sample (map constraint cs ++ later)) ≡ true
constraints_first p [] later h k = k
constraints_first p (c ∷ cs) later h k = and_from (in_restriction p) (are_arranged p (map sample (map constraint cs ++ later))) h (constraints_first p cs later h k)

-- what may stand after a head of a kind
universal_kind : (p : _) (k : Kind) → of_kind k false true ≡ in_universal (phase_after p (head_sample k))
universal_kind p Exists = refl
universal_kind p Forall = refl

-- variables may stand after any head ..
scope_kind : (p : _) (k : Kind) → in_scope (phase_after p (head_sample k)) ≡ true
scope_kind p Exists = refl
scope_kind p Forall = refl

-- .. constraints too ..
restriction_kind : (p : _) (k : Kind) → in_restriction (phase_after p (head_sample k)) ≡ true
restriction_kind p Exists = refl
restriction_kind p Forall = refl

-- .. and so may the goal
goal_after_kind : (p : _) (k : Kind) → before_goal (phase_after p (head_sample k)) ≡ true
goal_after_kind p Exists = refl
goal_after_kind p Forall = refl

-- a head stands where the goal isn't reached
head_stands : (p : _) (k : Kind) → before_goal p ≡ true → may_stand p (head_sample k) ≡ true
head_stands p Exists h = h
head_stands p Forall h = h

module _ (g : Game) (v : IsValid g) where
  -- the parts from scope i on
  arranged_from : (p : _) (later : List Scope) (i : ℕ) → before_goal p ≡ true → StandFrom g.scopes i later → are_arranged p (map sample (parts_from g later i)) ≡ true
  arranged_from p [] i b stand =
      let phase = phase_after p GoalItem in
      let cs = constraint_parts g i in
      and_from (before_goal p) (are_arranged phase (map sample cs)) b
      (ap (λ ps. are_arranged phase (map sample ps)) (sym (append-nil cs)) ∙ constraints_first phase (filter (λ c. c.owner.0 == i) g.constraints) [] refl refl)
  arranged_from p (s ∷ later) i b stand =
      let phase = phase_after p (head_sample s.kind) in
      let vs = filter (λ (x : ModelVariable). x.scope.0 == i) g.variables in
      let qs = of_scope g i in
      let cs = filter (λ (c : Rule). c.owner.0 == i) g.constraints in
      let rest = parts_from g later (suc i) in
      let universal : list_all (λ (q : Aggregate). in_universal phase) qs ≡ true = ap (λ t. list_all (λ (q : Aggregate). t) qs) (sym (universal_kind p s.kind)) ∙ universal_here g v i s (first_stands g.scopes i s later stand) in
      let last = arranged_from phase later (suc i) (goal_after_kind p s.kind) (later_stand g.scopes i s later stand) in
      let inner = variables_first phase vs (map aggregate qs ++ (map constraint cs ++ rest)) (scope_kind p s.kind)
      (aggregates_first phase qs (map constraint cs ++ rest) universal (constraints_first phase cs rest (restriction_kind p s.kind) last)) in
      let regroup : ((map variable vs ++ map aggregate qs) ++ map constraint cs) ++ rest ≡ map variable vs ++ (map aggregate qs ++ (map constraint cs ++ rest)) = simp append_assoc in
      and_from (may_stand p (head_sample s.kind)) (are_arranged phase (map sample (((map variable vs ++ map aggregate qs) ++ map constraint cs) ++ rest))) (head_stands p s.kind b)
      (ap (λ ps. are_arranged phase (map sample ps)) regroup ∙ inner)

  -- the items of a valid problem are arranged, from any place before the goal
  pub are_all_arranged : (text : List ℕ) (items : List Item) → AllStand text g (parts_of g) items → (p : _) → before_goal p ≡ true → are_arranged p items ≡ true
  are_all_arranged text items h p b = items_arranged text g p (parts_of g) items h ∙ arranged_from p g.scopes 0 b (all_stand g.scopes)
