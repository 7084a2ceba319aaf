-- What the join in a scope's place says of the scope.
use Rattle.std.proofs.Common.{◌≡◌, ℕ, zero, suc, ◌<◌, ◌≤◌, Bool, Option, Some, None, List, [], ◌∷◌, ◌++◌, length, drop, refl, sym, ap, ◌∙◌, subst, arith, get_or, set}
use Rattle.std.specs.Prelude.{slice_get, ℤ}
use Rattle.std.proofs.lemmas.List.{length-map}
use Rattle.qc_model.specs.declared.problem.Kind.{Kind}
use Rattle.qc_model.specs.declared.problem.Kind.TheVariants.{Exists as ByPlayer, Forall as ByOpponent}
use Rattle.qc_model.specs.declared.problem.Condition.{Condition}
use Rattle.qc_model.specs.declared.problem.Scope.{Scope}
use Rattle.qc_model.specs.Content.{Game}
use Rattle.qc_model.specs.Demands.{demands, with_condition}
use Rattle.qc_model.specs.Verdict.{Verdict, lost, Seen, seen_node, exact_vectors}
use Rattle.qc_model.specs.ForallVerdict.{stuck_verdict}
use Rattle.joins.specs.declared.forall_join.ForallJoin.{ForallJoin}
use Rattle.joins.specs.declared.leaves.Found.{Found}
use Rattle.joins.specs.Seen.{verdict_of}
use Rattle.joins.specs.Bests.{AllLong, own_list}
use Rattle.joins.specs.Columns.{source_of}
use Rattle.joins.specs.ForallJoin.{JoinsScope as JoinsForall}
use Rattle.joins.proofs.DemandSteps.{demands_short}
use Rattle.joins.specs.declared.joins.Joins.{Joins}
use Rattle.joins.specs.declared.scope_join.ScopeJoin.{ScopeJoin}
use Rattle.joins.specs.declared.scope_join.ScopeJoin.TheVariants.{Exists, Forall}
use Rattle.joins.specs.Verdicts.{kind_verdict, scope_verdict, verdict_at, stuck_of, kind_own, scope_own, own_at, kind_settled, scope_settled, settled_at, kind_wishes, scope_wishes, wishes_at, kind_incumbent, scope_incumbent, incumbent_at, kind_side, scope_side, side_at}
use Rattle.joins.specs.ScopeJoins.{StandsFor, StandsIn, JoinsScope, IsTaken, HasRoom, HasEach, AreJoins}
use Rattle.joins.specs.Joins.{LeafFits}
use Rattle.joins.proofs.Placed.{scope_read, stands_read, stands_here}

-- ---- a scope by its number
pub some_scope : (scopes : List Scope) (i : ℕ) → i < length scopes → (s : Scope) × (slice_get scopes i ≡ Some s)
some_scope [] i h = absurd (omega (arith, h))
some_scope (s ∷ scopes) zero h = (s, refl)
some_scope (s ∷ scopes) (suc i) h = some_scope scopes i (omega (arith, h))

scopes_from : (scopes : List Scope) (i : ℕ) (s : Scope) → slice_get scopes i ≡ Some s → (later : List Scope) × (drop i scopes ≡ s ∷ later)
scopes_from [] i s e = cc
scopes_from (r ∷ scopes) zero s e = (scopes, cc)
scopes_from (r ∷ scopes) (suc i) s e = scopes_from scopes i s e

pub verdict_is : (g : Game) (i : ℕ) (s : Scope) (a : List ℤ) (xs : List Seen) → slice_get g.scopes i ≡ Some s → kind_verdict s.kind s.condition g (demands g i) a xs ≡ verdict_at g i a xs
verdict_is g i s a xs e = let l = scopes_from g.scopes i s e in ap (λ (ss : List Scope). scope_verdict ss g (demands g i) a xs) (sym l.1)

own_is : (g : Game) (i : ℕ) (s : Scope) (xs : List Seen) → slice_get g.scopes i ≡ Some s → kind_own s.kind s.condition g (demands g i) xs ≡ own_at g i xs
own_is g i s xs e = let l = scopes_from g.scopes i s e in ap (λ (ss : List Scope). scope_own ss g (demands g i) xs) (sym l.1)

settled_is : (g : Game) (i : ℕ) (s : Scope) (xs : List Seen) → slice_get g.scopes i ≡ Some s → kind_settled s.kind s.condition g (demands g i) xs ≡ settled_at g i xs
settled_is g i s xs e = let l = scopes_from g.scopes i s e in ap (λ (ss : List Scope). scope_settled ss g (demands g i) xs) (sym l.1)

pub wishes_is : (g : Game) (i : ℕ) (s : Scope) → slice_get g.scopes i ≡ Some s → kind_wishes s.kind s.condition g (demands g i) ≡ wishes_at g i
wishes_is g i s e = let l = scopes_from g.scopes i s e in ap (λ (ss : List Scope). scope_wishes ss g (demands g i)) (sym l.1)

incumbent_is : (g : Game) (i : ℕ) (s : Scope) (xs : List Seen) → slice_get g.scopes i ≡ Some s → kind_incumbent s.kind s.condition g (demands g i) xs ≡ incumbent_at g i xs
incumbent_is g i s xs e = let l = scopes_from g.scopes i s e in ap (λ (ss : List Scope). scope_incumbent ss g (demands g i) xs) (sym l.1)

side_is : (g : Game) (i : ℕ) (s : Scope) (xs : List Seen) → slice_get g.scopes i ≡ Some s → kind_side s.kind g (demands g i) xs ≡ side_at g i xs
side_is g i s xs e = let l = scopes_from g.scopes i s e in ap (λ (ss : List Scope). scope_side ss g (demands g i) xs) (sym l.1)

stuck_is : (g : Game) (i : ℕ) (s : Scope) (d : List Condition) (a : List ℤ) → slice_get g.scopes i ≡ Some s → stuck_verdict g s.kind d a ≡ stuck_of (drop i g.scopes) g d a
stuck_is g i s d a e = let l = scopes_from g.scopes i s e in ap (λ (ss : List Scope). stuck_of ss g d a) (sym l.1)

pub stuck_player : (g : Game) (i : ℕ) (s : Scope) (d : List Condition) (a : List ℤ) → slice_get g.scopes i ≡ Some s → s.kind ≡ ByPlayer → lost ≡ stuck_of (drop i g.scopes) g d a
stuck_player g i s d a e k = ap (λ (z : Kind). stuck_verdict g z d a) (sym k) ∙ stuck_is g i s d a e

pub stuck_opponent : (g : Game) (i : ℕ) (s : Scope) (a : List ℤ) → slice_get g.scopes i ≡ Some s → s.kind ≡ ByOpponent → verdict_at g i a [] ≡ stuck_of (drop i g.scopes) g (demands g i) a
stuck_opponent g i s a e k =
    sym (verdict_is g i s a [] e)
    ∙ ap (λ (z : Kind). kind_verdict z s.condition g (demands g i) a []) k
    ∙ ap (λ (z : Kind). stuck_verdict g z (demands g i) a) (sym k)
    ∙ stuck_is g i s (demands g i) a e

-- ---- room for the vector of a scope's own list
own_length : (c : Option Condition) (d : List Condition) → length (own_list c (with_condition c d)) ≡ length d
own_length None d = refl
own_length (Some c) d = refl

pub columns_room : (g : Game) (i : ℕ) (j : ForallJoin) (n : ℕ) → JoinsForall g i j → i ≤ n → length j.columns.items ≤ n
columns_room g i j n p h =
    let m = length-map j.columns.items (λ c. c.source) in
    let s = length-map (demands g i) (λ c. source_of g (demands g i) c.target) in
    let e = ap length p.sources in
    let d = demands_short g i in
    omega (arith, m, s, e, d, h)

room_by : (g : Game) (i : ℕ) (s : Scope) (x : ScopeJoin) (n : ℕ) → JoinsScope g i s x → i ≤ n → HasRoom x n
room_by g i s (Exists j) n p h =
    let e : length (own_list j.condition j.list.items) ≡ length (demands g i) = ap (λ (c : Option Condition). length (own_list c j.list.items)) p.condition ∙ ap (λ (l : List Condition). length (own_list s.condition l)) p.after ∙ own_length s.condition (demands g i) in
    let d = demands_short g i in
    omega (arith, e, d, h)
room_by g i s (Forall j) n p h = columns_room g i j n p.1 h

pub has_room : (g : Game) (js : List ScopeJoin) (i : ℕ) (x : ScopeJoin) (n : ℕ) → AreJoins g js → i < length g.scopes → x ≡ get_or js i x → length g.scopes ≤ n → HasRoom x n
has_room g js i x n a h e r =
    let s = some_scope g.scopes i h in
    room_by g i s.0 x n (scope_read g js i x s.0 a h e s.1) (omega (arith, h, r))

-- ---- what the join in the place comes to
pub verdict_read : (g : Game) (js : List ScopeJoin) (i : ℕ) (x : ScopeJoin) (a : List ℤ) (xs : List Seen) (v : Verdict) → AreJoins g js → i < length g.scopes → x ≡ get_or js i x →
    ((h : Game) (k : ℕ) (s : Scope) (ys : List Seen) → JoinsScope h k s x → StandsFor x ys → v ≡ kind_verdict s.kind s.condition h (demands h k) a ys) →
    StandsIn (slice_get js i) xs → v ≡ verdict_at g i a xs
verdict_read g js i x a xs v p h e f t =
    let s = some_scope g.scopes i h in
    f g i s.0 xs (scope_read g js i x s.0 p h e s.1) (stands_read g js i x xs p h e t) ∙ verdict_is g i s.0 a xs s.1

pub own_read : (g : Game) (js : List ScopeJoin) (i : ℕ) (x : ScopeJoin) (xs : List Seen) (o : Option ℤ) → AreJoins g js → i < length g.scopes → x ≡ get_or js i x →
    ((h : Game) (k : ℕ) (s : Scope) (ys : List Seen) → JoinsScope h k s x → StandsFor x ys → o ≡ kind_own s.kind s.condition h (demands h k) ys) →
    StandsIn (slice_get js i) xs → o ≡ own_at g i xs
own_read g js i x xs o p h e f t =
    let s = some_scope g.scopes i h in
    f g i s.0 xs (scope_read g js i x s.0 p h e s.1) (stands_read g js i x xs p h e t) ∙ own_is g i s.0 xs s.1

pub settled_read : (g : Game) (js : List ScopeJoin) (i : ℕ) (x : ScopeJoin) (xs : List Seen) (b : Bool) → AreJoins g js → i < length g.scopes → x ≡ get_or js i x →
    ((h : Game) (k : ℕ) (s : Scope) (ys : List Seen) → JoinsScope h k s x → StandsFor x ys → b ≡ kind_settled s.kind s.condition h (demands h k) ys) →
    StandsIn (slice_get js i) xs → b ≡ settled_at g i xs
settled_read g js i x xs b p h e f t =
    let s = some_scope g.scopes i h in
    f g i s.0 xs (scope_read g js i x s.0 p h e s.1) (stands_read g js i x xs p h e t) ∙ settled_is g i s.0 xs s.1

pub incumbent_read : (g : Game) (js : List ScopeJoin) (i : ℕ) (x : ScopeJoin) (xs : List Seen) (o : Option ℤ) → AreJoins g js → i < length g.scopes → x ≡ get_or js i x →
    ((h : Game) (k : ℕ) (s : Scope) (ys : List Seen) → JoinsScope h k s x → StandsFor x ys → o ≡ kind_incumbent s.kind s.condition h (demands h k) ys) →
    StandsIn (slice_get js i) xs → o ≡ incumbent_at g i xs
incumbent_read g js i x xs o p h e f t =
    let s = some_scope g.scopes i h in
    f g i s.0 xs (scope_read g js i x s.0 p h e s.1) (stands_read g js i x xs p h e t) ∙ incumbent_is g i s.0 xs s.1

pub side_read : (g : Game) (js : List ScopeJoin) (i : ℕ) (x : ScopeJoin) (xs : List Seen) (o : Option ℤ) → AreJoins g js → i < length g.scopes → x ≡ get_or js i x →
    ((h : Game) (k : ℕ) (s : Scope) (ys : List Seen) → JoinsScope h k s x → StandsFor x ys → o ≡ kind_side s.kind h (demands h k) ys) →
    StandsIn (slice_get js i) xs → o ≡ side_at g i xs
side_read g js i x xs o p h e f t =
    let s = some_scope g.scopes i h in
    f g i s.0 xs (scope_read g js i x s.0 p h e s.1) (stands_read g js i x xs p h e t) ∙ side_is g i s.0 xs s.1

pub wishes_read : (g : Game) (js : List ScopeJoin) (i : ℕ) (x : ScopeJoin) (d : List Condition) → AreJoins g js → i < length g.scopes → x ≡ get_or js i x →
    ((h : Game) (k : ℕ) (s : Scope) → JoinsScope h k s x → d ≡ kind_wishes s.kind s.condition h (demands h k)) → d ≡ wishes_at g i
wishes_read g js i x d p h e f =
    let s = some_scope g.scopes i h in
    f g i s.0 (scope_read g js i x s.0 p h e s.1) ∙ wishes_is g i s.0 s.1

-- the vectors of the leaves are as long as the list after the scope
pub stands_long : (joins : Joins) (i : ℕ) (xs : List Seen) (c : Condition) (d : List Condition) → i < length joins.problem.now.scopes → StandsIn (slice_get joins.joins.items i) xs → wishes_at joins.problem.now i ≡ c ∷ d → AllLong (c ∷ d) (exact_vectors xs)
stands_long joins i xs c d h t e =
    let g = joins.problem.now in
    let s = some_scope g.scopes i h in
    by s.0 s.1 (slice_get joins.joins.items i) refl t
  where
    by : (s : Scope) → slice_get joins.problem.now.scopes i ≡ Some s → (o : Option ScopeJoin) → slice_get joins.joins.items i ≡ o → StandsIn o xs → AllLong (c ∷ d) (exact_vectors xs)
    by s q None r t = absurd t
    by s q (Some (Exists j)) r t =
        let g = joins.problem.now in
        let m = joins.joined.each i s (Exists j) q r in
        let list : j.list.items ≡ c ∷ d = m.after ∙ (ap (λ (k : Kind). kind_wishes k s.condition g (demands g i)) (sym m.kind) ∙ (wishes_is g i s q ∙ e)) in
        subst (λ (l : List Condition). AllLong l (exact_vectors xs)) list t.long
    by s q (Some (Forall j)) r t =
        let g = joins.problem.now in
        let m = joins.joined.each i s (Forall j) q r in
        let none : [] ≡ c ∷ d = ap (λ (k : Kind). kind_wishes k s.condition g (demands g i)) (sym m.0) ∙ (wishes_is g i s q ∙ e) in
        absurd cc

-- ---- what a node came to
taken : (g : Game) (i : ℕ) (s : Scope) (x : ScopeJoin) (xs : List Seen) (v : Verdict) → JoinsScope g i s x → LeafFits g i xs v → IsTaken x xs v
taken g i s (Exists j) xs v p f = subst (λ (d : List Condition). HasEach d v) (sym p.list) f.long
taken g i s (Forall j) xs v p f = f.small

pub node_here : (g : Game) (js : List ScopeJoin) (i : ℕ) (x j : ScopeJoin) (found : Found) (w o : List ℤ) (xs : List Seen) → AreJoins g js → i < length g.scopes → x ≡ get_or js i x → w ≡ o →
    ((ys : List Seen) → StandsFor x ys → IsTaken x ys (verdict_of found w) → StandsFor j (ys ++ seen_node (verdict_of found w) ∷ [])) →
    StandsIn (slice_get js i) xs → LeafFits g i xs (verdict_of found o) → StandsIn (slice_get (set js i j) i) (xs ++ seen_node (verdict_of found o) ∷ [])
node_here g js i x j found w o xs p h e q f t l =
    let s = some_scope g.scopes i h in
    let m : LeafFits g i xs (verdict_of found w) = subst (λ (z : List ℤ). LeafFits g i xs (verdict_of found z)) (sym q) l in
    let r = f xs (stands_read g js i x xs p h e t) (taken g i s.0 x xs (verdict_of found w) (scope_read g js i x s.0 p h e s.1) m) in
    subst (λ (z : List ℤ). StandsIn (slice_get (set js i j) i) (xs ++ seen_node (verdict_of found z) ∷ [])) q (stands_here g js i j (xs ++ seen_node (verdict_of found w) ∷ []) p h r)
