-- A tree in place whose cases that are taken have one value each has few cases, and is shallow.
use Rattle.std.proofs.Common.{◌≡◌, ℕ, suc, ◌+◌, ◌*◌, ◌^◌, ◌≤◌, ◌<◌, min, Bool, true, false, ◌&&◌, not, List, [], ◌∷◌, length, set, refl, sym, ap, ◌∙◌, subst, arith, Option, Some, None}
use Rattle.std.specs.Prelude.{ℤ, pos, IsTrue, nat_lt}
use Rattle.std.proofs.Math.Nat.{mul-le-mul, mul-le-mul_right}
use Rattle.std.proofs.lemmas.List.{length-drop}
use Rattle.std.proofs.lemmas.Bool.Decides.{nat_tests}
use Rattle.std.proofs.lemmas.Bool.{and_parts, and_from}
use Rattle.qc_model.specs.declared.problem.Condition.{Condition}
use Rattle.qc_model.specs.declared.problem.Scope.{Scope}
use Rattle.qc_model.specs.Content.{Game}
use Rattle.qc_model.specs.Domains.{Values, Box, declared_box, values_left, has_empty, is_single, has_value}
use Rattle.qc_model.specs.Game.{is_of_scope}
use Rattle.qc_model.specs.Turns.{value_product, full_turns_of}
use Rattle.qc_model.specs.Valid.{IsValid}
use Rattle.proof_tree.specs.Tree.{Tree, tree, Body, stuck, goal, cases, Ending, empty, barred, next, branch, Branches, no_more, piece, Case, skip, left_open, go}
use Rattle.proof_tree.specs.Cover.{cover, covered, uncovered, is_cover}
use Rattle.proof_tree.specs.Pieces.{each_case, body_each, ending_each, branches_each, inner_each, is_one, goes_at_one, version_has}
use Rattle.proof_tree.specs.declared.tree.Version.TheVariants.{One}
use Rattle.proof_tree.specs.Counts.{cases_of, body_count, ending_count, branch_count, case_count, depth_of, body_depth, ending_depth, branch_depth, case_depth}
use Rattle.proof_tree.specs.Place.{list_after}
use Rattle.proof_tree.specs.Steps.{after_steps}
use Rattle.proof_tree.specs.InPlace.{horizon_below, is_horizon, horizon_in_place, steps_in_place, in_place, body_in_place, ending_in_place, branches_in_place, case_in_place, root_in_place}
use Rattle.proof_tree.proofs.BoxSizes.{unfixed_count, box_product, box_size, smaller_size, steps_smaller, one_count, cases_size, same_size, declared_count, declared_product}

not_true : (a : Bool) → not a ≡ true → a ≡ false
not_true true e = cc
not_true false e = refl

differ : false ≡ true → ⊥
differ e = cc

abbrev any : Case → Bool
any c = true

-- so many cases and so deep a nesting, at a box with so many scopes left
record IsSmall (count depth : ℕ) (box : Box) (scopes : ℕ) : Type 0 where
  few : count ≤ box_size box
  shallow : depth ≤ unfixed_count box + scopes

-- an end of the tree
no_case : (box : Box) (scopes : ℕ) → IsSmall 0 0 box scopes
no_case box scopes = record { few = omega arith; shallow = omega arith }

wider : (count depth : ℕ) (small box : Box) (scopes : ℕ) → box_size small ≤ box_size box → unfixed_count small ≤ unfixed_count box → IsSmall count depth small scopes → IsSmall count depth box scopes
wider count depth small box scopes h k s = record { few = omega (arith, h, s.few); shallow = omega (arith, k, s.shallow) }

-- the first case and the others, with at most k cases below each
sum_few : (c b k l m : ℕ) → c ≤ 1 + k → b ≤ l * (1 + k) → 1 + l ≤ m → c + b ≤ m * (1 + k)
sum_few c b k l m h i j = let q = mul-le-mul_right (1 + k) j in omega (arith, q, h, i)

covers_some : (upto : Option ℤ) (vs : Values) → is_cover upto vs ≡ true → 1 + length (uncovered upto vs) ≤ length vs
covers_some None [] h = cc
covers_some None (v ∷ vs) h = omega arith
covers_some (Some high) [] h = absurd (differ (and_parts (has_value [] high) (nat_lt 1 0) h).0)
covers_some (Some high) (v ∷ vs) h =
    let n = cover (Some high) (v ∷ vs) in
    let p = and_parts (has_value (v ∷ vs) high) (nat_lt 1 n) h in
    let q : 1 < n = grind (arith, nat_tests) in
    let l = length-drop n (v ∷ vs) in
    omega (arith, l, q)

-- a test of all cases that says no less than another
module _ (p q : Option ℤ → Case → Branches → Bool) (less : (upto : Option ℤ) (c : Case) (bs : Branches) → p upto c bs ≡ true → q upto c bs ≡ true) where
  mutual
    pub each_less : (t : Tree) → IsTrue (each_case p t) → IsTrue (each_case q t)
    each_less (tree z c) e = body_less c e

    body_less : (c : Body) → IsTrue (body_each p c) → IsTrue (body_each q c)
    body_less stuck e = refl
    body_less goal e = refl
    body_less (cases steps end) e = ending_less end e

    ending_less : (end : Ending) → IsTrue (ending_each p end) → IsTrue (ending_each q end)
    ending_less empty e = refl
    ending_less barred e = refl
    ending_less (next t) e = each_less t e
    ending_less (branch x bs) e = branches_less bs e

    branches_less : (bs : Branches) → IsTrue (branches_each p bs) → IsTrue (branches_each q bs)
    branches_less no_more e = refl
    branches_less (piece upto c bs) e =
        let r = and_parts (p upto c bs && inner_each p c) (branches_each p bs) e in
        let s = and_parts (p upto c bs) (inner_each p c) r.0 in
        and_from (q upto c bs && inner_each q c) (branches_each q bs) (and_from (q upto c bs) (inner_each q c) (less upto c bs s.0) (inner_less c s.1)) (branches_less bs r.1)

    inner_less : (c : Case) → IsTrue (inner_each p c) → IsTrue (inner_each q c)
    inner_less skip e = refl
    inner_less left_open e = refl
    inner_less (go steps end) e = ending_less end e

-- where each case has one value, so has each that is taken
one_goes : (upto : Option ℤ) (c : Case) (bs : Branches) → is_one upto c bs ≡ true → goes_at_one upto c bs ≡ true
one_goes None skip bs e = refl
one_goes None left_open bs e = refl
one_goes None (go steps end) bs e = refl
one_goes (Some n) c bs e = absurd (differ e)

module _ (g : Game) where
  mutual
    tree_small : (t : Tree) (later : List Scope) (i : ℕ) (d : List Condition) (box : Box) (h : Option ℕ) → IsTrue (in_place g t later i d box h) → IsTrue (each_case goes_at_one t) → IsSmall (cases_of t) (depth_of t) box (length later)
    tree_small (tree z c) later i d box h e o =
        body_small c later i d box (horizon_below z h) (and_parts (horizon_in_place g z later i box h) (body_in_place g c later i d box (horizon_below z h)) e).1 o

    body_small : (c : Body) (later : List Scope) (i : ℕ) (d : List Condition) (box : Box) (h : Option ℕ) → IsTrue (body_in_place g c later i d box h) → IsTrue (body_each goes_at_one c) → IsSmall (body_count any c) (body_depth c) box (length later)
    body_small stuck later i d box h e o = no_case box (length later)
    body_small goal later i d box h e o = no_case box (length later)
    body_small (cases steps end) [] i d box h e o =
        let p = and_parts _ (ending_in_place g end [] i d (after_steps steps box) h) e in
        let p1 = and_parts _ (steps_in_place g [] i d steps box) p.0 in
        absurd (differ (and_parts (not (is_horizon h i)) false p1.0).1)
    body_small (cases steps end) (s ∷ later) i d box h e o =
        let p = and_parts _ (ending_in_place g end (s ∷ later) i d (after_steps steps box) h) e in
        let less = steps_smaller steps box in
        wider (ending_count any end) (ending_depth end) (after_steps steps box) box (suc (length later)) (smaller_size (after_steps steps box) box less) less.count
        (ending_small end s later i d (after_steps steps box) h p.1 o)

    ending_small : (end : Ending) (s : Scope) (later : List Scope) (i : ℕ) (d : List Condition) (box : Box) (h : Option ℕ) → IsTrue (ending_in_place g end (s ∷ later) i d box h) → IsTrue (ending_each goes_at_one end) →
        IsSmall (ending_count any end) (ending_depth end) box (suc (length later))
    ending_small empty s later i d box h e o = no_case box (suc (length later))
    ending_small barred s later i d box h e o = no_case box (suc (length later))
    ending_small (next t) s later i d box h e o =
        let p = and_parts _ (in_place g t later (suc i) (list_after g (s ∷ later) d) box h) e in
        let r = tree_small t later (suc i) (list_after g (s ∷ later) d) box h p.1 o in
        record { few = r.few; shallow = let q = r.shallow in omega (arith, q) }
    ending_small (branch x bs) s later i d box h e o =
        let p = and_parts _ (branches_in_place g bs x.0 (values_left box x.0) (s ∷ later) i d box h) e in
        let p1 = and_parts _ (not (is_single (values_left box x.0))) p.0 in
        let p2 = and_parts (not (has_empty box)) (is_of_scope g i x.0) p1.0 in
        by (values_left box x.0) refl (not_true (is_single (values_left box x.0)) p1.1) (not_true (has_empty box) p2.0) p.1 (λ and_from f. branches_small bs x.0 (values_left box x.0) s later i d box h and_from f o)
      where
        none_left : (bs : Branches) → IsTrue (branches_in_place g bs x.0 [] (s ∷ later) i d box h) → (branch_count any bs ≡ 0) × (branch_depth bs ≡ 0)
        none_left no_more e = (refl, refl)
        none_left (piece None c bs) e = absurd (differ e)
        none_left (piece (Some n) c bs) e = absurd (differ e)

        by : (vs : Values) → values_left box x.0 ≡ vs → is_single (values_left box x.0) ≡ false → has_empty box ≡ false → IsTrue (branches_in_place g bs x.0 (values_left box x.0) (s ∷ later) i d box h) →
            (2 ≤ length (values_left box x.0) → IsTrue (branches_in_place g bs x.0 (values_left box x.0) (s ∷ later) i d box h) →
            (branch_count any bs ≤ length (values_left box x.0) * (1 + box_size (set box x.0 (pos 0 ∷ [])))) × (1 + branch_depth bs ≤ unfixed_count box + suc (length later))) →
            IsSmall (branch_count any bs) (1 + branch_depth bs) box (suc (length later))
        by [] q single full e f =
            let r = none_left bs (subst (λ vs. IsTrue (branches_in_place g bs x.0 vs (s ∷ later) i d box h)) q e) in
            record { few = omega (arith, r.0); shallow = omega (arith, r.1) }
        by (v ∷ []) q single full e f = absurd (differ (sym single ∙ ap is_single q))
        by (v ∷ w ∷ vs) q single full e f =
            let and_from : 2 ≤ length (values_left box x.0) = subst (λ us. 2 ≤ length us) (sym q) (omega arith) in
            let r = f and_from e in
            let few = cases_size box x.0 (pos 0) full and_from in
            record { few = omega (arith, r.0, few); shallow = omega (arith, r.1) }

    -- the cases from one on, where and_from values or more are left to x
    branches_small : (bs : Branches) (x : ℕ) (vs : Values) (s : Scope) (later : List Scope) (i : ℕ) (d : List Condition) (box : Box) (h : Option ℕ) → 2 ≤ length (values_left box x) →
        IsTrue (branches_in_place g bs x vs (s ∷ later) i d box h) → IsTrue (branches_each goes_at_one bs) →
        (branch_count any bs ≤ length vs * (1 + box_size (set box x (pos 0 ∷ [])))) × (1 + branch_depth bs ≤ unfixed_count box + suc (length later))
    branches_small no_more x vs s later i d box h and_from e o = (omega arith, omega arith)
    branches_small (piece upto c bs) x vs s later i d box h and_from e o =
        let p = and_parts _ (branches_in_place g bs x (uncovered upto vs) (s ∷ later) i d box h) e in
        let p1 = and_parts (is_cover upto vs) (case_in_place g c x (covered upto vs) (s ∷ later) i d box h) p.0 in
        let q = and_parts _ (branches_each goes_at_one bs) o in
        let q1 = and_parts (goes_at_one upto c bs) (inner_each goes_at_one c) q.0 in
        let one = case_small upto c bs x vs s later i d box h and_from p1.0 p1.1 q1.0 q1.1 in
        let rest = branches_small bs x (uncovered upto vs) s later i d box h and_from p.1 q.1 in
        let some = covers_some upto vs p1.0 in
        (sum_few (case_count any c) (branch_count any bs) (box_size (set box x (pos 0 ∷ []))) (length (uncovered upto vs)) (length vs) one.0 rest.0 some, omega (arith, one.1, rest.1))

    case_small : (upto : Option ℤ) (c : Case) (bs : Branches) (x : ℕ) (vs : Values) (s : Scope) (later : List Scope) (i : ℕ) (d : List Condition) (box : Box) (h : Option ℕ) → 2 ≤ length (values_left box x) →
        is_cover upto vs ≡ true → IsTrue (case_in_place g c x (covered upto vs) (s ∷ later) i d box h) → goes_at_one upto c bs ≡ true → IsTrue (inner_each goes_at_one c) →
        (case_count any c ≤ 1 + box_size (set box x (pos 0 ∷ []))) × (1 + case_depth c ≤ unfixed_count box + suc (length later))
    case_small upto skip bs x vs s later i d box h and_from k e o u = (omega arith, omega arith)
    case_small upto left_open bs x vs s later i d box h and_from k e o u = (omega arith, omega arith)
    case_small (Some n) (go steps end) bs x vs s later i d box h and_from k e o u = absurd (differ o)
    case_small None (go steps end) bs x [] s later i d box h and_from k e o u = absurd (differ k)
    case_small None (go steps end) bs x (v ∷ vs) s later i d box h and_from k e o u =
        let small = set box x (v ∷ []) in
        let after = after_steps steps small in
        let p = and_parts _ (ending_in_place g end (s ∷ later) i d after h) e in
        let r = ending_small end s later i d after h p.1 u in
        let less = steps_smaller steps small in
        let size = smaller_size after small less in
        let count = less.count in
        let same = same_size box x v (pos 0) in
        let fixed = one_count box x v and_from in
        let few = r.few in
        let shallow = r.shallow in
        (omega (arith, few, size, same), omega (arith, shallow, count, fixed))

  root_small : (t : Tree) → IsTrue (root_in_place g t) → IsTrue (each_case goes_at_one t) → IsSmall (cases_of t) (depth_of t) (declared_box g) (length g.scopes)
  root_small t e o = tree_small t g.scopes 0 [] (declared_box g) None e o

  pub few_cases : (t : Tree) → IsTrue (root_in_place g t) → IsTrue (each_case goes_at_one t) → full_turns_of g < 2 ^ 63 → cases_of t ≤ full_turns_of g
  few_cases t e o less =
      let r = (root_small t e o).few in
      let m = mul-le-mul (declared_count g.variables) (let p : box_product (declared_box g) ≤ value_product g.variables = omega (arith, declared_product g.variables) in p) in
      within (length g.variables * value_product g.variables) (box_size (declared_box g)) (cases_of t) r m less
    where
      within : (f b c : ℕ) → c ≤ b → b ≤ f → min f (2 ^ 63) < 2 ^ 63 → c ≤ min f (2 ^ 63)
      within f b c h k l = omega (arith, h, k, l)

  pub shallow_tree : (t : Tree) → IsValid g → IsTrue (root_in_place g t) → IsTrue (each_case goes_at_one t) → depth_of t ≤ 564
  shallow_tree t valid e o =
      let r = (root_small t e o).shallow in
      let c = declared_count g.variables in
      omega (arith, r, c, valid.few_scopes, valid.few_variables)

  pub shallow_first : (t : Tree) → IsValid g → IsTrue (root_in_place g t) → IsTrue (version_has One t) → depth_of t ≤ 564
  shallow_first t valid e o = shallow_tree t valid e (each_less is_one goes_at_one one_goes t o)
