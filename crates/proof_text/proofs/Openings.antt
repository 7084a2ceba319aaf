-- What is owed after the letter of a line.
use Rattle.std.proofs.Common.{◌≡◌, refl, ap, ◌∙◌, ℕ, ◌+◌, ◌≤◌, List, [], ◌∷◌, ◌++◌, Option, Some, None, Bool, true, false, cond, arith, le-leb, append_assoc}
use Rattle.std.specs.Prelude.{nat_eq}
use Rattle.std.specs.List.{list_all}
use Rattle.std.proofs.lemmas.Bool.{and_from, ne_eqb}
use Rattle.proof_tree.specs.declared.tree.Version.TheVariants.{One, Two}
use Rattle.std.proofs.lemmas.List.Folds.{list_all-append}
use Rattle.proof_tree.specs.declared.tree.Version.{Version}
use Rattle.proof_text.specs.declared.letters.Place.{Place}
use Rattle.proof_text.specs.declared.letters.Place.TheVariants.{Node, Horizon as HorizonPlace, Body, Cases, Case, Closed}
use Rattle.proof_text.specs.declared.letters.Opened.{Opened}
use Rattle.proof_text.specs.declared.letters.Opened.TheVariants.{Line, Next, Branch, TooDeep, Wrong}
use Rattle.proof_text.specs.declared.part_line.Kind.TheVariants.{Horizon as HorizonKind, Branch as BranchKind, Range as RangeKind, Prune as PruneKind, Bound as BoundKind}
use Rattle.proof_text.specs.declared.part_line.PartLine.{PartLine}
use Rattle.proof_text.specs.declared.part_line.PartLine.TheVariants.{Short, Letter, Horizon, Branch as BranchPart, Range, Variable, Low, High, Constraint}
use Rattle.proof_text.specs.PartLines.{part_owes, constraint_owed}
use Rattle.proof_text.specs.Letters.{place_owes, Opens, Opening}
use Rattle.proof_text.specs.Symbols.{Symbol, Choices, byte, number, signed, node, case, branches, after, chosen, followed, with_range, one_choices}
use Rattle.proof_text.specs.Running.{nests_within}
use Rattle.proof_text.specs.Standing.{owing, too_deep, chosen_standing}
use Rattle.proof_text.proofs.PartLines.{counted_nests, signed_nests}

place_nests : (v : Version) (n : ℕ) (p : Place) → n ≤ 1000 → list_all (nests_within 1000) (place_owes v n p) ≡ true
place_nests v n Node h = and_from _ _ (le-leb _ _ h) refl
place_nests v n HorizonPlace h = and_from _ _ (le-leb _ _ h) refl
place_nests v n Body h = and_from _ _ (le-leb _ _ h) refl
place_nests v n Cases h = and_from _ _ (le-leb _ _ h) refl
place_nests v n Case h = and_from _ _ (le-leb _ _ h) refl
place_nests v n Closed h = refl

constraint_nests : (p : Bool) → list_all (nests_within 1000) (constraint_owed p) ≡ true
constraint_nests true = refl
constraint_nests false = refl

part_nests : (p : PartLine) → list_all (nests_within 1000) (part_owes p) ≡ true
part_nests (Short letter line) = refl
part_nests (Letter HorizonKind) = refl
part_nests (Letter BranchKind) = refl
part_nests (Letter RangeKind) = refl
part_nests (Letter PruneKind) = refl
part_nests (Letter BoundKind) = refl
part_nests (Horizon k) = and_from _ _ (counted_nests 1000 65 10 k) refl
part_nests (BranchPart x) = and_from _ _ (counted_nests 1000 500 10 x) refl
part_nests (Range high) = and_from _ _ (signed_nests 1000 1000000000 10 high) refl
part_nests (Variable p x) = and_from _ _ (counted_nests 1000 500 32 x) (constraint_nests p)
part_nests (Low p x low) = and_from _ _ (signed_nests 1000 1000000000 32 low) (constraint_nests p)
part_nests (High p x low high) = and_from _ _ (signed_nests 1000 1000000000 _ high) (constraint_nests p)
part_nests (Constraint x low high c) = and_from _ _ (counted_nests 1000 20000 10 c) refl

-- what is owed within the limit is owed
pub is_owed : (o : Option (List Symbol)) (more later : List Symbol) → o ≡ Some more → list_all (nests_within 1000) more ≡ true → chosen_standing o later ≡ owing (more ++ later)
is_owed o more later e h = ap (λ (x : Option (List Symbol)). chosen_standing x later) e ∙ ap (λ (t : Bool). cond t (owing (more ++ later)) too_deep) h

-- a symbol that stands alone, with what is owed after it
pub opened : (v : Version) (n : ℕ) (s : Symbol) (kept : List Symbol) (b : ℕ) (r : Opened) → n ≤ 1000 → Opens v n b (after s b) r → Opening v n (s ∷ kept) kept b r
opened v n s kept b (Line part place) le h = (
  λ later.
      is_owed (after s b) (part_owes part ++ place_owes v n place) (kept ++ later) h.0 (list_all-append (nests_within 1000) (part_owes part) (place_owes v n place) ∙ and_from _ _ (part_nests part) (place_nests v n place le))
      ∙ ap owing (append_assoc (part_owes part) (place_owes v n place) (kept ++ later)),
  h.1,
  h.2,
)
opened v n s kept b Next le h =
    let lt = h.1 in
    (λ later. is_owed (after s b) (byte 10 ∷ node v (n + 1) ∷ []) (kept ++ later) h.0 (and_from _ _ (le-leb _ _ (omega arith)) refl), h.1, h.2)
opened v n s kept b Branch le h =
    let lt = h.1 in
    (λ later. is_owed (after s b) (byte 32 ∷ number 500 10 ∷ branches v (n + 1) ∷ []) (kept ++ later) h.0 (and_from _ _ (le-leb _ _ (omega arith)) refl), h.1, h.2)
opened v n s kept b TooDeep le h = λ later. h (kept ++ later)
opened v n s kept b Wrong le h = λ later. ap (λ (x : Option (List Symbol)). chosen_standing x (kept ++ later)) h

pub with_last : Option (List Symbol) → Symbol → Option (List Symbol)
with_last None s = None
with_last (Some m) s = Some (m ++ s ∷ [])

last_cond : (t : Bool) (m : List Symbol) (o : Option (List Symbol)) (s : Symbol) → cond t (Some (m ++ s ∷ [])) (with_last o s) ≡ with_last (cond t (Some m) o) s
unfolding with_last
last_cond true m o s = refl
last_cond false m o s = refl

followed_is : (choices : Choices) (s : Symbol) (b : ℕ) → chosen b (followed choices s) ≡ with_last (chosen b choices) s
unfolding with_last
followed_is [] s b = refl
followed_is (c ∷ choices) s b = ap (λ (o : Option (List Symbol)). cond (nat_eq b c.0) (Some (c.1 ++ s ∷ [])) o) (followed_is choices s b) ∙ last_cond (nat_eq b c.0) c.1 (chosen b choices) s

deep_by : (t : Bool) (m : List Symbol) (s : Symbol) (later : List Symbol) → list_all (nests_within 1000) m ≡ t → cond t (owing (m ++ later)) too_deep ≡ too_deep
    → cond (list_all (nests_within 1000) (m ++ s ∷ [])) (owing ((m ++ s ∷ []) ++ later)) too_deep ≡ too_deep
deep_by true m s later e h = absurd (cc)
deep_by false m s later e h = rw (list_all-append (nests_within 1000) m (s ∷ []), e) refl

deep_more : (o : Option (List Symbol)) (s : Symbol) (later : List Symbol) → chosen_standing o later ≡ too_deep → chosen_standing (with_last o s) later ≡ too_deep
unfolding with_last
deep_more None s later h = absurd (cc)
deep_more (Some m) s later h = deep_by (list_all (nests_within 1000) m) m s later refl h

regroup : (a b c d : List Symbol) → ((a ++ b) ++ c) ++ d ≡ a ++ (b ++ (c ++ d))
regroup a b c d = simp append_assoc

-- a case of a branch, and the branch goes on after it
pub opened_last : (v : Version) (n : ℕ) (s t : Symbol) (o : Option (List Symbol)) (b : ℕ) (r : Opened) → n ≤ 1000 → nests_within 1000 t ≡ true → after s b ≡ with_last o t → Opens v n b o r → Opening v n (s ∷ []) (t ∷ []) b r
unfolding with_last
opened_last v n s t o b (Line part place) le f e h = (
  λ later.
      is_owed (after s b) ((part_owes part ++ place_owes v n place) ++ t ∷ []) later (e ∙ ap (λ (x : Option (List Symbol)). with_last x t) h.0)
      (list_all-append (nests_within 1000) (part_owes part ++ place_owes v n place) (t ∷ []) ∙ and_from _ _ (list_all-append (nests_within 1000) (part_owes part) (place_owes v n place) ∙ and_from _ _ (part_nests part) (place_nests v n place le)) (and_from _ _ f refl))
      ∙ ap owing (regroup (part_owes part) (place_owes v n place) (t ∷ []) later),
  h.1,
  h.2,
)
opened_last v n s t o b Next le f e h =
    let lt = h.1 in
    (λ later. is_owed (after s b) (byte 10 ∷ node v (n + 1) ∷ t ∷ []) later (e ∙ ap (λ (x : Option (List Symbol)). with_last x t) h.0) (and_from _ _ (le-leb _ _ (omega arith)) (and_from _ _ f refl)), h.1, h.2)
opened_last v n s t o b Branch le f e h =
    let lt = h.1 in
    (λ later. is_owed (after s b) (byte 32 ∷ number 500 10 ∷ branches v (n + 1) ∷ t ∷ []) later (e ∙ ap (λ (x : Option (List Symbol)). with_last x t) h.0) (and_from _ _ (le-leb _ _ (omega arith)) (and_from _ _ f refl)), h.1, h.2)
opened_last v n s t o b TooDeep le f e h = λ later. ap (λ (x : Option (List Symbol)). chosen_standing x later) e ∙ deep_more o t later (h later)
opened_last v n s t o b Wrong le f e h = λ later. ap (λ (x : Option (List Symbol)). chosen_standing x later) (e ∙ ap (λ (x : Option (List Symbol)). with_last x t) h)

after_one : (n b : ℕ) → (b ≡ 46 → ⊥) → after (branches One n) b ≡ with_last (chosen b (one_choices One n)) (branches One n)
after_one n b ne = ap (λ (t : Bool). cond t (Some (byte 10 ∷ [])) (chosen b (followed (one_choices One n) (branches One n)))) (ne_eqb b 46 ne) ∙ followed_is (one_choices One n) (branches One n) b

after_two : (n b : ℕ) → (b ≡ 46 → ⊥) → (b ≡ 114 → ⊥) → after (branches Two n) b ≡ with_last (chosen b (one_choices Two n)) (branches Two n)
after_two n b ne ne2 =
    ap (λ (t : Bool). cond t (Some (byte 10 ∷ [])) (chosen b (with_range Two n (followed (one_choices Two n) (branches Two n))))) (ne_eqb b 46 ne)
    ∙ ap (λ (t : Bool). cond t (Some (byte 32 ∷ signed 1000000000 10 ∷ case Two n ∷ branches Two n ∷ [])) (chosen b (followed (one_choices Two n) (branches Two n)))) (ne_eqb b 114 ne2)
    ∙ followed_is (one_choices Two n) (branches Two n) b

opened_one : (n b : ℕ) (r : Opened) → n ≤ 1000 → (b ≡ 46 → ⊥) → Opens One n b (chosen b (one_choices One n)) r → Opening One n (branches One n ∷ []) (branches One n ∷ []) b r
opened_one n b r le ne h = opened_last One n (branches One n) (branches One n) (chosen b (one_choices One n)) b r le (le-leb _ _ le) (after_one n b ne) h

opened_two : (n b : ℕ) (r : Opened) → n ≤ 1000 → (b ≡ 46 → ⊥) → (b ≡ 114 → ⊥) → Opens Two n b (chosen b (one_choices Two n)) r → Opening Two n (branches Two n ∷ []) (branches Two n ∷ []) b r
opened_two n b r le ne ne2 h = opened_last Two n (branches Two n) (branches Two n) (chosen b (one_choices Two n)) b r le (le-leb _ _ le) (after_two n b ne ne2) h

pub opened_case : (v : Version) (n b : ℕ) (r : Opened) → n ≤ 1000 → (b ≡ 46 → ⊥) → (b ≡ 114 → ⊥) → Opens v n b (chosen b (one_choices v n)) r → Opening v n (branches v n ∷ []) (branches v n ∷ []) b r
opened_case One n b r le ne ne2 h = opened_one n b r le ne h
opened_case Two n b r le ne ne2 h = opened_two n b r le ne ne2 h
