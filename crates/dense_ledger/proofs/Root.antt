-- The tuples that are given, and the root behind them: what the ledger tells of a certificate.
use Rattle.std.proofs.Common.{◌≡◌, ◌+◌, Bool, true, false, ◌&&◌, ◌||◌, Some, List, [], ◌∷◌, ◌++◌, map, refl, sym, ap, ◌∙◌, subst, arith, append_assoc, append-nil}
use Rattle.std.specs.Prelude.{nat_lt}
use Rattle.std.specs.List.{list_all}
use Rattle.qc_model.specs.Content.{Game}
use Rattle.proof_tree.specs.Text.{outcome_fits}
use Rattle.dense_tree.specs.Tree.{Given, Certificate}
use Rattle.dense_tree.specs.Counts.{turns_of, opens_of}
use Rattle.dense_tree.specs.Lines.{Line, given_line, node_lines, certificate_lines}
use Rattle.dense_tree.specs.Place.{root_place}
use Rattle.dense_tree.specs.Proves.{given_placed, are_in_order}
use Rattle.dense_tree.specs.Read.{read_root}
use Rattle.dense_tree.specs.Text.{node_fits, given_fits}
use Rattle.dense_ledger.specs.Ledger.{Ledger, only_ledger, no_own, first_ledger, goes_through}
use Rattle.dense_ledger.specs.Held.{is_placed, TellsRoot, TellsOf, LedgersAreRight}
use Rattle.dense_ledger.proofs.Small.{both, node_over, none_goes, then_goes}
use Rattle.dense_ledger.proofs.Entering.{given_before, enter_root}
use Rattle.dense_ledger.proofs.Trees.{node_goes}

and_false : (a : Bool) → a && false ≡ false
and_false true = refl
and_false false = refl

behind_order : (a b c : Bool) → a && b ≡ false → (b ≡ false → c ≡ false) → a && c ≡ false
behind_order true b c h more = more h
behind_order false b c h more = refl

-- what isn't in order isn't with more behind it
order_front : (us vs : List Given) → are_in_order us ≡ false → are_in_order (us ++ vs) ≡ false
order_front [] vs h = cc
order_front (u ∷ []) vs h = cc
order_front (u ∷ w ∷ us) vs h = behind_order (nat_lt u.scope.0 w.scope.0) (are_in_order (w ∷ us)) (are_in_order (w ∷ (us ++ vs))) h (λ e. order_front (w ∷ us) vs e)

module _ (g : Game) where
  abbrev given_lines : List Given → List Line
  given_lines us = map (λ (u : Given). given_line u.scope u.tuple) us

  given_goes : (vs us : List Given) (rest : List Line) → are_in_order us ≡ true →
      goes_through g (Some (given_before g us)) (given_lines vs ++ rest)
      ≡ goes_through g (only_ledger (are_in_order (us ++ vs) && list_all (given_placed g) vs) (given_before g (us ++ vs))) rest
  given_goes [] us rest h =
      ap (λ z. goes_through g (only_ledger z (given_before g us)) rest) (sym (ap (λ z. z && true) h))
      ∙ ap (λ ws. goes_through g (only_ledger (are_in_order ws && true) (given_before g ws)) rest) (sym (append-nil us))
  given_goes (v ∷ vs) us rest h = by (given_placed g v) (are_in_order (us ++ v ∷ [])) refl (λ order. given_goes vs (us ++ v ∷ []) rest order)
    where
      by : (a b : Bool) → are_in_order (us ++ v ∷ []) ≡ b →
          (are_in_order (us ++ v ∷ []) ≡ true → goes_through g (Some (given_before g (us ++ v ∷ []))) (given_lines vs ++ rest)
          ≡ goes_through g (only_ledger (are_in_order ((us ++ v ∷ []) ++ vs) && list_all (given_placed g) vs) (given_before g ((us ++ v ∷ []) ++ vs))) rest) →
          goes_through g (only_ledger (a && b) (given_before g (us ++ v ∷ []))) (given_lines vs ++ rest)
          ≡ goes_through g (only_ledger (are_in_order (us ++ v ∷ vs) && (a && list_all (given_placed g) vs)) (given_before g (us ++ v ∷ vs))) rest
      by true true e more =
          more e ∙ ap (λ ws. goes_through g (only_ledger (are_in_order ws && list_all (given_placed g) vs) (given_before g ws)) rest) (append_assoc us (v ∷ []) vs)
      by true false e more =
          let late : are_in_order (us ++ v ∷ vs) ≡ false = subst (λ ws. are_in_order ws ≡ false) (append_assoc us (v ∷ []) vs) (order_front (us ++ v ∷ []) vs e) in
          none_goes g us (given_lines vs ++ rest)
          ∙ (sym (none_goes g us rest) ∙ ap (λ z. goes_through g (only_ledger (z && list_all (given_placed g) vs) (given_before g (us ++ v ∷ vs))) rest) (sym late))
      by false b e more =
          none_goes g us (given_lines vs ++ rest)
          ∙ (sym (none_goes g us rest) ∙ ap (λ z. goes_through g (only_ledger z (given_before g (us ++ v ∷ vs))) rest) (sym (and_false (are_in_order (us ++ v ∷ vs)))))

  -- the ledger behind the root
  abbrev root_over : Certificate → Ledger
  root_over c = node_over g c.given false (read_root g c).verdict (read_root g c).own (read_root g c).known (0 + turns_of c.root) (false || nat_lt 0 (opens_of c.root)) []

  root_goes : (c : Certificate) → node_fits c.root ≡ true → goes_through g (Some (given_before g c.given)) (node_lines c.root ++ []) ≡ only_ledger (read_root g c).placed (root_over c)
  root_goes c fits = enter_root g c.given c.root [] ∙ node_goes g c.given c.root (root_place g) false (no_own g) [] [] 0 false [] tt fits

  certificate_goes : (c : Certificate) → node_fits c.root ≡ true → goes_through g (Some (first_ledger g)) (certificate_lines c) ≡ only_ledger (is_placed g c) (root_over c)
  certificate_goes c fits =
      ap (λ ls. goes_through g (Some (first_ledger g)) (given_lines c.given ++ ls)) (sym (append-nil (node_lines c.root)))
      ∙ (given_goes c.given [] (node_lines c.root ++ []) refl
      ∙ then_goes g c.given (are_in_order c.given && list_all (given_placed g) c.given) (read_root g c).placed (given_before g c.given) (root_over c) (node_lines c.root ++ []) [] (root_goes c fits))

  root_told : (c : Certificate) → TellsRoot g c (root_over c)
  root_told c = record { due = refl; turns = omega arith; has_open = refl }

  only_told : (c : Certificate) (d : Ledger) → TellsRoot g c d → (b : Bool) → is_placed g c ≡ b → TellsOf g c (only_ledger b d)
  only_told c d h true e = (e, h)
  only_told c d h false e = e

  certificate_told : (c : Certificate) → node_fits c.root ≡ true → TellsOf g c (goes_through g (Some (first_ledger g)) (certificate_lines c))
  certificate_told c fits = subst (TellsOf g c) (sym (certificate_goes c fits)) (only_told c (root_over c) (root_told c) (is_placed g c) refl)

-- whatever has a text
pub all_right : LedgersAreRight
all_right g outcome optimum c h = certificate_told g c (both (outcome_fits outcome optimum && list_all given_fits c.given) (node_fits c.root) h).1
