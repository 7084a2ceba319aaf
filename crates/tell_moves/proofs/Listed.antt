-- What is listed of a scope's allowed tuples.
use Rattle.std.proofs.Common.{◌≡◌, ◌∙◌, ℕ, suc, false, List, [], ℤ, length, take, sym, ap, nat_lt}
use Rattle.qc_model.specs.Content.{Game}
use Rattle.qc_model.specs.Game.{before, moves}
use Rattle.tell_moves.specs.Found.{found, domains_to}
use Rattle.tell_moves.specs.Lines.{lines_of}
use Rattle.tell_moves.specs.Puts.{State, puts}
use Rattle.tell_moves.proofs.Finding.{found_moves}
use Rattle.tell_moves.proofs.Putting.{text_listed, more_listed}

module _ (g : Game) (i from stop most : ℕ) (a ws : List ℤ) (s t : State) (fe : from ≡ before g i) (se : stop ≡ before g (suc i)) (count : length a ≡ before g i) (same : ws ≡ a)
    (begun : s ≡ record { text = []; room = most; more = false }) (listed : t ≡ puts s (found g i from ws (domains_to g (length ws) stop))) where
  all_found : found g i from ws (domains_to g (length ws) stop) ≡ moves g i a
  all_found =
      ap (λ us. found g i from us (domains_to g (length us) stop)) same
      ∙ (ap (λ k. found g i k a (domains_to g (length a) stop)) (fe ∙ sym count)
      ∙ (ap (λ k. found g i (length a) a (domains_to g (length a) k)) se
      ∙ (ap (λ k. found g i (length a) a (domains_to g k (before g (suc i)))) count ∙ found_moves g i a)))

  all_put : t ≡ puts (record { text = []; room = most; more = false }) (moves g i a)
  all_put = listed ∙ (ap (λ z. puts z (found g i from ws (domains_to g (length ws) stop))) begun ∙ ap (puts (record { text = []; room = most; more = false })) all_found)

  pub lines_listed : t.text ≡ lines_of (take most (moves g i a))
  lines_listed = ap (λ (z : State). z.text) all_put ∙ text_listed [] most (moves g i a)

  pub rest_listed : t.more ≡ nat_lt most (length (moves g i a))
  rest_listed = ap (λ (z : State). z.more) all_put ∙ more_listed [] most (moves g i a)
