-- What is answered for a position, from its last step to its first.
use Rattle.std.proofs.Common.{◌≡◌, ℕ, true, List, Option, None, inl, inr, refl, subst}
use Rattle.qc_model.specs.Content.{Game}
use Rattle.tell_moves.specs.Stands.{Place, before_scope, after_all, left_over, missing_at, not_allowed_at, place_of}
use Rattle.qecode_commands.specs.declared.status.Status.{Status}
use Rattle.qecode_commands.specs.declared.status.Status.TheVariants.{Done, BadMoves, Memory, ReadFault}
use Rattle.qecode_commands.specs.Moves.{bad_moves_at, moves_of}
use Rattle.qecode_commands.proofs.Down.{file_before}
use Rattle.qecode_commands.proofs.PlaysDone.{never_bad}
use Rattle.qecode_commands.proofs.Told.{told_bytes, never_unread}
use Rattle.tell_commands.specs.Allowed.{RefusesAt, ListsPlace, ListsBytes, ListsFile}
use Rattle.tell_commands.specs.Complete.{is_position, TellsPosition}

-- more was given before
pub lists_before : (gave gave' : ℕ → Type 0) → ((n : ℕ) → gave n → gave' n) → (most : ℕ) (name : List ℕ) (told : Option (List ℕ)) (g : Game) (s : Status) (t : List ℕ) →
    ListsFile most name told gave g s t → ListsFile most name told gave' g s t
lists_before gave gave' f most name told g s t h = elim h [ inl d ↦ inl (file_before 65536 name told gave gave' f s t d) | inr b ↦ inr b ]

-- at a position the tuples are listed
no_refusal : (p : Place) (t : List ℕ) → RefusesAt p t → is_position p ≡ true → ⊥
no_refusal (before_scope i a) t h p = h
no_refusal after_all t h p = h
no_refusal left_over t h p = cc
no_refusal (missing_at i) t h p = cc
no_refusal (not_allowed_at i) t h p = cc

place_done : (g : Game) (n : ℕ) (p : Place) → is_position p ≡ true → (s : Status) (t : List ℕ) → ListsPlace g n p s t → ¬ (s ≡ Memory) → s ≡ Done
place_done g n p is Done t h m = refl
place_done g n p is BadMoves t h m = absurd (no_refusal p t h is)
place_done g n p is Memory t h m = absurd (m refl)
place_done g n p is s t h m = absurd h

bytes_done : (g : Game) (n : ℕ) (bytes : List ℕ) → bad_moves_at bytes ≡ None → is_position (place_of g (moves_of bytes)) ≡ true →
    (s : Status) (t : List ℕ) → ListsBytes g n bytes s t → ¬ (s ≡ Memory) → s ≡ Done
bytes_done g n bytes good is s t h m =
    elim h [
      | inl d ↦ absurd (never_bad bytes good s t d m)
      | inr (e, k) ↦ place_done g n (place_of g (moves_of bytes)) is s t k m
    ]

pub lists_done : (n : ℕ) (name : List ℕ) (told : Option (List ℕ)) (gave : ℕ → Type 0) (g : Game) → TellsPosition told g →
    (s : Status) (t : List ℕ) → ListsFile n name told gave g s t → ¬ (s ≡ Memory) → ¬ (s ≡ ReadFault) → s ≡ Done
lists_done n name told gave g tells s t h m r =
    elim h [
      | inl d ↦ absurd (never_unread 65536 name told gave tells.bytes tells.told_is tells.within s t d m r)
      | inr (bytes, file, k) ↦
          bytes_done g n tells.bytes tells.good tells.stands s t
          (subst (λ b. ListsBytes g n b s t) (told_bytes told tells.bytes bytes tells.told_is file.same) k) m
    ]
