-- One place comes out of a row and goes back, and a row is room. Assumes `Logic`.
use mathlib.Core.Path.{refl, sym}
use Prim.Native.Nat.{ℕ, zero, suc, ◌+◌, ◌*◌, ◌≤◌, ◌<◌}
use native.Mathlib.Nat.{not-suc-le-zero, le_of_suc-le-suc}
use mathlib.Core.List.{List, [], ◌∷◌, ◌++◌}
use lib.ListN.{length, take}
use seplogic.Ra.Ura.{Ura}
use base.Fraction.{full_share}
use mir.Val.{Val}
use base.Logic.{SProp, ent, sep, id⊢}
use base.Fml.{Fml, ftrue, fsep, fat, froom}
use types.Logic.{Logic, sem}
use types.Kit.{‵, ◌⊛◌, ◌$◌, ◌∵◌, !, qed, by, move, use1, use2, split, rewrite, fsplit, frame, done}
use denote.Memory.{part_at}
use denote.RawPtr.{block_ptr}
use mir.Raw.{raw as bare}
use prog.RawLaws.{size-raw}
use prog.Memory.{size}
use denote.Index.{place, place_is}
use Rattle.std.specs.Mem.{type_size}
use Rattle.std.proofs.BoxSteps.Steps.{el_room}
use Rattle.paged_stack.proofs.Memory.El.{El, R, X, τ, boxed, el_in}
use Rattle.paged_stack.specs.Rows.{items_type, places}

module _ (E : El) where
  abbrev pub sz : ℕ
  sz = type_size (R E)

  -- the row without the values from its i-th place on, and without the room at that place
  abbrev pub besides : ℕ → ℕ → ℕ → List (X E) → ℕ → Fml
  besides b o zero xs i = ftrue
  besides b o (suc n) xs zero = froom (items_type (R E) n) b (o + sz)
  besides b o (suc n) [] (suc i) = ftrue
  besides b o (suc n) (x ∷ xs) (suc i) = fsep (part_at (R E) full_share x b o) (besides b (o + sz) n xs i)

module _ (E : El) {M : Type 1} {𝓤 : Ura M} (𝓛 : Logic 𝓤) (b : ℕ) where
  open 𝓛 use {H}

  abbrev ◌⊢◌ : SProp 𝓤 → SProp 𝓤 → Type 1
  P ⊢ Q = ent 𝓤 P Q

  abbrev ◌∗◌ : SProp 𝓤 → SProp 𝓤 → SProp 𝓤
  P ∗ Q = sep 𝓤 P Q

  abbrev ⟦◌⟧ : Fml → SProp 𝓤
  ⟦ P ⟧ = sem 𝓛 P

  infix 26 ◌⊢◌
  infixr 35 ◌∗◌
  abbrev s : ℕ
  s = sz E

  abbrev pub all : ℕ → ℕ → List (X E) → Fml
  all o n xs = places (R E) (block_ptr b o) n xs

  abbrev one : X E → ℕ → Fml
  one x o = part_at (R E) full_share x b o

  -- any row is room
  pub to_room : (o n : ℕ) (xs : List (X E)) → length xs ≤ n → ⟦ all o n xs ⟧ ⊢ H.room (items_type (R E) n) b o
  to_room o n [] le = id⊢ 𝓤 _
  to_room o zero (x ∷ xs) le = absurd (not-suc-le-zero le)
  to_room o (suc n) (x ∷ xs) le = qed 𝓛 (‵ (one x o) ∷ ‵ (all (o + s) n xs) ∷ []) ∵
      use1 𝓛 (‵ (froom (τ E) b o)) (el_room (boxed E) 𝓛 x b o) $ use1 𝓛 (‵ (froom (bare (τ E)) b o)) (𝓛.laws.room-raw (τ E) b o) $ move ! (1 ∷ []) $
      use1 𝓛 (‵ (froom (items_type (R E) n) b (o + s))) (to_room (o + s) n xs (le_of_suc-le-suc le)) $
      rewrite ! 0 (λ (k : ℕ). ‵ (froom (items_type (R E) n) b (o + k))) (sym (size-raw (τ E))) refl $ move ! (1 ∷ []) $ by ! (𝓛.laws.room_cons (bare (τ E)) n b o)

  takes : (o n : ℕ) (xs : List (X E)) (i : ℕ) → length xs ≤ n → i ≤ length xs → i < n → ⟦ all o n xs ⟧ ⊢ H.room (τ E) b (place s o i) ∗ ⟦ besides E b o n xs i ⟧
  takes o zero xs i le at lt = absurd (not-suc-le-zero lt)
  takes o (suc n) xs zero le at lt = qed 𝓛 (‵ (all o (suc n) xs) ∷ []) ∵
      use1 𝓛 (‵ (froom (items_type (R E) (suc n)) b o)) (to_room o (suc n) xs le) $
      use1 𝓛 (‵ (froom (bare (τ E)) b o) ⊛ ‵ (froom (items_type (R E) n) b (o + size (bare (τ E))))) (𝓛.laws.room_uncons (bare (τ E)) n b o) $ split ! $
      use1 𝓛 (‵ (froom (τ E) b o)) (𝓛.laws.raw-room (τ E) b o) $ move ! (1 ∷ []) $
      rewrite ! 0 (λ (k : ℕ). ‵ (froom (items_type (R E) n) b (o + k))) (size-raw (τ E)) refl $ move ! (1 ∷ 0 ∷ []) $ done !
  takes o (suc n) [] (suc i) le at lt = absurd (not-suc-le-zero at)
  takes o (suc n) (x ∷ xs) (suc i) le at lt = qed 𝓛 (‵ (one x o) ∷ ‵ (all (o + s) n xs) ∷ []) ∵ move ! (1 ∷ []) $
      use1 𝓛 (‵ (froom (τ E) b (place s (o + s) i)) ⊛ ‵ (besides E b (o + s) n xs i)) (takes (o + s) n xs i (le_of_suc-le-suc le) (le_of_suc-le-suc at) (le_of_suc-le-suc lt)) $ split ! $ frame ! $ move ! (1 ∷ 0 ∷ []) $ done !

  puts : (o n : ℕ) (xs : List (X E)) (i : ℕ) (y : X E) → i ≤ length xs → i < n → ⟦ one y (place s o i) ⟧ ∗ ⟦ besides E b o n xs i ⟧ ⊢ ⟦ all o n (take i xs ++ y ∷ []) ⟧
  puts o zero xs i y at lt = absurd (not-suc-le-zero lt)
  puts o (suc n) xs zero y at lt = qed 𝓛 (‵ (one y o) ∷ ‵ (besides E b o (suc n) xs zero) ∷ []) ∵ done !
  puts o (suc n) [] (suc i) y at lt = absurd (not-suc-le-zero at)
  puts o (suc n) (x ∷ xs) (suc i) y at lt = qed 𝓛 (‵ (one y (place s (o + s) i)) ∷ ‵ (besides E b o (suc n) (x ∷ xs) (suc i)) ∷ []) ∵ move ! (1 ∷ []) $ fsplit ! $ move ! (2 ∷ 1 ∷ []) $
      use2 𝓛 (‵ (all (o + s) n (take i xs ++ y ∷ []))) (puts (o + s) n xs i y (le_of_suc-le-suc at) (le_of_suc-le-suc lt)) $ move ! (1 ∷ 0 ∷ []) $ done !

  module _ (o n : ℕ) (xs : List (X E)) (i : ℕ) (at : i ≤ length xs) (lt : i < n) where
    pub room_out : length xs ≤ n → ⟦ all o n xs ⟧ ⊢ H.room (τ E) b (i * s + o) ∗ ⟦ besides E b o n xs i ⟧
    room_out le = qed 𝓛 (‵ (all o n xs) ∷ []) ∵
        use1 𝓛 (‵ (froom (τ E) b (place s o i)) ⊛ ‵ (besides E b o n xs i)) (takes o n xs i le at lt) $ split ! $
        rewrite ! 0 (λ (k : ℕ). ‵ (froom (τ E) b k)) (place_is s o i) refl $ done !

    pub value_in : (y : X E) (v : Val) → H.at full_share (τ E) b (i * s + o) v ∗ ⟦ E.row.own_val y (v ∷ []) ⟧ ∗ ⟦ besides E b o n xs i ⟧ ⊢ ⟦ all o n (take i xs ++ y ∷ []) ⟧
    value_in y v = qed 𝓛 (‵ (fat full_share (τ E) b (i * s + o) v) ∷ ‵ (E.row.own_val y (v ∷ [])) ∷ ‵ (besides E b o n xs i) ∷ []) ∵
        use2 𝓛 (‵ (one y (i * s + o))) (el_in E 𝓛 b y (i * s + o) v) $
        rewrite ! 0 (λ (k : ℕ). ‵ (one y k)) (sym (place_is s o i)) refl $ by ! (puts o n xs i y at lt)
