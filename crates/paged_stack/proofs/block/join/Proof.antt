-- `join` makes the block whole again. Assumes `Logic`.
use Rattle.std.proofs.Common.{◌≡◌, ℕ, List, [], ◌∷◌, ◌++◌, refl, sym, subst, ◌∙◌}
use mir.Syntax.{Fn, Args, a_type, w64, dcons, dnil}
use mir.Val.{Val, vint}
use mir.MapTy.{inst_fn}
use base.Logic.{SProp, emp}
use base.Fml.{froom}
use prog.Wp.{WpFn}
use contract.BorrowLft.{◌⊑◌}
use contract.Monad.{fact, fact_i}
use contract.Running.{tables}
use types.Kit.{‵, raw, ◌⊛◌, prop, ◌$◌, ◌∵◌, !, qed, by, move, keep, drop, use0, use1, use3, split, rewrite, regoal, fpick, fsplit, fjoin}
use types.Part.{whole, sub, agg}
use types.Run.{stop, fld, of_opd, no_more, and_then, returns, enter}
use types.ByLocal.{alloc_all, pass_all, free_all, look_at, get, get_in, sets}
use denote.RattleType.{RattleType, owns}
use denote.RawPtr.{Ptr, block_ptr, room_for}
use denote.Param.{param, bounded}
use denote.Signature.{types_at}
use denote.Steps.{nothing, heard}
use denote.Triple.Entry.{alive}
use denote.Triple.Walked.{Stays, stay_dropped, walk_of, Goes-dropped}
use Rattle.std.proofs.alloc.Calls.{Goes-blank}
use Rattle.std.proofs.raw_atomic.Walks.{proved_at, leaves}
use Rattle.std.proofs.RcSteps.{word}
use Rattle.std.specs.Mem.{type_size}
use Rattle.std.specs.Align.{type_align}
use Rattle.paged_stack.proofs.Halves.Walks.{slot_at}
use Rattle.paged_stack.proofs.Halves.Values.{block_val, block_own, block_made, deed_val, deed_told}
use Rattle.paged_stack.proofs.Halves.Parts.{goes_together, as_words}
use Rattle.paged_stack.proofs.Memory.El.{El, R}
use Rattle.paged_stack.proofs.Memory.Room.{Room-had}
use Rattle.paged_stack.proofs.Items.Opens.{row_had}
use Rattle.paged_stack.proofs.Items.Places.{to_room}
use Rattle.paged_stack.specs.Rows.{items_type, row_bytes}
use Rattle.paged_stack.specs.Blocks.{words, IsCapacity, block_owns, deed_owns}
use Rattle.paged_stack.specs.contracts.block.Block as block
use Rattle.paged_stack.specs.contracts.block.join.{ended, clauses}
use Rattle.paged_stack.specs.contracts.block.join.Key.{name as #self}
use Rattle.paged_stack.proofs.block.join.Statement.{statement}
use Rattle.paged_stack.proofs.block.join.Code as compiled

pub join_spec : {M : Type 1} → statement M
join_spec 𝓤 𝓛 𝓜 𝓡 wired T N A LT LN LA g d dd met md =
    let H = 𝓛.H in
    let En₀ = ended T N A g d dd in
    let c₀ = clauses T N A g d dd 𝓛 𝓜.mem 𝓡.returns in
    let args : Args = bounded (a_type ∷ a_type ∷ a_type ∷ []) (T, (N, (A, tt))) (dcons d (dcons dd dnil)) in
    let fn : Fn = inst_fn args compiled.function in
    let hs : Stays En₀.signature.params En₀.kept = (stay_dropped (slot_at 0 En₀.signature.params) En₀.kept.0, (stay_dropped (slot_at 1 En₀.signature.params) En₀.kept.1.0, (stay_dropped (slot_at 2 En₀.signature.params) En₀.kept.1.1.0, (stay_dropped (slot_at 3 En₀.signature.params) En₀.kept.1.1.1.0, tt)))) in
    let C = (tables 𝓤 H 𝓜 𝓡 𝓡.env).C in
    let Λ = (tables 𝓤 H 𝓜 𝓡 𝓡.env).Λ in
    proved_at 𝓛 En₀ hs c₀ 𝓜 𝓡
    (Goes-blank 𝓛 3 (slot_at 0 En₀.signature.params) En₀.kept.0 (λ κs x f. tt), (Goes-blank 𝓛 3 (slot_at 1 En₀.signature.params) En₀.kept.1.0 (λ κs x f. tt), (Goes-blank 𝓛 3 (slot_at 2 En₀.signature.params) En₀.kept.1.1.0 (λ κs x f. tt), (Goes-dropped 𝓛 3 (slot_at 3 En₀.signature.params) En₀.kept.1.1.1.0 (λ κs x f. refl), tt))))
    (#self args) fn (compiled.unfolded 𝓤 H 𝓜 𝓡 wired (T, (N, (A, tt))) d dd) (λ z are.
    let Post : Val → SProp 𝓤 = (walk_of 𝓛 En₀ hs c₀).post z in
    let a = z.0.3 in
    let vss = z.0.4 in
    let E : El = record { row = T; laws = LT } in
    let Nr : RattleType = param 1 N in
    let Z : RattleType = param 2 A in
    let r = a.0 in let p = a.1.0 in let k = a.1.1.0 in let cap = a.1.1.1.0 in
    let t = g.dealloc_token k.alloc in
    let Placed : Type 0 = (k.row ≡ r.ptr) × (k.node ≡ p.ptr) in
    let Sized : Type 0 = (cap ≡ row_bytes (R E)) × (type_size Nr ≡ 32) × (type_align Nr ≡ 8) in
    let fits = r.fits in
    qed 𝓛 ((raw (alive 𝓛 En₀.signature z.0.0 z.0.1) ⊛ ‵ (owns (types_at En₀.signature.params z.0.0) a vss))
    ∷ (raw (fact 𝓤 (z.0.0.0 ⊑ T.lives)) ⊛ raw (fact 𝓤 (z.0.0.1.0 ⊑ N.lives)) ⊛ raw (fact 𝓤 (z.0.0.1.1.0 ⊑ A.lives)) ⊛ raw (fact 𝓤 Placed) ⊛ raw (fact 𝓤 Sized)) ∷ []) ∵
    move ! (1 ∷ []) $ split ! $ drop ! $ split ! $ drop ! $ split ! $ drop ! $ split ! $ heard ! Placed (λ placed. heard ! Sized (λ sized. split ! $ move ! (1 ∷ []) $
    fsplit ! $ row_had E ! r vss.0 (λ b o at told fit. move ! (1 ∷ []) $ fsplit ! $ Room-had Nr ! p vss.1.0 (λ pb po lies shown. move ! (1 ∷ []) $ fsplit ! $ fsplit ! $ drop ! $
    -- [the deed; the number; the room; the places; the tokens]
    rewrite ! 0 (λ (u : Ptr). ‵ (deed_owns t (R E) u k.node)) (placed.0 ∙ at) refl $ fpick ! (λ parted. move ! (3 ∷ 2 ∷ 0 ∷ 4 ∷ []) $
    use1 𝓛 (‵ (froom (items_type (R E) 1024) b o)) (to_room E 𝓛 b o 1024 r.items fits) $ move ! (1 ∷ []) $
    use1 𝓛 (‵ (froom (words 4) pb po)) (as_words 𝓛 Nr pb po sized.1 sized.2) $ rewrite ! 0 (λ (u : Ptr). ‵ (room_for (words 4) u)) (sym lies ∙ sym placed.1) refl $ move ! (1 ∷ 0 ∷ 2 ∷ []) $
    use3 𝓛 (‵ (block_owns t (block_ptr b o) (row_bytes (R E)))) (goes_together E 𝓛 t b o k.node parted.0) $ rewrite ! 0 (λ (u : ℕ). ‵ (block_owns t (block_ptr b o) u)) (sym sized.0) refl $ keep ! (0 ∷ 1 ∷ []) $
    regoal ! (λ (us : List Val). prop (WpFn 𝓤 H C Λ fn us Post)) (λ i. told i ++ (shown i ++ ((deed_told vss.1.1.0 are.1.1.0.0).0 i ++ (are.1.1.1.0.0 i ++ [])))) refl $
    enter ! C Λ fn (word (block_ptr b o) ∷ word (block_ptr pb po) ∷ deed_val ∷ vint w64 cap ∷ []) Post $
    alloc_all ! (λ l. pass_all ! refl ((tt, (tt, tt)), ((tt, (tt, tt)), ((tt, (tt, tt)), ((tt, record { fits = are.1.1.1.0.1 }), tt)))) $
    sets ! (of_opd ! (get_in ! (fld ! refl (stop !)) (sub ! 0 refl (whole !)))) refl (tt, tt) $
    sets ! (of_opd ! (get ! refl)) refl (tt, tt) $ sets ! (agg ! (no_more !)) refl (tt, tt) $
    sets ! (agg ! (and_then ! (get ! refl) (and_then ! (get ! refl) (and_then ! (get ! refl) (no_more !))))) refl (tt, (tt, (record { fits = are.1.1.1.0.1 }, (tt, tt)))) $
    returns ! (look_at ! 0 refl) $ free_all ! refl $ keep ! (0 ∷ 1 ∷ []) $
    let capable : IsCapacity cap = subst IsCapacity (sym sized.0) parted.1 in
    let x : (block.the_row Z g).Denot = record { start = block_ptr b o; capacity = cap; marker = record {}; alloc = k.alloc; fits = capable } in
    use0 𝓛 (‵ (block_own (block_ptr b o) cap (block_val (block_ptr b o) cap ∷ []))) (block_made 𝓛 (block_ptr b o) cap are.1.1.1.0.1) $ fjoin ! $
    let Told : Type 0 = k.alloc ≡ k.alloc in
    use0 𝓛 (raw (fact 𝓤 Told)) (fact_i 𝓤 Told (emp 𝓤) refl) $ nothing ! $ nothing ! $ fjoin ! $ nothing ! $ fjoin ! $ nothing ! $ fjoin ! $ nothing ! $ fjoin ! $ move ! (3 ∷ 0 ∷ 2 ∷ 1 ∷ []) $
    by ! (leaves 𝓛 En₀ hs c₀ z (block_val (block_ptr b o) cap) x (tt, (tt, (tt, (tt, tt)))) (tt, (tt, (tt, (tt, tt))))))))))))
