-- `split` takes the block apart. Assumes `Logic`.
use Rattle.std.proofs.Common.{◌≡◌, ℕ, ◌+◌, ◌^◌, ◌<◌, List, [], ◌∷◌, ◌++◌, refl, sym, ap, subst, ◌∙◌, arith, zero-le}
use mir.Syntax.{Fn, Args, a_type, dcons, dnil}
use mir.Val.{Val, vptr}
use mir.MapTy.{inst_fn}
use base.Logic.{SProp, never, emp, fst∗}
use base.Fml.{froom}
use prog.Wp.{Env, WpFn}
use contract.BorrowLft.{◌⊑◌}
use contract.Monad.{fact, fact_i}
use contract.Running.{tables}
use types.Logic.{sem}
use types.Kit.{‵, raw, ◌⊛◌, prop, at_ret, ◌$◌, ◌∵◌, !, qed, by, move, keep, drop, use0, use1, use3, split, split3, rewrite, regoal, fsplit, fjoin}
use types.Part.{whole, sub, agg}
use types.Run.{stop, fld, bin, of_opd, no_more, and_then, first, blocks, exec, returns, enter}
use types.ByLocal.{alloc_all, pass_all, free_all, look_at, get, get_in, sets, sets_last, is, env}
use denote.RattleType.{RattleType, owns}
use denote.RawPtr.{Ptr, block_ptr, null_ptr, in_a_block}
use denote.Param.{param, bounded}
use denote.Signature.{types_at}
use denote.Steps.{nothing, heard}
use denote.Struct.Tuple.{Tuple}
use denote.Triple.Entry.{alive}
use denote.Triple.Walked.{Stays, stay_dropped, walk_of}
use Rattle.std.proofs.alloc.Calls.{Goes-blank}
use Rattle.std.proofs.alloc.Shapes.{after}
use Rattle.std.proofs.raw_atomic.Walks.{proved_at, leaves}
use Rattle.std.proofs.RcSteps.{word}
use Rattle.std.specs.Mem.{type_size}
use Rattle.std.specs.Align.{type_align}
use Rattle.paged_stack.proofs.Halves.Walks.{slot_at}
use Rattle.paged_stack.proofs.Halves.Values.{block_val, block_told, deed_val, deed_own, deed_made}
use Rattle.paged_stack.proofs.Halves.Parts.{comes_apart, words_as}
use Rattle.paged_stack.proofs.Memory.El.{El, R}
use Rattle.paged_stack.proofs.Memory.Pairs.{triple_val, triple_of}
use Rattle.paged_stack.proofs.Memory.Room.{Room, place_ty, Room-made}
use Rattle.paged_stack.proofs.Items.Opens.{Sr, el_d, row_made}
use Rattle.paged_stack.specs.Rows.{items_type, row_bytes}
use Rattle.paged_stack.specs.Blocks.{IsCapacity, words, block_type, block_owns, deed_owns}
use Rattle.paged_stack.specs.contracts.block.Deed as deed
use Rattle.paged_stack.specs.contracts.block.split.{ended, clauses}
use Rattle.paged_stack.specs.contracts.block.split.Key.{name as #self}
use Rattle.paged_stack.proofs.block.split.Statement.{statement}
use Rattle.paged_stack.proofs.block.split.Code as compiled

pub split_spec : {M : Type 1} → statement M
split_spec 𝓤 𝓛 𝓜 𝓡 wired T N A LT LN LA g d dd met md =
    let H = 𝓛.H in
    let En₀ = ended T N A g d dd in
    let c₀ = clauses T N A g d dd 𝓛 𝓜.mem 𝓡.returns in
    let args : Args = bounded (a_type ∷ a_type ∷ a_type ∷ []) (T, (N, (A, tt))) (dcons d (dcons dd dnil)) in
    let fn : Fn = inst_fn args compiled.function in
    let hs : Stays En₀.signature.params En₀.kept = (stay_dropped (slot_at 0 En₀.signature.params) En₀.kept.0, tt) in
    let C = (tables 𝓤 H 𝓜 𝓡 𝓡.env).C in
    let Λ = (tables 𝓤 H 𝓜 𝓡 𝓡.env).Λ in
    proved_at 𝓛 En₀ hs c₀ 𝓜 𝓡 (Goes-blank 𝓛 3 (slot_at 0 En₀.signature.params) En₀.kept.0 (λ κs x f. tt), tt) (#self args) fn (compiled.unfolded 𝓤 H 𝓜 𝓡 wired (T, (N, (A, tt))) d dd) (λ z are.
    let Post : Val → SProp 𝓤 = (walk_of 𝓛 En₀ hs c₀).post z in
    let a = z.0.3 in
    let vss = z.0.4 in
    let E : El = record { row = T; laws = LT } in
    let Nr : RattleType = param 1 N in
    let Z : RattleType = param 2 A in
    let x = a.0 in
    let cap = x.capacity in
    let t = g.dealloc_token x.alloc in
    let told = block_told x.start cap vss.0 are.0.0 in
    let room = x.fits.1 in
    let Asked : Type 0 = (cap ≡ row_bytes (R E)) × (type_size Nr ≡ 32) × (type_align Nr ≡ 8) in
    qed 𝓛 ((raw (alive 𝓛 En₀.signature z.0.0 z.0.1) ⊛ ‵ (owns (types_at En₀.signature.params z.0.0) a vss))
    ∷ (raw (fact 𝓤 (z.0.0.0 ⊑ T.lives)) ⊛ raw (fact 𝓤 (z.0.0.1.0 ⊑ N.lives)) ⊛ raw (fact 𝓤 (z.0.0.1.1.0 ⊑ A.lives)) ⊛ raw (fact 𝓤 Asked)) ∷ []) ∵
    move ! (1 ∷ []) $ split ! $ drop ! $ split ! $ drop ! $ split ! $ drop ! $ heard ! Asked (λ asked. split ! $ move ! (1 ∷ []) $ fsplit ! $ fsplit ! $ drop ! $
    in_a_block ! x.start (λ r. block_owns t r cap) (fst∗ 𝓤 (never 𝓤) (sem 𝓛 (t (block_type cap) null_ptr))) (λ b o placed.
    let fit : row_bytes (R E) < 2 ^ 63 = omega (arith, asked.0) in
    let n : ℕ = o + cap in
    rewrite ! 0 (λ (u : ℕ). ‵ (block_owns t (block_ptr b o) u)) asked.0 refl $
    use1 𝓛 (‵ (froom (items_type (R E) 1024) b o) ⊛ ‵ (froom (words 4) b (o + row_bytes (R E))) ⊛ ‵ (deed_owns t (R E) (block_ptr b o) (block_ptr b (o + row_bytes (R E))))) (comes_apart E 𝓛 t b o (subst IsCapacity asked.0 x.fits)) $ split3 ! $
    rewrite ! 1 (λ (u : ℕ). ‵ (froom (words 4) b (o + u))) (sym asked.0) refl $ rewrite ! 2 (λ (u : ℕ). ‵ (deed_owns t (R E) (block_ptr b o) (block_ptr b (o + u)))) (sym asked.0) refl $
    regoal ! (λ (us : List Val). prop (WpFn 𝓤 H C Λ fn us Post)) (λ i. (told.0 ∙ ap (λ (r : Ptr). block_val r cap ∷ []) placed) i ++ []) refl $
    enter ! C Λ fn (block_val (block_ptr b o) cap ∷ []) Post $
    alloc_all ! (λ l. pass_all ! refl ((tt, (tt, (record { fits = told.1 }, (tt, tt)))), tt) $ let En : Env 𝓤 𝓛.H = env fn.locals l in
    sets ! (of_opd ! (get_in ! (fld ! refl (stop !)) (sub ! 0 refl (whole !)))) refl (tt, tt) $
    sets ! (of_opd ! (get_in ! (fld ! refl (stop !)) (sub ! 1 refl (whole !)))) refl (tt, record { fits = told.1 }) $
    sets ! (of_opd ! (get ! refl)) refl (tt, tt) $ sets ! (of_opd ! (get ! refl)) refl (tt, tt) $
    sets ! (agg ! (and_then ! (get ! refl) (no_more !))) refl (tt, (tt, tt)) $
    first ! $ blocks ! $ sets ! (of_opd ! (get ! refl)) refl (tt, tt) $ sets ! (of_opd ! (get ! refl)) refl (tt, record { fits = told.1 }) $
    sets_last ! (is ! (bin ! (get ! refl) (get ! refl) tt) (ap (vptr b) (omega arith))) refl (tt, tt) $ exec ! C Λ En (after 6 fn.body) (at_ret En Post) $
    sets ! (of_opd ! (get ! refl)) refl (tt, tt) $ sets ! (of_opd ! (get ! refl)) refl (tt, tt) $
    sets ! (agg ! (and_then ! (get ! refl) (no_more !))) refl (tt, (tt, tt)) $
    sets ! (agg ! (no_more !)) refl (tt, tt) $
    sets ! (of_opd ! (get ! refl)) refl (tt, (tt, tt)) $ sets ! (of_opd ! (get ! refl)) refl (tt, (tt, tt)) $ sets ! (of_opd ! (get ! refl)) refl (tt, tt) $
    sets ! (agg ! (and_then ! (get ! refl) (no_more !))) refl (tt, (tt, tt)) $
    sets ! (agg ! (and_then ! (get ! refl) (and_then ! (get ! refl) (and_then ! (get ! refl) (no_more !))))) refl (tt, ((tt, tt), ((tt, tt), ((tt, tt), tt)))) $
    returns ! (look_at ! 0 refl) $ free_all ! refl $ keep ! (0 ∷ 1 ∷ 2 ∷ 4 ∷ []) $
    -- [the row; the words; the deed; the tokens]
    let r : el_d E = record { ptr = block_ptr b o; items = []; fits = zero-le } in
    let p : (Room Nr).Denot = record { ptr = block_ptr b n } in
    let k : (deed.the_row (R E) Z g).Denot = record { marker = record {}; row = block_ptr b o; node = block_ptr b n; alloc = x.alloc } in
    row_made E ! r b o refl fit $ move ! (1 ∷ []) $
    use1 𝓛 (‵ (froom (place_ty Nr) b n)) (words_as 𝓛 Nr b n asked.1 asked.2) $ Room-made Nr ! b n $ move ! (2 ∷ []) $
    use0 𝓛 (‵ (deed_own (deed_val ∷ []))) (deed_made 𝓛 tt) $ fjoin ! $ move ! (2 ∷ 1 ∷ 0 ∷ []) $
    use3 𝓛 (‵ ((Tuple (Sr E ∷ Room Nr ∷ deed.the_row (R E) Z g ∷ [])).own_val (r, p, k) (triple_val (word (block_ptr b o)) (word (block_ptr b n)) deed_val ∷ [])))
    (triple_of 𝓛 (Sr E) (Room Nr) (deed.the_row (R E) Z g) r p k (word (block_ptr b o)) (word (block_ptr b n)) deed_val) $
    let Told : Type 0 = (r.items ≡ []) × (k.row ≡ r.ptr) × (k.node ≡ p.ptr) × (k.alloc ≡ x.alloc) in
    use0 𝓛 (raw (fact 𝓤 Told)) (fact_i 𝓤 Told (emp 𝓤) (refl, refl, refl, refl)) $ nothing ! $ nothing ! $ fjoin ! $ move ! (3 ∷ 0 ∷ 2 ∷ 1 ∷ []) $
    by ! (leaves 𝓛 En₀ hs c₀ z (triple_val (word (block_ptr b o)) (word (block_ptr b n)) deed_val) (r, p, k) (tt, tt) (tt, tt))))))
