-- `scrub` writes zeros over a frame, present or not. Assumes `Logic`.
use Rattle.mte_arena.proofs.Steps.{arith, full_share, ftrue, fat, flft, never, id⊢, fact, tables, usize, yes, layout, lone, uint_vals, uint_Tells, owns, Ptr, in_a_block, MutRef, mut_vals, mut_Tells, plain, nothing, opens, closes, heard, Stays, stay_dropped, stay_ref, walk_of, says, ends_at, Goes-dropped, Goes-ref, named, w64, Val, vptr, vunit, alloc_all, pass_all, free_all, look_at, get, get_in, through, sets, take_at, give_at, env, ‵, raw, ◌⊛◌, at_ret, ◌$◌, ◌∵◌, !, qed, move, keep, skip, use0, use1, use2, split, join, rewrite, fsplit, fsplit3, fjoin, fjoin3, feq_i, flt_l, flt_i, suffices, frame, done, whole, sub, rep, enter, of_opd, lit, unit_lit, bin, stop, fld, first, blocks, exec, returns, assigns_last, init, proved, lit<, ◌≡◌, ◌+◌, ◌*◌, ◌^◌, ◌<◌, List, [], ◌∷◌, length, get_or, slice_set, Some, None, refl, sym, ◌∙◌, subst, word-Good}
use base.Fml.{froom}
use borrow.Table.OneValue.{part_in as value_in}
use Rattle.std.proofs.lemmas.List.{length-set}
use Rattle.mte_arena.specs.Blocks.{zero_block}
use Rattle.mte_arena.specs.Ownership.{Block, frame_owned, frames_owned, region_owned}
use Rattle.mte_arena.specs.RegionLends.{with_blocks}
use Rattle.mte_arena.specs.declared.region.Region.{Region}
use Rattle.mte_arena.specs.contracts.region.Region.{the_row as R}
use Rattle.mte_arena.specs.contracts.region.RegionStart.{the_row as S}
use Rattle.mte_arena.proofs.region.RegionStart.TheLaws.{the_told as start_told}
use Rattle.mte_arena.proofs.Memory.{others, emptied, frame_out, frame_in, long_lit}
use Rattle.mte_arena.proofs.Zeros.{zeros, zeros_typed, zeros_owned}
use Rattle.mte_arena.specs.contracts.region.Region.scrub as f
use Rattle.mte_arena.proofs.region.Region.scrub.Statement.{statement}
use Rattle.mte_arena.proofs.region.Region.scrub.Code as code

abbrev stayed : Stays f.ended.signature.params f.ended.kept
stayed = (stay_ref (0 ∷ []) tt (plain (λ _. R)), (stay_dropped _ yes, (stay_dropped _ yes, tt)))

pub scrub_spec : {M : Type 1} → statement M
scrub_spec 𝓤 𝓛 𝓜 𝓡 wired =
    let c = f.clauses 𝓛 𝓜.mem 𝓡.returns in let W = walk_of 𝓛 f.ended stayed c in let 𝓣 = tables 𝓤 𝓛.H 𝓜 𝓡 𝓡.env in
    proved 𝓛 f.ended stayed c 𝓜 𝓡 (Goes-ref 𝓛 1 0 tt (plain (λ _. R)), (Goes-dropped 𝓛 1 (plain (λ _. S)) yes (λ κs x w. refl), (Goes-dropped 𝓛 1 (plain (λ _. usize)) yes (λ κs x w. refl), tt)))
    f.Key.name code.function (code.unfolded 𝓤 𝓛.H 𝓜 𝓡 wired)
    (λ κs. (mut_vals, ((λ s. start_told.val s ∷ []), (uint_vals w64, tt))))
    (λ κs. (mut_Tells (named 0) κs.0 R, (start_told.tells, (uint_Tells w64, tt))))
    (λ κs qs bounds a _ are.
    let κ = κs.0 in let q = qs.0 in let d = a.0.now in let rb = a.0.ref_ptr.0 in let ro = a.0.ref_ptr.1 in let start = a.1.0 in let k = a.1.1.0 in
    let y : W.Ghost = ((κs, qs, bounds, a, (mut_vals a.0, (start_told.val start ∷ [], (uint_vals w64 k, tt)))), tt) in
    let blocks_now = slice_set d.blocks k (Some zero_block) in let new : Region = with_blocks d blocks_now in
    qed 𝓛 (((‵ (flft κ q) ⊛ ‵ ftrue) ⊛ ‵ (owns (MutRef (named 0) κ R ∷ S ∷ usize ∷ []) a y.0.4)) ∷ raw (fact 𝓤 ((start.pointer ≡ d.start) × (k < length d.blocks))) ∷ []) ∵
    split ! $ split ! $ move ! (3 ∷ []) $ heard ! _ (λ asked. move ! (2 ∷ []) $ fsplit ! $ keep ! (0 ∷ 2 ∷ []) $ fsplit3 ! $ skip ! $
    -- [the observation and the borrow of self; the token]
    enter ! _ _ _ _ _ $ alloc_all ! (λ l. pass_all ! refl ((tt, tt), (word-Good [] start.pointer, ((tt, record { fits = are.1.1.0.1 }), tt))) $
    opens ! tt R {h = d} rb ro (λ us. move ! (1 ∷ []) $ fsplit ! $ move ! (1 ∷ []) $
    in_a_block ! d.start (λ p. region_owned p d.blocks) (id⊢ 𝓤 (never 𝓤)) (λ b o e. fsplit ! $ flt_l ! (λ small.
    let here = k * 4224 + o in let far : k * 4224 < 2 ^ 64 = omega (arith, small, asked.1) in
    take_at ! 2 $ rewrite ! 0 (λ (p : Ptr). ‵ (fat full_share (layout S) (l 2) 0 (start_told.val (record { pointer = p })))) (asked.0 ∙ e) refl $ give_at ! 2 $
    use1 𝓛 (‵ (frame_owned b here (get_or d.blocks k None)) ⊛ ‵ (others b o d.blocks k)) (frame_out 𝓛 b d.blocks k o here asked.1 refl) $ split ! $
    use1 𝓛 (‵ (froom (lone Block.mir) b here)) (emptied 𝓛 b here (get_or d.blocks k None)) $
    -- [the frame's room; the other frames; the mark; the cell of self; the open borrow, in three entries]
    first ! $ blocks ! $ sets ! (bin ! (get ! refl) (long_lit ! (record { fits = lit< tt })) (record { fits = far })) refl (tt, record { fits = far }) $
    sets ! (bin ! (get_in ! (fld ! refl (stop !)) (sub ! 0 refl (whole !))) (get ! refl) tt) refl (tt, tt) $ sets ! (of_opd ! (get ! refl)) refl (tt, tt) $
    sets ! (rep ! 4224 (lit ! tt)) refl zeros_typed $ assigns_last ! (of_opd ! (get ! refl)) (through ! refl (stop !)) (init ! 0 refl zeros_typed) $
    exec ! 𝓣.C 𝓣.Λ (env code.Mir.locals l) code.Mir.t-2 (at_ret _ (W.post y)) $ sets ! (of_opd ! (unit_lit !)) refl (tt, tt) $
    use0 𝓛 (‵ (Block.own_val zero_block (zeros ∷ []))) (zeros_owned 𝓛) $ move ! (1 ∷ 0 ∷ []) $
    use2 𝓛 (‵ (frame_owned b here (Some zero_block))) (value_in 𝓛 Block refl full_share zero_block b here zeros) $
    use2 𝓛 (‵ (frames_owned b o blocks_now)) (frame_in 𝓛 b d.blocks k o here (Some zero_block) asked.1 refl) $
    flt_i ! (length blocks_now * 4224) (2 ^ 63) (subst (λ n. n * 4224 < 2 ^ 63) (sym (length-set d.blocks k (Some zero_block))) small) $ fjoin ! $
    rewrite ! 0 (λ (p : Ptr). ‵ (region_owned p blocks_now)) (sym e) refl $ move ! (1 ∷ 0 ∷ []) $ fjoin ! $ move ! (1 ∷ 0 ∷ []) $ closes ! tt R new us rb ro $
    returns ! (look_at ! 0 refl) $ free_all ! refl $ keep ! (0 ∷ 1 ∷ 2 ∷ []) $
    suffices ! _ (ends_at 𝓛 f.ended stayed c y vunit tt (new, (tt, (tt, tt))) (tt, (tt, (tt, tt)))) $ says ! (refl, refl) $
    nothing ! $ move ! (3 ∷ 0 ∷ []) $ join ! $ frame ! $ feq_i ! (List Val) (vptr rb ro ∷ []) (vptr rb ro ∷ []) refl $ fjoin3 ! $
    nothing ! $ nothing ! $ fjoin ! $ nothing ! $ fjoin ! $ move ! (1 ∷ 0 ∷ []) $ fjoin ! $ frame ! $ feq_i ! (List Val) (vunit ∷ []) (vunit ∷ []) refl $ done !))))))
