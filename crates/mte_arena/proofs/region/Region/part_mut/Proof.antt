-- `part_mut` lends some of a frame's bytes, and the region follows them. Assumes `Logic`.
use Rattle.mte_arena.proofs.Steps.{arith, full_share, ftrue, fat, flft, never, id⊢, fact, tables, Array, u8, usize, yes, follows, lends_Elements, mem, layout, uint_vals, uint_Tells, owns, Ptr, in_a_block, MutRef, mut_vals, mut_Tells, plain, MutSlice, slice_val, nothing, opens, heard, Stays, stay_dropped, walk_of, ends_at, Goes-dropped, Goes-spent_ref, named, w64, GName, alloc_all, pass_all, free_all, look_at, get, get_in, sets, sets_last, take_at, give_at, env, ‵, raw, ◌⊛◌, some, given, later, at_ret, ◌$◌, ◌∵◌, !, qed, move, keep, skip, use1, split, split3, join, group, rewrite, fsplit, fsplit3, fjoin, flt_l, pick, learn, await, suffices, frame, done, sem, whole, sub, agg, enter, of_opd, bin, stop, fld, and_then, no_more, first, blocks, exec, returns, cells, proved, lit<, ◌≡◌, ℕ, ◌+◌, ◌*◌, ◌^◌, ◌<◌, ◌≤◌, List, [], ◌∷◌, length, take, drop, get_or, Option, Some, None, refl, sym, ap, ◌∙◌, word-Good}
use Rattle.core.proofs.mem.Facts.{says_two}
use Rattle.mte_arena.specs.Blocks.{block_or}
use Rattle.mte_arena.specs.Ownership.{frame_owned, region_owned}
use Rattle.mte_arena.specs.contracts.region.Region.{the_row as R}
use Rattle.mte_arena.specs.contracts.region.RegionStart.{the_row as S}
use Rattle.mte_arena.proofs.region.RegionStart.TheLaws.{the_told as start_told}
use Rattle.mte_arena.proofs.Memory.{others, around, block_bytes, frame_out, part_out, long_lit}
use Rattle.mte_arena.proofs.Parts.{length-part}
use Rattle.mte_arena.proofs.Frames.{within_of}
use Rattle.mte_arena.specs.contracts.region.Region.part_mut as f
use Rattle.mte_arena.proofs.region.Region.part_mut.Statement.{statement}
use Rattle.mte_arena.proofs.region.Region.part_mut.Code as code
use Rattle.mte_arena.proofs.LentParts.{written, at, place, rest, back}

abbrev stayed : Stays f.ended.signature.params f.ended.kept
stayed = (stay_dropped _ _, (stay_dropped _ yes, (stay_dropped _ yes, (stay_dropped _ yes, (stay_dropped _ yes, tt)))))

pub part_mut_spec : {M : Type 1} → statement M
part_mut_spec 𝓤 𝓛 𝓜 𝓡 wired =
    let c = f.clauses 𝓛 𝓜.mem 𝓡.returns in let W = walk_of 𝓛 f.ended stayed c in let 𝓣 = tables 𝓤 𝓛.H 𝓜 𝓡 𝓡.env in
    let plainly = Goes-dropped 𝓛 1 (plain (λ _. usize)) yes (λ κs x w. refl) in
    proved 𝓛 f.ended stayed c 𝓜 𝓡 (Goes-spent_ref 𝓛 1 (0 ∷ []) tt (plain (λ _. R)), (Goes-dropped 𝓛 1 (plain (λ _. S)) yes (λ κs x w. refl), (plainly, (plainly, (plainly, tt)))))
    f.Key.name code.function (code.unfolded 𝓤 𝓛.H 𝓜 𝓡 wired)
    (λ κs. (mut_vals, ((λ s. start_told.val s ∷ []), (uint_vals w64, (uint_vals w64, (uint_vals w64, tt))))))
    (λ κs. (mut_Tells (named 0) κs.0 R, (start_told.tells, (uint_Tells w64, (uint_Tells w64, (uint_Tells w64, tt))))))
    (λ κs qs bounds a _ are.
    let κ = κs.0 in let q = qs.0 in let d = a.0.now in let γ = a.0.ghost_name in let rb = a.0.ref_ptr.0 in let ro = a.0.ref_ptr.1 in
    let start = a.1.0 in let k = a.1.1.0 in let from = a.1.1.1.0 in let count = a.1.1.1.1.0 in
    let y : W.Ghost = ((κs, qs, bounds, a, (mut_vals a.0, (start_told.val start ∷ [], (uint_vals w64 k, (uint_vals w64 from, (uint_vals w64 count, tt)))))), tt) in
    qed 𝓛 (((‵ (flft κ q) ⊛ ‵ ftrue) ⊛ ‵ (owns (MutRef (named 0) κ R ∷ S ∷ usize ∷ usize ∷ usize ∷ []) a y.0.4)) ∷ raw (fact 𝓤 ((start.pointer ≡ d.start) × ((xs : List ℕ) × (get_or d.blocks k None ≡ Some xs)) × (from + count ≤ 4224))) ∷ []) ∵
    split ! $ split ! $ move ! (3 ∷ []) $ heard ! _ (λ asked. move ! (2 ∷ []) $ fsplit ! $ keep ! (0 ∷ 2 ∷ []) $ fsplit3 ! $ skip ! $
    let xs = asked.1.0 in let present = asked.1.1 in let part = take count (drop from xs) in
    -- [the observation and the borrow of self; the token]
    enter ! _ _ _ _ _ $ alloc_all ! (λ l. pass_all ! refl ((tt, tt), (word-Good [] start.pointer, ((tt, record { fits = are.1.1.0.1 }), ((tt, record { fits = are.1.1.1.0.1 }), ((tt, record { fits = are.1.1.1.1.0.1 }), tt))))) $
    opens ! tt R {h = d} rb ro (λ us. move ! (1 ∷ []) $ fsplit ! $ move ! (1 ∷ []) $
    in_a_block ! d.start (λ p. region_owned p d.blocks) (id⊢ 𝓤 (never 𝓤)) (λ b o e. fsplit ! $ flt_l ! (λ small.
    let here = at 𝓛 d k from count xs us rb ro b o in let there = place 𝓛 d k from count xs us rb ro b o in
    let in_row = within_of d.blocks k xs present in
    take_at ! 2 $ rewrite ! 0 (λ (p : Ptr). ‵ (fat full_share (layout S) (l 2) 0 (start_told.val (record { pointer = p })))) (asked.0 ∙ e) refl $ give_at ! 2 $
    use1 𝓛 (‵ (frame_owned b here (get_or d.blocks k None)) ⊛ ‵ (others b o d.blocks k)) (frame_out 𝓛 b d.blocks k o here in_row refl) $ split ! $
    rewrite ! 0 (λ (c : Option (List ℕ)). ‵ (frame_owned b here c)) present refl $ use1 𝓛 (given (length xs ≡ 4224) (‵ (cells (mem u8) xs b here))) (block_bytes 𝓛 b xs here) $ learn ! (λ long.
    let inside : from + count ≤ length xs = omega (arith, long, asked.2) in let part_long = length-part xs from count inside in
    let far : k * 4224 < 2 ^ 64 = omega (arith, small, in_row) in let near : k * 4224 + from < 2 ^ 64 = omega (arith, small, in_row, asked.2) in
    use1 𝓛 (‵ (cells (mem u8) part b there) ⊛ ‵ (around 𝓛 b xs from count here there)) (part_out 𝓛 b xs from count here there inside (let e : there ≡ from + here = omega arith in e)) $ split ! $
    -- [the part; the rest of its frame; the other frames; the mark; the cell of self; the open borrow, in three entries]
    first ! $ blocks ! $ sets ! (bin ! (get ! refl) (long_lit ! (record { fits = lit< tt })) (record { fits = far })) refl (tt, record { fits = far }) $
    sets ! (bin ! (get ! refl) (get ! refl) (record { fits = near })) refl (tt, record { fits = near }) $
    sets ! (bin ! (get_in ! (fld ! refl (stop !)) (sub ! 0 refl (whole !))) (get ! refl) tt) refl (tt, tt) $
    sets_last ! (agg ! (and_then ! (get ! refl) (and_then ! (get ! refl) (no_more !)))) refl (tt, (tt, (record { fits = are.1.1.1.1.0.1 }, tt))) $
    exec ! 𝓣.C 𝓣.Λ (env code.Mir.locals l) code.Mir.t-2 (at_ret _ (W.post y)) $ sets ! (of_opd ! (get ! refl)) refl (tt, (tt, (record { fits = are.1.1.1.1.0.1 }, tt))) $
    move ! (3 ∷ 4 ∷ []) $ fjoin ! $ move ! (3 ∷ 0 ∷ []) $ fjoin ! $ move ! (2 ∷ 0 ∷ []) $ fjoin ! $ move ! (2 ∷ 3 ∷ 4 ∷ 1 ∷ 0 ∷ []) $ group ! 5 $
    use1 𝓛 (later (some (λ (δ : GName). ‵ ((MutSlice (named 0) κ u8).own_val (record { ref_ptr = (b, there); ghost_name = δ; now = part }) (slice_val (b, there) (length part) ∷ [])) ⊛ ‵ (flft κ q) ⊛ ‵ (follows R (Array u8 0) γ δ (written d k from count)))))
    (lends_Elements 𝓛 R u8 (written d k from count) (named 0) κ q rb ro b there γ part (omega (arith, part_long, asked.2), omega (arith, part_long, asked.2)) (sem 𝓛 (rest 𝓛 d k from count xs us rb ro b o)) (back 𝓛 d k from count xs us rb ro b o e present long asked.2 small) (R.coded.code d) (R.coded.code d)) $
    await ! tt $ pick ! (λ δ. split3 ! $
    rewrite ! 0 (λ (n : ℕ). ‵ ((MutSlice (named 0) κ u8).own_val (record { ref_ptr = (b, there); ghost_name = δ; now = part }) (slice_val (b, there) n ∷ []))) part_long refl $
    returns ! (look_at ! 0 refl) $ free_all ! refl $ keep ! (0 ∷ 1 ∷ 2 ∷ []) $
    suffices ! _ (ends_at 𝓛 f.ended stayed c y (slice_val (b, there) count) (record { ref_ptr = (b, there); ghost_name = δ; now = part }) (tt, (tt, (tt, (tt, (tt, tt))))) (tt, (tt, (tt, (tt, (tt, tt)))))) $
    nothing ! $ nothing ! $ fjoin ! $ nothing ! $ fjoin ! $ nothing ! $ fjoin ! $ nothing ! $ fjoin ! $ nothing ! $ fjoin ! $ join ! $ nothing ! $ move ! (2 ∷ 0 ∷ []) $ join ! $ join ! $ frame ! $
    says_two ! (ap (λ l. take count (drop from l)) (sym (ap block_or present)), part_long) $ done !))))))))
