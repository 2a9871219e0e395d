-- `block` shows a frame's bytes through a `&`. Assumes `Logic`.
use Rattle.mte_arena.proofs.Steps.{arith, full_share, ftrue, fat, flft, never, id⊢, fact, tables, usize, yes, layout, uint_vals, uint_Tells, owns, Ptr, in_a_block, ShrRef, shr_vals, shr_Tells, plain, hide, unhide, slice_val, nothing, heard, Stays, stay_dropped, walk_of, ends_at, Goes-dropped, named, w64, Val, alloc_all, pass_all, free_all, look_at, get, get_in, sets, sets_last, take_at, give_at, env, ‵, raw, ◌⊛◌, at_ret, ◌$◌, ◌∵◌, !, qed, move, keep, skip, use1, split, join, rewrite, fsplit, fjoin, feq_l, feq_i, flt_l, flt_i, suffices, frame, done, whole, sub, agg, enter, of_opd, bin, stop, fld, and_then, no_more, first, blocks, exec, returns, proved, lit<, ◌≡◌, ℕ, ◌+◌, ◌*◌, ◌^◌, ◌<◌, List, [], ◌∷◌, length, get_or, Option, Some, None, refl, sym, ap, ◌∙◌, word-Good}
use denote.Builtin.{RefOf}
use Rattle.core.proofs.mem.Facts.{says_two}
use Rattle.mte_arena.specs.Ownership.{frame_shown, region_shown}
use Rattle.mte_arena.specs.contracts.region.Region.{the_row as R}
use Rattle.mte_arena.specs.contracts.region.RegionStart.{the_row as S}
use Rattle.mte_arena.proofs.region.RegionStart.TheLaws.{the_told as start_told}
use Rattle.mte_arena.proofs.Memory.{frame_seen, long_lit}
use Rattle.mte_arena.proofs.Frames.{within_of}
use Rattle.mte_arena.specs.contracts.region.Region.block as f
use Rattle.mte_arena.proofs.region.Region.block.Statement.{statement}
use Rattle.mte_arena.proofs.region.Region.block.Code as code

abbrev stayed : Stays f.ended.signature.params f.ended.kept
stayed = (stay_dropped _ yes, (stay_dropped _ yes, (stay_dropped _ yes, tt)))

pub block_spec : {M : Type 1} → statement M
block_spec 𝓤 𝓛 𝓜 𝓡 wired =
    let c = f.clauses 𝓛 𝓜.mem 𝓡.returns in let W = walk_of 𝓛 f.ended stayed c in let 𝓣 = tables 𝓤 𝓛.H 𝓜 𝓡 𝓡.env in
    proved 𝓛 f.ended stayed c 𝓜 𝓡 (Goes-dropped 𝓛 1 (RefOf (0 ∷ []) tt (plain (λ _. R)) (λ _. tt)) yes (λ κs x w. refl), (Goes-dropped 𝓛 1 (plain (λ _. S)) yes (λ κs x w. refl), (Goes-dropped 𝓛 1 (plain (λ _. usize)) yes (λ κs x w. refl), tt)))
    f.Key.name code.function (code.unfolded 𝓤 𝓛.H 𝓜 𝓡 wired)
    (λ κs. (shr_vals, ((λ s. start_told.val s ∷ []), (uint_vals w64, tt))))
    (λ κs. (shr_Tells (named 0) κs.0 R, (start_told.tells, (uint_Tells w64, tt))))
    (λ κs qs bounds a _ are.
    let κ = κs.0 in let q = qs.0 in let d = a.0.now in let rb = a.0.ref_ptr.0 in let ro = a.0.ref_ptr.1 in let start = a.1.0 in let k = a.1.1.0 in
    let y : W.Ghost = ((κs, qs, bounds, a, (shr_vals a.0, (start_told.val start ∷ [], (uint_vals w64 k, tt)))), tt) in
    qed 𝓛 (((‵ (flft κ q) ⊛ ‵ ftrue) ⊛ ‵ (owns (ShrRef (named 0) κ R ∷ S ∷ usize ∷ []) a y.0.4)) ∷ raw (fact 𝓤 ((start.pointer ≡ d.start) × ((xs : List ℕ) × (get_or d.blocks k None ≡ Some xs)))) ∷ []) ∵
    split ! $ split ! $ move ! (3 ∷ []) $ heard ! _ (λ asked. move ! (2 ∷ []) $ fsplit ! $ keep ! (0 ∷ 2 ∷ []) $ fsplit ! $ skip ! $
    let xs = asked.1.0 in let present = asked.1.1 in
    -- [what self shows; the token]
    enter ! _ _ _ _ _ $ alloc_all ! (λ l. pass_all ! refl ((tt, tt), (word-Good [] start.pointer, ((tt, record { fits = are.1.1.0.1 }), tt))) $
    unhide ! $ fsplit ! $ skip ! $ in_a_block ! d.start (λ p. region_shown p d.blocks κ) (id⊢ 𝓤 (never 𝓤)) (λ b o e. fsplit ! $ flt_l ! (λ small.
    let here = k * 4224 + o in let in_row = within_of d.blocks k xs present in let far : k * 4224 < 2 ^ 64 = omega (arith, small, in_row) in
    take_at ! 2 $ rewrite ! 0 (λ (p : Ptr). ‵ (fat full_share (layout S) (l 2) 0 (start_told.val (record { pointer = p })))) (asked.0 ∙ e) refl $ give_at ! 2 $
    use1 𝓛 (‵ (frame_shown b here (get_or d.blocks k None) κ)) (frame_seen 𝓛 b κ d.blocks k o here in_row refl) $
    rewrite ! 0 (λ (c : Option (List ℕ)). ‵ (frame_shown b here c κ)) present refl $ fsplit ! $ feq_l ! (λ long. hide ! $
    -- [a `&` to each byte; the token]
    first ! $ blocks ! $ sets ! (bin ! (get ! refl) (long_lit ! (record { fits = lit< tt })) (record { fits = far })) refl (tt, record { fits = far }) $
    sets ! (bin ! (get_in ! (fld ! refl (stop !)) (sub ! 0 refl (whole !))) (get ! refl) tt) refl (tt, tt) $
    sets_last ! (agg ! (and_then ! (get ! refl) (and_then ! (long_lit ! (record { fits = lit< tt })) (no_more !)))) refl (tt, (tt, (record { fits = lit< tt }, tt))) $
    exec ! 𝓣.C 𝓣.Λ (env code.Mir.locals l) code.Mir.t-2 (at_ret _ (W.post y)) $ sets ! (of_opd ! (get ! refl)) refl (tt, (tt, (record { fits = lit< tt }, tt))) $
    flt_i ! (length xs * 1) (2 ^ 63) (omega (arith, long)) $ flt_i ! (length xs) (2 ^ 64) (omega (arith, long)) $ fjoin ! $
    feq_i ! (List Val) (slice_val (b, here) 4224 ∷ []) (slice_val (b, here) (length xs) ∷ []) (ap (λ n. slice_val (b, here) n ∷ []) (sym long)) $ fjoin ! $ fjoin ! $
    returns ! (look_at ! 0 refl) $ free_all ! refl $ keep ! (1 ∷ 0 ∷ []) $
    suffices ! _ (ends_at 𝓛 f.ended stayed c y (slice_val (b, here) 4224) (record { ref_ptr = (b, here); now = xs }) (tt, (tt, (tt, tt))) (tt, (tt, (tt, tt)))) $ says_two ! (present, long) $
    nothing ! $ move ! (1 ∷ 0 ∷ []) $ join ! $ frame ! $ nothing ! $ nothing ! $ fjoin ! $ nothing ! $ fjoin ! $ nothing ! $ fjoin ! $ done !)))))
    )
