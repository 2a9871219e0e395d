-- `deallocate` empties each frame and gives the memory back with the allocator's token. Assumes `Logic`.
use Rattle.mte_arena.proofs.Steps.{arith, full_share, ftrue, fat, flft, never, id⊢, fact, tables, usize, yes, no, lone, layout, uint_vals, uint_Tells, owns, Ptr, in_a_block, ShrRef, shr_vals, shr_Tells, plain, nothing, heard, Stays, stay_dropped, walk_of, ends_at, Goes-dropped, named, w64, Val, vunit, alloc_all, pass_all, free_all, look_at, get, get_in, sets, take_at, give_at, env, ‵, raw, ◌⊛◌, given, later, at_ret, ◌$◌, ◌∵◌, !, qed, move, keep, skip, use1, split, join, group, rewrite, fsplit, fjoin, feq_i, flt_l, learn, await, suffices, done, whole, sub, enter, of_opd, lit, unit_lit, bin, stop, fld, and_then, no_more, first, blocks, exec, returns, proved, lit<, ◌≡◌, ℕ, ◌*◌, ◌^◌, ◌<◌, List, [], ◌∷◌, length, refl, sym, ◌∙◌, subst, word-Good}
use contract.BorrowLft.{◌⊑◌}
use base.Fml.{Incl-trans, froom}
use denote.Builtin.{RefOf}
use denote.Param.{param, bounded}
use denote.Param.Laws.{Laws, param_laws}
use denote.RattleType.{RattleType}
use denote.Triple.Call.{calls_at_last}
use denote.Triple.Clauses.{Ended}
use denote.Triple.Table.{framed}
use lib.Dec.{T as Holds}
use mir.MapTy.{inst_fn}
use mir.Syntax.{Args, Fn, Ty, ty_array, ty_unit, a_type, dcons, dnil}
use mir.Val.{has_ty, WT}
use types.ByLocal.{lands_last}
use Rattle.core.proofs.alloc.Calls.{Al, token, Gives, at_gives, Gives-goes, Gives-Gives, Goes-blank}
use Rattle.core.proofs.alloc.Shapes.{after}
use Rattle.std_alloc.proofs.RawLayout.{as_raw}
use Rattle.mte_arena.specs.Ownership.{Block, region_owned, may_free}
use Rattle.mte_arena.specs.contracts.region.FreeingRight as right
use Rattle.mte_arena.specs.contracts.region.Region.{the_row as R}
use Rattle.mte_arena.specs.contracts.region.RegionStart.{the_row as S}
use Rattle.mte_arena.proofs.region.FreeingRight.TheLaws.{the_told as right_told}
use Rattle.mte_arena.proofs.region.Region.TheLaws.{the_told as region_told}
use Rattle.mte_arena.proofs.region.RegionStart.TheLaws.{the_told as start_told}
use Rattle.mte_arena.proofs.Memory.{frames_room, long_lit}
use Rattle.mte_arena.proofs.Values.{frames_ty, frames_size, frames_align}
use Rattle.mte_arena.specs.contracts.region.deallocate as f
use Rattle.mte_arena.proofs.region.deallocate.Statement.{statement}
use Rattle.mte_arena.proofs.region.deallocate.Code as code

module _ (Z : Al) where
  abbrev args : Args
  args = bounded (a_type ∷ []) (Z.row, tt) (dcons Z.d (dcons Z.drops dnil))

  abbrev function : Fn
  function = inst_fn args code.function

  abbrev en : (ℕ → ℕ) → List (Ty × ℕ)
  en = env function.locals

  abbrev P : RattleType
  P = param 0 Z.row

  abbrev T : RattleType
  T = right.the_row P Z.g

  abbrev laws : Laws P
  laws = param_laws 0 Z.row Z.laws

  abbrev ended : Ended
  ended = f.ended Z.row Z.g Z.d Z.drops

  abbrev stayed : Stays ended.signature.params ended.kept
  stayed = (stay_dropped _ yes, (stay_dropped _ yes, (stay_dropped _ yes, (stay_dropped _ yes, (stay_dropped _ no, tt)))))

  abbrev Asks : Z.row.Denot → S.Denot → ℕ → R.Denot → T.Denot → Type 0
  Asks h start count region may = (region.start ≡ start.pointer) × (length region.blocks ≡ count) × (may.start ≡ start.pointer) × (may.count ≡ count) × (may.alloc ≡ h)

pub deallocate_spec : {M : Type 1} → statement M
deallocate_spec 𝓤 𝓛 𝓜 𝓡 wired W LW g d dd met md =
    let Z : Al = record { row = W; laws = LW; g = g; d = d; drops = dd } in
    let c = f.clauses W g d dd 𝓛 𝓜.mem 𝓡.returns in let Wk = walk_of 𝓛 (ended Z) (stayed Z) c in let 𝓣 = tables 𝓤 𝓛.H 𝓜 𝓡 𝓡.env in
    let Call = Gives Z 𝓛 𝓜.mem 𝓡.returns in
    proved 𝓛 (ended Z) (stayed Z) c 𝓜 𝓡 (Goes-dropped 𝓛 2 (RefOf (0 ∷ []) tt (plain (λ _. P Z)) (λ _. tt)) yes (λ κs x w. refl), (Goes-dropped 𝓛 2 (plain (λ _. S)) yes (λ κs x w. refl), (Goes-dropped 𝓛 2 (plain (λ _. usize)) yes (λ κs x w. refl), (Goes-blank 𝓛 2 (plain (λ _. R)) yes (λ κs x w. tt), (Goes-blank 𝓛 2 (plain (λ _. T Z)) no (λ κs x w. tt), tt)))))
    (f.Key.name (args Z)) (function Z) (code.unfolded 𝓤 𝓛.H 𝓜 𝓡 wired (W, tt) d dd)
    (λ κs. (shr_vals, ((λ s. start_told.val s ∷ []), (uint_vals w64, ((λ r. region_told.val r ∷ []), ((λ t. (right_told (P Z) g (laws Z)).val t ∷ []), tt))))))
    (λ κs. (shr_Tells (named 0) κs.0 (P Z), (start_told.tells, (uint_Tells w64, (region_told.tells, ((right_told (P Z) g (laws Z)).tells, tt))))))
    (λ κs qs bounds a _ are.
    let κ = κs.0 in let q = qs.0 in let h = a.0.now in let rb = a.0.ref_ptr.0 in let ro = a.0.ref_ptr.1 in let start = a.1.0 in let count = a.1.1.0 in let region = a.1.1.1.0 in let may = a.1.1.1.1.0 in
    let y : Wk.Ghost = ((κs, qs, bounds, a, (shr_vals a.0, (start_told.val start ∷ [], (uint_vals w64 count, (region_told.val region ∷ [], ((right_told (P Z) g (laws Z)).val may ∷ [], tt)))))), tt) in
    qed 𝓛 (((‵ (flft κ q) ⊛ (‵ (flft κs.1.0 qs.1.0) ⊛ ‵ ftrue)) ⊛ ‵ (owns (ShrRef (named 0) κ (P Z) ∷ S ∷ usize ∷ R ∷ T Z ∷ []) a y.0.4)) ∷ (raw (fact 𝓤 (κs.1.0 ⊑ W.lives)) ⊛ raw (fact 𝓤 (Asks Z h start count region may))) ∷ []) ∵
    split ! $ split ! $ move ! (3 ∷ []) $ split ! $ heard ! _ (λ alive. heard ! _ (λ asked. move ! (2 ∷ []) $ fsplit ! $ move ! (1 ∷ []) $ fsplit ! $ skip ! $ fsplit ! $ skip ! $
    fsplit ! $ move ! (1 ∷ []) $ fsplit ! $ keep ! (0 ∷ 2 ∷ 3 ∷ 4 ∷ 5 ∷ []) $ fsplit ! $ skip ! $ move ! (1 ∷ []) $ fsplit ! $ skip ! $ move ! (2 ∷ []) $ fsplit ! $ skip ! $ move ! (1 ∷ 2 ∷ []) $
    -- [the frames' memory; the token by which it is freed; a `&` to the allocator; the token; that of the allocator's lifetime]
    enter ! _ _ _ _ _ $ alloc_all ! (λ l. pass_all ! refl ((tt, tt), (word-Good [] start.pointer, ((tt, record { fits = are.1.1.0.1 }), ((tt, (tt, tt)), ((tt, (tt, tt)), tt))))) $
    rewrite ! 0 (λ (p : Ptr). ‵ (region_owned p region.blocks)) asked.0 refl $
    in_a_block ! start.pointer (λ p. region_owned p region.blocks) (id⊢ 𝓤 (never 𝓤)) (λ b o e. fsplit ! $ flt_l ! (λ fit.
    let small : count * 4224 < 2 ^ 63 = subst (λ n. n * 4224 < 2 ^ 63) asked.1 fit in let fits : count * 4224 < 2 ^ 64 = omega (arith, small) in
    take_at ! 2 $ rewrite ! 0 (λ (p : Ptr). ‵ (fat full_share (layout S) (l 2) 0 (start_told.val (record { pointer = p })))) e refl $ give_at ! 2 $
    use1 𝓛 (‵ (froom (ty_array (lone Block.mir) (length region.blocks)) b o)) (frames_room 𝓛 b region.blocks o) $
    rewrite ! 0 (λ (n : ℕ). ‵ (froom (ty_array (lone Block.mir) n) b o)) asked.1 refl $ as_raw ! (ty_array (lone Block.mir) count) b o $
    rewrite ! 1 (λ (t : W.Denot × Ptr × ℕ). ‵ (may_free (token Z t.0) t.1 t.2)) (λ i. (asked.4 i, (asked.2 ∙ e) i, asked.3 i)) refl $
    first ! $ blocks ! $ sets ! (bin ! (get ! refl) (long_lit ! (record { fits = lit< tt })) (record { fits = fits })) refl (tt, record { fits = fits }) $
    let asks : Call.Ghost = at_gives Z 𝓛 𝓜.mem 𝓡.returns κ q (rb, ro) h b o (count * 4224) 1 (frames_ty count) in
    group ! 4 $ use1 𝓛 (raw (Call.pre asks)) (Gives-goes Z 𝓛 𝓜.mem 𝓡.returns κ q (rb, ro) h (Incl-trans bounds.0 alive) b o (count * 4224) 1 (frames_ty count) (frames_size count fits) (frames_align count) fits (lit< tt)) $
    calls_at_last ! (framed 𝓤 𝓛.H 𝓜 𝓣) Call (met.deallocate dd) asks (and_then ! (get ! refl) (and_then ! (get_in ! (fld ! refl (stop !)) (sub ! 0 refl (whole !))) (and_then ! (get ! refl) (and_then ! (lit ! tt) (no_more !))))) (λ v.
    use1 𝓛 (later (given (v ≡ vunit) (‵ (flft κ q)))) (Gives-Gives Z 𝓛 𝓜.mem 𝓡.returns κ q (rb, ro) h b o (count * 4224) 1 (frames_ty count) v) $ await ! tt $ learn ! (λ is_unit.
    lands_last ! refl (subst (λ (z : Val). Holds (has_ty ty_unit z) × WT z) (sym is_unit) (tt, tt)) $ exec ! 𝓣.C 𝓣.Λ (en Z l) (after 1 (function Z).body) (at_ret (en Z l) (Wk.post y)) $
    sets ! (of_opd ! (unit_lit !)) refl (tt, tt) $ returns ! (look_at ! 0 refl) $ free_all ! refl $ keep ! (0 ∷ 1 ∷ []) $
    suffices ! _ (ends_at 𝓛 (ended Z) (stayed Z) c y vunit tt (tt, (tt, (tt, (tt, (tt, tt))))) (tt, (tt, (tt, (tt, (tt, tt)))))) $
    join ! $ feq_i ! (List Val) (vunit ∷ []) (vunit ∷ []) refl $ nothing ! $ nothing ! $ fjoin ! $ nothing ! $ fjoin ! $ nothing ! $ fjoin ! $ nothing ! $ fjoin ! $ nothing ! $ fjoin ! $ join ! $
    move ! (1 ∷ 0 ∷ []) $ join ! $ nothing ! $ move ! (1 ∷ 0 ∷ []) $ done !))))))))
