-- `allocate` takes memory for absent frames, and keeps the right to free it. Assumes `Logic`.
use Rattle.mte_arena.proofs.Steps.{arith, ftrue, flft, fact, tables, usize, yes, lone, uint_vals, uint_Tells, owns, Ptr, block_ptr, ShrRef, shr_vals, shr_Tells, plain, nothing, heard, owned, Stays, stay_dropped, walk_of, says, ends_at, Goes-dropped, named, w64, Val, vstruct, vcons, vnil, alloc_all, pass_all, free_all, look_at, get, get_in, sets, sets_last, env, ‵, raw, ◌⊛◌, later, at_ret, ◌$◌, ◌∵◌, !, qed, move, keep, skip, use0, use1, use2, use3, split, join, fsplit, fjoin, flt_i, await, suffices, frame, done, whole, agg, enter, of_opd, lit, bin, stop, fld, and_then, no_more, first, exec, returns, proved, lit<, ℕ, ◌*◌, ◌^◌, ◌<◌, List, [], ◌∷◌, length, replicate, None, refl, sym, subst, word-Good}
use contract.BorrowLft.{◌⊑◌}
use base.Fml.{Incl-trans}
use denote.Builtin.{RefOf}
use denote.Laws.{Is}
use denote.Param.{layout, param, bounded}
use denote.RattleType.{RattleType}
use denote.Struct.Declared as Declared
use denote.Struct.Owning.{shape}
use denote.Struct.Struct.{Struct, Struct-Makes}
use denote.Struct.Tuple.{Tuple}
use denote.Triple.Call.{calls_at}
use denote.Triple.Clauses.{Ended}
use denote.Triple.Table.{framed}
use mathlib.Core.Bool.{true, false}
use mir.MapTy.{inst_fn}
use mir.Syntax.{Args, Fn, Ty, ty_array, a_type, dcons, dnil}
use prog.Wp.{Wp, after_seq, at_return}
use types.ByLocal.{get_tag, lands_as}
use types.Kit.{Post as After, any_q}
use types.Match.{live, vrt, in_variant}
use types.Run.{switches_on}
use Rattle.core.specs.contracts.alloc.AllocError as AE
use Rattle.core.specs.contracts.result.Result as RS
use Rattle.core.proofs.alloc.Calls.{Al, Answer-typed, Takes, at_takes, Answered, Takes-goes, Takes-gives, answers}
use Rattle.core.proofs.alloc.Shapes.{after, head, arm_body}
use Rattle.std.specs.Prelude.{Ok, Err}
use Rattle.std.proofs.lemmas.List.{length-replicate}
use Rattle.std_alloc.proofs.RawLayout.{as_written}
use Rattle.std_alloc.proofs.RcSteps.{first_Good}
use Rattle.std_alloc.proofs.ResultValues.{ok_of, err_of}
use Rattle.mte_arena.specs.Ownership.{Block, frames_owned}
use Rattle.mte_arena.specs.contracts.region.FreeingRight as right
use Rattle.mte_arena.specs.contracts.region.Region.{the_type as region_type, the_row as R}
use Rattle.mte_arena.specs.contracts.region.RegionStart.{the_row as S}
use Rattle.mte_arena.proofs.Memory.{absent_frames, long_lit}
use Rattle.mte_arena.proofs.Values.{mark, start_val, frames_ty, frames_size, frames_align, start_made, mark_made, three_made}
use Rattle.mte_arena.specs.contracts.region.allocate as f
use Rattle.mte_arena.proofs.region.allocate.Statement.{statement}
use Rattle.mte_arena.proofs.region.allocate.Code as code

module _ (Z : Al) where
  abbrev args : Args
  args = bounded (a_type ∷ []) (Z.row, tt) (dcons Z.d (dcons Z.drops dnil))

  abbrev function : Fn
  function = inst_fn args code.function

  abbrev P : RattleType
  P = param 0 Z.row

  abbrev T : RattleType
  T = right.the_row P Z.g

  abbrev Three : RattleType
  Three = Tuple (S ∷ R ∷ T ∷ [])

  abbrev ended : Ended
  ended = f.ended Z.row Z.g Z.d Z.drops

  abbrev stayed : Stays ended.signature.params ended.kept
  stayed = (stay_dropped (RefOf (0 ∷ []) tt (plain (λ _. P)) (λ _. tt)) yes, (stay_dropped (plain (λ _. usize)) yes, tt))

  abbrev en : (ℕ → ℕ) → List (Ty × ℕ)
  en = env function.locals

pub allocate_spec : {M : Type 1} → statement M
allocate_spec 𝓤 𝓛 𝓜 𝓡 wired W LW g d dd met md =
    let Z : Al = record { row = W; laws = LW; g = g; d = d; drops = dd } in
    let c = f.clauses W g d dd 𝓛 𝓜.mem 𝓡.returns in let Wk = walk_of 𝓛 (ended Z) (stayed Z) c in let 𝓣 = tables 𝓤 𝓛.H 𝓜 𝓡 𝓡.env in
    let Call = Takes Z 𝓛 𝓜.mem 𝓡.returns in
    proved 𝓛 (ended Z) (stayed Z) c 𝓜 𝓡 (Goes-dropped 𝓛 2 (RefOf (0 ∷ []) tt (plain (λ _. P Z)) (λ _. tt)) yes (λ κs x w. refl), (Goes-dropped 𝓛 2 (plain (λ _. usize)) yes (λ κs x w. refl), tt))
    (f.Key.name (args Z)) (function Z) (code.unfolded 𝓤 𝓛.H 𝓜 𝓡 wired (W, tt) d dd)
    (λ κs. (shr_vals, (uint_vals w64, tt))) (λ κs. (shr_Tells (named 0) κs.0 (P Z), (uint_Tells w64, tt)))
    (λ κs qs bounds a _ are.
    let κ = κs.0 in let q = qs.0 in let h = a.0.now in let rb = a.0.ref_ptr.0 in let ro = a.0.ref_ptr.1 in let count = a.1.0 in
    let y : Wk.Ghost = ((κs, qs, bounds, a, (shr_vals a.0, (uint_vals w64 count, tt))), tt) in
    qed 𝓛 (((‵ (flft κ q) ⊛ (‵ (flft κs.1.0 qs.1.0) ⊛ ‵ ftrue)) ⊛ ‵ (owns (ShrRef (named 0) κ (P Z) ∷ usize ∷ []) a y.0.4)) ∷ (raw (fact 𝓤 (κs.1.0 ⊑ W.lives)) ⊛ raw (fact 𝓤 (count * 4224 < 2 ^ 63))) ∷ []) ∵
    split ! $ split ! $ move ! (3 ∷ []) $ split ! $ heard ! _ (λ alive. heard ! _ (λ asked. move ! (2 ∷ []) $ fsplit ! $ keep ! (0 ∷ 2 ∷ 3 ∷ []) $ fsplit ! $ skip ! $
    -- [a `&` to the allocator; the token; that of the allocator's lifetime]
    let small : count * 4224 < 2 ^ 63 = omega (arith, asked) in let fits : count * 4224 < 2 ^ 64 = omega (arith, asked) in
    enter ! _ _ _ _ _ $ alloc_all ! (λ l. pass_all ! refl ((tt, tt), ((tt, record { fits = are.1.0.1 }), tt)) $
    sets ! (bin ! (get ! refl) (long_lit ! (record { fits = lit< tt })) (record { fits = fits })) refl (tt, record { fits = fits }) $
    let then : (ℕ → ℕ) → After 𝓤 𝓛.H = λ l. any_q (after_seq 𝓤 𝓛.H (Wp 𝓤 𝓛.H 𝓣.C 𝓣.Λ (en Z l) (after 3 (function Z).body) (at_return 𝓤 𝓛.H (en Z l) (Wk.post y))) (at_return 𝓤 𝓛.H (en Z l) (Wk.post y))) in
    let asks : Call.Ghost = at_takes Z 𝓛 𝓜.mem 𝓡.returns κ q (rb, ro) h (count * 4224) 1 (frames_ty count) in
    use2 𝓛 (raw (Call.pre asks)) (Takes-goes Z 𝓛 𝓜.mem 𝓡.returns κ q (rb, ro) h (Incl-trans bounds.0 alive) (count * 4224) 1 (frames_ty count) (frames_size count fits) (frames_align count) fits (lit< tt)) $
    calls_at ! (framed 𝓤 𝓛.H 𝓜 𝓣) Call (met.allocate dd) asks (and_then ! (get ! refl) (and_then ! (get ! refl) (and_then ! (lit ! tt) (no_more !)))) (λ v.
    use1 𝓛 (later (raw (Answered Z 𝓛 𝓜.mem 𝓡.returns h (frames_ty count) v) ⊛ ‵ (flft κ q))) (Takes-gives Z 𝓛 𝓜.mem 𝓡.returns κ q (rb, ro) h (count * 4224) 1 (frames_ty count) v) $ await ! tt $ split ! $
    answers Z ! 𝓜.mem 𝓡.returns h (frames_ty count) v
    (λ b o e.
    let p : Ptr = block_ptr b o in let start : S.Denot = record { pointer = p } in
    let region : R.Denot = record { mark = record {}; start = p; blocks = replicate count None } in
    let may : (T Z).Denot = record { mark = record {}; start = p; count = count; alloc = h } in
    let three : Val = vstruct (vcons (start_val p) (vcons mark (vcons mark vnil))) in let made : (Three Z).Denot = (start, region, may) in
    let typed = first_Good (layout (Three Z)) three (tt, ((tt, tt), ((tt, tt), ((tt, tt), tt)))) in
    lands_as ! e refl (Answer-typed true b o) $ first ! $ switches_on ! (get_tag ! (vrt ! refl (fld ! refl (stop !))) (whole !)) $ exec ! 𝓣.C 𝓣.Λ (en Z l) (arm_body 0 (head (after 2 (function Z).body))) (then l) $
    sets ! (of_opd ! (get_in ! (vrt ! refl (fld ! refl (stop !))) (in_variant ! 0 0 refl refl (whole !)))) refl (tt, tt) $
    sets ! (agg ! (and_then ! (get ! refl) (no_more !))) refl (word-Good [] p) $
    sets ! (agg ! (no_more !)) refl (tt, tt) $ sets ! (agg ! (and_then ! (get ! refl) (no_more !))) refl (tt, (tt, tt)) $
    sets ! (agg ! (no_more !)) refl (tt, tt) $ sets ! (agg ! (and_then ! (get ! refl) (no_more !))) refl (tt, (tt, tt)) $
    sets ! (agg ! (and_then ! (get ! refl) (and_then ! (get ! refl) (and_then ! (get ! refl) (no_more !))))) refl (tt, ((tt, tt), ((tt, tt), ((tt, tt), tt)))) $
    sets_last ! (agg ! (and_then ! (lit ! tt) (and_then ! (get ! refl) (no_more !)))) refl typed $
    exec ! 𝓣.C 𝓣.Λ (en Z l) (after 3 (function Z).body) (at_ret (en Z l) (Wk.post y)) $ sets ! (of_opd ! (get ! refl)) refl typed $
    -- [the room; the token by which it is freed; the lifetimes' tokens]
    as_written ! (ty_array (lone Block.mir) count) b o $ use1 𝓛 (‵ (frames_owned b o region.blocks)) (absent_frames 𝓛 b count o) $
    flt_i ! (length region.blocks * 4224) (2 ^ 63) (subst (λ n. n * 4224 < 2 ^ 63) (sym (length-replicate count None)) small) $ fjoin ! $
    use0 𝓛 (‵ ((Struct (shape region_type)).own_val (tt, tt) (mark ∷ []))) (mark_made 𝓛) $ fjoin ! $ move ! (1 ∷ []) $
    use0 𝓛 (‵ ((Struct (shape region_type)).own_val (tt, tt) (mark ∷ []))) (mark_made 𝓛) $ fjoin ! $
    use0 𝓛 (‵ (S.own_val start (start_val p ∷ []))) (start_made 𝓛 p) $ move ! (0 ∷ 2 ∷ 1 ∷ []) $
    use3 𝓛 (‵ ((Three Z).own_val made (three ∷ []))) (three_made 𝓛 S R (T Z) start region may (start_val p) mark mark) $
    use1 𝓛 (‵ ((RS.the_row (Three Z) AE.the_row).own_val (Ok made) (live 0 (vcons three vnil) ∷ []))) (ok_of 𝓛 (Three Z) AE.the_row made three) $
    returns ! (look_at ! 0 refl) $ free_all ! refl $ keep ! (0 ∷ 1 ∷ 2 ∷ []) $
    suffices ! _ (ends_at 𝓛 (ended Z) (stayed Z) c y (live 0 (vcons three vnil)) (Ok made) (tt, (tt, tt)) (tt, (tt, tt))) $ says ! (refl, refl, refl, refl, refl) $
    move ! (1 ∷ 2 ∷ []) $ join ! $ frame ! $ nothing ! $ nothing ! $ fjoin ! $ nothing ! $ fjoin ! $ done !)
    (λ e.
    let refusal : RattleType = Struct (Declared.shape AE.the_type) in let none : Val = live 1 (vcons (vstruct vnil) vnil) in
    lands_as ! e refl (Answer-typed false 0 0) $ first ! $ switches_on ! (get_tag ! (vrt ! refl (fld ! refl (stop !))) (whole !)) $ exec ! 𝓣.C 𝓣.Λ (en Z l) (arm_body 1 (head (after 2 (function Z).body))) (then l) $
    sets ! (of_opd ! (get_in ! (vrt ! refl (fld ! refl (stop !))) (in_variant ! 1 0 refl refl (whole !)))) refl (tt, tt) $
    sets_last ! (agg ! (and_then ! (lit ! tt) (and_then ! (get ! refl) (no_more !)))) refl (tt, (record { fits = lit< tt }, (tt, tt))) $
    exec ! 𝓣.C 𝓣.Λ (en Z l) (after 3 (function Z).body) (at_ret (en Z l) (Wk.post y)) $ sets ! (of_opd ! (get ! refl)) refl (tt, (record { fits = lit< tt }, (tt, tt))) $
    owned ! refusal (Is refusal) (Struct-Makes 𝓛 (Declared.shape AE.the_type) tt) tt (vstruct vnil ∷ []) (tt, (refl, tt)) $
    use1 𝓛 (‵ ((RS.the_row (Three Z) AE.the_row).own_val (Err (record {})) (none ∷ []))) (err_of 𝓛 (Three Z) AE.the_row (record {}) (vstruct vnil)) $
    returns ! (look_at ! 0 refl) $ free_all ! refl $ keep ! (0 ∷ 1 ∷ 2 ∷ []) $
    suffices ! _ (ends_at 𝓛 (ended Z) (stayed Z) c y none (Err (record {})) (tt, (tt, tt)) (tt, (tt, tt))) $ says ! tt $
    move ! (1 ∷ 2 ∷ []) $ join ! $ frame ! $ nothing ! $ nothing ! $ fjoin ! $ nothing ! $ fjoin ! $ done !))))))
