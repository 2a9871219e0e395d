-- `loose` tests the pointer, which owns a box where it is not null.
use Rattle.std.proofs.Common.{◌≡◌, List, [], ◌∷◌, ◌++◌, refl, sym, subst, lit<}
use mir.Val.{Val, vptr, vcons, vnil}
use base.Logic.{SProp, ent, emp, id⊢}
use base.Fml.{ftrue}
use prog.Wp.{WpFn}
use types.Kit.{‵, raw, ◌⊛◌, at_ret, ◌$◌, ◌∵◌, !, qed, by, move, keep, split, fsplit, fjoin, rewrite, suffices, use0, use1}
use types.Run.{stop, fld, lit, of_opd, bin, no_more, and_then, first, branches, exec, returns, enter}
use types.ByLocal.{alloc_all, pass_all, free_all, look_at, get, get_in, sets, sets_last, env}
use types.Part.{agg, sub, whole}
use types.Match.{live}
use contract.Monad.{fact, fact_i}
use contract.Running.{tables}
use denote.Exit.{yes}
use denote.RattleType.{RattleType, owns}
use denote.RawPtr.{Ptr, block_ptr, null_ptr, tests_null}
use denote.Param.{layout}
use denote.Signature.{plain, type_at}
use denote.Steps.{nothing}
use denote.Triple.Walked.{Stays, stay_dropped, walk_of, Goes-dropped}
use Rattle.std.specs.Prelude.{Option, None, Some, option_map}
use Rattle.std.specs.Box.Ownership.{box_owns}
use Rattle.std.specs.contracts.alloc.Global as heap
use Rattle.std.proofs.alloc.Global.TheLaws as heap_laws
use Rattle.std.specs.contracts.impls.GlobalAllocator.TheImpl.{ghosts}
use Rattle.std.proofs.VecSteps.Shapes.{after}
use Rattle.std.proofs.option.Made.{Some-of, none_of}
use Rattle.std.proofs.ResultValues.{and_tt}
use Rattle.std.proofs.cell.Inside.{Good, one}
use Rattle.std.proofs.raw_atomic.Walks.{proved_at, leaves}
use Rattle.tenant_snapshot.proofs.Handles.{word, handle_out, either_held}
use Rattle.tenant_snapshot.proofs.LooseBoxes.{both, LooseBox, loose_good, loose_in}
use Rattle.tenant_snapshot.specs.contracts.tenant.SnapshotTenant as machine
use Rattle.tenant_snapshot.specs.contracts.fuzz_handle.FuzzHandle as handle
use Rattle.tenant_snapshot.specs.contracts.fuzz_handle.FuzzHandle.loose.{ended, clauses}
use Rattle.tenant_snapshot.specs.contracts.fuzz_handle.FuzzHandle.loose.Key.{name as #self}
use Rattle.tenant_snapshot.proofs.fuzz_handle.FuzzHandle.loose.Statement.{statement}
use Rattle.tenant_snapshot.proofs.fuzz_handle.FuzzHandle.loose.Code as code

abbrev Lr : RattleType
Lr = LooseBox machine.the_row heap.the_row heap_laws.the_row_laws ghosts

abbrev hs : Stays ended.signature.params ended.kept
hs = (stay_dropped (plain (λ _. handle.the_row)) yes, (stay_dropped (plain (λ _. heap.the_row)) yes, tt))

pub loose_spec : {M : Type 1} → statement M
loose_spec 𝓤 𝓛 𝓜 𝓡 wired =
    let H = 𝓛.H in let 𝓣 = tables 𝓤 H 𝓜 𝓡 𝓡.env in let c = clauses 𝓛 𝓜.mem 𝓡.returns in
    proved_at 𝓛 ended hs c 𝓜 𝓡 (Goes-dropped 𝓛 0 (plain (λ _. handle.the_row)) yes (λ κs x f. refl), (Goes-dropped 𝓛 0 (plain (λ _. heap.the_row)) yes (λ κs x f. refl), tt)) #self code.function (code.unfolded 𝓤 H 𝓜 𝓡 wired) (λ z are.
    let d = z.0.3.0 in let a = z.0.3.1.0 in let Post : Val → SProp 𝓤 = (walk_of 𝓛 ended hs c).post z in let Run : List Val → SProp 𝓤 = λ ws. WpFn 𝓤 H 𝓣.C 𝓣.Λ code.function ws Post in
    let R = machine.the_row in let Z = heap.the_row in let LZ = heap_laws.the_row_laws in let Out : RattleType = type_at ended.signature.result tt in let Ran : Option Lr.Denot → Type 0 = λ r. option_map (λ l. l.value) r ≡ d.value in
    let h = one (layout Z) z.0.4.1.0 ((LZ.lawful 𝓛).typed a z.0.4.1.0 are.1.0) in
    qed 𝓛 ((‵ ftrue ⊛ ‵ (owns (handle.the_row ∷ Z ∷ []) z.0.3 z.0.4)) ∷ ‵ ftrue ∷ []) ∵ split ! $ move ! (1 ∷ []) $ fsplit ! $ handle_out ! d z.0.4.0 (λ ws.
    move ! (1 ∷ []) $ fsplit ! $ rewrite ! 0 (λ (us : List Val). ‵ (Z.own_val a us)) h.1 refl $
    suffices ! (Run (word d.machine ∷ h.0 ∷ [])) (subst (λ (us : List Val). ent 𝓤 (Run (word d.machine ∷ h.0 ∷ [])) (Run us)) (sym (λ i. ws i ++ (h.1 i ++ []))) (id⊢ 𝓤 (Run (word d.machine ∷ h.0 ∷ [])))) $
    move ! (2 ∷ []) $ either_held ! d.machine d.value
    (λ is no. suffices ! (Run (word null_ptr ∷ h.0 ∷ [])) (subst (λ (p : Ptr). ent 𝓤 (Run (word null_ptr ∷ h.0 ∷ [])) (Run (word p ∷ h.0 ∷ []))) (sym is) (id⊢ 𝓤 (Run (word null_ptr ∷ h.0 ∷ [])))) $
    enter ! 𝓣.C 𝓣.Λ code.function (word null_ptr ∷ h.0 ∷ []) Post $ alloc_all ! (λ l. pass_all ! refl ((tt, (record { fits = lit< tt }, tt)), (h.2, tt)) $ let Ev = env code.function.locals l in
    sets ! (of_opd ! (get_in ! (fld ! refl (stop !)) (sub ! 0 refl (whole !)))) refl (tt, record { fits = lit< tt }) $
    sets ! (bin ! (get ! refl) (lit ! tt) tt) refl (tt, tt) $ first ! $ branches ! (get ! refl)
    (λ _. sets_last ! (agg ! (and_then ! (lit ! tt) (no_more !))) refl (tt, (record { fits = lit< tt }, tt)) $
    exec ! 𝓣.C 𝓣.Λ Ev (after 3 code.function.body) (at_ret Ev Post) $ sets ! (of_opd ! (get ! refl)) refl (tt, (record { fits = lit< tt }, tt)) $
    returns ! (look_at ! 0 refl) $ free_all ! refl $
    use0 𝓛 (‵ (Out.own_val None (live 0 vnil ∷ []))) (none_of 𝓛 Lr) $ use0 𝓛 (raw (fact 𝓤 (Ran None))) (fact_i 𝓤 (Ran None) (emp 𝓤) (sym no)) $ nothing ! $ nothing ! $ fjoin ! $ nothing ! $ fjoin ! $ nothing ! $
    keep ! (0 ∷ 1 ∷ 3 ∷ 2 ∷ []) $ by ! (leaves 𝓛 ended hs c z (live 0 vnil) None (tt, (tt, tt)) (tt, (tt, tt))))
    (λ wrong. absurd wrong)))
    (λ b o x is so may. let made : Val = both (vptr b o) h.0 in let typed = loose_good R Z LZ ghosts b o h.0 h.2 in let v : Val = live 1 (vcons made vnil) in let l : Lr.Denot = record { at = block_ptr b o; alloc = a; value = x } in
    let good : Good (layout Out) v = (and_tt _ typed.0, (record { fits = lit< tt }, (typed.1, tt))) in
    suffices ! (Run (word (block_ptr b o) ∷ h.0 ∷ [])) (subst (λ (p : Ptr). ent 𝓤 (Run (word (block_ptr b o) ∷ h.0 ∷ [])) (Run (word p ∷ h.0 ∷ []))) (sym is) (id⊢ 𝓤 (Run (word (block_ptr b o) ∷ h.0 ∷ [])))) $
    enter ! 𝓣.C 𝓣.Λ code.function (word (block_ptr b o) ∷ h.0 ∷ []) Post $ alloc_all ! (λ k. pass_all ! refl ((tt, (tt, tt)), (h.2, tt)) $ let Ev = env code.function.locals k in
    sets ! (of_opd ! (get_in ! (fld ! refl (stop !)) (sub ! 0 refl (whole !)))) refl (tt, tt) $
    sets ! (bin ! (get ! refl) (lit ! tt) (tests_null (block_ptr b o) may)) refl (tt, tt) $ first ! $ branches ! (get ! refl) (λ wrong. absurd wrong)
    (λ _. sets ! (of_opd ! (get ! refl)) refl (tt, tt) $ sets ! (agg ! (and_then ! (get ! refl) (and_then ! (get ! refl) (no_more !)))) refl typed $
    sets_last ! (agg ! (and_then ! (lit ! tt) (and_then ! (get ! refl) (no_more !)))) refl good $
    exec ! 𝓣.C 𝓣.Λ Ev (after 3 code.function.body) (at_ret Ev Post) $ sets ! (of_opd ! (get ! refl)) refl good $
    returns ! (look_at ! 0 refl) $ free_all ! refl $
    use1 𝓛 (‵ (box_owns (ghosts.dealloc_token a) R (block_ptr b o) x)) (id⊢ 𝓤 _) $ loose_in R Z LZ ghosts ! b o h.0 a x $
    use1 𝓛 (‵ (Out.own_val (Some l) (v ∷ []))) (Some-of 𝓛 Lr l made) $ use0 𝓛 (raw (fact 𝓤 (Ran (Some l)))) (fact_i 𝓤 (Ran (Some l)) (emp 𝓤) (sym so)) $ nothing ! $ nothing ! $ fjoin ! $ nothing ! $ fjoin ! $ nothing ! $
    keep ! (0 ∷ 1 ∷ 3 ∷ 2 ∷ []) $ by ! (leaves 𝓛 ended hs c z v (Some l) (tt, (tt, tt)) (tt, (tt, tt))))))))
