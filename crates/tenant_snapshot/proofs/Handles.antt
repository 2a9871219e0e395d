-- The machine value of a handle. Assumes `Logic`.
use Rattle.std.proofs.Common.{◌≡◌, ℕ, List, [], ◌∷◌, ◌++◌, refl, subst}
use seplogic.Ra.Ura.{Ura}
use mir.Val.{Val, vstruct, of_list}
use mir.Raw.{raw as bare}
use base.Fraction.{full_share}
use base.Logic.{ent, guard, guard_i, via, fst∗, snd∗, never}
use contract.Monad.{fact_use}
use types.Logic.{Logic, sem}
use types.Kit.{Item, Goal, Seq, Step, step, ‵, ◌$◌, fsplit, fjoin, fpick, fpack, drop, feq_i, feq_l, given, use1, learn}
use denote.RattleType.{Valss}
use denote.Memory.{lone}
use denote.RawPtr.{Ptr, RawPtr, Testable, block_ptr, null_ptr, ptr_val, in_a_block, lies_at}
use denote.Steps.{nothing}
use denote.Struct.Struct.{within}
use denote.Struct.Owning.{shape}
use Rattle.tenant_snapshot.specs.contracts.fuzz_handle.FuzzHandle as handle
use Rattle.std.specs.Prelude.{Option, None, Some}
use Rattle.std.specs.Box.Ownership.{box_owns}
use Rattle.std.specs.contracts.impls.GlobalAllocator.TheImpl.{ghosts}
use Rattle.std.proofs.GlobalToken.{dealloc_token-Testable}
use Rattle.tenant_snapshot.specs.contracts.tenant.SnapshotTenant as machine
use Rattle.tenant_snapshot.specs.Held.{heap, held_at}

abbrev pub word : Ptr → Val
word p = vstruct (of_list (ptr_val p ∷ []))

module _ {M : Type 1} {𝓤 : Ura M} {𝓛 : Logic 𝓤} {K : Type 0} {Γ : List (Item 𝓤)} {G : Goal 𝓤 𝓛.H} where
  pub handle_in : K → (d : handle.the_row.Denot) → Step K 𝓛 (‵ (handle.the_row.own_val d (word d.machine ∷ [])) ∷ Γ) G (‵ (held_at d.machine d.value) ∷ Γ) G
  handle_in t d = step (λ s. nothing t $ feq_i t (List Val) (ptr_val d.machine ∷ []) (ptr_val d.machine ∷ []) refl $ fjoin t $ feq_i t (List Val) (word d.machine ∷ []) (word d.machine ∷ []) refl $ fjoin t $
      fpack t (Valss (RawPtr ∷ [])) (within (shape handle.the_type) (d.machine, tt) (word d.machine ∷ [])) (ptr_val d.machine ∷ [], tt) $ fjoin t $ s)

  pub handle_out : K → (d : handle.the_row.Denot) (vs : List Val) → (vs ≡ word d.machine ∷ [] → Seq K 𝓛 (‵ (held_at d.machine d.value) ∷ Γ) G) → Seq K 𝓛 (‵ (handle.the_row.own_val d vs) ∷ Γ) G
  handle_out t d vs k = fsplit t $ fpick t (λ vss. fsplit t $ feq_l t (λ ev. fsplit t $ feq_l t (λ ep. drop t $
      k (subst (λ (ps : List Val). vs ≡ vstruct (of_list (ps ++ [])) ∷ []) ep ev))))

module _ {M : Type 1} {𝓤 : Ura M} (𝓛 : Logic 𝓤) where
  -- the pointer of a box may be compared with null
  tested : (p : Ptr) (x : machine.the_row.Denot) → ent 𝓤 (sem 𝓛 (box_owns (ghosts.dealloc_token heap) machine.the_row p x)) (guard 𝓤 (Testable p) (sem 𝓛 (box_owns (ghosts.dealloc_token heap) machine.the_row p x)))
  tested p x = let B = sem 𝓛 (box_owns (ghosts.dealloc_token heap) machine.the_row p x) in
      fact_use 𝓤 (Testable p) (via 𝓤 _ (snd∗ 𝓤 (sem 𝓛 (lies_at machine.the_row full_share p x)) (sem 𝓛 (ghosts.dealloc_token heap (bare (lone machine.the_row.mir)) p))) (dealloc_token-Testable 𝓛 heap (bare (lone machine.the_row.mir)) p)) (guard_i 𝓤 (Testable p) B)

module _ {M : Type 1} {𝓤 : Ura M} {𝓛 : Logic 𝓤} {K : Type 0} {Γ : List (Item 𝓤)} {G : Goal 𝓤 𝓛.H} where
  pub either_held : K → (p : Ptr) (held : Option machine.the_row.Denot) → (p ≡ null_ptr → held ≡ None → Seq K 𝓛 Γ G)
      → ((b o : ℕ) (x : machine.the_row.Denot) → p ≡ block_ptr b o → held ≡ Some x → Testable (block_ptr b o) → Seq K 𝓛 (‵ (box_owns (ghosts.dealloc_token heap) machine.the_row (block_ptr b o) x) ∷ Γ) G)
      → Seq K 𝓛 (‵ (held_at p held) ∷ Γ) G
  either_held t p None none one = feq_l t (λ e. none e refl)
  either_held t p (Some x) none one = in_a_block t p (λ q. box_owns (ghosts.dealloc_token heap) machine.the_row q x) (fst∗ 𝓤 (never 𝓤) (sem 𝓛 (ghosts.dealloc_token heap (bare (lone machine.the_row.mir)) null_ptr))) (λ b o e.
      use1 𝓛 (given (Testable (block_ptr b o)) (‵ (box_owns (ghosts.dealloc_token heap) machine.the_row (block_ptr b o) x))) (tested 𝓛 (block_ptr b o) x) $ learn t (λ may. one b o x e refl may))
