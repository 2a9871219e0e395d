-- The flag of a tenant that is running is clear between calls: a slice ends where it is set.
use Rattle.std.proofs.Common.{◌≡◌, ℕ, ◌&&◌, ◌==◌, Bool, true, false, List, [], ◌∷◌, ◌++◌, map}
use Rattle.std.proofs.Common.{Option, Some, None, if◌then◌else◌, cond, refl, ap, ◌∙◌}
use Rattle.mte_tags.specs.Memory.{Memory, no_pages}
use Rattle.mte_tags.specs.declared.state.TagMode.{TagMode}
use Rattle.mte_tags.specs.declared.state.TagState.{TagState}
use Rattle.mte_tags.proofs.StateLaws.{state-with_new_pages, state-with-bytes-at}
use Rattle.mte_elf.specs.declared.image.Segment.{Segment}
use Rattle.mte_elf.specs.Loading.{with_segment, with_segments}
use Rattle.mte_tenant.specs.declared.refusal.Refusal.{Refusal}
use Rattle.mte_tenant.specs.Machines.{Machine, Start, runs, first_memory, start_of, after_attempts, after_slice_end}
use Rattle.mte_tenant.specs.Machines.{after_slice, stop_by_tag}
use Rattle.mte_tenant.specs.Ledger.{Call, Admit, Slice, Stop, call_refusal}
use Rattle.mte_sched.specs.Contents.{TenantState, Live, Gone, state_after_slice, state_after_stop, Tenant, Content}
use Rattle.mte_sched.specs.Contents.{ledger_of, tenant_after_slice, tenant_after_stop, after_admit, after_slice_of, after_stop_of}
use Rattle.mte_sched.specs.Contents.{after_call, after_call_cases, after_calls, empty, new_tenant}
use Rattle.mte_sched.specs.Flags.{HasClearFlag, IsClear, AreClear, FlagIsClear}

state-with_segments : (file : List ℕ) (m : Memory) (ss : List Segment) → (with_segments file m ss).state ≡ m.state
unfolding with_segments with_segment
state-with_segments file m [] = refl
state-with_segments file m (s ∷ more) =
    state-with_segments file (with_segment file m s) more ∙ state-with-bytes-at _ s.vaddr _ ∙ state-with_new_pages _ m _ _

start-clear : (image : List ℕ) (pages : ℕ) (mode : TagMode) → (first_memory image pages mode).state.pending ≡ false
unfolding first_memory no_pages
start-clear image pages mode =
    ap (λ (s : TagState). s.pending) (state-with_new_pages _ _ _ _ ∙ state-with_segments image (no_pages pages mode) _)

settled_by : (m : Machine) (r p : Bool) → runs m ≡ r → m.memory.state.pending ≡ p → HasClearFlag (cond (r && p) (stop_by_tag m) m)
settled_by m true true e f = λ h. cc
settled_by m true false e f = λ h. f
settled_by m false p e f = λ h. cc

after-slice-end-clear : (m : Machine) → HasClearFlag (after_slice_end m)
unfolding after_slice_end
after-slice-end-clear m =
    let z : Machine = record m { parts = record m.parts { left = 0 } } in
    settled_by z (runs z) z.memory.state.pending refl refl

-- ---- of one tenant

abbrev pub Clear : Tenant → Type 0
Clear t = IsClear t.held

after-slice-of-clear : (b : Bool) (n : ℕ) (h : TenantState) → IsClear h → IsClear (if b then state_after_slice n h else h)
unfolding after_slice
after-slice-of-clear true n (Live m) c = after-slice-end-clear (after_attempts n m)
after-slice-of-clear true n (Gone r) c = c
after-slice-of-clear false n h c = c

after-stop-of-clear : (b : Bool) (h : TenantState) → IsClear h → IsClear (if b then state_after_stop h else h)
after-stop-of-clear true (Live m) c = tt
after-stop-of-clear true (Gone r) c = c
after-stop-of-clear false h c = c

new-clear : (id : ℕ) (start : Start) → Clear (new_tenant id start)
unfolding start_of
new-clear id start = λ k. start-clear start.image start.terms.pages start.terms.mode

-- ---- of all

all-after-slice-of : (id n : ℕ) (ts : List Tenant) → AreClear ts → AreClear (map (tenant_after_slice id n) ts)
all-after-slice-of id n [] c = c
all-after-slice-of id n (t ∷ ts) c = (after-slice-of-clear (t.id == id) n t.held c.0, all-after-slice-of id n ts c.1)

all-after-stop-of : (id : ℕ) (ts : List Tenant) → AreClear ts → AreClear (map (tenant_after_stop id) ts)
all-after-stop-of id [] c = c
all-after-stop-of id (t ∷ ts) c = (after-stop-of-clear (t.id == id) t.held c.0, all-after-stop-of id ts c.1)

all-more : (ts : List Tenant) (t : Tenant) → AreClear ts → Clear t → AreClear (ts ++ t ∷ [])
all-more [] t c d = (d, tt)
all-more (u ∷ ts) t c d = (c.0, all-more ts t c.1 d)

call-clear : (c : Content) (e : Call) → AreClear c.tenants → AreClear (after_call c e).tenants
unfolding after_call after_admit after_slice_of after_stop_of
call-clear c (Admit id start) h = all-more c.tenants (new_tenant id start) h (new-clear id start)
call-clear c (Slice id n) h = all-after-slice-of id n c.tenants h
call-clear c (Stop id) h = all-after-stop-of id c.tenants h

by-clear : (r : Option Refusal) (c : Content) (e : Call) → AreClear c.tenants → AreClear (after_call_cases r c e).tenants
unfolding after_call
by-clear (Some r) c e h = h
by-clear None c e h = call-clear c e h

after-calls-clear : (calls : List Call) (c : Content) → AreClear c.tenants → AreClear (after_calls c calls).tenants
unfolding after_calls
after-calls-clear [] c h = h
after-calls-clear (e ∷ more) c h =
    after-calls-clear more (after_call_cases (call_refusal c.frames (ledger_of c) e) c e) (by-clear (call_refusal c.frames (ledger_of c) e) c e h)

pub flag_is_clear : FlagIsClear
flag_is_clear s = after-calls-clear s.calls (empty s.frames) tt
