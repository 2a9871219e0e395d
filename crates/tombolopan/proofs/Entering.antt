-- Items that are entered in an array, and the next step of a trace.
use Rattle.std.proofs.Common.{◌≡◌, ℕ, suc, ◌+◌, ◌<◌, ◌≤◌, List, [], ◌∷◌, ◌++◌, length, drop, get_or, set, true, false, ◌&&◌, not, None, is_none, if◌then◌else◌, refl, sym, ap, ◌∙◌, arith}
use Rattle.std.proofs.lemmas.List.{take_all, append_assoc, length_push, length-set}
use Rattle.std.proofs.Math.Seq.{drop-cons, set-append_seam}
use Rattle.mte_tags.specs.Memory.{Memory}
use Rattle.a64_registers.specs.declared.registers.Regs.{Regs}
use Rattle.a64_step.specs.Steps.{step_of}
use Rattle.tombolopan.specs.Traces.{held, Holds, trace_of, after_step}
use Rattle.tombolopan.specs.declared.trace_arrays.TracedAccess.{TracedAccess}
use Rattle.tombolopan.specs.declared.trace_arrays.TracedInstruction.{TracedInstruction}
use Rattle.tombolopan.specs.declared.trace_request.TraceRequest.{TraceRequest}

held_short : {A : Type 0} (xs old : List A) → length xs ≤ length old → held xs old ≡ xs ++ drop (length xs) old
held_short xs old h = ap (λ t. t ++ drop (length xs) old) (take_all (length old) xs h)

-- what is entered after items that an array holds
pub set_held : {A : Type 0} (xs old : List A) (v : A) → length xs < length old → set (held xs old) (length xs) v ≡ held (xs ++ v ∷ []) old
set_held xs old v h =
    let n = length xs in
    let more : suc n ≡ length (xs ++ v ∷ []) = omega (arith, length_push xs v) in
    ap (λ l. set l n v) (held_short xs old (omega (arith, h)))
    ∙ ap (λ t. set (xs ++ t) n v) (drop-cons old n v h)
    ∙ set-append_seam xs (get_or old n v) (drop (suc n) old) v
    ∙ sym (append_assoc xs (v ∷ []) (drop (suc n) old))
    ∙ ap (λ k. (xs ++ v ∷ []) ++ drop k old) more
    ∙ sym (held_short (xs ++ v ∷ []) old (omega (arith, h, more)))

-- an array holds what is entered after the items that it held
pub holds_more : {A : Type 0} (xs old now : List A) (count : ℕ) (v : A) → count < length old → Holds xs old now count
    → Holds (xs ++ v ∷ []) old (set now count v) (count + 1)
holds_more xs old now count v room h =
    let same : count ≡ length xs = h.counted (omega (arith, room)) in
    let some : length xs < length old = omega (arith, room, same) in record {
      list = ap (λ l. set l count v) h.list ∙ ap (λ k. set (held xs old) k v) same ∙ set_held xs old v some;
      counted = λ p. ap (λ k. k + 1) same ∙ sym (length_push xs v);
      within = omega (arith, room);
      same = length-set now count v ∙ h.same;
    }

-- a trace that goes on makes a step more
pub trace_next : (n : ℕ) (q : TraceRequest) (r : Regs) (m : Memory) → (trace_of n q r m).outcome ≡ None → (trace_of n q r m).reached ≡ false
    → trace_of (n + 1) q r m ≡ after_step q n (step_of (trace_of n q r m).regs (trace_of n q r m).memory) (trace_of n q r m)
unfolding trace_of
trace_next n q r m o e =
    let t = trace_of n q r m in
    let next : n + 1 ≡ suc n = omega arith in
    let goes : (is_none t.outcome && not t.reached) ≡ true = ap (λ x. is_none x && not t.reached) o ∙ ap (λ y. true && not y) e in
    ap (λ k. trace_of k q r m) next
    ∙ ap (λ b. if b then after_step q n (step_of t.regs t.memory) t else t) goes

pub trace_none : (q : TraceRequest) (r : Regs) (m : Memory) → trace_of 0 q r m ≡ record { regs = r; memory = m; outcome = None; reached = false; instructions = []; accesses = [] }
unfolding trace_of
trace_none q r m = refl

-- an array holds what nothing was entered in
pub holds_none : {A : Type 0} (old : List A) → Holds [] old old 0
holds_none old = record {
  list = sym (held_short [] old (omega arith));
  counted = λ p. refl;
  within = omega arith;
  same = refl;
}

-- nothing is entered of no steps
pub holds_start : (q : TraceRequest) (r : Regs) (m : Memory) (old : List TracedInstruction) → Holds (trace_of 0 q r m).instructions old old 0
unfolding trace_of
holds_start q r m old = holds_none old

pub holds_no_access : (q : TraceRequest) (r : Regs) (m : Memory) (old : List TracedAccess) → Holds (trace_of 0 q r m).accesses old old 0
unfolding trace_of
holds_no_access q r m old = holds_none old
