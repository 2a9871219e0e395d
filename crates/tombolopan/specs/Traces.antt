-- A run that stops at some addresses, step by step, the instructions that it fetches, and the
-- accesses of those that complete.
use Rattle.std.specs.Prelude.{ℕ, zero, suc, ◌+◌, ◌^◌, ◌==◌, ◌&&◌, Bool, false, not, nat_le}
use Rattle.std.specs.Prelude.{List, [], ◌∷◌, ◌++◌, take, drop, length, is_none}
use Rattle.std.specs.Prelude.{Option, Some, None, if◌then◌else◌, ◌≡◌, ◌<◌, ◌≤◌, ◌⊎◌}
use Rattle.std.specs.List.{list_any}
use Rattle.std.specs.Result.{result_ok}
use Rattle.mte_tags.specs.Memory.{Memory}
use Rattle.mte_tags.specs.Accesses.{fetch_result}
use Rattle.a64_registers.specs.declared.registers.Regs.{Regs}
use Rattle.a64_step.specs.declared.outcome.Outcome.{Outcome}
use Rattle.a64_step.specs.declared.outcome.Outcome.TheVariants as outcome
use Rattle.a64_step.specs.Results.{Stepped}
use Rattle.a64_step.specs.Steps.{step_of, Ran}
use Rattle.tombolopan.specs.InstructionAccesses.{accesses_of_step}
use Rattle.tombolopan.specs.declared.trace_arrays.TracedAccess.{TracedAccess}
use Rattle.tombolopan.specs.declared.trace_arrays.TracedInstruction.{TracedInstruction}
use Rattle.tombolopan.specs.declared.trace_request.TraceRequest.{TraceRequest}
use Rattle.tombolopan.specs.declared.traced_run.TraceEnd.{TraceEnd}

-- Whether an instruction at an address is entered.
abbrev pub is_code : ℕ → ℕ → ℕ → Bool
is_code low high pc = nat_le low pc && nat_le pc high

-- Whether PC is one of the stops.
abbrev pub is_stop : List ℕ → ℕ → Bool
is_stop stops pc = list_any (λ a. a == pc) stops

-- The outcome that stopped a run, unless a step continued.
abbrev pub stopping : Outcome → Option Outcome
stopping outcome.Next = None
stopping other = Some other

-- An instruction as it is entered, where its range is asked for.
abbrev pub entered : TraceRequest → ℕ → ℕ → ℕ → List TracedInstruction
entered q k pc w =
    if is_code q.code_low q.code_high pc
    then record { step = k; pc = pc; word = w; unused = 0 } ∷ []
    else []

-- The entry of step k, by the word that it fetched: nothing where the fetch failed.
abbrev pub fetched : TraceRequest → ℕ → ℕ → Option ℕ → List TracedInstruction
fetched q k pc (Some w) = entered q k pc w
fetched q k pc None = []

-- The result of a number of steps: whether an outcome or a stop ended them, and what was entered.
pub record Trace : Type 0 where
  pub regs : Regs
  pub memory : Memory
  pub outcome : Option Outcome
  pub reached : Bool
  pub instructions : List TracedInstruction
  pub accesses : List TracedAccess

-- One more step, which is step k.
abbrev pub after_step : TraceRequest → ℕ → Stepped → Trace → Trace
after_step q k s t = record {
  regs = s.regs;
  memory = s.memory;
  outcome = stopping s.outcome;
  reached = is_none (stopping s.outcome) && is_stop q.stops.now s.regs.pc;
  instructions = t.instructions ++
      fetched q k t.regs.pc (result_ok (fetch_result t.memory t.regs.pc));
  accesses = t.accesses ++ accesses_of_step q k t.regs t.memory s;
}

-- One more step, unless the run has ended.
abbrev pub next_trace : TraceRequest → ℕ → Trace → Trace
next_trace q k t =
    if is_none t.outcome && not t.reached
    then after_step q k (step_of t.regs t.memory) t
    else t

-- The first n steps.
unfoldable pub trace_of : ℕ → TraceRequest → Regs → Memory → Trace
trace_of zero q r m = record {
  regs = r;
  memory = m;
  outcome = None;
  reached = false;
  instructions = [];
  accesses = [];
}
trace_of (suc n) q r m = next_trace q n (trace_of n q r m)

-- A trace that no stop has ended leaves what a run leaves, and is ended by what ends it.
pub record IsRun (t : Trace) (x : Ran) : Type 0 where
  pub regs : t.regs ≡ x.regs
  pub memory : t.memory ≡ x.memory
  pub outcome : t.outcome ≡ x.stop.outcome
  pub reached : t.reached ≡ false

-- An array after as many items as it holds were entered from its start on.
abbrev pub held : {A : Type 0} → List A → List A → List A
held items old = take (length old) items ++ drop (length items) old

-- A step more can be counted.
abbrev pub MayGoOn : TraceEnd → Type 0
MayGoOn e = e.steps + 1 < 2 ^ 64

-- An array that holds the items xs in front of what it held before; where it has no space, it holds
-- none and none is counted.
pub record Holds {A : Type 0} (xs old now : List A) (count : ℕ) : Type 0 where
  pub list : now ≡ held xs old
  pub counted : 0 < length old → count ≡ length xs
  pub within : count ≤ length old
  pub same : length now ≡ length old

-- The arrays of the caller.
pub record Arrays : Type 0 where
  pub instructions : List TracedInstruction
  pub accesses : List TracedAccess

abbrev pub arrays : List TracedInstruction → List TracedAccess → Arrays
arrays i a = record { instructions = i; accesses = a }

-- The entry of an access, if there is one.
abbrev pub listed : Option TracedAccess → List TracedAccess
listed None = []
listed (Some a) = a ∷ []

-- A traced run leaves what its first steps leave.
pub record IsTraced (q : TraceRequest) (r0 : Regs) (m0 : Memory) (old : Arrays) (e : TraceEnd)
    (r : Regs) (m : Memory) (now : Arrays) : Type 0 where
  pub regs : r ≡ (trace_of e.steps q r0 m0).regs
  pub memory : m ≡ (trace_of e.steps q r0 m0).memory
  pub outcome : e.outcome ≡ (trace_of e.steps q r0 m0).outcome
  pub reached : e.reached ≡ (trace_of e.steps q r0 m0).reached
  pub instructions :
      Holds (trace_of e.steps q r0 m0).instructions old.instructions now.instructions e.instructions
  pub accesses : Holds (trace_of e.steps q r0 m0).accesses old.accesses now.accesses e.accesses

-- An array in which something is entered has no space left.
abbrev pub HasNoRoom : ℕ → ℕ → Type 0
HasNoRoom count room = (0 < room) × (room ≤ count)

-- A run that stopped since an array is full has done nothing else that ends it, and one of the
-- arrays, which have capacity for these numbers of entries, is full.
pub record IsFull (e : TraceEnd) (instructions accesses : ℕ) : Type 0 where
  pub outcome : e.outcome ≡ None
  pub reached : e.reached ≡ false
  pub room : HasNoRoom e.instructions instructions ⊎ HasNoRoom e.accesses accesses
