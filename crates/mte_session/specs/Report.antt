-- A tenant's lines in the report.
use Rattle.std.specs.Prelude.{ℕ, Bool, true, false, List, [], ◌∷◌, ◌++◌, length, map}
use Rattle.std.specs.Prelude.{codes, decimal}
use Rattle.std.specs.List.{concat}
use Rattle.std.specs.Int.{to_be_bytes, w32, w64}
use Rattle.hex.specs.Hex.{encode_lower}
use Rattle.mte_tags.specs.FaultNames.{kind_name}
use Rattle.scudo_heap.specs.AbortNames.{abort_name}
use Rattle.scudo_heap.specs.Calls.{call_name, arguments_of}
use Rattle.mte_svc.specs.declared.record.Status.{Status}
use Rattle.mte_svc.specs.declared.record.Status.TheVariants.{Running, Exited, Faulted, Illegal}
use Rattle.mte_svc.specs.declared.record.Status.TheVariants.{Breakpoint, AsyncTag, Aborted, Stopped}
use Rattle.mte_svc.specs.declared.record.Record.{Record}
use Rattle.mte_svc.specs.declared.calls.AnsweredCall.{AnsweredCall}
use Rattle.mte_svc.specs.Calls.{Calls}

-- Parts in a row, and the end of the line.
abbrev pub line : List (List ℕ) → List ℕ
line parts = concat (parts ++ codes "\n" ∷ [])

-- Sixteen lower-case hexadecimal digits.
abbrev pub sixteen_digits : ℕ → List ℕ
sixteen_digits n = encode_lower (to_be_bytes w64 n)

-- A number of 32 bits in eight digits.
abbrev pub eight_digits : ℕ → List ℕ
eight_digits n = encode_lower (to_be_bytes w32 n)

-- The word for an access that writes or reads.
abbrev pub access_name : Bool → List ℕ
access_name true = codes "write"
access_name false = codes "read"

-- A tenant's status, in parts.
abbrev pub status_parts : Status → List (List ℕ)
status_parts Running = codes "running" ∷ []
status_parts (Exited n) = codes "exit " ∷ decimal n ∷ []
status_parts Stopped = codes "stopped" ∷ []
status_parts (Faulted f pc) =
    codes "fault " ∷ kind_name f.kind ∷ codes " " ∷ access_name f.write
    ∷ codes " addr 0x" ∷ sixteen_digits f.addr
    ∷ codes " ptr " ∷ decimal f.ptr_tag ∷ codes " mem " ∷ decimal f.mem_tag
    ∷ codes " pc 0x" ∷ sixteen_digits pc ∷ []
status_parts (Illegal w pc) =
    codes "illegal 0x" ∷ eight_digits w ∷ codes " pc 0x" ∷ sixteen_digits pc ∷ []
status_parts (Breakpoint n pc) =
    codes "break " ∷ decimal n ∷ codes " pc 0x" ∷ sixteen_digits pc ∷ []
status_parts (AsyncTag pc) = codes "async pc 0x" ∷ sixteen_digits pc ∷ []
status_parts (Aborted abort pointer pc) =
    codes "abort " ∷ abort_name abort
    ∷ codes " ptr 0x" ∷ sixteen_digits pointer ∷ codes " pc 0x" ∷ sixteen_digits pc ∷ []

-- How many bytes were written, and which, if any.
abbrev pub output_parts : List ℕ → List (List ℕ)
output_parts [] = codes "0" ∷ []
output_parts (b ∷ more) = decimal (length (b ∷ more)) ∷ codes " " ∷ encode_lower (b ∷ more) ∷ []

-- A line with a label and a number.
abbrev pub number_line : List ℕ → ℕ → List ℕ
number_line label n = line (label ∷ decimal n ∷ [])

-- The line of a status.
abbrev pub status_line : Status → List ℕ
status_line s = line (codes "status " ∷ status_parts s)

-- The line of an output.
abbrev pub output_line : List ℕ → List ℕ
output_line bytes = line (codes "output " ∷ output_parts bytes)

-- The line of an output with some bytes, as it is written: what is before the digits, these,
-- the end.
abbrev pub long_output_line : List ℕ → List ℕ
long_output_line bytes =
    concat (codes "output " ∷ decimal (length bytes) ∷ codes " " ∷ [])
    ++ encode_lower bytes ++ concat (codes "\n" ∷ [])

-- A heap call: its name, its two arguments, its result.
unfoldable pub call_line : AnsweredCall → List ℕ
call_line c =
    line (codes "call " ∷ call_name c.call
    ∷ codes " 0x" ∷ sixteen_digits (arguments_of c.call).0
    ∷ codes " 0x" ∷ sixteen_digits (arguments_of c.call).1
    ∷ codes " = 0x" ∷ sixteen_digits c.answer ∷ [])

-- How many calls there were, and those that are kept.
abbrev pub calls_text : Calls → List ℕ
calls_text c = number_line (codes "heap ") c.count ++ concat (map call_line c.last)

-- A tenant's lines, from `tenant` to `end`.
unfoldable pub record_text : Record → List ℕ
record_text r =
    number_line (codes "tenant ") r.id
    ++ status_line r.status
    ++ number_line (codes "steps ") r.steps
    ++ output_line r.output.bytes
    ++ calls_text r.calls
    ++ line (codes "end" ∷ [])
