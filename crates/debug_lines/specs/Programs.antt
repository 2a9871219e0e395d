-- The effect of an operation on the registers, and the row that it makes (DWARF 5, 6.2.5).
use Rattle.std.specs.Prelude.{ℕ, ◌+◌, ◌-◌, ◌%◌, ◌^◌, ◌==◌, ◌&&◌, not, Bool, true, false}
use Rattle.std.specs.Prelude.{Option, Some, None}
use Rattle.debug_lines.specs.declared.operation.Advance.{Advance}
use Rattle.debug_lines.specs.declared.operation.Operation.{Operation}
use Rattle.debug_lines.specs.declared.operation.Operation.TheVariants as op
use Rattle.debug_lines.specs.declared.registers.LineRegisters.{LineRegisters}
use Rattle.debug_lines.specs.declared.row.LineRow.{LineRow}

-- Registers after an advance of address and line.
abbrev pub after_advance : LineRegisters → Advance → LineRegisters
after_advance r by = record r {
  address = (r.address + by.address) % 2 ^ 64;
  line = (r.line + by.line) % 2 ^ 32;
}

-- the row of the registers' values
abbrev pub row_of : LineRegisters → Bool → LineRow
row_of r ends = record {
  address = r.address;
  file = r.file;
  line = r.line;
  ends_sequence = ends;
  is_placed = r.is_placed;
}

-- the registers at the start of a sequence (6.2.2, table 6.4)
abbrev pub start : LineRegisters
start = record { address = 0; file = 1; line = 1; is_placed = false }

-- an address that a linker gives no code is 0 or the highest
abbrev pub is_place : ℕ → Bool
is_place address = not (address == 0) && not (address == 2 ^ 64 - 1)

-- Registers after an operation.
abbrev pub registers_after : Operation → LineRegisters → LineRegisters
registers_after (op.Special by) r = after_advance r by
registers_after (op.Advance by) r = after_advance r by
registers_after (op.SetAddress a) r = record r { address = a; is_placed = is_place a }
registers_after (op.SetFile file) r = record r { file = file }
registers_after op.Copy r = r
registers_after op.EndSequence r = start

-- special opcodes, copies and ends of sequences make rows
abbrev pub row_after : Operation → LineRegisters → Option LineRow
row_after (op.Special by) r = Some (row_of (after_advance r by) false)
row_after (op.Advance by) r = None
row_after (op.SetAddress address) r = None
row_after (op.SetFile file) r = None
row_after op.Copy r = Some (row_of r false)
row_after op.EndSequence r = Some (row_of r true)
