-- The meaning of opcodes by a unit's header (DWARF 5, 6.2.5.1).
use Rattle.std.specs.Prelude.{ℕ, ◌+◌, ◌-◌, ◌*◌, ◌/◌, ◌%◌, ◌^◌}
use Rattle.debug_lines.specs.declared.encoding.Encoding.{Encoding}
use Rattle.debug_lines.specs.declared.operation.Advance.{Advance}

-- the adjusted opcode, by the line range: instructions, and the advance of the line
abbrev pub special_advance : Encoding → ℕ → Advance
special_advance e opcode = record {
  address = ((opcode - e.opcode_base) / e.line_range * e.instruction) % 2 ^ 64;
  line = (e.line_base + (opcode - e.opcode_base) % e.line_range) % 2 ^ 32;
}
