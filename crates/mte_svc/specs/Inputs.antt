-- The input of a tenant.
use Rattle.std.specs.Prelude.{ℕ, ◌≤◌, List, drop, length}
use Rattle.mte_svc.specs.declared.input.Input.TheInside.{Inside}

-- The bytes that are not yet read.
abbrev pub bytes_left : Inside → List ℕ
bytes_left i = drop i.read i.bytes.items

-- No more bytes were read than there are.
abbrev pub IsWithin : Inside → Type 0
IsWithin i = i.read ≤ length i.bytes.items
