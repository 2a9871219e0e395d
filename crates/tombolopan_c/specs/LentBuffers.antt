-- Files that the caller lends, and buffers that hold as much as fits.
use Rattle.std.specs.Prelude.{ℕ, List, ◌++◌, map, take, drop, length}
use Rattle.tombolopan_c.specs.declared.lent_bytes.LentBytes.{LentBytes}

-- The bytes of lent files.
abbrev pub lent_contents : List LentBytes → List (List ℕ)
lent_contents files = map (λ f. f.bytes.now) files

-- A buffer after as many items as it holds were copied to its start; what is after them stays.
abbrev pub filled : {A : Type 0} → List A → List A → List A
filled items old = take (length old) items ++ drop (length items) old
