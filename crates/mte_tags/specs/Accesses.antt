-- The effect of an access on a tagged memory, and how it fails.
-- An access is the list of its plain addresses. Each is tested for translation, then permission,
-- then the tag; the first address that fails is the fault, and an access with a fault changes
-- nothing. In the asynchronous mode a tag that differs fails no access: one that has such a byte
-- and no fault sets the memory's flag, and completes.
-- Arm ARM DDI 0487, "The Memory Tagging Extension", AArch64.CheckTag and SCTLR_EL1.TCF0; the
-- translation regime is one page map.
use Rattle.std.specs.Prelude.{◌≡◌, ℕ, zero, suc, ◌+◌, ◌*◌, ◌/◌, ◌%◌, ◌^◌, ◌==◌, Bool, true, false}
use Rattle.std.specs.Prelude.{◌&&◌, ◌||◌, not, List, [], ◌∷◌, map, length, slice_index, Option}
use Rattle.std.specs.Prelude.{Some, None}
use Rattle.std.specs.Prelude.{IsSome, Result, Ok, Err, if◌then◌else◌}
use Rattle.std.specs.Int.{from_le_bytes, w32}
use Rattle.a64_bits.specs.Addresses.{plain, address_tag}
use Rattle.mte_tags.specs.Memory.{Memory, Page, page_at, byte_at, with_byte, has, with_pending}
use Rattle.mte_tags.specs.declared.attrs.Attrs.{Attrs}
use Rattle.mte_tags.specs.declared.state.TagMode.{TagMode}
use Rattle.mte_tags.specs.declared.state.TagMode.TheVariants.{Sync, Async}
use Rattle.mte_tags.specs.declared.fault.MemFault.{MemFault}
use Rattle.mte_tags.specs.declared.access.Access.{Access}
use Rattle.mte_tags.specs.declared.fault.FaultKind.{FaultKind}
use Rattle.mte_tags.specs.declared.fault.FaultKind.TheVariants.{Translation, Permission, TagCheck}
use Rattle.mte_tags.specs.declared.fault.FaultKind.TheVariants.{Alignment, PcAlignment}

-- the attributes that a page may have: TAGGED exactly with WRITE, and READ with WRITE
abbrev pub IsPageAttrs : Attrs → Type 0
IsPageAttrs attrs = (has attrs.0 8 ≡ has attrs.0 2) × (has attrs.0 2 ≡ true → has attrs.0 1 ≡ true)

-- the n plain addresses from a on: after the last comes 0
unfoldable pub addresses : ℕ → ℕ → List ℕ
addresses a zero = []
addresses a (suc n) = a ∷ addresses ((a + 1) % 2 ^ 56) n

-- The allocation tag of the granule that an address is in.
abbrev pub granule_tag : Page → ℕ → ℕ
granule_tag p a = slice_index p.tags (a % 4096 / 16)

-- A fault of an access at an address, with the allocation tag there.
abbrev pub fault : FaultKind → Access → ℕ → ℕ → MemFault
fault kind x a tag =
    record { kind = kind; addr = a; write = x.write; ptr_tag = x.tag; mem_tag = tag }

-- The fault of a byte whose granule has another tag than the pointer.
abbrev pub tag_fault : Access → Page → ℕ → Option MemFault
tag_fault x p a =
    if granule_tag p a == x.tag then None else Some (fault TagCheck x a (granule_tag p a))

-- how a byte fails in a page that is mapped
abbrev pub page_fault : Access → Page → ℕ → Option MemFault
page_fault x p a =
    if has p.attrs x.need
    then (if x.checked && has p.attrs 8 then tag_fault x p a else None)
    else Some (fault Permission x a 0)

abbrev pub fault_cases : Access → Option Page → ℕ → Option MemFault
fault_cases x None a = Some (fault Translation x a 0)
fault_cases x (Some p) a = page_fault x p a

-- how the byte at a plain address fails
unfoldable pub byte_fault : Memory → Access → ℕ → Option MemFault
byte_fault m x a = fault_cases x (page_at m (a / 4096)) a

-- The first of two faults, if any.
abbrev pub or_else : Option MemFault → Option MemFault → Option MemFault
or_else (Some f) g = Some f
or_else None g = g

-- the first of a list of plain addresses that fails
unfoldable pub first_fault : Memory → Access → List ℕ → Option MemFault
first_fault m x [] = None
first_fault m x (a ∷ more) = or_else (byte_fault m x a) (first_fault m x more)

-- the same access without a comparison of tags
abbrev pub without_check : Access → Access
without_check x = record x { checked = false }

abbrev pub differs_cases : Access → Option Page → ℕ → Bool
differs_cases x None a = false
differs_cases x (Some p) a = (x.checked && has p.attrs 8) && not (granule_tag p a == x.tag)

-- whether an access compares tags, and that of one of its bytes differs
unfoldable pub has_mismatch : Memory → Access → List ℕ → Bool
has_mismatch m x [] = false
has_mismatch m x (a ∷ more) = differs_cases x (page_at m (a / 4096)) a || has_mismatch m x more

-- how an access fails, and whether it sets the flag if it does not
pub record AccessResult : Type 0 where
  pub fault : Option MemFault
  pub pending : Bool

-- what the tag mode makes of it: a tag that differs is a fault in Sync, and sets the flag in Async
abbrev pub access_cases : TagMode → Memory → Access → List ℕ → AccessResult
access_cases Sync m x addrs = record { fault = first_fault m x addrs; pending = false }
access_cases Async m x addrs =
    record { fault = first_fault m (without_check x) addrs; pending = has_mismatch m x addrs }

-- how an access fails in the memory's mode
unfoldable pub access_fault : Memory → Access → List ℕ → Option MemFault
access_fault m x addrs = (access_cases m.state.mode m x addrs).fault

-- m after an access that did not fail, but for what it writes
unfoldable pub after_access : Memory → Access → List ℕ → Memory
after_access m x addrs =
    if (access_cases m.state.mode m x addrs).pending then with_pending m else m

-- The result of an access with that fault, if any.
abbrev pub result_of : Option MemFault → Result (Unit {0}) MemFault
result_of None = Ok tt
result_of (Some f) = Err f

-- A load asks for READ (1).
abbrev pub read_access : ℕ → Bool → Access
read_access a check = record { need = 1; write = false; checked = check; tag = address_tag a }

-- A store asks for WRITE (2).
abbrev pub write_access : ℕ → Bool → Access
write_access a check = record { need = 2; write = true; checked = check; tag = address_tag a }

-- A fetch asks for EXEC (4), and compares no tag.
abbrev pub fetch_access : ℕ → Access
fetch_access a = record { need = 4; write = false; checked = false; tag = address_tag a }

-- how a read of n bytes at an address fails
unfoldable pub read_fault : Memory → ℕ → ℕ → Bool → Option MemFault
read_fault m a n check = access_fault m (read_access a check) (addresses (plain a) n)

-- m after a read of n bytes at an address that did not fail
unfoldable pub after_read : Memory → ℕ → ℕ → Bool → Memory
after_read m a n check = after_access m (read_access a check) (addresses (plain a) n)

-- how a write of n bytes at an address fails
unfoldable pub write_fault : Memory → ℕ → ℕ → Bool → Option MemFault
write_fault m a n check = access_fault m (write_access a check) (addresses (plain a) n)

-- the bytes at plain addresses
unfoldable pub bytes_at : Memory → List ℕ → List ℕ
bytes_at m addrs = map (byte_at m) addrs

-- the n bytes at an address
unfoldable pub read_bytes : Memory → ℕ → ℕ → List ℕ
read_bytes m a n = bytes_at m (addresses (plain a) n)

-- the bytes at plain addresses replaced, one after another
unfoldable pub with_bytes : Memory → List ℕ → List ℕ → Memory
with_bytes m (a ∷ more) (b ∷ bs) = with_bytes (with_byte m a b) more bs
with_bytes m [] bs = m
with_bytes m (a ∷ more) [] = m

-- m with bytes at an address
unfoldable pub with_bytes_at : Memory → ℕ → List ℕ → Memory
with_bytes_at m a bs = with_bytes m (addresses (plain a) (length bs)) bs

-- m after a write of bytes at an address that did not fail
unfoldable pub after_write : Memory → ℕ → List ℕ → Bool → Memory
after_write m a bs check =
    with_bytes_at (after_access m (write_access a check) (addresses (plain a) (length bs))) a bs

-- the number of the four bytes at an address, the lowest first
unfoldable pub word_at : Memory → ℕ → ℕ
word_at m a = from_le_bytes w32 (read_bytes m a 4)

abbrev pub fetch_cases : Memory → ℕ → Option MemFault → Result ℕ MemFault
fetch_cases m pc (Some f) = Err f
fetch_cases m pc None = Ok (word_at m pc)

-- the instruction word at an address, or how its fetch fails; a fetch is never tag checked
unfoldable pub fetch_result : Memory → ℕ → Result ℕ MemFault
fetch_result m pc =
    if pc % 4 == 0
    then fetch_cases m pc (first_fault m (fetch_access pc) (addresses (plain pc) 4))
    else Err (fault PcAlignment (fetch_access pc) (plain pc) 0)

-- each plain address of the list is in a mapped page
abbrev pub AreMapped : Memory → List ℕ → Type 0
AreMapped m [] = Unit {0}
AreMapped m (a ∷ more) = IsSome (page_at m (a / 4096)) × AreMapped m more

-- each page that the n bytes at an address touch is mapped
abbrev pub IsMapped : Memory → ℕ → ℕ → Type 0
IsMapped m a n = AreMapped m (addresses (plain a) n)

-- the plain addresses of n granules from a on: after the last comes 0
unfoldable pub granules : ℕ → ℕ → List ℕ
granules a zero = []
granules a (suc n) = a ∷ granules ((a + 16) % 2 ^ 56) n

-- A store of tags asks for WRITE (2), and compares no tag.
abbrev pub store_access : ℕ → Access
store_access a = record { need = 2; write = true; checked = false; tag = address_tag a }

-- A load of a tag asks for READ (1), and compares no tag.
abbrev pub load_access : ℕ → Access
load_access a = record { need = 1; write = false; checked = false; tag = address_tag a }

-- how a store of the tags of n granules fails: an address that is no granule's start first
unfoldable pub tags_fault : Memory → ℕ → ℕ → Option MemFault
tags_fault m a n =
    if a % 16 == 0
    then first_fault m (store_access a) (granules (plain a) n)
    else Some (fault Alignment (store_access a) (plain a) 0)

-- how a load of the tag of the granule that holds an address fails
unfoldable pub tag_load_fault : Memory → ℕ → Option MemFault
tag_load_fault m a = byte_fault m (load_access a) (plain a / 16 * 16)

-- The result of a load of a tag.
abbrev pub tag_result : Option MemFault → ℕ → Result ℕ MemFault
tag_result None t = Ok t
tag_result (Some f) t = Err f
