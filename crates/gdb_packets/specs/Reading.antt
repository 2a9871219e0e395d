-- The meaning of the bytes that came so far (GDB's documentation, "Remote Protocol", "Overview").
use Rattle.std.specs.Prelude.{ℕ, ◌+◌, ◌<◌, ◌≤◌, ◌==◌, ◌||◌, nat_lt, not}
use Rattle.std.specs.Prelude.{Bool, false, if◌then◌else◌}
use Rattle.std.specs.Prelude.{List, [], ◌∷◌, take, drop, length, Option, Some, None}
use Rattle.std.specs.List.{prefix_len}
use Rattle.std.specs.Result.{result_ok}
use Rattle.hex.specs.Hex.{pair_value}
use Rattle.gdb_packets.specs.declared.input.PacketInput.{PacketInput}
use Rattle.gdb_packets.specs.declared.input.PacketInput.TheVariants as input
use Rattle.gdb_packets.specs.declared.input.TheConstants.{PACKET_SIZE, FRAME_LIMIT}
use Rattle.gdb_packets.specs.Framing.{checksum_of}

-- A packet has its data as they came and its length in bytes; a bad one has its length.
pub data Reading : Type 0 where
  packet : List ℕ → ℕ → Reading
  bad : ℕ → Reading
  interrupt : Reading
  ack : Reading
  nack : Reading
  noise : Reading
  more : Reading

-- An input without where it is in memory.
abbrev pub seen : PacketInput → Reading
seen (input.Packet bytes len) = packet bytes.now len
seen (input.Bad len) = bad len
seen input.Interrupt = interrupt
seen input.Ack = ack
seen input.Nack = nack
seen input.Noise = noise
seen input.More = more

-- How many bytes an input takes.
abbrev pub packet_length : Reading → ℕ
packet_length (packet bytes len) = len
packet_length (bad len) = len
packet_length more = 0
packet_length _ = 1

-- It takes at least one byte and no more than came; or more are needed, and fewer came than the
-- longest packet has with its frame.
abbrev pub Takes : List ℕ → Reading → Type 0
Takes bytes more = length bytes < FRAME_LIMIT
Takes bytes reading = (0 < packet_length reading) × (packet_length reading ≤ length bytes)

-- Data go on up to a `#`, or to the `$` of another packet.
abbrev pub is_data : ℕ → Bool
is_data b = not ((b == 35) || (b == 36))

-- The byte of two hexadecimal digits, if they are some.
abbrev pub digits_byte : ℕ → ℕ → Option ℕ
digits_byte high low = result_ok (pair_value high low 0)

-- Whether a number was read and is this one.
abbrev pub is_value : Option ℕ → ℕ → Bool
is_value (Some v) n = v == n
is_value None n = false

-- Data, and what follows their `#`: the two digits of their checksum.
abbrev pub check_packet : List ℕ → List ℕ → Reading
check_packet bytes (high ∷ low ∷ rest) =
    if is_value (digits_byte high low) (checksum_of bytes) then packet bytes (length bytes + 4)
    else bad (length bytes + 4)
check_packet bytes _ = more

-- Data, and what follows them.
abbrev pub after_data : List ℕ → List ℕ → Reading
after_data bytes [] = more
after_data bytes (b ∷ rest) = if b == 36 then bad (length bytes + 1) else check_packet bytes rest

-- The bytes after a `$`.
abbrev pub after_dollar : List ℕ → Reading
after_dollar rest =
    let n = prefix_len is_data rest in
    let bytes = take n rest in
    if nat_lt PACKET_SIZE (length bytes) then bad (PACKET_SIZE + 2)
    else after_data bytes (drop n rest)

-- The meaning of the first bytes: a packet, an answer to one, an interrupt, or noise.
abbrev pub reading_of : List ℕ → Reading
reading_of [] = more
reading_of (b ∷ rest) =
    if b == 36 then after_dollar rest
    else if b == 43 then ack
    else if b == 45 then nack
    else if b == 3 then interrupt
    else noise
