-- A frame in a room.
use Rattle.std.proofs.Common.{◌≡◌, ℕ, suc, ◌+◌, ◌-◌, ◌<◌, ◌≤◌, List, [], ◌∷◌, ◌++◌, length, take, drop, set}
use Rattle.std.proofs.Common.{Option, None, refl, ap, sym, ◌∙◌, arith, length-append, drop-drop}
use Rattle.hex.specs.Hex.{encode_lower}
use Rattle.hex.proofs.HexLemmas.{length-encode_with}
use borrow.Rule.Slice.PartMut.{put_mid}
use Rattle.gdb_packets.specs.Framing.{frame_of, checksum_of}
use Rattle.gdb_packets.specs.Rooms.{Writes}
use Rattle.gdb_packets.proofs.EscapeLemmas.{put_front, put_behind}

abbrev pub closing : List ℕ → List ℕ
closing bytes = 35 ∷ encode_lower (checksum_of bytes ∷ [])

length-closing : (bytes : List ℕ) → length (closing bytes) ≡ 3
length-closing bytes = ap suc (length-encode_with _ (checksum_of bytes ∷ []))

pub length-frame_of : (bytes : List ℕ) → length (frame_of bytes) ≡ length bytes + 4
length-frame_of bytes = ap suc (length-append bytes (closing bytes)) ∙ omega (arith, length-closing bytes)

-- The data after a `$`, and what stands after them.
pub frame_put : (room sub bytes new : List ℕ) (n : ℕ) → n ≡ length bytes → length bytes + 4 ≤ length room
    → sub ≡ bytes ++ drop (length bytes) (take (length (set room 0 36) - 1) (drop 1 (set room 0 36)))
    → new ≡ take (1 + n) (put_mid 1 (length (set room 0 36) - 1) (set room 0 36) sub)
    ++ closing (drop 1 (take (1 + n) (put_mid 1 (length (set room 0 36) - 1) (set room 0 36) sub)))
    ++ drop (1 + n + 3) (put_mid 1 (length (set room 0 36) - 1) (set room 0 36) sub)
    → new ≡ frame_of bytes ++ drop (length (frame_of bytes)) room
frame_put [] sub bytes new n e fits put h = absurd (omega arith)
frame_put (x ∷ rest) sub bytes new n e fits put h =
    let front = put_front (36 ∷ rest) bytes sub 1 n (omega arith) e put in
    let behind = put_behind (36 ∷ rest) bytes sub (x ∷ rest) 1 n (omega arith) e put refl in
    let all = put_mid 1 (length (36 ∷ rest) - 1) (36 ∷ rest) sub in
    let long : 1 + n + 3 ≡ length (frame_of bytes) = omega (arith, length-frame_of bytes) in
    let end : drop (1 + n + 3) all ≡ drop (length (frame_of bytes)) (x ∷ rest) =
    sym (drop-drop 3 (1 + n) all) ∙ ap (drop 3) behind ∙ drop-drop 3 (1 + n) (x ∷ rest)
    ∙ ap (λ k. drop k (x ∷ rest)) long in
    h ∙ ap (λ z. z ++ closing (drop 1 z) ++ drop (1 + n + 3) all) front ∙ ap (λ z. frame_of bytes ++ z) end

pub too_long : (bytes room : List ℕ) (r : Option ℕ) → length room < length bytes + 4 → r ≡ None → Writes (frame_of bytes) room room r
too_long bytes room r short e = rw e (rw (length-frame_of bytes) short, refl)
