-- Scripts: lines of words, one event per line.
use Rattle.std.specs.Prelude.{ℕ, ◌+◌, ◌-◌, ◌*◌, ◌^◌, ◌==◌, nat_lt, nat_le, nat_eq, ◌&&◌, Bool}
use Rattle.std.specs.Prelude.{true, false, not, List, [], ◌∷◌, ◌++◌, length, slice_index_or}
use Rattle.std.specs.Prelude.{filter, codes, Option, Some, None, is_some, unwrap_or, option_map}
use Rattle.std.specs.Prelude.{option_to_list, Result, Ok, Err, if◌then◌else◌}
use Rattle.std.specs.List.{list_all, starts_with}
use Rattle.std.specs.Int.{from_be_bytes, w64}
use Rattle.common.specs.declared.limits.TheConstants.{MAX_STEPS}
use Rattle.mte_tags.specs.declared.state.TagMode.{TagMode}
use Rattle.mte_tags.specs.declared.state.TagMode.TheVariants.{Sync, Async}
use Rattle.hex.specs.Hex.{decode_sized}
use Rattle.hex.specs.declared.FromHexError.{FromHexError}
use Rattle.mte_script.specs.declared.event.Event.{Event}
use Rattle.mte_script.specs.declared.event.Event.TheVariants as event
use Rattle.mte_script.specs.declared.error.ScriptFault.{ScriptFault}
use Rattle.mte_script.specs.declared.error.ScriptFault.TheVariants.{Syntax, BadNumber, NoSuchFile}
use Rattle.mte_script.specs.declared.error.ScriptFault.TheVariants.{TooManyEvents}

-- Pieces with a byte put before the first.
abbrev pub onto_first : ℕ → List (List ℕ) → List (List ℕ)
onto_first b [] = (b ∷ []) ∷ []
onto_first b (piece ∷ more) = (b ∷ piece) ∷ more

-- The pieces of a text between separators, empty ones too.
unfoldable pub pieces_at : ℕ → List ℕ → List (List ℕ)
pieces_at separator [] = [] ∷ []
pieces_at separator (b ∷ more) =
    if b == separator then [] ∷ pieces_at separator more
    else onto_first b (pieces_at separator more)

-- How long the first piece is.
unfoldable pub piece_len_of : ℕ → List ℕ → ℕ
piece_len_of separator [] = 0
piece_len_of separator (b ∷ more) = if b == separator then 0 else piece_len_of separator more + 1

-- Whether a text has a byte: what is between two spaces in a row has none, and is no word.
abbrev pub is_some_text : List ℕ → Bool
is_some_text [] = false
is_some_text (b ∷ more) = true

-- The words of a line, which spaces separate.
abbrev pub words_of : List ℕ → List (List ℕ)
words_of line = filter is_some_text (pieces_at 32 line)

-- The lines of a script: what is between LFs.
abbrev pub lines_of : List ℕ → List (List ℕ)
lines_of script = pieces_at 10 script

-- Whether a byte is a decimal digit.
abbrev pub is_digit : ℕ → Bool
is_digit b = nat_le 48 b && nat_le b 57

-- The number of some decimal digits: each times its power of ten.
unfoldable pub digits_value : List ℕ → ℕ
digits_value [] = 0
digits_value (d ∷ more) = (d - 48) * 10 ^ length more + digits_value more

-- The number of 1 to 10 decimal digits.
unfoldable pub decimal_of : List ℕ → Option ℕ
decimal_of word =
    if nat_lt 0 (length word) && nat_le (length word) 10 && list_all is_digit word
    then Some (digits_value word) else None

abbrev pub seed_cases : Result (List ℕ) FromHexError → Option ℕ
seed_cases (Ok bytes) = Some (from_be_bytes w64 bytes)
seed_cases (Err e) = None

-- The number of 16 hexadecimal digits of either case.
unfoldable pub seed_of : List ℕ → Option ℕ
seed_of word = seed_cases (decode_sized word 8)

-- Whether a text is this word.
abbrev pub is_word : List ℕ → List ℕ → Bool
is_word word text = (length word == length text) && starts_with nat_eq word text

-- ---- the forms of a line

-- The word with an index, empty where there is none.
abbrev pub nth : List (List ℕ) → ℕ → List ℕ
nth words i = slice_index_or words i []

-- Whether a word is a decimal number.
abbrev pub is_number : List ℕ → Bool
is_number word = is_some (decimal_of word)

-- Whether a word is a seed.
abbrev pub is_seed : List ℕ → Bool
is_seed word = is_some (seed_of word)

-- The decimal number in the word with an index, 0 where it is none.
abbrev pub number_at : List (List ℕ) → ℕ → ℕ
number_at words i = unwrap_or (decimal_of (nth words i)) 0

-- The seed in the word with an index, 0 where it is none.
abbrev pub seed_at : List (List ℕ) → ℕ → ℕ
seed_at words i = unwrap_or (seed_of (nth words i)) 0

-- `stop ID`
abbrev pub is_stop : List (List ℕ) → Bool
is_stop words = is_word (nth words 0) (codes "stop") && is_number (nth words 1)

-- `slice ID STEPS`
abbrev pub is_slice : List (List ℕ) → Bool
is_slice words =
    is_word (nth words 0) (codes "slice") && is_number (nth words 1) && is_number (nth words 2)

-- `admit ID image I input J seed HEX16 frames R out O`
unfoldable pub is_admission : List (List ℕ) → Bool
is_admission words =
    is_word (nth words 0) (codes "admit") && is_number (nth words 1)
    && is_word (nth words 2) (codes "image") && is_number (nth words 3)
    && is_word (nth words 4) (codes "input") && is_number (nth words 5)
    && is_word (nth words 6) (codes "seed") && is_seed (nth words 7)
    && is_word (nth words 8) (codes "frames") && is_number (nth words 9)
    && is_word (nth words 10) (codes "out") && is_number (nth words 11)

-- ---- the event of a line

-- The fault of the first test that holds.
abbrev pub first_fault_of : List (Bool × ScriptFault) → Option ScriptFault
first_fault_of [] = None
first_fault_of (test ∷ more) = if test.0 then Some test.1 else first_fault_of more

-- The event, unless there is a fault.
abbrev pub event_or : Option ScriptFault → Event → Result Event ScriptFault
event_or None e = Ok e
event_or (Some fault) e = Err fault

-- The event of a line `stop ID`.
unfoldable pub stop_event : List (List ℕ) → Result Event ScriptFault
stop_event words = event_or
    (first_fault_of (
    (not (is_stop words), Syntax)
    ∷ (nat_lt 65535 (number_at words 1), BadNumber) ∷ []))
    (event.Stop (number_at words 1))

-- The event of a line `slice ID STEPS`.
unfoldable pub slice_event : List (List ℕ) → Result Event ScriptFault
slice_event words = event_or
    (first_fault_of (
    (not (is_slice words), Syntax)
    ∷ (nat_lt 65535 (number_at words 1), BadNumber)
    ∷ (nat_lt MAX_STEPS (number_at words 2), BadNumber) ∷ []))
    (event.Slice (number_at words 1) (number_at words 2))

-- `files` is how many files there are.
unfoldable pub admit_event : ℕ → TagMode → List (List ℕ) → Result Event ScriptFault
admit_event files mode words = event_or
    (first_fault_of (
    (not (is_admission words), Syntax)
    ∷ (nat_lt 65535 (number_at words 1), BadNumber)
    ∷ (nat_lt 4294967295 (number_at words 3), BadNumber)
    ∷ (nat_lt 4294967295 (number_at words 5), BadNumber)
    ∷ (nat_lt 4294967295 (number_at words 9), BadNumber)
    ∷ (nat_lt 4294967295 (number_at words 11), BadNumber)
    ∷ (number_at words 3 == 0, NoSuchFile)
    ∷ (nat_lt files (number_at words 3), NoSuchFile)
    ∷ (nat_lt files (number_at words 5), NoSuchFile) ∷ []))
    (event.Admit (number_at words 1) (number_at words 3) (number_at words 5) (record {
      seed = seed_at words 7;
      pages = number_at words 9;
      room = number_at words 11;
      mode = mode;
    }))

-- The event of some words, or its first fault. One more word `async` may follow an admission, whose
-- mode is synchronous without it.
unfoldable pub event_by : ℕ → List (List ℕ) → Result Event ScriptFault
event_by files words =
    if length words == 2 then stop_event words
    else (if length words == 3 then slice_event words
    else (if length words == 12 then admit_event files Sync words
    else (if (length words == 13) && is_word (nth words 12) (codes "async")
    then admit_event files Async words
    else Err Syntax)))

-- Whether a line is a comment: it begins with #.
abbrev pub starts_comment : List ℕ → Bool
starts_comment [] = false
starts_comment (b ∷ more) = b == 35

-- The event of a line, or what is wrong with it; lines without a word and lines whose first byte is
-- `#` have none.
abbrev pub event_of_words : ℕ → List (List ℕ) → Option (Result Event ScriptFault)
event_of_words files [] = None
event_of_words files (word ∷ more) = Some (event_by files (word ∷ more))

-- The event or the fault of a line; none of a comment or of an empty line.
unfoldable pub event_of_line : ℕ → List ℕ → Option (Result Event ScriptFault)
event_of_line files line =
    if starts_comment line then None else event_of_words files (words_of line)

-- The meaning of a script: its events, or its first faulty line and its first fault.
abbrev pub Parsed : Type 0
Parsed = Result (List Event) (ℕ × ScriptFault)

-- A script that begins with an event.
abbrev pub after_event : Event → Parsed → Parsed
after_event e (Ok more) = Ok (e ∷ more)
after_event e (Err fault) = Err fault

-- The meaning of a script's lines, from the n-th on, each with its number: lines without an event
-- are left out. `files` is how many files there are.
unfoldable pub readings : ℕ → ℕ → List (List ℕ) → List (ℕ × Result Event ScriptFault)
readings files n [] = []
readings files n (line ∷ more) =
    option_to_list (option_map (λ r. (n, r)) (event_of_line files line))
    ++ readings files (n + 1) more

-- Their events, of which k came before, or the first fault: a script has at most 10000 events.
unfoldable pub events_of : ℕ → List (ℕ × Result Event ScriptFault) → Parsed
events_of k [] = Ok []
events_of k ((n, Err fault) ∷ more) = Err (n, fault)
events_of k ((n, Ok e) ∷ more) =
    if nat_lt k 10000 then after_event e (events_of (k + 1) more) else Err (n, TooManyEvents)

-- A script's events, or the number of its first faulty line and its first fault.
unfoldable pub script_events : ℕ → List ℕ → Parsed
script_events files script = events_of 0 (readings files 1 (lines_of script))
