-- Which files were read, and what came of each.
use Rattle.std.specs.Prelude.{◌≡◌, ◌⊎◌, ℕ, List, [], ◌∷◌, ◌++◌, map, length, Option, option_map}
use Rattle.std.specs.Prelude.{Vec, Result, Ok, Err, string_bytes}
use Rattle.std.specs.declared.alloc.Global.{Global}
use Rattle.std.specs.declared.string.String.{String}
use Rattle.mte_streams.specs.declared.reading.ReadFault.{ReadFault}
use Rattle.mte_streams.specs.declared.reading.ReadFault.TheVariants as fault
use Rattle.mte_session.specs.declared.ending.Ending.{Ending}
use Rattle.mte_session.specs.declared.ending.Ending.TheVariants.{Done, Script, Memory, Read, Write}

-- The bytes of names.
abbrev pub names_of : List (String Global) → List (List ℕ)
names_of names = map string_bytes names

-- A file's name, and its bytes or why it could not be read.
pub record FileRead : Type 0 where
  pub name : List ℕ
  pub came : Result (List ℕ) ReadFault

-- The reads so far, the first one first, if they are known.
abbrev pub FilesLog : Type 0
FilesLog = Option (List FileRead)

-- The bytes of a file, or why it is not read.
abbrev pub bytes_or_fault : Result (Vec ℕ Global) ReadFault → Result (List ℕ) ReadFault
bytes_or_fault (Ok whole) = Ok whole.items
bytes_or_fault (Err e) = Err e

-- A log with more files that were read.
abbrev pub with_reads : FilesLog → List FileRead → FilesLog
with_reads log more = option_map (λ reads. reads ++ more) log

-- A log after one more file.
abbrev pub after_file : FilesLog → List ℕ → Result (Vec ℕ Global) ReadFault → FilesLog
after_file log name result =
    with_reads log (record { name = name; came = bytes_or_fault result } ∷ [])

-- Reads of files with these names that gave these bytes.
unfoldable pub whole_reads : List (List ℕ) → List (List ℕ) → List FileRead
whole_reads (name ∷ names) (bytes ∷ more) =
    record { name = name; came = Ok bytes } ∷ whole_reads names more
whole_reads [] contents = []
whole_reads (name ∷ names) [] = []

-- The files with these names were read, in order and each as a whole.
pub record ReadInOrder (names contents : List (List ℕ)) (old new : FilesLog) : Type 0 where
  pub count : length contents ≡ length names
  pub log : new ≡ with_reads old (whole_reads names contents)

-- The first files were read, in order and each as a whole.
pub record ReadSome (names : List (List ℕ)) (old new : FilesLog) : Type 0 where
  pub before : List (List ℕ)
  pub after : List (List ℕ)
  pub contents : List (List ℕ)
  pub names_are : names ≡ before ++ after
  pub read : ReadInOrder before contents old new

-- The first files were read, in order and each as a whole, and the next one could not be.
pub record StoppedAt (names : List (List ℕ)) (e : ReadFault) (name : List ℕ) (old new : FilesLog)
    : Type 0 where
  pub before : List (List ℕ)
  pub after : List (List ℕ)
  pub contents : List (List ℕ)
  pub names_are : names ≡ before ++ name ∷ after
  pub count : length contents ≡ length before
  pub log : new ≡ with_reads old
      (whole_reads before contents ++ record { name = name; came = Err e } ∷ [])

-- One of the files was not read, and none after it.
pub record StoppedSomewhere (names : List (List ℕ)) (e : ReadFault) (old new : FilesLog)
    : Type 0 where
  pub name : List ℕ
  pub stopped : StoppedAt names e name old new

-- The reads where the program ends before all files were read, or since memory ran out.
abbrev pub Stopped : List (List ℕ) → Ending → FilesLog → FilesLog → Type 0
Stopped names Memory old new =
    StoppedSomewhere names fault.OutOfMemory old new ⊎ ReadSome names old new
Stopped names (Read name) old new =
    StoppedAt names fault.Read name.now old new ⊎ StoppedAt names fault.TooLong name.now old new
Stopped names Done old new = ⊥
Stopped names (Script number e) old new = ⊥
Stopped names Write old new = ⊥
