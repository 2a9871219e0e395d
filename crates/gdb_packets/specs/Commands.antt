-- The commands whose arguments are numbers (GDB's documentation, "Packets").
use Rattle.std.specs.Prelude.{◌≡◌, ◌≢◌, ℕ, ◌==◌, ◌&&◌, Bool, true, false}
use Rattle.std.specs.Prelude.{if◌then◌else◌, List, [], ◌∷◌, length, Option, Some, None}
use Rattle.std.specs.Prelude.{option_map, option_and_then, unwrap_or, codes, drop, nat_lt, is_some}
use Rattle.gdb_packets.specs.Digits.{number_of}
use Rattle.gdb_packets.specs.Texts.{cut_at, after, is_separator}
use Rattle.std.specs.List.{before_first, position_or_len, list_all, slice_split, AllByRecursion}
use Rattle.gdb_packets.specs.declared.command.Command.{Command}
use Rattle.gdb_packets.specs.declared.command.Command.TheVariants as command
use Rattle.gdb_packets.specs.declared.command.Action.{Action}
use Rattle.gdb_packets.specs.declared.command.Action.TheVariants as action
use Rattle.gdb_packets.specs.declared.command.Point.{Point}
use Rattle.gdb_packets.specs.declared.command.Point.TheVariants as point
use Rattle.gdb_packets.specs.declared.command.FileCall.TheVariants as file
use Rattle.gdb_packets.specs.declared.command.Id.{Id}
use Rattle.gdb_packets.specs.declared.command.Id.TheVariants as id
use Rattle.gdb_packets.specs.declared.command.Thread.{Thread}

infixl 10 ◌>>=◌
-- A value is handed on, if there is one.
abbrev pub ◌>>=◌ : {A B : Type 0} → Option A → (A → Option B) → Option B
o >>= f = option_and_then f o

-- Two numbers with a comma between them.
unfoldable pub range_of : List ℕ → Option (ℕ × ℕ)
range_of text = do
  parts ← cut_at (λ b. b == 44) text
  first ← number_of parts.0
  second ← number_of parts.1
  Some (first, second)

-- Three numbers with commas between them.
unfoldable pub triple_of : List ℕ → Option (ℕ × ℕ × ℕ)
triple_of text = do
  parts ← cut_at (λ b. b == 44) text
  first ← number_of parts.0
  others ← range_of parts.1
  Some (first, others.0, others.1)

-- A number, or nothing.
abbrev pub optional_of : List ℕ → Option (Option ℕ)
optional_of text = if length text == 0 then Some None else option_map Some (number_of text)

-- The kind of a breakpoint or watchpoint with a number.
abbrev pub point_kind : ℕ → Option Point
point_kind n =
    if n == 0 then Some point.SoftwareBreakpoint
    else if n == 1 then Some point.HardwareBreakpoint
    else if n == 2 then Some point.WriteWatchpoint
    else if n == 3 then Some point.ReadWatchpoint
    else if n == 4 then Some point.AccessWatchpoint
    else None

-- A kind, an address and a size; a kind that is not there makes the packet unknown.
abbrev pub point_command : (Point → ℕ → ℕ → Command) → ℕ × ℕ × ℕ → Command
point_command c t = unwrap_or (option_map (λ k. c k t.1 t.2) (point_kind t.0)) command.Unknown

-- All processes, or the one after a separator.
abbrev pub process_of : ℕ → List ℕ → Option (Option ℕ)
process_of separator text =
    if length text == 0 then Some None
    else option_map Some (option_and_then number_of (after separator text))

-- A command that is known, or one that has not its form.
abbrev pub command_or_malformed : Option Command → Command
command_or_malformed o = unwrap_or o command.Malformed

-- A command with nothing after its name.
abbrev pub alone : List ℕ → Command → Option Command
alone rest c = if length rest == 0 then Some c else None

-- The id -1 means all, and 0 any.
abbrev pub is_minus_one : List ℕ → Bool
is_minus_one (a ∷ b ∷ []) = (a == 45) && (b == 49)
is_minus_one _ = false

-- The id of a process or of a thread.
unfoldable pub id_of : List ℕ → Option Id
id_of text =
    if is_minus_one text then Some id.All
    else option_map (λ n. if n == 0 then id.Any else id.One n) (number_of text)

-- The thread of a process, or all of its threads where no `.` and thread follow.
unfoldable pub process_thread : Option (List ℕ × List ℕ) → List ℕ → Option Thread
process_thread None text =
    option_map (λ p. record { process = Some p; thread = id.All }) (id_of text)
process_thread (Some parts) text = do
  p ← id_of parts.0
  t ← id_of parts.1
  Some (record { process = Some p; thread = t })

abbrev pub thread_cases : Option (List ℕ) → List ℕ → Option Thread
thread_cases None text = option_map (λ t. record { process = None; thread = t }) (id_of text)
thread_cases (Some rest) text = process_thread (cut_at (λ b. b == 46) rest) rest

-- `THREAD`, `pPROCESS` or `pPROCESS.THREAD`.
unfoldable pub thread_of : List ℕ → Option Thread
thread_of text = thread_cases (after 112 text) text

-- `c` or `g`, and a thread.
abbrev pub select_of : List ℕ → Option Command
select_of [] = None
select_of (b ∷ text) =
    if b == 99 then option_map (command.SelectThread true) (thread_of text)
    else if b == 103 then option_map (command.SelectThread false) (thread_of text)
    else None

-- A signal is a number of one byte.
abbrev pub signal_of : List ℕ → Option ℕ
signal_of text = option_and_then (λ n. if nat_lt n 256 then Some n else None) (number_of text)

-- A signal, and an address where one follows after a `;`.
abbrev pub signal_cases : Option (List ℕ × List ℕ) → List ℕ → Option (ℕ × Option ℕ)
signal_cases None text = option_map (λ s. (s, None)) (signal_of text)
signal_cases (Some parts) text = do
  address ← number_of parts.1
  signal ← signal_of parts.0
  Some (signal, Some address)

-- A signal, and an address after a semicolon if there is one.
unfoldable pub signal_and_address : List ℕ → Option (ℕ × Option ℕ)
signal_and_address text = signal_cases (cut_at (λ b. b == 59) text) text

-- An action with nothing after its letter.
abbrev pub lone : List ℕ → Action → Option Action
lone rest a = if length rest == 0 then Some a else None

-- An action of `vCont`.
unfoldable pub action_of : List ℕ → Option Action
action_of [] = None
action_of (b ∷ rest) =
    if b == 99 then lone rest (action.Continue None)
    else if b == 115 then lone rest (action.Step None)
    else if b == 116 then lone rest action.Stop
    else if b == 67 then option_map (λ s. action.Continue (Some s)) (signal_of rest)
    else if b == 83 then option_map (λ s. action.Step (Some s)) (signal_of rest)
    else if b == 114 then option_map (λ r. action.StepRange r.0 r.1) (range_of rest)
    else None

-- An action, and its thread where one follows after a `:`.
abbrev pub thread_action_by : Option (List ℕ × List ℕ) → List ℕ
    → Option (Action × Option Thread)
thread_action_by None text = option_map (λ a. (a, None)) (action_of text)
thread_action_by (Some parts) text = do
  a ← action_of parts.0
  t ← thread_of parts.1
  Some (a, Some t)

-- An action, and the thread after a colon if there is one.
unfoldable pub thread_action : List ℕ → Option (Action × Option Thread)
thread_action text = thread_action_by (cut_at (λ b. b == 58) text) text

-- The first of some actions with a `;` between them, where each is one.
abbrev pub first_action : List ℕ → Option (Action × Option Thread)
first_action text =
    if list_all (λ piece. is_some (thread_action piece)) (slice_split (λ b. b == 59) text)
    then thread_action (before_first (λ b. b == 59) text) else None

-- `s` or `c` after a `b`.
abbrev pub back_of : List ℕ → Command
back_of (b ∷ []) =
    if b == 115 then command.StepBack else if b == 99 then command.ContinueBack
    else command.Unknown
back_of _ = command.Unknown

-- None of some texts or letters: a packet that begins otherwise is unknown.
abbrev pub IsNoneOf : {A : Type 0} → List A → A → Type 0
IsNoneOf known x = AllByRecursion (λ k. x ≢ k) known

-- The letters that begin a packet which is known.
abbrev pub letters : List ℕ
letters = codes "!?bcCDgGHkmMpPqQsSTvxXzZ"

-- The commands of these letters, with the bytes after them.
pub record Asks (letter : ℕ) (rest : List ℕ) (c : Command) : Type 0 where
  pub other : IsNoneOf letters letter → c ≡ command.Unknown
  pub back : letter ≡ 98 → c ≡ back_of rest
  pub extension : letter ≡ 33 → c ≡ command_or_malformed (alone rest command.StartExtendedMode)
  pub reason : letter ≡ 63 → c ≡ command_or_malformed (alone rest command.StopReason)
  pub registers : letter ≡ 103 → c ≡ command_or_malformed (alone rest command.ReadRegisters)
  pub kill : letter ≡ 107 → c ≡ command_or_malformed (alone rest command.Kill)
  pub memory : letter ≡ 109
      → c ≡ command_or_malformed (option_map (λ r. command.ReadMemory r.0 r.1) (range_of rest))
  pub register : letter ≡ 112
      → c ≡ command_or_malformed (option_map (λ n. command.ReadRegister n) (number_of rest))
  pub continuation : letter ≡ 99
      → c ≡ command_or_malformed (option_map (λ a. command.Resume (action.Continue None) a)
      (optional_of rest))
  pub step : letter ≡ 115
      → c ≡ command_or_malformed (option_map (λ a. command.Resume (action.Step None) a)
      (optional_of rest))
  pub insertion : letter ≡ 90
      → c ≡ command_or_malformed (option_map (point_command command.InsertPoint) (triple_of rest))
  pub removal : letter ≡ 122
      → c ≡ command_or_malformed (option_map (point_command command.RemovePoint) (triple_of rest))
  pub signal_continuation : letter ≡ 67
      → c ≡ command_or_malformed (option_map (λ s. command.Resume (action.Continue (Some s.0)) s.1)
      (signal_and_address rest))
  pub signal_step : letter ≡ 83
      → c ≡ command_or_malformed (option_map (λ s. command.Resume (action.Step (Some s.0)) s.1)
      (signal_and_address rest))
  pub life : letter ≡ 84 → c ≡ command_or_malformed
      (option_map command.IsThreadAlive (thread_of rest))
  pub selection : letter ≡ 72 → c ≡ command_or_malformed (select_of rest)
  pub detachment : letter ≡ 68 → c ≡ command_or_malformed
      (option_map command.Detach (process_of 59 rest))
  pub bytes : letter ≡ 120
      → c ≡ command_or_malformed (option_map (λ r. command.ReadBytes r.0 r.1) (range_of rest))

-- `:ADDRESS,LENGTH:KIND`
unfoldable pub tags_of : List ℕ → Option Command
tags_of text = do
  arguments ← after 58 text
  parts ← cut_at (λ b. b == 58) arguments
  range ← range_of parts.0
  kind ← number_of parts.1
  Some (command.ReadTags range.0 range.1 kind)

-- The names of queries that are known.
abbrev pub queries : List (List ℕ)
queries = codes "Supported" ∷ codes "Xfer" ∷ codes "MemTags" ∷ codes "Rcmd" ∷ codes "Attached"
    ∷ codes "Symbol" ∷ codes "C" ∷ codes "fThreadInfo" ∷ codes "sThreadInfo" ∷ codes "Offsets"
    ∷ []

-- The commands of these names after a `q`, with the bytes after them.
pub record AsksQuery (name rest : List ℕ) (c : Command) : Type 0 where
  pub other : IsNoneOf queries name → c ≡ command.Unknown
  pub thread : name ≡ codes "C" → c ≡ command_or_malformed (alone rest command.CurrentThread)
  pub first_threads : name ≡ codes "fThreadInfo"
      → c ≡ command_or_malformed (alone rest command.FirstThreads)
  pub next_threads : name ≡ codes "sThreadInfo"
      → c ≡ command_or_malformed (alone rest command.NextThreads)
  pub offsets : name ≡ codes "Offsets" → c ≡ command_or_malformed (alone rest command.Offsets)
  pub tags : name ≡ codes "MemTags" → c ≡ command_or_malformed (tags_of rest)
  pub attached : name ≡ codes "Attached"
      → c ≡ command_or_malformed (option_map command.IsAttached (process_of 58 rest))

-- The commands of these names after a `Q`.
pub record AsksSetting (name rest : List ℕ) (c : Command) : Type 0 where
  pub other : IsNoneOf (codes "MemTags" ∷ codes "StartNoAckMode" ∷ []) name
      → c ≡ command.Unknown
  pub no_ack : name ≡ codes "StartNoAckMode"
      → c ≡ command_or_malformed (alone rest command.StartNoAckMode)

-- The operations on files that are known.
abbrev pub operations : List (List ℕ)
operations = codes "open" ∷ codes "pread" ∷ codes "close" ∷ codes "fstat" ∷ codes "setfs"
    ∷ codes "readlink" ∷ []

-- The commands of these operations on files.
pub record AsksFile (operation rest : List ℕ) (c : Command) : Type 0 where
  pub other : IsNoneOf operations operation → c ≡ command.Unknown
  pub close : operation ≡ codes "close"
      → c ≡ command_or_malformed (option_map (λ d. command.File (file.Close d)) (number_of rest))
  pub status : operation ≡ codes "fstat"
      → c ≡ command_or_malformed (option_map (λ d. command.File (file.Status d)) (number_of rest))
  pub filesystem : operation ≡ codes "setfs"
      → c ≡ command_or_malformed (option_map (λ p. command.File (file.SetFilesystem p))
      (number_of rest))
  pub read : operation ≡ codes "pread"
      → c ≡ command_or_malformed (option_map (λ t. command.File (file.Read t.0 t.1 t.2))
      (triple_of rest))

-- The names after a `v` that are known.
abbrev pub names : List (List ℕ)
names = codes "Cont" ∷ codes "Cont?" ∷ codes "File" ∷ codes "Kill" ∷ codes "MustReplyEmpty"
    ∷ codes "Run" ∷ []

-- The commands of these names after a `v`.
pub record AsksNamed (name rest : List ℕ) (c : Command) : Type 0 where
  pub other : IsNoneOf names name → c ≡ command.Unknown
  pub actions : name ≡ codes "Cont?" → c ≡ command_or_malformed (alone rest command.ResumeActions)
  pub resume : name ≡ codes "Cont"
      → c ≡ command_or_malformed (option_map (λ a. command.ResumeThread a.0 a.1)
      (option_and_then first_action (after 59 rest)))
  pub nothing : name ≡ codes "MustReplyEmpty"
      → c ≡ command_or_malformed (alone rest command.MustReplyEmpty)
  pub file : (operation arguments : List ℕ) → name ≡ codes "File"
      → option_and_then (cut_at (λ b. b == 58)) (after 58 rest) ≡ Some (operation, arguments)
      → AsksFile operation arguments c
  pub kill : name ≡ codes "Kill"
      → c ≡ command_or_malformed (option_map command.KillProcess
      (option_and_then number_of (after 59 rest)))
  pub run : name ≡ codes "Run"
      → c ≡ command_or_malformed (option_map (λ _. command.Run) (after 59 rest))

-- A name, and what is after it.
abbrev pub name_in : List ℕ → List ℕ
name_in text = before_first is_separator text

-- The text after the name of a packet.
abbrev pub behind_name : List ℕ → List ℕ
behind_name text = drop (position_or_len is_separator text) text
