-- A session over bytes that the caller lends: what is left of its report, and the report of its
-- end.
use Rattle.std.specs.Prelude.{◌≡◌, ℕ, ◌==◌, ◌&&◌, Bool, not, nat_le, List, length, Ok, Err}
use Rattle.std.specs.Prelude.{Result, if◌then◌else◌}
use Rattle.common.specs.declared.limits.TheConstants.{MAX_FRAMES}
use Rattle.mte_script.specs.declared.error.ScriptFault.{ScriptFault}
use Rattle.mte_session.specs.declared.session.SessionError.{SessionError}
use Rattle.mte_session.specs.declared.session.SessionError.TheVariants.{Script, OutOfMemory, Write}
use Rattle.mte_session.specs.Outcomes.{Input}
use Rattle.tombolopan.specs.Reports.{IsReport, FailsBy}
use Rattle.tombolopan_c.specs.LentBuffers.{lent_contents, filled}
use Rattle.tombolopan_c.specs.RefusalCodes.{script_code}
use Rattle.tombolopan_c.specs.declared.codes.TheConstants.{OK, NO_ROOM, OUT_OF_MEMORY, SCRIPT}
use Rattle.tombolopan_c.specs.declared.lent_bytes.LentBytes.{LentBytes}
use Rattle.tombolopan_c.specs.declared.session_end.SessionEnd.{SessionEnd}

-- A host may have this number of frames.
abbrev pub is_frames : ℕ → Bool
is_frames frames = not (frames == 0) && nat_le frames MAX_FRAMES

-- The inputs of a session: frames, the files and the script.
abbrev pub lent_input : ℕ → List ℕ → List LentBytes → Input
lent_input frames script files =
    record { frames = frames; files = lent_contents files; script = script }

-- ---- what a session comes to

-- A session has its report, or its script has a faulty line, or an allocation failed.
abbrev pub Comes : Input → Result (List ℕ) SessionError → Type 0
Comes input (Ok text) = IsReport input text
Comes input (Err e) = FailsBy input e

-- ---- its report

-- The end of a session that writes no report.
abbrev pub without_report : ℕ → SessionEnd
without_report code = record { length = 0; line = 0; code = code; fault = 0 }

-- The end of a session with a report, which the buffer holds or not.
abbrev pub with_report : ℕ → Bool → SessionEnd
with_report length fits =
    record { length = length; line = 0; code = if fits then OK else NO_ROOM; fault = 0 }

-- The end of a session whose script has a faulty line.
abbrev pub with_fault : ℕ → ScriptFault → SessionEnd
with_fault line e = record { length = 0; line = line; code = SCRIPT; fault = script_code e }

-- The end of a session whose report goes to a buffer of the caller.
abbrev pub end_told : Result (List ℕ) SessionError → ℕ → SessionEnd
end_told (Ok text) room = with_report (length text) (nat_le (length text) room)
end_told (Err (Script line e)) room = with_fault line e
end_told (Err OutOfMemory) room = without_report OUT_OF_MEMORY
end_told (Err Write) room = without_report OUT_OF_MEMORY

-- The contents of the buffer after a session.
abbrev pub report_left : Result (List ℕ) SessionError → List ℕ → List ℕ
report_left (Ok text) old = filled text old
report_left (Err e) old = old

-- The outcome of a session is in the buffer and in the report of its end.
pub record HasEnded (input : Input) (old new : List ℕ) (e : SessionEnd) : Type 0 where
  pub answer : Result (List ℕ) SessionError
  pub comes : Comes input answer
  pub report : new ≡ report_left answer old
  pub told : e ≡ end_told answer (length old)
