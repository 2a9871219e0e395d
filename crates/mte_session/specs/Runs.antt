-- A run of the program: it reads the script and then each file, in order, up to the first
-- fault, and then runs the session.
use Rattle.std.specs.Prelude.{ℕ, List, ◌∷◌}
use Rattle.mte_streams.specs.Writing.{WriteLog}
use Rattle.mte_session.specs.declared.ending.Ending.{Ending}
use Rattle.mte_session.specs.declared.ending.Ending.TheVariants.{Done, Script, Memory, Read, Write}
use Rattle.mte_session.specs.declared.session.SessionError.TheVariants as error
use Rattle.mte_session.specs.Outcomes.{Input, Reported, Failed, Unwritten}
use Rattle.mte_session.specs.declared.program.Program.{Program}
use Rattle.mte_session.specs.Reads.{FilesLog, names_of, ReadInOrder, Stopped}

-- All files were read, and something holds of the session that they are.
pub record OfSession (p : Program) (old new : FilesLog) (Holds : Input → Type 0) : Type 0 where
  pub script : List ℕ
  pub files : List (List ℕ)
  pub read : ReadInOrder (names_of p.names.items) (script ∷ files) old new
  pub holds : Holds (record { frames = p.frames; files = files; script = script })

-- How a run of the program ended, with what was read and written.
abbrev pub Ran : Program → FilesLog → FilesLog → WriteLog → WriteLog → Ending → Type 0
Ran p read_old read_new old new Done = OfSession p read_old read_new (λ i. Reported i old new)
Ran p read_old read_new old new (Script number e) =
    OfSession p read_old read_new (λ i. Failed i old new (error.Script number e))
Ran p read_old read_new old new Write =
    OfSession p read_old read_new (λ i. Failed i old new error.Write)
Ran p read_old read_new old new Memory =
    Stopped (names_of p.names.items) Memory read_old read_new × Unwritten old new
Ran p read_old read_new old new (Read name) =
    Stopped (names_of p.names.items) (Read name) read_old read_new × Unwritten old new
