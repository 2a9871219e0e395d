-- The exit status that says how a tenant ended.
use Rattle.std.specs.Prelude.{ℕ}
use Rattle.mte_svc.specs.declared.record.Status.{Status}
use Rattle.mte_svc.specs.declared.record.Status.TheVariants as status
use Rattle.tenant_run.specs.declared.ending.TenantEnding.{TenantEnding}
use Rattle.tenant_run.specs.declared.ending.TenantEnding.TheVariants.{Exit, Fault, AsyncTag, Abort}
use Rattle.tenant_run.specs.declared.ending.TenantEnding.TheVariants.{Illegal, Breakpoint, StepLimit}
use Rattle.tenant_run.specs.declared.ending.TenantEnding.TheVariants.{NotEnded, Refused, Exact, Cut}

-- A tenant's own, where it exited.
abbrev pub own_status : Status → ℕ
own_status (status.Exited code) = code
own_status status.Running = 128
own_status (status.Faulted fault pc) = 128
own_status (status.Illegal word pc) = 128
own_status (status.Breakpoint number pc) = 128
own_status (status.AsyncTag pc) = 128
own_status (status.Aborted abort pointer pc) = 128
own_status status.Stopped = 128

-- The exit status of the program.
abbrev pub exit_status : TenantEnding → Status → ℕ
exit_status Exit s = own_status s
exit_status Fault s = 129
exit_status AsyncTag s = 130
exit_status Abort s = 131
exit_status Illegal s = 132
exit_status Breakpoint s = 133
exit_status StepLimit s = 134
exit_status NotEnded s = 135
exit_status Refused s = 136
exit_status Exact s = 137
exit_status Cut s = 138
