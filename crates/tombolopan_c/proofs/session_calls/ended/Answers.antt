use Rattle.std.proofs.Common.{◌≡◌, ◌∙◌, rules, subst, ap, refl, nat_le, length, ℕ, List, Ok, Err}
use Rattle.mte_session.specs.Files.{contents}
use Rattle.mte_session.specs.declared.session.SessionError.{SessionError}
use Rattle.mte_session.specs.declared.session.SessionError.TheVariants.{Script, OutOfMemory}
use Rattle.tombolopan.specs.Reports.{IsReport, FailsBy}
use Rattle.tombolopan_c.specs.LentBuffers.{lent_contents, filled}
use Rattle.tombolopan_c.specs.LentSessions.{with_report}
use Rattle.tombolopan_c.proofs.session_calls.ended.Goals as goal

pub returns-in_default : goal.returns-in_default
returns-in_default c =
    record { answer = Err OutOfMemory; comes = tt; report = refl; told = c.of_code.ensures }

pub returns-in-Ok-report : goal.returns-in-Ok-report
returns-in-Ok-report c =
    let text = c.in-Ok-report.text.items in
    let value = c.as_slice-in-Ok-report.ensures.value in
    let same : contents c.as_slice.result.now ≡ lent_contents c.args.files.now =
    ap contents c.as_slice.ensures.value ∙ c.in-Ok.ensures in
    let long : c.len.result ≡ length text = search rules in
    record {
      answer = Ok text;
      comes =
          subst (λ (fs : List (List ℕ)). IsReport (record { frames = c.args.frames; files = fs; script = c.args.script.now }) text)
          same c.in-Ok-report.ensures.done;
      report = c.copy_to-fits.ensures.buffer ∙ ap (λ t. filled t c.args.report.now) value;
      told =
          c.of_report.ensures
          ∙ ap (λ n. with_report n c.copy_to-fits.result) long
          ∙ ap (with_report (length text)) (c.copy_to-fits.ensures.fits ∙ ap (λ (t : List ℕ). nat_le (length t) (length c.args.report.now)) value);
    }

pub returns-in-Err-Script : goal.returns-in-Err-Script
returns-in-Err-Script c =
    let same : contents c.as_slice.result.now ≡ lent_contents c.args.files.now =
    ap contents c.as_slice.ensures.value ∙ c.in-Ok.ensures in
    let line = c.in-Err-Script.line in
    let fault = c.in-Err-Script.fault in
    record {
      answer = Err (Script line fault);
      comes =
          subst (λ (fs : List (List ℕ)). FailsBy (record { frames = c.args.frames; files = fs; script = c.args.script.now }) (Script line fault))
          same (subst (λ (e : SessionError). FailsBy (record { frames = c.args.frames; files = contents c.as_slice.result.now; script = c.args.script.now }) e) c.in-Err-Script.field-0-is c.in-Err-Script.ensures.failed);
      report = refl;
      told = c.of_fault.ensures;
    }

pub returns : goal.returns
returns c =
    record { answer = Err OutOfMemory; comes = tt; report = refl; told = c.of_code-in-Err.ensures }
