use Rattle.std.proofs.Common.{◌≡◌, None, sym, ap, ◌∙◌}
use Rattle.mte_tags.specs.Memory.{Memory, with_pending}
use Rattle.mte_tags.specs.Accesses.{result_of, addresses, first_fault, without_check}
use Rattle.mte_tags.specs.declared.state.TagState.{TagState}
use Rattle.mte_tags.proofs.AddressLists.{none_from_ok, some_from_err}
use Rattle.mte_tags.proofs.ModeLaws.{access_fault-none, after_access-none, access_fault-sync, async_answer, after_access-some}
use Rattle.mte_tags.proofs.by_page.check_in_mode.Goals as goal

pub returns-in_default-clause-answer : goal.returns-in_default-clause-answer
returns-in_default-clause-answer g c = ap result_of (sym (access_fault-none _ _ _ (none_from_ok _ _ c.in_default.ensures.answer)))

pub returns-in_default-clause-memory : goal.returns-in_default-clause-memory
returns-in_default-clause-memory g c = c.in_default.ensures.memory ∙ sym (after_access-none _ _ _ (none_from_ok _ _ c.in_default.ensures.answer))

pub returns-in-Sync-clause-answer : goal.returns-in-Sync-clause-answer
returns-in-Sync-clause-answer g c =
    let e = ap (λ (m : Memory). m.state.mode) (sym c.in-Err.ensures.memory) ∙ ap (λ (t : TagState). t.mode) (sym c.tag_state.ensures.answer) ∙ c.in-Sync.is in
    c.in-Err.ensures.answer ∙ ap result_of (sym (access_fault-sync _ _ _ e))

pub returns-in-Err-check_bytes-clause-answer : goal.returns-in-Err-check_bytes-clause-answer
returns-in-Err-check_bytes-clause-answer g c =
    let e = ap (λ (m : Memory). m.state.mode) (sym c.in-Err.ensures.memory) ∙ ap (λ (t : TagState). t.mode) (sym c.tag_state.ensures.answer) ∙ c.in-Async.is in
    c.in-Err-check_bytes.ensures.answer ∙ ap result_of (async_answer _ _ c.args.access.now _ _ (c.tag_state.ensures.memory ∙ c.in-Err.ensures.memory) c.unchecked.ensures e)

pub returns-in_default-check_bytes-clause-answer : goal.returns-in_default-check_bytes-clause-answer
returns-in_default-check_bytes-clause-answer g c =
    let e = ap (λ (m : Memory). m.state.mode) (sym c.in-Err.ensures.memory) ∙ ap (λ (t : TagState). t.mode) (sym c.tag_state.ensures.answer) ∙ c.in-Async.is in
    c.in_default-check_bytes.ensures.answer ∙ ap result_of (async_answer _ _ c.args.access.now _ _ (c.tag_state.ensures.memory ∙ c.in-Err.ensures.memory) c.unchecked.ensures e)

pub returns-in_default-check_bytes-clause-memory : goal.returns-in_default-check_bytes-clause-memory
returns-in_default-check_bytes-clause-memory g c =
    let m = g.S.PageStore.memory c.args.store.now in
    let x = c.args.access.now in
    let xs = addresses c.args.at c.args.count in
    let same = c.tag_state.ensures.memory ∙ c.in-Err.ensures.memory in
    let e = ap (λ (m : Memory). m.state.mode) (sym c.in-Err.ensures.memory) ∙ ap (λ (t : TagState). t.mode) (sym c.tag_state.ensures.answer) ∙ c.in-Async.is in
    let free : first_fault m (without_check x) xs ≡ None =
    ap (λ l. first_fault l (without_check x) xs) (sym same) ∙ ap (λ y. first_fault (g.S.PageStore.memory c.tag_state.new.self) y xs) (sym c.unchecked.ensures) ∙ none_from_ok _ _ c.in_default-check_bytes.ensures.answer in
    c.set_pending.ensures.memory
    ∙ ap with_pending (c.in_default-check_bytes.ensures.memory ∙ same)
    ∙ sym (after_access-some m x xs c.in-Err.fault e (some_from_err _ _ c.in-Err.ensures.answer) free)
