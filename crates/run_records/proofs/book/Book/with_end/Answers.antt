use Rattle.std.proofs.Common.{rules, arith, ◌≡◌, ◌∙◌, ◌<◌, drop, ap, sym, Some, None, Option, length, true, false, nat_eq}
use Rattle.std.specs.List.{slice_get}
use Rattle.std.specs.Option.{option_eq}
use Rattle.run_records.specs.declared.book.BookChunk.{BookChunk}
use Rattle.run_records.specs.declared.book.BookEntry.{BookEntry}
use Rattle.run_records.specs.Ends.{is_at, ending_call}
use Rattle.heap_bounds.specs.Chunks.{ended_chunk}
use Rattle.run_records.proofs.EndLemmas.{passed_over, is_found, none_left, within}
use Rattle.run_records.proofs.book.Book.with_end.Goals as goal

pub returns-then-eq : goal.returns-then-eq
returns-then-eq c =
    let there : slice_get c.args.self.now.entries.items c.loop-entry.next ≡ Some c.in-Some.entry.now = search rules in
    let ends : is_at c.start-start.result (ended_chunk c.in-Some.entry.now.call) ≡ true =
    ap (λ o. option_eq nat_eq o (Some c.start-start.result)) (sym c.ended.ensures) ∙ sym c.eq.ensures ∙ c.if-eq.true in
    let found = is_found c.start-start.result c.loop-entry.next c.args.self.now.entries.items c.in-Some.entry.now there ends in
    ap (λ (freed : Option BookEntry). let chunk : BookChunk = record c.args.chunk { freed = freed } in chunk)
    (sym found ∙ c.loop-entry.invariant.rest ∙ ap (λ k. ending_call k (drop c.args.later c.args.self.now.entries.items)) c.start-start.ensures)

pub overflow_add-next : goal.overflow_add-next
overflow_add-next c =
    let there : slice_get c.args.self.now.entries.items c.loop-entry.next ≡ Some c.in-Some.entry.now = search rules in
    let near : c.loop-entry.next < length c.args.self.now.entries.items = within _ _ _ there in
    search (rules, near)

pub loop-entry-smaller : goal.loop-entry-smaller
loop-entry-smaller c =
    let there : slice_get c.args.self.now.entries.items c.loop-entry.next ≡ Some c.in-Some.entry.now = search rules in
    let near : c.loop-entry.next < length c.args.self.now.entries.items = within _ _ _ there in
    omega (arith, near)

pub loop-entry-preserved : goal.loop-entry-preserved
loop-entry-preserved c =
    let there : slice_get c.args.self.now.entries.items c.loop-entry.next ≡ Some c.in-Some.entry.now = search rules in
    let other : is_at c.start-start.result (ended_chunk c.in-Some.entry.now.call) ≡ false =
    ap (λ o. option_eq nat_eq o (Some c.start-start.result)) (sym c.ended.ensures) ∙ sym c.eq.ensures ∙ c.if-eq.false in
    record { rest = sym (passed_over c.start-start.result c.loop-entry.next c.args.self.now.entries.items c.in-Some.entry.now there other) ∙ c.loop-entry.invariant.rest }

pub returns : goal.returns
returns c =
    let over : slice_get c.args.self.now.entries.items c.loop-entry.next ≡ None = search rules in
    ap (λ (freed : Option BookEntry). let chunk : BookChunk = record c.args.chunk { freed = freed } in chunk)
    (sym (none_left c.start-start.result c.loop-entry.next c.args.self.now.entries.items over) ∙ c.loop-entry.invariant.rest
    ∙ ap (λ k. ending_call k (drop c.args.later c.args.self.now.entries.items)) c.start-start.ensures)
