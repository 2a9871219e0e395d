use Rattle.std.proofs.Common.{◌<◌, ◌^◌, ap, ◌∙◌, sym, subst, Option}
use Rattle.std.specs.Option.{IfSome}
use Rattle.scudo_header.specs.declared.headers.Header.{Header}
use Rattle.scudo_heap.specs.Heaps.{heap_of}
use Rattle.scudo_heap.specs.Checks.{check_header}
use Rattle.scudo_heap.proofs.CheckLemmas.{tags-of-bytes-small, check-pointer-state, check-pointer-chunk}
use Rattle.scudo_heap.proofs.checks.check_word.Goals as goal

pub returns-then-not-is_handed_out-clause-answer : goal.returns-then-not-is_handed_out-clause-answer
returns-then-not-is_handed_out-clause-answer c =
    let h = heap_of c.args.parts.now.cookie c.args.parts.now.stacks c.args.parts.now.maps in
    check-pointer-state h c.args.user c.in-Some.header (sym c.is_handed_out.ensures ∙ c.if-not-is_handed_out.true)
    ∙ ap (check_header h c.args.user) (sym c.in-Some.is ∙ c.unpack.ensures.header)

pub returns-clause-answer : goal.returns-clause-answer
returns-clause-answer c =
    let h = heap_of c.args.parts.now.cookie c.args.parts.now.stacks c.args.parts.now.maps in
    c.by_header.ensures.found
    ∙ check-pointer-chunk h c.args.user c.in-Some.header (sym c.is_handed_out.ensures ∙ c.if-not-is_handed_out.false)
    ∙ ap (check_header h c.args.user) (sym c.in-Some.is ∙ c.unpack.ensures.header)

pub by_header-requires-clause-size : goal.by_header-requires-clause-size
by_header-requires-clause-size c =
    subst (λ (o : Option Header). IfSome o (λ h. h.size_or_unused_bytes < 2 ^ 20)) (sym c.unpack.ensures.header ∙ c.in-Some.is)
    (tags-of-bytes-small c.args.parts.now.cookie c.args.user c.args.word)
