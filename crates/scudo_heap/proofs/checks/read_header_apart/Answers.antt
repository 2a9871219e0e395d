use Rattle.std.proofs.Common.{◌≡◌, ℕ, ◌-◌, ◌/◌, ◌^◌, ◌<◌, ◌≤◌, ◌∙◌, Bool, sym, ap, arith}
use Rattle.std.specs.Int.{from_le_bytes, w64}
use Rattle.a64_bits.specs.Addresses.{plain}
use Rattle.mte_tags.specs.Memory.{Memory, page_has}
use Rattle.mte_tags.specs.Accesses.{read_bytes}
use Rattle.scudo_heap.proofs.CheckLemmas.{check-pointer-misaligned, check-pointer-unmapped, check-pointer-word, mapped-from, unmapped-from, unmapped-below}
use Rattle.scudo_heap.proofs.checks.read_header_apart.Goals as goal

-- what is asked of the page is what the checks ask
asked : (m : Memory) (user n : ℕ) (b : Bool) → user < 2 ^ 56 → 16 ≤ user → n ≡ 3 → b ≡ page_has m (plain (user - 16) / 4096) n → b ≡ page_has m ((user - 16) / 4096) 3
asked m user n b below above three e =
    let same : plain (user - 16) ≡ user - 16 = omega arith in
    e ∙ ap (page_has m (plain (user - 16) / 4096)) three ∙ ap (λ a. page_has m (a / 4096) 3) same

pub returns-then-user-ne0-clause-abort : goal.returns-then-user-ne0-clause-abort
returns-then-user-ne0-clause-abort g c = λ h. check-pointer-misaligned _ h _ c.if-user-ne0.true

pub returns-then-user-lt16-clause-abort : goal.returns-then-user-lt16-clause-abort
returns-then-user-lt16-clause-abort g c = λ h. check-pointer-unmapped _ h _ c.if-user-ne0.false (unmapped-below _ _ c.if-user-lt16.true)

pub returns-then-not-has_attrs-clause-abort : goal.returns-then-not-has_attrs-clause-abort
returns-then-not-has_attrs-clause-abort g c = λ h.
    let has = asked (g.M.Tagged.memory c.args.memory.now) c.args.user _ _ c.requires (omega (arith, c.if-user-lt16.false)) c.bitor.ensures c.has_attrs.ensures.answer in
    check-pointer-unmapped _ h _ c.if-user-ne0.false (unmapped-from _ _ (omega (arith, c.if-user-lt16.false)) (sym has ∙ c.if-not-has_attrs.true))

pub header_word-word-requires-clause-mapped : goal.header_word-word-requires-clause-mapped
header_word-word-requires-clause-mapped g c =
    let has = asked (g.M.Tagged.memory c.args.memory.now) c.args.user _ _ c.requires (omega (arith, c.if-user-lt16.false)) c.bitor.ensures c.has_attrs.ensures.answer in
    ap (λ k. page_has k ((c.args.user - 16) / 4096) 3) c.has_attrs.ensures.memory ∙ sym has ∙ c.if-not-has_attrs.false

pub returns-clause-word : goal.returns-clause-word
returns-clause-word g c = λ h.
    let m = g.M.Tagged.memory c.args.memory.now in
    let has = asked m c.args.user _ _ c.requires (omega (arith, c.if-user-lt16.false)) c.bitor.ensures c.has_attrs.ensures.answer in
    let mapped = mapped-from m c.args.user (omega (arith, c.if-user-lt16.false)) (sym has ∙ c.if-not-has_attrs.false) in
    check-pointer-word m h c.args.user c.header_word-word.result c.if-user-ne0.false mapped
    (c.header_word-word.ensures.word ∙ ap (λ k. from_le_bytes w64 (read_bytes k (c.args.user - 16) 8)) c.has_attrs.ensures.memory)
