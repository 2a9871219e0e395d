use Rattle.std.proofs.Common.{◌≡◌, ◌<◌, ◌∙◌, ◌+◌, ◌-◌, ◌/◌, ◌%◌, ◌^◌, inl, inr, ap, sym, arith, is_some, true}
use Rattle.mte_tags.specs.Accesses.{addresses}
use Rattle.mte_tags.specs.Memory.{page_at}
use Rattle.mte_tags.specs.declared.state.TagState.{TagState}
use Rattle.tombolopan_c.specs.MemoryCodes.{all_mapped}
use Rattle.tombolopan_c.specs.LentPages.{lent_memory}
use Rattle.tombolopan_c.proofs.Loads.{mapped_next, mapped_not, mapped_none}
use Rattle.tombolopan_c.proofs.find.are_mapped.Goals.{then-page-known+else-not-is_mapped, else-page-known}
use Rattle.tombolopan_c.proofs.find.are_mapped.Goals as goal

pub returns-then-not-is_mapped : goal.returns-then-not-is_mapped
returns-then-not-is_mapped c =
    let some : 0 < c.args.count - c.loop.counter = omega arith in
    λ s.
    sym (mapped_not (lent_memory s c.args.pages.now) c.loop.place (c.args.count - c.loop.counter) some (sym (c.is_mapped.ensures.page s) ∙ c.if-not-is_mapped.true))
    ∙ c.loop.invariant.rest s

-- the page of the next byte is mapped, whether it was searched for or found before
here : (c : goal.Joined-page-known) (s : TagState)
    → is_some (page_at (lent_memory s c.args.pages.now) (c.loop.place / 4096)) ≡ true
here c s =
    let low = c.loop.invariant.plain in
    elim c.if-page-known.branch [
      | then-page-known+else-not-is_mapped w ↦ sym (w.is_mapped.ensures.page s) ∙ w.if-not-is_mapped.false
      | else-page-known w ↦
          elim c.loop.invariant.known [
            | inl e ↦ absurd (omega (arith, e, low, w.if-page-known.false))
            | inr h ↦ ap (λ q. is_some (page_at (lent_memory s c.args.pages.now) q)) w.if-page-known.false ∙ h s
          ]
    ]

pub loop-preserved : goal.loop-preserved
loop-preserved c =
    let n = c.args.count - c.loop.counter in
    let some : 0 < n = omega arith in
    let k : c.args.count - (c.loop.counter + 1) ≡ n - 1 = omega arith in
    record {
      plain = omega arith;
      rest = λ s.
          ap (λ j. all_mapped (lent_memory s c.args.pages.now) (addresses ((c.loop.place + 1) % 2 ^ 56) j)) k
          ∙ sym (mapped_next (lent_memory s c.args.pages.now) c.loop.place n some (here c s))
          ∙ c.loop.invariant.rest s;
      known =
          elim c.if-page-known.branch [
            | then-page-known+else-not-is_mapped w ↦ rw w.known-is (inr (here c))
            | else-page-known w ↦ rw w.known-is c.loop.invariant.known
          ];
    }

pub returns : goal.returns
returns c =
    λ s.
    sym (mapped_none (lent_memory s c.args.pages.now) c.loop.place (c.args.count - c.loop.counter) (omega arith))
    ∙ c.loop.invariant.rest s
