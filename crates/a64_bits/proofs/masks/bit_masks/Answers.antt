use Rattle.std.proofs.Common.{arith, sym, refl}
use Rattle.std.proofs.lemmas.Bool.{false≢true}
use Rattle.a64_bits.proofs.MaskLemmas.{reserved_none, by_wide_none, by_wide_some, by_short_32, by_short_64}
use Rattle.a64_bits.proofs.masks.bit_masks.Goals as goal

pub returns-then-not-is_mask : goal.returns-then-not-is_mask
returns-then-not-is_mask c =
    sym (reserved_none c.args.n c.args.imms c.args.immr c.args.size (λ m. false≢true (c.if-not-is_mask.ensures.1 m)))

pub returns-then-size-eq32 : goal.returns-then-size-eq32
returns-then-size-eq32 c =
    by_wide_none c.args.n c.args.imms c.args.immr c.args.size (c.if-not-is_mask.ensures.0 refl) (omega arith) (omega arith)

pub returns-else-size-eq32 : goal.returns-else-size-eq32
returns-else-size-eq32 c =
    by_wide_some c.args.n c.args.imms c.args.immr c.args.size _ (c.if-not-is_mask.ensures.0 refl) (omega arith) (omega arith) c.element.ensures.same

pub returns-then-size-eq32-2 : goal.returns-then-size-eq32-2
returns-then-size-eq32-2 c =
    by_short_32 c.args.n c.args.imms c.args.immr c.args.size _ (c.if-not-is_mask.ensures.0 refl) (omega arith) (omega arith) c.short_mask-half.ensures.same

pub returns-else-size-eq32-2 : goal.returns-else-size-eq32-2
returns-else-size-eq32-2 c =
    by_short_64 c.args.n c.args.imms c.args.immr c.args.size _ (c.if-not-is_mask.ensures.0 refl) (omega arith) (omega arith) c.short_mask-half.ensures.same
