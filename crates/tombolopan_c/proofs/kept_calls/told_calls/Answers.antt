use Rattle.std.proofs.Common.{◌≡◌, ◌∙◌, ◌+◌, ◌<◌, ◌++◌, [], ◌∷◌, sym, ap, arith, get_or, take, map, length}
use Rattle.std.proofs.lemmas.List.{take_more, map-append}
use Rattle.std.proofs.lemmas.Option.{get_or_from_slice_get}
use Rattle.mte_svc.specs.declared.calls.AnsweredCall.{AnsweredCall}
use Rattle.tombolopan_c.specs.LoneTenants.{call_told}
use Rattle.tombolopan_c.specs.declared.kept_calls.KeptCall.{KeptCall}
use Rattle.tombolopan_c.proofs.kept_calls.told_calls.Goals as goal

pub loop-i-preserved : goal.loop-i-preserved
loop-i-preserved c =
    let call : AnsweredCall = c.in-Some.call in
    let last = c.args.calls.now.last in
    let i = c.loop-i.i in
    let below : i < length last = omega arith in
    let there : get_or last i call ≡ call = get_or_from_slice_get last i call call (sym c.get.ensures ∙ c.in-Some.is) in
    let more : map call_told (take (i + 1) last) ≡ map call_told (take i last) ++ call_told (get_or last i call) ∷ [] =
    ap (map call_told) (take_more last i call below) ∙ map-append call_told (take i last) (get_or last i call ∷ []) in
    record {
      within = omega arith;
      told =
          c.push.ensures.items
          ∙ ap (λ t. t ++ c.of.result ∷ []) c.loop-i.invariant.told
          ∙ ap (λ (y : KeptCall). map call_told (take i last) ++ y ∷ []) (c.of.ensures ∙ ap call_told (sym there))
          ∙ sym more;
    }
