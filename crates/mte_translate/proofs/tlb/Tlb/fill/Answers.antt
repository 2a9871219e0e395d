use Rattle.std.proofs.Common.{◌∙◌, ◌∷◌, ◌++◌, [], ap}
use Rattle.mte_translate.specs.declared.translation.Translation.{Translation}
use Rattle.mte_translate.specs.Translations.{lookup, newest, without}
use Rattle.mte_translate.proofs.TlbLemmas.{others-all, none-without}
use Rattle.mte_translate.proofs.tlb.Tlb.fill.Goals as goal

pub add-requires : goal.add-requires
add-requires c = ap (lookup c.args.asid c.args.page) c.forget.ensures ∙ none-without c.args.asid c.args.page c.args.self.now

pub returns : goal.returns
returns c =
    let t : Translation = record { asid = c.args.asid; page = c.args.page; frame = c.args.frame; attrs = c.args.attrs } in
    c.add.ensures ∙ ap (λ ts. newest 63 (without c.args.asid c.args.page ts) ++ t ∷ []) c.forget.ensures
    ∙ ap (λ ts. newest 63 ts ++ t ∷ []) (others-all c.args.asid c.args.page (without c.args.asid c.args.page c.args.self.now) (none-without c.args.asid c.args.page c.args.self.now))
