use Rattle.std.proofs.Common.{◌≡◌, ◌==◌, ◌∙◌, sym, ap, not, rules}
use Rattle.mte_translate.specs.Translations.{without_asid}
use Rattle.mte_translate.specs.Whole.{hashes_of}
use Rattle.mte_translate.proofs.TlbLemmas.{one-each-filter}
use Rattle.mte_translate.proofs.ChainLemmas.{chained-same}
use Rattle.mte_translate.proofs.tlb.Tlb.forget_all.Goals as goal

kept : (c : goal.After-rebuild) → c.retain.new.self.items ≡ without_asid c.args.asid c.self.inside.translations.items
kept c = c.retain.ensures.items (λ t. not (t.asid == c.args.asid)) (λ t b called. search rules) ∙ ap (without_asid c.args.asid) c.move_to_front.ensures.items

pub invariant_of-self : goal.invariant_of-self
invariant_of-self c =
    record {
      one_each = one-each-filter (λ t. not (t.asid == c.args.asid)) _ _ c.self.invariant.one_each (kept c);
      chained = chained-same _ _ _ _ _ _ c.rebuild.ensures c.retain.ensures.first (ap hashes_of (sym c.as_slice.ensures.items));
    }

pub returns : goal.returns
returns c = kept c ∙ ap (without_asid c.args.asid) c.self.view_is
