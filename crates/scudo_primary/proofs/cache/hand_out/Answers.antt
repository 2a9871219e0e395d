use Rattle.std.proofs.Common.{◌≡◌, None, Some, refl, rules}
use Rattle.scudo_primary.specs.Caches.{newest}
use Rattle.scudo_primary.proofs.ClassLemmas.{taken-state, taken-loose, taken-distinct, taken-top, taken-block}
use Rattle.scudo_primary.proofs.cache.hand_out.Goals as goal

pub returns-in_err-block-clause-state : goal.returns-in_err-block-clause-state
returns-in_err-block-clause-state c =
    let e : None ≡ newest c.args.entries.now = search rules in
    taken-state _ _ c.args.class None _ _ refl c.pop.ensures.rest e

pub returns-clause-state : goal.returns-clause-state
returns-clause-state c = taken-state _ _ c.args.class (Some c.in_ok-block.block) _ _ c.mark_used.ensures c.pop.ensures.rest c.in_ok-block.ensures.value

pub returns-clause-held : goal.returns-clause-held
returns-clause-held c =
    let h = c.requires.held in
    record {
      cached = taken-loose c.args.pool.now c.mark_used.new.self c.args.class c.in_ok-block.block c.args.entries.now c.pop.new.self c.mark_used.ensures c.pop.ensures.rest c.in_ok-block.ensures.value h.distinct h.cached;
      distinct = taken-distinct c.args.entries.now c.pop.new.self c.pop.ensures.rest h.distinct;
      most = search rules;
    }

pub returns-clause-top : goal.returns-clause-top
returns-clause-top c = taken-top c.in_ok-block.block c.args.entries.now c.pop.new.self _ c.in_ok-block.ensures.blocks

pub returns-clause-block : goal.returns-clause-block
returns-clause-block c = taken-block c.args.pool.now c.mark_used.new.self c.args.class c.in_ok-block.block c.args.entries.now c.mark_used.ensures c.in_ok-block.ensures.value c.requires.held.cached
