use Rattle.std.proofs.Common.{◌∙◌, ap, refl}
use Rattle.mte_tags.specs.Memory.{page_at, pages_left}
use Rattle.mte_elf.specs.Headers.{segments_of}
use Rattle.mte_elf.proofs.LoadingLemmas.{ready_at_first, ready_step, rest_step, rest_end, image_left, image_above}
use Rattle.mte_elf.proofs.PageLemmas.{image_loaded}
use Rattle.mte_elf.proofs.loading.load.Goals as goal

pub loop-segment-init : goal.loop-segment-init
loop-segment-init g c = record {
  ready = ready_at_first c.args.file.now _ c.requires.image c.requires.free c.requires.room;
  rest = refl;
  kept = g.met.M.Tagged.kept_same _;
}

pub loop-segment-preserved : goal.loop-segment-preserved
loop-segment-preserved g c =
    let same = c.deref-segment-items.ensures.value ∙ c.requires.plan in
    record {
      ready = ready_step c.args.file.now _ _ _ (segments_of c.args.file.now) _ c.loop-segment.segment-index _ same c.loop-segment-test.true c.loop-segment.invariant.ready c.load_segment.ensures.memory;
      rest = rest_step c.args.file.now _ _ _ (segments_of c.args.file.now) _ c.loop-segment.segment-index _ same c.loop-segment-test.true c.loop-segment.invariant.rest c.load_segment.ensures.memory;
      kept = g.met.M.Tagged.kept_on _ _ _ c.loop-segment.invariant.kept c.load_segment.ensures.kept;
    }

pub returns-clause-memory : goal.returns-clause-memory
returns-clause-memory g c =
    rest_end c.args.file.now _ _ (segments_of c.args.file.now) _ c.loop-segment.segment-index (c.deref-segment-items.ensures.value ∙ c.requires.plan) c.loop-segment-test.false c.loop-segment.invariant.rest

pub returns-clause-left : goal.returns-clause-left
returns-clause-left g c =
    let memory = rest_end c.args.file.now (g.M.Tagged.memory c.loop-segment.memory) _ (segments_of c.args.file.now) _ c.loop-segment.segment-index (c.deref-segment-items.ensures.value ∙ c.requires.plan) c.loop-segment-test.false c.loop-segment.invariant.rest in
    ap pages_left memory ∙ image_left c.args.file.now _ c.requires.image c.requires.free c.requires.room

pub returns-clause-above : goal.returns-clause-above
returns-clause-above g c = λ page high free.
    let memory = rest_end c.args.file.now (g.M.Tagged.memory c.loop-segment.memory) _ (segments_of c.args.file.now) _ c.loop-segment.segment-index (c.deref-segment-items.ensures.value ∙ c.requires.plan) c.loop-segment-test.false c.loop-segment.invariant.rest in
    ap (λ m. page_at m page) memory ∙ image_above c.args.file.now _ page c.requires.image high free

pub returns-clause-pages : goal.returns-clause-pages
returns-clause-pages g c = λ page.
    let memory = rest_end c.args.file.now (g.M.Tagged.memory c.loop-segment.memory) _ (segments_of c.args.file.now) _ c.loop-segment.segment-index (c.deref-segment-items.ensures.value ∙ c.requires.plan) c.loop-segment-test.false c.loop-segment.invariant.rest in
    ap (λ m. page_at m page) memory ∙ image_loaded c.args.file.now _ page c.requires.image
