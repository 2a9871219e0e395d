-- A space beside another tenant's step.
use Rattle.std.proofs.Common.{◌≡◌, ◌≢◌, ℕ, List, refl, sym, ap, subst, ◌∙◌, arith}
use Rattle.std.specs.Prelude.{Contains}
use Rattle.std.proofs.lemmas.List.Elements.{All-weaker, All-contains}
use Rattle.std.specs.Ordering.{nat_cmp}
use Rattle.std.specs.FinMap as finite
use Rattle.std.specs.FinMap.{get-empty}
use Rattle.mte_tags.specs.Memory.{no_pages}
use Rattle.mte_tags.specs.declared.state.TagMode.{TagMode}
use Rattle.mte_tags.specs.declared.state.TagState.{TagState}
use Rattle.std.specs.Prelude.{false}
use Rattle.mte_tags.proofs.Pages.{rest_of, same_memory, page_at-no_pages}
use Rattle.mte_arena.specs.Frames.{frame_or}
use Rattle.mte_frames.specs.Pool.{Pool, KeepsOthers}
use Rattle.mte_translate.specs.Tables.{Root, pages_of, IsTable, IsCached, Agrees}
use Rattle.mte_translate.specs.declared.translation.Translation.{Translation}
use Rattle.mte_translate.proofs.KeptTables.{kept-others, page-frame}
use Rattle.mte_space.specs.Spaces.{space_memory, IsSpace, NoneEnters}
use Rattle.mte_space.specs.Remembered.{IsRemembered}
use Rattle.mte_space.specs.declared.remembered.RememberedPages.{RememberedPages}
use Rattle.mte_space.proofs.Memories.{space_same, page_missing, rest-space}

pub other_memory : (p n : Pool) (j k l : ℕ) (t : Root) (s : TagState) → k ≢ j → KeepsOthers j p n → IsTable p k t → space_memory n t l s ≡ space_memory p t l s
other_memory p n j k l t s d keeps h =
    space_same p n t t l s (kept-others p n j k t d keeps h).pages
    (λ q f a e. ap frame_or (keeps.frames f k d (page-frame p k q f a t h e).1))

pub other_space : (p n : Pool) (j k l : ℕ) (t : Root) → k ≢ j → KeepsOthers j p n → IsSpace p k t l → IsSpace n k t l
other_space p n j k l t d keeps h =
    let stays = kept-others p n j k t d keeps h.table in
    record {
      table = stays.table;
      once = λ q r f a b e g. h.once q r f a b (ap (λ m. finite.get m q) (sym stays.pages) ∙ e) (ap (λ m. finite.get m r) (sym stays.pages) ∙ g);
      below = h.below;
      frames = let counts = keeps.counts k d in omega (arith, h.frames, counts.0, counts.1);
    }

pub other_cached : (p n : Pool) (j k asid other : ℕ) (t : Root) (ts us : List Translation) → k ≢ j → KeepsOthers j p n → IsTable p k t → other ≢ asid → NoneEnters asid ts us
    → IsCached (pages_of p t.frame) other ts → IsCached (pages_of n t.frame) other us
other_cached p n j k asid other t ts us d keeps h apart none c =
    let same = (kept-others p n j k t d keeps h).pages in
    All-weaker (λ u. u.asid ≢ asid → Contains ts u) (Agrees (pages_of n t.frame) other)
    (λ u stood is. ap (λ m. finite.get m u.page) same ∙ All-contains (Agrees (pages_of p t.frame) other) ts u c (stood (λ e. apart (sym is ∙ e))) is) us none

pub other_remembered : (p n : Pool) (j k : ℕ) (t : Root) (r : RememberedPages) → k ≢ j → KeepsOthers j p n → IsTable p k t → IsRemembered (pages_of p t.frame) r → IsRemembered (pages_of n t.frame) r
other_remembered p n j k t r d keeps h are = subst (λ m. IsRemembered m r) (sym (kept-others p n j k t d keeps h).pages) are

rest-no_pages : (l : ℕ) (mode : TagMode) → rest_of (no_pages l mode) ≡ (l, record { mode = mode; pending = false })
unfolding no_pages
rest-no_pages l mode = refl

pub no_pages_there : (p : Pool) (l : ℕ) (t : Root) (mode : TagMode) → pages_of p t.frame ≡ finite.empty → space_memory p t l (record { mode = mode; pending = false }) ≡ no_pages l mode
no_pages_there p l t mode e =
    let s : TagState = record { mode = mode; pending = false } in
    same_memory _ _ (rest-space p t l s ∙ sym (rest-no_pages l mode))
    (λ q. page_missing p t l s q (ap (λ m. finite.get m q) e ∙ get-empty nat_cmp q) ∙ sym (page_at-no_pages l mode q))
