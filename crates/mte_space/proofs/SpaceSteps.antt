-- A space whose page that was found is written.
use Rattle.std.proofs.Common.{◌≡◌, ℕ, ◌+◌, ◌++◌, ◌≤◌, take, drop, replicate, Bool, List, length, Option, Some, None, refl, sym, ap, ◌∙◌, arith, get_or-set_other}
use Rattle.std.proofs.lemmas.List.Elements.{All-weaker}
use Rattle.std.specs.Prelude.{option_map, IfSome}
use Rattle.std.specs.FinMap as finite
use Rattle.std.proofs.lemmas.List.{length-replicate}
use Rattle.mte_tags.specs.Memory.{Page, page_at, with_page}
use Rattle.mte_tags.specs.Runs.{with_bytes_run, with_granule_tags}
use Rattle.mte_tags.proofs.PageRuns.{spliced_is}
use Rattle.mte_tags.specs.declared.attrs.Attrs.{Attrs}
use Rattle.mte_tags.specs.declared.state.TagState.{TagState}
use Rattle.mte_arena.specs.Frames.{Frame, AreFrames, frame_at, frame_or, make_frame, with_run}
use Rattle.mte_frames.specs.Pool.{Pool, IsHeldBy, IsTaken, IsSound, KeepsOthers}
use Rattle.mte_translate.specs.Tables.{Root, pages_of, IsCached, Agrees, Stays}
use Rattle.mte_translate.specs.declared.translation.Translation.{Translation}
use Rattle.mte_space.specs.Spaces.{page_of, space_memory, IsSpace, KeepsRest}
use Rattle.mte_space.specs.Writes.{with_frame, retagged_frame}
use Rattle.mte_space.proofs.Memories.{page_at-space, space_written}
pub use Rattle.mte_space.proofs.Memories.{page_found}
use Rattle.mte_translate.proofs.KeptTables.{kept-after-write-of, page-frame}
use Rattle.mte_space.proofs.Taken.{within_frames, frame_at-set, is_frame}

pub found_out : (p : Pool) (k : ℕ) (t : Root) (l q : ℕ) (o : Option (ℕ × Attrs)) → IsSpace p k t l → o ≡ finite.get (pages_of p t.frame) q → IfSome o (λ x. IsHeldBy p x.0 k)
found_out p k t l q None h e = tt
found_out p k t l q (Some (f, a)) h e = (page-frame p k q f a t h.table (sym e)).1

pub found_taken : (p : Pool) (k : ℕ) (t : Root) (l q : ℕ) (o : Option (ℕ × Attrs)) → IsSpace p k t l → o ≡ finite.get (pages_of p t.frame) q → IfSome o (λ x. IsTaken p x.0)
found_taken p k t l q None h e = tt
found_taken p k t l q (Some (f, a)) h e = (k, (page-frame p k q f a t h.table (sym e)).1)

pub page_is : (p : Pool) (t : Root) (l : ℕ) (s : TagState) (q : ℕ) (o : Option (ℕ × Attrs)) → o ≡ finite.get (pages_of p t.frame) q → page_at (space_memory p t l s) q ≡ option_map (page_of p) o
page_is p t l s q o e = page_at-space p t l s q ∙ ap (option_map (page_of p)) (sym e)

module _ (p : Pool) (k : ℕ) (t : Root) (l q f : ℕ) (a : Attrs) (x : Frame) (h : IsSpace p k t l) (found : finite.get (pages_of p t.frame) q ≡ Some (f, a)) where
  n : Pool
  n = with_frame p f x

  stays : Stays k t p n
  unfolding n
  stays = kept-after-write-of p k f (Some x) t (page-frame p k q f a t h.table found).2 h.table

  pages : pages_of n t.frame ≡ pages_of p t.frame
  pages = stays.pages

  pub space_framed : IsSpace (with_frame p f x) k t l
  unfolding n
  space_framed = record {
    table = stays.table;
    once = λ r s g b c e d. h.once r s g b c (ap (λ m. finite.get m r) (sym pages) ∙ e) (ap (λ m. finite.get m s) (sym pages) ∙ d);
    below = h.below;
    frames = h.frames;
  }

  pub cached_framed : (asid : ℕ) (ts : List Translation) → IsCached (pages_of p t.frame) asid ts → IsCached (pages_of (with_frame p f x) t.frame) asid ts
  unfolding n
  cached_framed asid ts c = All-weaker (Agrees (pages_of p t.frame) asid) (Agrees (pages_of n t.frame) asid) (λ u agrees same. ap (λ m. finite.get m u.page) pages ∙ agrees same) ts c

  pub memory_framed : (s : TagState) → IsSound p → space_memory (with_frame p f x) t l s ≡ with_page (space_memory p t l s) q (record { attrs = a.0; bytes = x.bytes; tags = x.tags })
  unfolding n
  memory_framed s sound =
      let out = (page-frame p k q f a t h.table found).1 in
      space_written p n t t l s q f a x found pages (frame_at-set p.frames f x (within_frames p f k sound out))
      (λ r g b d e. ap frame_or (get_or-set_other p.frames f g (Some x) None (λ same. d (h.once r q g b a e (found ∙ ap (λ j. Some (j, a)) (sym same))))))

  pub rest_framed : KeepsOthers k p (with_frame p f x) → KeepsRest k p (with_frame p f x) t t
  rest_framed others = record { others = others; reserved = refl; capacities = refl; root = refl; taken = λ y e. e }

-- the page of a frame
abbrev pub page_with : Attrs → Frame → Page
page_with a x = record { attrs = a.0; bytes = x.bytes; tags = x.tags }

-- a frame that is retagged is the page retagged
pub retagged_is : (p : Pool) (f first count tag : ℕ) (a : Attrs) (z : Bool) → IsTaken p f → IsSound p → AreFrames p.frames → first + count ≤ 256
    → page_with a (retagged_frame (frame_at p.frames f) first count tag z) ≡ with_granule_tags (page_of p (f, a)) first count tag z
retagged_is p f first count tag a z out sound sized h =
    let x = frame_at p.frames f in
    let frame = is_frame p f out sound sized in
    let room : first + length (replicate count tag) ≤ length x.tags = omega (arith, frame.tags, length-replicate count tag) in
    let end : first + length (replicate count tag) ≡ first + count = omega (arith, length-replicate count tag) in
    let tags : with_run x.tags first count tag ≡ with_bytes_run x.tags first (replicate count tag) = sym (spliced_is (replicate count tag) x.tags first room ∙ ap (λ i. take first x.tags ++ (replicate count tag ++ drop i x.tags)) end) in
    ap (λ ts. page_with a (make_frame (retagged_frame x first count tag z).bytes ts)) tags
