-- A tenant's memory where its table or the frame of one of its pages has changed.
use Rattle.std.proofs.Common.{◌≡◌, ◌≢◌, ℕ, ◌-◌, Option, Some, None, is_some, true, refl, sym, ap, ◌∙◌, inl, inr}
use Rattle.std.proofs.lemmas.Bool.{cases_eq, cond-true, cond-false}
use Rattle.std.specs.Prelude.{option_map}
use Rattle.std.specs.FinMap as finite
use Rattle.std.specs.FinMap.{get-insert, get-remove}
use Rattle.std.specs.Cmp.{nat_cmp_total}
use Rattle.mte_tags.specs.Memory.{Page, page_at, with_page, without_page, new_page, pages_left}
use Rattle.mte_tags.specs.declared.attrs.Attrs.{Attrs}
use Rattle.mte_tags.specs.declared.state.TagState.{TagState}
use Rattle.mte_tags.proofs.Pages.{tied_same, tied_other, rest_of, same_memory, rest-with_page, rest-without_page, page_at-with_page_same, page_at-with_page_other, page_at-without_page_same, page_at-without_page_other}
use Rattle.mte_arena.specs.Frames.{Frame, frame_at, zero_frame}
use Rattle.mte_frames.specs.Pool.{Pool}
use Rattle.mte_translate.specs.Tables.{Root, pages_of}
use Rattle.mte_space.specs.Spaces.{page_of, space_memory}
use Rattle.mte_space.proofs.Values.{get-with_values, len-with_values}

pub page_at-space : (p : Pool) (t : Root) (n : ℕ) (s : TagState) (q : ℕ) → page_at (space_memory p t n s) q ≡ option_map (page_of p) (finite.get (pages_of p t.frame) q)
unfolding page_at space_memory
page_at-space p t n s q = get-with_values (page_of p) (pages_of p t.frame) q

pub page_found : (p : Pool) (t : Root) (n : ℕ) (s : TagState) (q f : ℕ) (a : Attrs) → finite.get (pages_of p t.frame) q ≡ Some (f, a) → page_at (space_memory p t n s) q ≡ Some (page_of p (f, a))
page_found p t n s q f a e = page_at-space p t n s q ∙ ap (option_map (page_of p)) e

pub page_missing : (p : Pool) (t : Root) (n : ℕ) (s : TagState) (q : ℕ) → finite.get (pages_of p t.frame) q ≡ None → page_at (space_memory p t n s) q ≡ None
page_missing p t n s q e = page_at-space p t n s q ∙ ap (option_map (page_of p)) e

pub rest-space : (p : Pool) (t : Root) (n : ℕ) (s : TagState) → rest_of (space_memory p t n s) ≡ (n, s)
unfolding space_memory
rest-space p t n s = refl

pub pages_left-space : (p : Pool) (t : Root) (n : ℕ) (s : TagState) → t.len ≡ finite.len (pages_of p t.frame) → pages_left (space_memory p t n s) ≡ n - t.len
unfolding pages_left space_memory
pages_left-space p t n s e = ap (λ k. n - k) (len-with_values (page_of p) (pages_of p t.frame) ∙ sym e)

-- what two tables map to the same frames, whose contents are the same, are the same pages
pub same_value : (p n : Pool) (o : Option (ℕ × Attrs)) → ((f : ℕ) (a : Attrs) → o ≡ Some (f, a) → frame_at n.frames f ≡ frame_at p.frames f) → option_map (page_of n) o ≡ option_map (page_of p) o
same_value p n None h = refl
same_value p n (Some (f, a)) h = ap (λ x. Some (record { attrs = a.0; bytes = x.bytes; tags = x.tags })) (h f a refl)

pub space_same : (p n : Pool) (t u : Root) (l : ℕ) (s : TagState) → pages_of n u.frame ≡ pages_of p t.frame
    → ((q f : ℕ) (a : Attrs) → finite.get (pages_of p t.frame) q ≡ Some (f, a) → frame_at n.frames f ≡ frame_at p.frames f)
    → space_memory n u l s ≡ space_memory p t l s
space_same p n t u l s e h =
    same_memory _ _ (rest-space n u l s ∙ sym (rest-space p t l s))
    (λ q. page_at-space n u l s q ∙ ap (λ m. option_map (page_of n) (finite.get m q)) e
    ∙ same_value p n (finite.get (pages_of p t.frame) q) (h q) ∙ sym (page_at-space p t l s q))

-- a page has other bytes or tags
pub space_written : (p n : Pool) (t u : Root) (l : ℕ) (s : TagState) (q f : ℕ) (a : Attrs) (x : Frame) → finite.get (pages_of p t.frame) q ≡ Some (f, a) → pages_of n u.frame ≡ pages_of p t.frame
    → frame_at n.frames f ≡ x → ((r g : ℕ) (b : Attrs) → r ≢ q → finite.get (pages_of p t.frame) r ≡ Some (g, b) → frame_at n.frames g ≡ frame_at p.frames g)
    → space_memory n u l s ≡ with_page (space_memory p t l s) q (record { attrs = a.0; bytes = x.bytes; tags = x.tags })
space_written p n t u l s q f a x found e is others =
    let m = space_memory p t l s in
    let page : Page = record { attrs = a.0; bytes = x.bytes; tags = x.tags } in
    same_memory _ _ (rest-space n u l s ∙ sym (rest-with_page m q page ∙ rest-space p t l s))
    (λ r. page_at-space n u l s r ∙ ap (λ k. option_map (page_of n) (finite.get k r)) e ∙ elim (cases_eq r q) [
      | inl same ↦ rw same (ap (option_map (page_of n)) found ∙ ap (λ y. Some (record { attrs = a.0; bytes = y.bytes; tags = y.tags })) is ∙ sym (page_at-with_page_same m q page))
      | inr d ↦ same_value p n (finite.get (pages_of p t.frame) r) (λ g b. others r g b d) ∙ sym (page_at-with_page_other m q page r d ∙ page_at-space p t l s r)
    ])

-- a page is mapped to a frame of zero bytes and tags
pub space_mapped : (p n : Pool) (t u : Root) (l : ℕ) (s : TagState) (q f : ℕ) (a : Attrs) → pages_of n u.frame ≡ finite.insert (pages_of p t.frame) q (f, a)
    → frame_at n.frames f ≡ zero_frame → ((r g : ℕ) (b : Attrs) → r ≢ q → finite.get (pages_of p t.frame) r ≡ Some (g, b) → frame_at n.frames g ≡ frame_at p.frames g)
    → space_memory n u l s ≡ with_page (space_memory p t l s) q (new_page a.0)
unfolding new_page zero_frame
space_mapped p n t u l s q f a e is others =
    let m = space_memory p t l s in
    same_memory _ _ (rest-space n u l s ∙ sym (rest-with_page m q (new_page a.0) ∙ rest-space p t l s))
    (λ r. page_at-space n u l s r ∙ ap (λ k. option_map (page_of n) (finite.get k r)) e ∙ ap (option_map (page_of n)) (get-insert nat_cmp_total (pages_of p t.frame) q (f, a) r) ∙ elim (cases_eq r q) [
      | inl same ↦ rw same (ap (option_map (page_of n)) (cond-true _ _ _ (tied_same q)) ∙ ap (λ y. Some (record { attrs = a.0; bytes = y.bytes; tags = y.tags })) is ∙ sym (page_at-with_page_same m q (new_page a.0)))
      | inr d ↦ ap (option_map (page_of n)) (cond-false _ _ _ (tied_other r q d)) ∙ same_value p n (finite.get (pages_of p t.frame) r) (λ g b. others r g b d) ∙ sym (page_at-with_page_other m q (new_page a.0) r d ∙ page_at-space p t l s r)
    ])

-- a page is unmapped
pub space_removed : (p n : Pool) (t u : Root) (l : ℕ) (s : TagState) (q : ℕ) → pages_of n u.frame ≡ finite.remove (pages_of p t.frame) q
    → ((r g : ℕ) (b : Attrs) → r ≢ q → finite.get (pages_of p t.frame) r ≡ Some (g, b) → frame_at n.frames g ≡ frame_at p.frames g)
    → space_memory n u l s ≡ without_page (space_memory p t l s) q
space_removed p n t u l s q e others =
    let m = space_memory p t l s in
    same_memory _ _ (rest-space n u l s ∙ sym (rest-without_page m q ∙ rest-space p t l s))
    (λ r. page_at-space n u l s r ∙ ap (λ k. option_map (page_of n) (finite.get k r)) e ∙ ap (option_map (page_of n)) (get-remove nat_cmp_total (pages_of p t.frame) q r) ∙ elim (cases_eq r q) [
      | inl same ↦ rw same (ap (option_map (page_of n)) (cond-true _ _ _ (tied_same q)) ∙ sym (page_at-without_page_same m q))
      | inr d ↦ ap (option_map (page_of n)) (cond-false _ _ _ (tied_other r q d)) ∙ same_value p n (finite.get (pages_of p t.frame) r) (λ g b. others r g b d) ∙ sym (page_at-without_page_other m q r d ∙ page_at-space p t l s r)
    ])

-- where no page is, none is mapped
none_of : {X Y : Type 0} (g : X → Y) (o : Option X) → option_map g o ≡ None → o ≡ None
none_of g None e = refl
none_of g (Some x) e = cc

pub unmapped_there : (p : Pool) (t : Root) (n : ℕ) (s : TagState) (q : ℕ) → page_at (space_memory p t n s) q ≡ None → finite.get (pages_of p t.frame) q ≡ None
unmapped_there p t n s q e = none_of (page_of p) (finite.get (pages_of p t.frame) q) (sym (page_at-space p t n s q) ∙ e)

pub mapped_there : (p : Pool) (t : Root) (n : ℕ) (s : TagState) (q : ℕ) → is_some (page_at (space_memory p t n s) q) ≡ true → is_some (finite.get (pages_of p t.frame) q) ≡ true
mapped_there p t n s q e = some_of (page_of p) (finite.get (pages_of p t.frame) q) (ap is_some (sym (page_at-space p t n s q)) ∙ e)
  where
    some_of : {X Y : Type 0} (g : X → Y) (o : Option X) → is_some (option_map g o) ≡ true → is_some o ≡ true
    some_of g None e = e
    some_of g (Some x) e = refl

pub page_there : (p : Pool) (t : Root) (n : ℕ) (s : TagState) (q : ℕ) → is_some (finite.get (pages_of p t.frame) q) ≡ true → is_some (page_at (space_memory p t n s) q) ≡ true
page_there p t n s q e = ap is_some (page_at-space p t n s q) ∙ some_map (page_of p) (finite.get (pages_of p t.frame) q) e
  where
    some_map : {X Y : Type 0} (g : X → Y) (o : Option X) → is_some o ≡ true → is_some (option_map g o) ≡ true
    some_map g None e = e
    some_map g (Some x) e = refl
