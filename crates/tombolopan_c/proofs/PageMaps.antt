-- Entries of mapped pages.
use Rattle.std.proofs.Common.{◌≡◌, ℕ, ◌<◌, ◌∙◌, List, [], ◌∷◌, length, map, get_or, refl, sym, ap, arith}
use Rattle.std.proofs.lemmas.List.{length-map, get_or-map}
use Rattle.std.specs.Prelude.{option_map}
use Rattle.std.specs.Ordering.{nat_cmp}
use Rattle.std.specs.FinMap as finite
use Rattle.mte_tags.specs.Memory.{Memory, page_at}
use Rattle.mte_flat.specs.MappedPages.{entry_of, attrs_in, AreApart}
use Rattle.mte_flat.specs.declared.mapped.MappedPage.{MappedPage}
use Rattle.tombolopan_c.specs.Pages.{page_told, number_and_attrs, attrs_told, IsPageMap}
use Rattle.tombolopan_c.specs.declared.pages.PageEntry.{PageEntry}

entries_same : (ps : List MappedPage) → map number_and_attrs (map page_told ps) ≡ map entry_of ps
entries_same [] = refl
entries_same (p ∷ ps) = ap (λ l. (p.number, p.attrs.0) ∷ l) (entries_same ps)

told_same : (ps : List MappedPage) (q : ℕ) → attrs_told (map page_told ps) q ≡ attrs_in ps q
told_same ps q = ap (λ es. finite.get (finite.from_entries {R = nat_cmp} es) q) (entries_same ps)

-- the number of an entry
number_told : (ps : List MappedPage) (i : ℕ) (d : PageEntry) (e : MappedPage) → i < length ps → (get_or (map page_told ps) i d).number ≡ (get_or ps i e).number
number_told ps i d e l = ap (λ x. x.number) (get_or-map page_told ps i e d l)

-- a list that has each page of a memory has them as entries
pub is_map : (m : Memory) (ps : List MappedPage) → ((q : ℕ) → attrs_in ps q ≡ option_map (λ p. p.attrs) (page_at m q)) → AreApart ps
    → IsPageMap m (map page_told ps)
is_map m ps each once = record {
  each = λ q. told_same ps q ∙ each q;
  once = λ i j d l k e.
      let long = length-map ps page_told in
      let none : MappedPage = record { number = 0; attrs = record { 0 = 0 } } in
      once i j none (omega (arith, l, long)) (omega (arith, k, long))
      (sym (number_told ps i d none (omega (arith, l, long))) ∙ e ∙ number_told ps j d none (omega (arith, k, long)));
}
