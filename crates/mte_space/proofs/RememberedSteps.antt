-- Remembered pages where the pages of a tenant's table change.
use Rattle.std.proofs.Common.{◌≡◌, ◌∙◌, ℕ, ◌<◌, ◌*◌, ◌/◌, ◌^◌, List, [], ◌∷◌, Some, length, replicate, refl, sym, ap, subst, arith}
use Rattle.std.specs.FinMap.{get}
use Rattle.std.proofs.lemmas.List.{length-replicate, length-set}
use Rattle.std.specs.Prelude.{All}
use Rattle.std.proofs.lemmas.List.Elements.{All-weaker, All-head, All-cons, All-nil, All-replicate, All-set}
use Rattle.mte_translate.specs.Tables.{Pages, Agrees, IsCached}
use Rattle.mte_translate.specs.declared.translation.Translation.{Translation}
use Rattle.mte_tags.specs.declared.attrs.Attrs.{Attrs}
use Rattle.mte_space.specs.Remembered.{attrs_of, IsKey, IsUpToDate, IsRemembered, with_page_at}
use Rattle.mte_space.specs.declared.remembered.TheConstants.{PLACES}
use Rattle.mte_space.specs.declared.remembered.RememberedPage.{RememberedPage}
use Rattle.mte_space.specs.declared.remembered.RememberedPages.{RememberedPages}

pub page_stays_up_to_date :
    (m n : Pages) (on : (asid : ℕ) (ts : List Translation) → IsCached m asid ts → IsCached n asid ts)
    (p : RememberedPage) → IsUpToDate m p → IsUpToDate n p
page_stays_up_to_date m n on p is = record {
  aligned = is.aligned;
  page = λ low.
      let t : Translation = record { asid = 0; page = p.address / 4096; frame = p.frame; attrs = attrs_of p } in
      let old : Agrees m 0 t = λ same. is.page low in
      All-head (Agrees n 0) t [] (on 0 (t ∷ []) (All-cons (Agrees m 0) t [] old (All-nil (Agrees m 0)))) refl;
  readable = is.readable;
  writable = is.writable;
}

-- where every translation that was right stays so, every remembered page does
pub pages_stay_up_to_date :
    (m n : Pages) (r : RememberedPages)
    → ((asid : ℕ) (ts : List Translation) → IsCached m asid ts → IsCached n asid ts)
    → IsRemembered m r → IsRemembered n r
pages_stay_up_to_date m n r on are = record {
  places = are.places;
  pages = All-weaker (IsUpToDate m) (IsUpToDate n) (page_stays_up_to_date m n on) r.pages.value are.pages;
}

-- what is remembered where no page was found
abbrev pub nothing : RememberedPage
nothing =
    record {
      address = 18446744073709551615;
      readable = 18446744073709551615;
      writable = 18446744073709551615;
      frame = 18446744073709551615;
      attrs = 18446744073709551615;
    }

nothing_is : (m : Pages) → IsUpToDate m nothing
nothing_is m = record {
  aligned = λ low. absurd (omega (arith, low));
  page = λ low. absurd (omega (arith, low));
  readable = λ low. absurd (omega (arith, low));
  writable = λ low. absurd (omega (arith, low));
}

pub nothing_remembered : (m : Pages) (r : RememberedPages) → r.pages.value ≡ replicate PLACES nothing → IsRemembered m r
nothing_remembered m r e = record {
  places = ap length e ∙ length-replicate PLACES nothing;
  pages = subst (All (IsUpToDate m)) (sym e) (All-replicate (IsUpToDate m) PLACES nothing (nothing_is m));
}

-- one more page
pub remembered_with : (m : Pages) (r : RememberedPages) (i : ℕ) (p : RememberedPage) → IsUpToDate m p → IsRemembered m r → IsRemembered m (with_page_at r i p)
remembered_with m r i p is are = record {
  places = length-set r.pages.value i p ∙ are.places;
  pages = All-set (IsUpToDate m) r.pages.value i p is are.pages;
}

pub found_up_to_date : (m : Pages) (p : RememberedPage) (q f : ℕ) (a : Attrs) → q < 2 ^ 44 → p.address ≡ q * 4096 → p.frame ≡ f → attrs_of p ≡ a
    → IsKey p 1 p.readable → IsKey p 2 p.writable → Some (f, a) ≡ get m q → IsUpToDate m p
found_up_to_date m p q f a low address frame attrs readable writable found =
    let number : p.address / 4096 ≡ q = omega (arith, address) in
    record {
      aligned = λ _. omega (arith, address);
      page = λ _. ap (get m) number ∙ sym found ∙ ap (λ k. Some (k, a)) (sym frame) ∙ ap (λ b. Some (p.frame, b)) (sym attrs);
      readable = readable;
      writable = writable;
    }
