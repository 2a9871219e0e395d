-- The contents of a call's memory, and the state that its calls keep.
use Rattle.std.specs.Prelude.{◌≡◌, List, refl}
use Rattle.std.proofs.Common.{◌∙◌}
use Rattle.std.specs.Borrow.{MutBor}
use Rattle.mte_tags.specs.Memory.{Memory}
use Rattle.tombolopan_c.specs.LentPages.{lent_memory, state_of}
use Rattle.tombolopan_c.specs.declared.lent.Lent.{Lent}
use Rattle.tombolopan_c.specs.declared.lent.LentTagState.{LentTagState}
use Rattle.tombolopan_c.specs.declared.lent_page.LentPage.{LentPage}

-- The tagged memory in the places that C lends.
abbrev pub memory_of : Lent → Memory
memory_of l = lent_memory (state_of l.state.now) l.pages.now

-- A ghost name says which borrow a reference is, whatever is written through it: so who lent it
-- has what was written last.
pub record SameBorrows (a b : Lent) : Type 0 where
  pub pages : b.pages.ghost_name ≡ a.pages.ghost_name
  pub state : b.state.ghost_name ≡ a.state.ghost_name

-- The borrows are those that they are.
pub kept_same : (a : Lent) → SameBorrows a a
kept_same a = record { pages = refl; state = refl }

-- Borrows that stay twice stay.
pub kept_on : (a b c : Lent) → SameBorrows a b → SameBorrows b c → SameBorrows a c
kept_on a b c h k = record { pages = k.pages ∙ h.pages; state = k.state ∙ h.state }

-- a memory over these borrows
pub record IsOver (l : Lent) (pages : MutBor (List LentPage)) (state : MutBor LentTagState)
    : Type 0 where
  pub pages_are : l.pages ≡ pages
  pub state_is : l.state ≡ state
