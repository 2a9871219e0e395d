use Rattle.std.proofs.Common.{refl, arith}
use Rattle.mte_translate.specs.Tables.{pages_of}
use Rattle.mte_space.specs.Places.{remembered_in}
use Rattle.mte_space.specs.Remembered.{no_page}
use Rattle.mte_space.proofs.PlaceSteps.{KeySays, key_says, page_of_place}
use Rattle.mte_space.proofs.space.SpacePageStore.writable_place.Goals as goal

says : (c : goal.Then-is_key_of) → KeySays (remembered_in c.args.self.now c.data_place-place.result) 2 c.args.addr c.args.size
says c =
    let s = c.args.self.now in
    let is = s.up_to_date.pages c.data_place-place.result no_page (search arith) in
    let key = rw c.at-page.ensures at c.if-is_key_of.ensures in
    key_says (pages_of s.pool.now s.table.now.frame) _ 2 _ c.args.addr c.args.size is is.writable (key.low refl) (key.page refl) (key.aligned refl)

pub returns-then-is_key_of-clause-page : goal.returns-then-is_key_of-clause-page
returns-then-is_key_of-clause-page c =
    let of = says c in
    page_of_place c.args.self.now _ c.data_place-place.result (search arith, of.low) of.page
