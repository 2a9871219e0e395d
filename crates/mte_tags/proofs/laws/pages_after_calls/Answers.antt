use Rattle.mte_tags.proofs.PageLaws.{attrs_at-with-bytes-at, attrs_at-with_granules, attrs_at-with_new_pages_in, attrs_at-with_new_pages_out, attrs_at-without_pages_in, attrs_at-without_pages_out, pages_left-with-bytes-at, pages_left-with_granules, pages_left-with_new_pages}
use Rattle.mte_tags.proofs.Whole.{pages_left-without_pages, unmapped}
use Rattle.mte_tags.proofs.laws.pages_after_calls.Goals as goal

pub returns-clause-store_tags : goal.returns-clause-store_tags
returns-clause-store_tags c = λ m a n tag page zero. attrs_at-with_granules n m a tag zero page

pub returns-clause-load : goal.returns-clause-load
returns-clause-load c = λ m a page bytes. attrs_at-with-bytes-at m a bytes page

pub returns-clause-map : goal.returns-clause-map
returns-clause-map c = λ m first n page attrs a b. attrs_at-with_new_pages_in n m first attrs page a b

pub returns-clause-map_others : goal.returns-clause-map_others
returns-clause-map_others c = λ m first n page attrs o. attrs_at-with_new_pages_out n m first attrs page o

pub returns-clause-unmap : goal.returns-clause-unmap
returns-clause-unmap c = λ m first n page a b. attrs_at-without_pages_in n m first page a b

pub returns-clause-unmap_others : goal.returns-clause-unmap_others
returns-clause-unmap_others c = λ m first n page o. attrs_at-without_pages_out n m first page o

pub returns-clause-store_tags_left : goal.returns-clause-store_tags_left
returns-clause-store_tags_left c = λ m a n tag zero. pages_left-with_granules n m a tag zero

pub returns-clause-load_left : goal.returns-clause-load_left
returns-clause-load_left c = λ m a bytes. pages_left-with-bytes-at m a bytes

pub returns-clause-map_left : goal.returns-clause-map_left
returns-clause-map_left c = λ m first n attrs free. pages_left-with_new_pages n m first attrs free

pub returns-clause-unmap_left : goal.returns-clause-unmap_left
returns-clause-unmap_left c = λ m first n. pages_left-without_pages n m first

pub returns-clause-unmap_all_left : goal.returns-clause-unmap_all_left
returns-clause-unmap_all_left c = λ m first n whole pages. (unmapped n m first pages whole).1
