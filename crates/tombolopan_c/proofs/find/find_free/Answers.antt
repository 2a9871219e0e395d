use Rattle.std.proofs.Common.{◌≡◌, ◌<◌, ◌∙◌, length, get_or, sym, ap, arith}
use Rattle.std.proofs.lemmas.List.{get_or_default}
use Rattle.tombolopan_c.specs.LentPages.{IsFree}
use Rattle.tombolopan_c.specs.declared.lent_page.LentPage.{LentPage}
use Rattle.tombolopan_c.specs.LentPlaces.{no_page}
use Rattle.tombolopan_c.proofs.Places.{room, no_room}
use Rattle.tombolopan_c.proofs.find.find_free.Goals as goal

pub returns-then-page-eq0-clause-room : goal.returns-then-page-eq0-clause-room
returns-then-page-eq0-clause-room c =
    let pages = c.args.pages.now in
    let at : c.loop-i.i < length pages = omega (arith, c.loop-i-test.true) in
    let zero : (get_or pages c.loop-i.i no_page).mapped ≡ 0 = c.if-page-eq0.true in
    let free : IsFree pages c.loop-i.i = record { within = at; free = λ d. ap (λ (t : LentPage). t.mapped) (get_or_default pages c.loop-i.i d no_page at) ∙ zero } in
    sym (room pages c.loop-i.i free)

pub returns-clause-room : goal.returns-clause-room
returns-clause-room c = sym (no_room c.args.pages.now (λ k d l. c.loop-i.invariant k d (omega arith)))
