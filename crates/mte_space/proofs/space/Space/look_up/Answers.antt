use Rattle.std.proofs.Common.{None, arith}
use Rattle.mte_space.proofs.SpaceSteps.{page_is}
use Rattle.mte_space.proofs.PlaceSteps.{page_in_place}
use Rattle.mte_space.proofs.RememberedSteps.{found_up_to_date, remembered_with}
use Rattle.mte_space.proofs.space.Space.look_up.Goals as goal

pub returns-in_err-frame-clause-page : goal.returns-in_err-frame-clause-page
returns-in_err-frame-clause-page c =
    let s = c.args.self.now in
    rw c.from_residual.ensures (page_is s.pool.now s.table.now s.limit s.state.now c.args.page None c.in_err-frame.ensures.found)

pub invariant_of-self-2 : goal.invariant_of-self-2
invariant_of-self-2 c =
    let s = c.args.self.now in
    let of = c.new.ensures in
    let is = found_up_to_date _ c.new.result c.args.page c.in_ok-frame.frame c.in_ok-frame.attrs c.requires.low of.address of.frame of.attrs of.readable of.writable c.in_ok-frame.ensures.found in
    record {
      space = s.space;
      cached = c.in_ok-frame.ensures.cached;
      up_to_date = rw c.set.ensures (remembered_with _ s.remembered.now c.args.place _ is s.up_to_date);
    }

pub returns-clause-page : goal.returns-clause-page
returns-clause-page c =
    let of = c.new.ensures in
    let is = found_up_to_date _ c.new.result c.args.page c.in_ok-frame.frame c.in_ok-frame.attrs c.requires.low of.address of.frame of.attrs of.readable of.writable c.in_ok-frame.ensures.found in
    rw c.set.ensures (page_in_place c.args.self.now c.args.page c.args.place c.new.result (search arith) is of.address c.requires.low)
