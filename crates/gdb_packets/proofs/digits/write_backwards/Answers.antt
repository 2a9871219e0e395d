use Rattle.std.proofs.Common.{arith, false, ap, ◌∙◌}
use Rattle.std.proofs.lemmas.List.{drop_all}
use Rattle.std.specs.Fmt.{digits_onto}
use Rattle.gdb_packets.proofs.NumberLemmas.{digits-sixteen}
use Rattle.gdb_packets.proofs.digits.write_backwards.Goals as goal

pub loop-start-init : goal.loop-start-init
loop-start-init c =
    let small = c.ranges.value.fits in
    record {
      within = omega arith;
      small = small;
      text = ap (digits_onto 16 16 false c.args.value) (drop_all 16 c.args.text.now (omega arith)) ∙ digits-sixteen c.args.value small;
    }
