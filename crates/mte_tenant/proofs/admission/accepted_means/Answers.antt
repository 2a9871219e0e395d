use Rattle.mte_tenant.specs.Admissions.{start_in}
use Rattle.mte_tenant.proofs.Refusals.{each_passed}
use Rattle.mte_tenant.proofs.admission.accepted_means.Goals as goal

pub returns : goal.returns
returns c =
    let each = each_passed c.args.facts (start_in c.args.admission.now) c.requires in
    record {
      fresh = each.fresh;
      good = each.good;
      some = each.some;
      most = each.most;
      image = each.image;
      room = each.room;
      frames = each.frames;
      few = each.few;
    }
