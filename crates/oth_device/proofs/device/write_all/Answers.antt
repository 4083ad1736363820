use Rattle.std.proofs.Common.{◌∙◌}
use Rattle.oth_device.proofs.DeviceLemmas.{written_more}
use Rattle.oth_device.proofs.device.write_all.Goals as goal

pub loop-rest-preserved : goal.loop-rest-preserved
loop-rest-preserved g c =
    let done = c.loop-rest.invariant.done in
    record {
      done = written_more _ _ _ _ _ _ _ done.1 done.2 c.in_ok-count.ensures.bytes;
      failed = c.in_ok-count.ensures.works ∙ c.loop-rest.invariant.failed;
    }
