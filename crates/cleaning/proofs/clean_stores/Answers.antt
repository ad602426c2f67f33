use native.Mathlib.Omega.{arith}
use Rattle.protocol.specs.Geometry.{regions}
use Rattle.protocol.specs.Lists.{clean_list}
use Rattle.protocol.proofs.Soundness.{live_known}
use Rattle.budget.proofs.Carrying.{carried}
use Rattle.cleaning.proofs.clean_stores.Goals as goal

pub invariant_of-standing : goal.invariant_of-standing
unfolding regions
invariant_of-standing c =
    let s = c.args.s in
    let fit = c.requires in
    let live = c.live-live.ensures in
    record {
      within = rw (c.region_count.ensures, c.from-size.ensures, live)
          (fit.range.disks, omega (arith, fit.range.blocks), live_known s fit, rw live at c.dirty_regions.ensures);
    }

pub returns : goal.returns
unfolding clean_list
returns c area output =
    let s = c.args.s in
    let live = c.live-live.ensures in
    let size = c.from-size.ensures in
    let regions = c.region_count.ensures in
    let cleared = rw (regions, size, live, c.started.ensures) at (c.clear-run.ensures s.blocks area) in
    let length = rw (regions, size, live) at c.count.ensures in
    rw (c.ended.ensures, c.current.ensures)
    (carried s _ _ c.args.budget _ area _ output cleared _ length)
