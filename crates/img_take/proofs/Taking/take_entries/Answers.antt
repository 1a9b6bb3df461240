-- `take_entries` meets its contract.
use Rattle.std.proofs.Common.{rules, refl}
use Rattle.img_take.specs.inner.Taken.{taking_in}
use Rattle.img_take.proofs.Along.{along_low, along_next, along_last}
use Rattle.img_take.proofs.Taking.take_entries.Goals as goal

pub take_entry-requires-clause-fits : goal.take_entry-requires-clause-fits
take_entry-requires-clause-fits c =
    let a = c.args in
    let l = c.loop-number in
    along_low a.share.kind.now a.share.value.now a.size.now a.first a.order.now (taking_in a.self.now) (taking_in l.self)
    l.number-index _ l.invariant.0 refl c.loop-number-test.true c.requires.fits

pub loop-number-preserved : goal.loop-number-preserved
loop-number-preserved c =
    let a = c.args in
    let l = c.loop-number in (
      along_next a.share.kind.now a.share.value.now a.size.now a.first a.order.now (taking_in a.self.now) (taking_in l.self)
          l.number-index _ l.invariant.0 refl (taking_in c.take_entry.new.self) _ c.loop-number-test.true
          c.take_entry.ensures.taken refl,
      search rules,
      search rules,
    )

pub returns-clause-taken : goal.returns-clause-taken
returns-clause-taken c =
    let a = c.args in
    let l = c.loop-number in
    along_last a.share.kind.now a.share.value.now a.size.now a.first a.order.now (taking_in a.self.now) (taking_in l.self)
    l.number-index l.invariant.0 c.loop-number-test.false
