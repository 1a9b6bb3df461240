-- The descriptor and its date: cited. Assumes nothing.
use Rattle.layout_volume.proofs.Laws.{read_back}
use Rattle.layout_volume.proofs.Stamp as stamp
use Rattle.claims.specs.Dated.{Dated}

pub dated : Dated
dated = record {
  read_back = λ out d room fits. read_back out d room fits.sector fits.size fits.stamp;
  undated = stamp.undated;
  before = stamp.same_before;
  behind = stamp.same_behind;
  root_apart = stamp.root_apart;
  no_date = stamp.no_date;
  a_date = stamp.a_date;
  date_one = stamp.date_one;
}
