use Rattle.area_disk.proofs.laws.area_laws.Goals as goal

pub returns : goal.returns
returns g c = let laws = g.met.A.Area in record {
  holds = laws.holds;
  whole = laws.whole;
  same_size = laws.same_size;
  same_size_since = laws.same_size_since;
  counts_now = laws.counts_now;
  only_now = laws.only_now;
  may_stop = laws.may_stop;
  stops_new = laws.stops_new;
  counts_calls = laws.counts_calls;
}
