-- The mission's second demand holds.
use Rattle.writer.proofs.Refusing.{written_read_back, read_written_again}
use Rattle.packing.proofs.Decides.{decides, no_exactly, yes_fits}
use Rattle.c_api.proofs.Plans as B
use Rattle.demands.specs.Demand2.{Demand2}

pub demand2 : Demand2
demand2 = record {
  yes = λ i q. (decides i q).yes;
  no = no_exactly;
  yes_fits = yes_fits;
  yes_in_bytes = B.yes_exactly;
  no_in_bytes = B.no_exactly;
  written_reads_back = written_read_back;
  read_written_again = read_written_again;
}
