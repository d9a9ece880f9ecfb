-- What every catalogue holds to is what its text is read back by.
use Rattle.std.proofs.Common.{rules}
use Rattle.mon_catalogue.{specs.Stored.{IsStored, ArePrintable}, proofs.Back.{catalogue_reads_back, bytes_read_back}}
use Rattle.mon_catalogue.proofs.catalogue.Catalogue.reads_back.Goals as goal

pub returns-clause-reads_back : goal.returns-clause-reads_back
returns-clause-reads_back c =
    let stored : IsStored c.args.self.now = search rules in
    catalogue_reads_back c.args.self.now stored

pub returns-clause-bytes_read_back : goal.returns-clause-bytes_read_back
returns-clause-bytes_read_back c =
    let stored : IsStored c.args.self.now = search rules in
    let printable : ArePrintable c.args.self.now = search rules in
    bytes_read_back c.args.self.now stored printable
