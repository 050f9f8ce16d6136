-- The store's error for one of the disk or of the log.
use Rattle.gs_disk.specs.declared.disk.DiskErr.{DiskErr}
use Rattle.gs_disk.specs.declared.disk.DiskErr.TheVariants.{Fault, Memory}
use Rattle.gs_log.specs.declared.err.LogErr.{LogErr}
use Rattle.gs_log.specs.declared.err.LogErr.TheVariants as logs
use Rattle.gs_store.specs.declared.err.StoreErr.{StoreErr}
use Rattle.gs_store.specs.declared.err.StoreErr.TheVariants.{BadLog, DiskFault, NoMemory}

abbrev pub err_of_disk : DiskErr → StoreErr
err_of_disk Fault = DiskFault
err_of_disk Memory = NoMemory

-- a log without a mark is none that is read
abbrev pub err_of_log : LogErr → StoreErr
err_of_log logs.NoMark = BadLog 0
err_of_log (logs.BadLog at) = BadLog at
err_of_log logs.DiskFault = DiskFault
err_of_log logs.NoMemory = NoMemory
