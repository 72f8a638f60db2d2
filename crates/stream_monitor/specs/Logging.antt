-- What a monitor keeps that logs.
use Rattle.stream_monitor.specs.Log.{Log, log_of}
use Rattle.stream_monitor.specs.declared.logging_monitor.LoggingMonitor.{LoggingMonitor}

abbrev pub log_in : {R : Type 0} → LoggingMonitor R → Log
log_in m = log_of m.options m.given.items m.told.items
