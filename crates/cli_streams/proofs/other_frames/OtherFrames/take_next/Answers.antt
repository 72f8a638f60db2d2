use Rattle.cli_streams.proofs.ReadingOn.{closed_next, read_next, failed_next}
use Rattle.cli_streams.proofs.other_frames.OtherFrames.take_next.Goals as goal

pub returns-then-not-self : goal.returns-then-not-self
returns-then-not-self g c = record {
  takes = λ before count taken t.
      closed_next _ before _ _ _ count taken _ c.if-not-self.true t;
}

pub returns-in-Ok : goal.returns-in-Ok
returns-in-Ok g c =
    let read = c.in-Ok.ensures.takes in
    record {
      takes = λ before count taken t. read_next _ before _ _ _ c.in-Ok.more _ count taken read.0 _ _
          c.if-not-self.false read.1 read.2 read.3 t;
    }

pub returns-in-Err : goal.returns-in-Err
returns-in-Err g c =
    let read = c.in-Err.ensures.takes in
    record {
      takes = λ before count taken t. failed_next _ before _ _ _ _ count taken read.0 c.in-Err.fault _ _
          c.if-not-self.false read.2 read.3 t;
    }
